-- What a push does to the state: each step is sound, and the state is kept.
use Rattle.std.proofs.Common.{◌≡◌, ℕ, ◌+◌, ◌-◌, ◌*◌, ◌<◌, ◌≤◌, true, pos, ◌+ℤ◌, ◌≤ℤ◌, None, sym, refl, ap, ◌∙◌, subst, ⊎_elim, arith}
use Rattle.std.proofs.lemmas.Bool.{cases_eq}
use Rattle.std.proofs.lemmas.Bool.Decides.{nat_tests}
use Rattle.model.specs.declared.price.Price.{Price}
use Rattle.model.specs.declared.price.Price.TheVariants.{Open, Closed}
use Rattle.model.specs.Meaning.{Meaning, Bounds}
use Rattle.model.specs.Starts.{start, is_open}
use Rattle.earliest.specs.declared.nodes.Node.{Node}
use Rattle.earliest.specs.Pushing.{bound, past, lag_step, origin, Pushes, Sound, State}
use Rattle.earliest.proofs.Refute.{leads_on, cut_kept}
use Rattle.earliest.proofs.Totals.{total_more, total_most}

abbrev act : Node → ℕ
act v = v.entry.activity

abbrev slot : Node → ℕ
slot v = v.entry.slot.0

abbrev from : Meaning → Node → ℕ
from m v = origin m v.entry.how v.entry.activity

sound_moved : (m : Meaning) (bd bd' : ℕ → ℕ) (e : ℕ) (v v' p p' : Node) → v' ≡ v → p' ≡ p → bd (act v) ≤ bd' (act v) → Sound m bd e v p → Sound m bd' e v' p'
sound_moved m bd bd' e v v' p p' ve pe le s =
    let t : Sound m bd' e v p = record {
      earlier = s.earlier;
      real = s.real;
      origin_real = s.origin_real;
      joins = s.joins;
      leads = s.leads;
      above = s.above;
      under = omega (arith, s.under);
    } in
    subst (λ (x : Node). Sound m bd' e x p') (sym ve) (subst (λ (x : Node). Sound m bd' e v x) (sym pe) t)

module _ (m : Meaning) (nd nd' : ℕ → Node) (la la' : ℕ → ℕ) (c : ℕ) (v : Node)
    (s : State m nd la c) (p : Pushes m nd la v) (low : slot v < m.horizon)
    (here : nd' (c + 1) ≡ v) (elsewhere : (f : ℕ) → (f ≡ c + 1 → ⊥) → nd' f ≡ nd f)
    (newest : la' (act v) ≡ c + 1) (others : (a : ℕ) → (a ≡ act v → ⊥) → la' a ≡ la a) where
  bound_here : bound nd' la' (act v) ≡ slot v
  bound_here = ap (λ (e : ℕ). slot (nd' e)) newest ∙ ap slot here

  bound_other : (a : ℕ) → a < m.n → (a ≡ act v → ⊥) → bound nd' la' a ≡ bound nd la a
  bound_other a lt ne = ap (λ (e : ℕ). slot (nd' e)) (others a ne) ∙ ap slot (elsewhere (la a) (λ x. omega (arith, s.numbered a lt)))

  -- by cases: the activity pushed, or another
  at : (P : ℕ → Type 0) → P (act v) → ((a : ℕ) → a < m.n → (a ≡ act v → ⊥) → P a) → (a : ℕ) → a < m.n → P a
  at P same other a lt = ⊎_elim (λ (e : a ≡ act v). subst P (sym e) same) (λ (ne : a ≡ act v → ⊥). other a lt ne) (cases_eq a (act v))

  bound_up : (a : ℕ) → a < m.n → bound nd la a ≤ bound nd' la' a
  bound_up = at (λ a. bound nd la a ≤ bound nd' la' a) (omega (arith, bound_here, p.above)) (λ a lt ne. omega (arith, bound_other a lt ne))

  sound_old : (e : ℕ) → 0 < e → e ≤ c → Sound m (bound nd' la') e (nd' e) (nd' (nd' e).parent)
  sound_old e some le =
      let o = s.sound e some le in
      let same : nd' e ≡ nd e = elsewhere e (λ x. omega arith) in
      sound_moved m (bound nd la) (bound nd' la') e (nd e) (nd' e) (nd (nd e).parent) (nd' (nd' e).parent) same
      (ap (λ (x : Node). nd' x.parent) same ∙ elsewhere (nd e).parent (λ x. omega (arith, o.earlier)))
      (bound_up (act (nd e)) o.real) o

  sound_new : Sound m (bound nd' la') (c + 1) (nd' (c + 1)) (nd' (nd' (c + 1)).parent)
  sound_new =
      let known = s.numbered (from m v) p.origin_real in
      let before : nd' v.parent ≡ nd (la (from m v)) = elsewhere v.parent (λ x. omega (arith, known, p.parent_latest)) ∙ ap nd p.parent_latest in
      let t : Sound m (bound nd' la') (c + 1) v (nd (la (from m v))) = record {
        earlier = omega (arith, known, p.parent_latest);
        real = p.real;
        origin_real = p.origin_real;
        joins = λ h. s.own (from m v) p.origin_real (omega (arith, p.parent_latest));
        leads = p.leads;
        above = omega (arith, p.above);
        under = omega (arith, bound_here);
      } in
      subst (λ (x : Node). Sound m (bound nd' la') (c + 1) x (nd' x.parent)) (sym here)
      (subst (λ (x : Node). Sound m (bound nd' la') (c + 1) v x) (sym before) t)

  apart_new : (e : ℕ) → 0 < e → e ≤ c → act (nd e) ≡ act v → slot (nd e) < slot v
  apart_new e some le same = omega (arith, (s.sound e some le).under, ap (bound nd la) same, p.above)

  pub pushed : State m nd' la' (c + 1)
  pushed = record {
    root = ap slot (elsewhere 0 (λ x. omega arith)) ∙ s.root;
    few = omega (arith, s.few, total_more m.n (bound nd la) (bound nd' la') (act v) p.real bound_other (omega (arith, bound_here, p.above)));
    numbered = at (λ a. la' a ≤ c + 1) (omega (arith, newest)) (λ a lt ne. omega (arith, others a ne, s.numbered a lt));
    own = at (λ a. 0 < la' a → act (nd' (la' a)) ≡ a)
        (λ h. ap (λ (e : ℕ). act (nd' e)) newest ∙ ap act here)
        (λ a lt ne h.
        ap (λ (e : ℕ). act (nd' e)) (others a ne) ∙ ap act (elsewhere (la a) (λ x. omega (arith, s.numbered a lt)))
        ∙ s.own a lt (omega (arith, others a ne)));
    below = at (λ a. bound nd' la' a < m.horizon) (omega (arith, bound_here)) (λ a lt ne. omega (arith, bound_other a lt ne, s.below a lt));
    least = λ r met.
        at (λ a. bound nd' la' a ≤ start r a)
        (omega (arith, bound_here, leads_on m r v.entry.how (from m v) (bound nd la (from m v)) (act v) (slot v) met p.origin_real p.leads (s.least r met (from m v) p.origin_real)))
        (λ a lt ne. omega (arith, bound_other a lt ne, s.least r met a lt));
    sound = λ e some le.
        ⊎_elim
        (λ (same : e ≡ c + 1). subst (λ (x : ℕ). Sound m (bound nd' la') x (nd' x) (nd' (nd' x).parent)) (sym same) sound_new)
        (λ (ne : e ≡ c + 1 → ⊥). sound_old e some (omega arith))
        (cases_eq e (c + 1));
    apart = λ e f some lt le same.
        let old : nd' e ≡ nd e = elsewhere e (λ x. omega arith) in
        ⊎_elim
        (λ (new : f ≡ c + 1).
        let it : nd' f ≡ v = ap nd' new ∙ here in
        let less = apart_new e some (omega arith) (sym (ap act old) ∙ same ∙ ap act it) in
        omega (arith, less, ap slot old, ap slot it))
        (λ (ne : f ≡ c + 1 → ⊥).
        let kept : nd' f ≡ nd f = elsewhere f ne in
        let less = s.apart e f some lt (omega arith) (sym (ap act old) ∙ same ∙ ap act kept) in
        omega (arith, less, ap slot old, ap slot kept))
        (cases_eq f (c + 1));
  }

-- there are never more nodes than there are points below the horizon
pub nodes_few : (m : Meaning) (nd : ℕ → Node) (la : ℕ → ℕ) (c : ℕ) → State m nd la c → c ≤ m.n * (m.horizon - 1)
nodes_few m nd la c s =
    omega (arith, s.few, total_most m.n (m.horizon - 1) (bound nd la) (λ a lt. omega (arith, s.below a lt)))

-- before the first push
pub fresh : (m : Meaning) (nd : ℕ → Node) (la : ℕ → ℕ) → Bounds m → (nd 0).entry.slot.0 ≡ 0 → ((a : ℕ) → a < m.n → la a ≡ 0) → State m nd la 0
fresh m nd la b root none =
    let low : (a : ℕ) → a < m.n → bound nd la a ≡ 0 = λ a lt. ap (λ (e : ℕ). slot (nd e)) (none a lt) ∙ root in
    record {
      root = root;
      few = omega arith;
      numbered = λ a lt. omega (arith, none a lt);
      own = λ a lt h. absurd (omega (arith, none a lt));
      below = λ a lt. omega (arith, low a lt, b.h_low);
      least = λ r met a lt. omega (arith, low a lt);
      sound = λ e some le. absurd (omega arith);
      apart = λ e f some lt le same. absurd (omega arith);
    }

pub open_when_none : (q : Price) (a t e : ℕ) → past q a t e ≡ None → is_open q ≡ true
open_when_none (Open x) a t e is = refl
open_when_none (Closed h) a t e is = cc

pub holds_when_none : (m : Meaning) (nd : ℕ → Node) (la : ℕ → ℕ) (k : ℕ) → bound nd la (m.lag k).to < m.horizon → lag_step m nd la k ≡ None
    → (pos (bound nd la (m.lag k).from) +ℤ (m.lag k).gap) ≤ℤ pos (bound nd la (m.lag k).to)
holds_when_none m nd la k low is =
    cut_kept m.horizon (pos (bound nd la (m.lag k).from) +ℤ (m.lag k).gap) (bound nd la (m.lag k).to) (grind (arith, nat_tests)) low
