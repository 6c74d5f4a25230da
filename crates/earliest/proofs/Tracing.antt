-- From a node back to slot 0: what is gathered on the way, front to back, goes on to the horizon.
use Rattle.std.proofs.Common.{◌≡◌, ℕ, ◌<◌, ◌≤◌, false, ◌⊎◌, List, [], ◌∷◌, sym, refl, ap, ◌∙◌, subst, inl, inr, ⊎_elim, arith}
use Rattle.std.proofs.lemmas.Bool.Decides.{nat_tests}
use Rattle.model.specs.Meaning.{Meaning}
use Rattle.earliest.specs.declared.chain.How.TheVariants.{Start}
use Rattle.earliest.specs.declared.chain.Entry.{Entry}
use Rattle.earliest.specs.declared.nodes.Node.{Node}
use Rattle.earliest.specs.Chain.{Leads, RunsOn, same_point, NotAmong, Apart, Chain}
use Rattle.earliest.specs.Pushing.{origin, Pushes, State}

abbrev from : Meaning → Node → ℕ
from m v = origin m v.entry.how v.entry.activity

-- at the horizon, or written after node e
abbrev pub After : Meaning → (ℕ → Node) → ℕ → ℕ → Entry → Type 0
After m nd c e f = (f.slot.0 ≡ m.horizon) ⊎ ((i : ℕ) × (e < i) × (i ≤ c) × ((nd i).entry ≡ f))

abbrev pub AllAfter : Meaning → (ℕ → Node) → ℕ → ℕ → List Entry → Type 0
AllAfter m nd c e [] = Unit {0}
AllAfter m nd c e (f ∷ fs) = After m nd c e f × AllAfter m nd c e fs

-- the entries begin with the node's own and run on to the horizon
abbrev pub Continues : Meaning → Node → List Entry → Type 0
Continues m v [] = ⊥
Continues m v (f ∷ fs) = (f ≡ v.entry) × RunsOn m v.entry.activity v.entry.slot.0 fs

pub record Trail (m : Meaning) (nd : ℕ → Node) (c : ℕ) (v : Node) (es : List Entry) : Type 0 where
  pub known : v.parent ≤ c
  pub real : v.entry.activity < m.n
  pub origin_real : from m v < m.n
  pub joins : 0 < v.parent → (nd v.parent).entry.activity ≡ from m v
  pub leads : Leads m v.entry.how (from m v) (nd v.parent).entry.slot.0 v.entry.activity v.entry.slot.0
  pub continues : Continues m v es
  pub after : AllAfter m nd c v.parent es
  pub none_twice : Apart es

pub trail_start : (m : Meaning) (nd : ℕ → Node) (la : ℕ → ℕ) (c : ℕ) (v : Node) → State m nd la c → Pushes m nd la v → v.entry.slot.0 ≡ m.horizon → Trail m nd c v (v.entry ∷ [])
trail_start m nd la c v s p end =
    let o = from m v in
    let latest : nd v.parent ≡ nd (la o) = ap nd p.parent_latest in
    record {
      known = omega (arith, p.parent_latest, s.numbered o p.origin_real);
      real = p.real;
      origin_real = p.origin_real;
      joins = λ h. ap (λ (x : Node). x.entry.activity) latest ∙ s.own o p.origin_real (omega (arith, p.parent_latest));
      leads = subst (λ (x : Node). Leads m v.entry.how o x.entry.slot.0 v.entry.activity v.entry.slot.0) (sym latest) p.leads;
      continues = (refl, end);
      after = (inl end, tt);
      none_twice = (tt, tt);
    }

-- what stands after a node is another point than the node's own
differs : (m : Meaning) (nd : ℕ → Node) (la : ℕ → ℕ) (c : ℕ) → State m nd la c → (e : ℕ) → 0 < e → e ≤ c → (nd e).entry.slot.0 < m.horizon → (f : Entry) → After m nd c e f → same_point (nd e).entry f ≡ false
differs m nd la c s e some le low f (inl end) = grind (arith, nat_tests)
differs m nd la c s e some le low f (inr w) =
    let later : (nd e).entry.activity ≡ f.activity → (nd e).entry.slot.0 < f.slot.0 = λ same.
    rw (ap (λ (x : Entry). x.slot.0) w.3) at (s.apart e w.0 some w.1 w.2 (same ∙ sym (ap (λ (x : Entry). x.activity) w.3))) in
    grind (arith, nat_tests)

all_differ : (m : Meaning) (nd : ℕ → Node) (la : ℕ → ℕ) (c : ℕ) → State m nd la c → (e : ℕ) → 0 < e → e ≤ c → (nd e).entry.slot.0 < m.horizon → (fs : List Entry) → AllAfter m nd c e fs → NotAmong (nd e).entry fs
all_differ m nd la c s e some le low [] w = tt
all_differ m nd la c s e some le low (f ∷ fs) w = (differs m nd la c s e some le low f w.0, all_differ m nd la c s e some le low fs w.1)

after_earlier : (m : Meaning) (nd : ℕ → Node) (c e d : ℕ) → d < e → (fs : List Entry) → AllAfter m nd c e fs → AllAfter m nd c d fs
after_earlier m nd c e d lt [] w = tt
after_earlier m nd c e d lt (f ∷ fs) w =
    (⊎_elim {C = After m nd c d f} (λ x. inl x) (λ x. inr (x.0, omega (arith, x.1), x.2, x.3)) w.0, after_earlier m nd c e d lt fs w.1)

runs_back : (m : Meaning) (v : Node) (a t : ℕ) (es : List Entry) → t < m.horizon → v.entry.activity < m.n → Leads m v.entry.how a t v.entry.activity v.entry.slot.0 → Continues m v es → RunsOn m a t es
runs_back m v a t [] lt real l k = absurd k
runs_back m v a t (f ∷ fs) lt real l k =
    let P : Entry → Type 0 = λ x. (t < m.horizon) × (x.activity < m.n) × Leads m x.how a t x.activity x.slot.0 × RunsOn m x.activity x.slot.0 fs in
    subst P (sym k.0) (lt, real, l, k.1)

-- one node back
pub trail_more : (m : Meaning) (nd : ℕ → Node) (la : ℕ → ℕ) (c : ℕ) (v : Node) (es : List Entry) → State m nd la c → Trail m nd c v es → 0 < v.parent → Trail m nd c (nd v.parent) ((nd v.parent).entry ∷ es)
trail_more m nd la c v es s t some =
    let e = v.parent in
    let p = nd e in
    let o = s.sound e some t.known in
    let low : p.entry.slot.0 < m.horizon = omega (arith, o.under, s.below p.entry.activity o.real) in
    let leads = subst (λ (x : ℕ). Leads m v.entry.how x p.entry.slot.0 v.entry.activity v.entry.slot.0) (sym (t.joins some)) t.leads in
    record {
      known = omega (arith, o.earlier, t.known);
      real = o.real;
      origin_real = o.origin_real;
      joins = o.joins;
      leads = o.leads;
      continues = (refl, runs_back m v p.entry.activity p.entry.slot.0 es low t.real leads t.continues);
      after = (inr (e, o.earlier, t.known, refl), after_earlier m nd c e p.parent o.earlier es t.after);
      none_twice = (all_differ m nd la c s e some t.known low es t.after, t.none_twice);
    }

abbrev pub start_entry : ℕ → Entry
start_entry a = record { activity = a; slot = record { 0 = 0 }; how = Start }

none_at_start : (m : Meaning) (nd : ℕ → Node) (la : ℕ → ℕ) (c : ℕ) → State m nd la c → 0 < m.horizon → (a e : ℕ) (fs : List Entry) → AllAfter m nd c e fs → NotAmong (start_entry a) fs
none_at_start m nd la c s h a e [] w = tt
none_at_start m nd la c s h a e (f ∷ fs) w =
    let high : 0 < f.slot.0 =
    ⊎_elim {C = 0 < f.slot.0} (λ x. omega (arith, x)) (λ x. omega (arith, (s.sound x.0 (omega (arith, x.1)) x.2).above, ap (λ (y : Entry). y.slot.0) x.3)) w.0 in
    (grind (arith, nat_tests), none_at_start m nd la c s h a e fs w.1)

-- the first entry makes it a chain
pub trail_end : (m : Meaning) (nd : ℕ → Node) (la : ℕ → ℕ) (c : ℕ) (v : Node) (es : List Entry) → State m nd la c → 0 < m.horizon → Trail m nd c v es → v.parent ≡ 0 → Chain m (start_entry (from m v) ∷ es)
trail_end m nd la c v es s h t none =
    let zero_slot : (nd v.parent).entry.slot.0 ≡ 0 = ap (λ (e : ℕ). (nd e).entry.slot.0) none ∙ s.root in
    let leads = subst (λ (x : ℕ). Leads m v.entry.how (from m v) x v.entry.activity v.entry.slot.0) zero_slot t.leads in
    record {
      runs = (refl, t.origin_real, refl, runs_back m v (from m v) 0 es h t.real leads t.continues);
      none_twice = (none_at_start m nd la c s h (from m v) v.parent es t.after, t.none_twice);
    }
