-- A cut of the time network that has, of each activity, the points up to its start in a list. Such a cut is
-- finite exactly when the list meets the project, and its capacity is what the list costs above the floors.
use Rattle.std.proofs.Common.{◌≡◌, ℕ, zero, suc, ◌+◌, ◌-◌, ◌*◌, ◌/◌, ◌%◌, ◌<◌, ◌≤◌, Bool, true, false, not, ◌&&◌, ltb, leb, List, length, ℤ, pos, negsuc, ◌+ℤ◌, ◌≤ℤ◌, sym, refl, ap, ◌∙◌, ⊎_elim, arith}
use Rattle.std.proofs.lemmas.Nat.{div-mul-add, mod-mul-add}
use Rattle.std.proofs.lemmas.List.FromFn.{length-map-range_with_len, get_or-map-range_with_len}
use Rattle.std.proofs.lemmas.Int.{ints}
use Rattle.std.proofs.lemmas.Bool.{cases_eq, cases_Bool, both_ways, cond-false, cond_both, le-leb, lt-leb, leb-true, le-ltb, not-true, not_from_false}
use Rattle.model.specs.Meaning.{Meaning, Bounds}
use Rattle.model.specs.Starts.{start, is_open, floor}
use Rattle.model.specs.Chosen.{Meets}
use Rattle.flow.specs.Sums.{sum_to, pick}
use Rattle.flow.specs.Cuts.{across, FiniteCut}
use Rattle.flow.proofs.Sums.{sum_to_same, sum_to_zero, sum_to_only}
use Rattle.flow.proofs.Cuts.{pick_zero}
use Rattle.plan_theory.specs.TimeNetwork.{point, cut_to, above, time_net, on_arc, back_arc, lag_arc}
use Rattle.plan_theory.specs.TimeArcs.{each_arc, point_inner, point_past, on_tail, on_head, on_capacity, on_unbounded, back_tail, back_head, back_unbounded, lag_tail_is, lag_head_is, lag_unbounded, on_exists, back_exists, lag_exists}
use Rattle.plan_theory.specs.Plans.{start_from, starts_from}
use Rattle.plan_theory.proofs.Rows.{sum_to_split, sum_to_rows, last_slot, not_last_slot, greatest_below, up_to_greatest}
use Rattle.plan_theory.proofs.Floors.{excess}

-- of the points of each activity, S has those up to its start
abbrev pub CutAt : Meaning → (ℕ → Bool) → List ℕ → Type 0
CutAt m S s = (a t : ℕ) → a < m.n → t ≤ m.horizon → S (point m.horizon a t) ≡ leb t (start s a)

pub cut_le : (h : ℕ) (z : ℤ) (x : ℕ) → z ≤ℤ pos x → cut_to h z ≤ x
cut_le h (pos t) x l = omega (arith, ints)
cut_le h (negsuc t) x l = omega arith

pub le_cut : (h : ℕ) (z : ℤ) (x : ℕ) → x < h → cut_to h z ≤ x → z ≤ℤ pos x
le_cut h (pos t) x l c = let y : t ≤ x = omega arith in omega (arith, ints)
le_cut h (negsuc t) x l c = omega (arith, ints)

pub cut_top : (h : ℕ) (z : ℤ) → cut_to h z ≤ h
cut_top h (pos t) = omega arith
cut_top h (negsuc t) = omega arith

-- each of them is below the horizon
abbrev pub InHorizon : Meaning → List ℕ → Type 0
InHorizon m s = (a : ℕ) → a < m.n → start s a < m.horizon

-- arcs back and along lags carry no capacity
no_capacity : (m : Meaning) (k : ℕ) → m.n * m.horizon ≤ k → (time_net m).capacity k ≡ 0
no_capacity m k l =
    cond-false _ _ _ (le-ltb k (m.n * m.horizon) l)
    ∙ cond_both (ltb k (2 * (m.n * m.horizon))) 0 0 (λ x. x ≡ 0) (λ e. refl) (λ e. refl)

module _ (m : Meaning) (S : ℕ → Bool) (s : List ℕ) (at : CutAt m S s) where
  pub inside : (a t : ℕ) → a < m.n → t ≤ m.horizon → t ≤ start s a → S (point m.horizon a t) ≡ true
  inside a t la lt l = at a t la lt ∙ le-leb t (start s a) l

  pub outside : (a t : ℕ) → a < m.n → t ≤ m.horizon → start s a < t → S (point m.horizon a t) ≡ false
  outside a t la lt l = at a t la lt ∙ lt-leb t (start s a) l

  pub inside_below : (a t : ℕ) → a < m.n → t ≤ m.horizon → S (point m.horizon a t) ≡ true → t ≤ start s a
  inside_below a t la lt e = leb-true t (start s a) (sym (at a t la lt) ∙ e)

module _ (m : Meaning) (S : ℕ → Bool) (s : List ℕ) (at : CutAt m S s) (below : InHorizon m s) where
  crosses : ℕ → ℕ
  crosses k = pick (S ((time_net m).tail k) && not (S ((time_net m).head k))) ((time_net m).capacity k)

  -- of the arcs on of one activity, the one at its start crosses
  row_capacity : (a : ℕ) → a < m.n
      → sum_to (λ t. crosses (a * m.horizon + t)) m.horizon ≡ above (floor m a) (m.price a (start s a))
  unfolding crosses
  row_capacity a la =
      let x : ℕ = start s a in
      let worth : ℕ → ℕ = λ t. above (floor m a) (m.price a t) in
      let slot : ℕ → ℕ = λ t. pick (leb t x && not (leb (t + 1) x)) (worth t) in
      sum_to_same _ slot m.horizon same
      ∙ (sum_to_only slot x m.horizon (below a la)
      (λ t l ne. ap (λ (b : Bool). pick b (worth t)) (not_last_slot t x ne))
      ∙ ap (λ (b : Bool). pick b (worth x)) (last_slot x x refl))
    where
      same : (t : ℕ) → t < m.horizon
          → crosses (on_arc m a t)
          ≡ pick (leb t (start s a) && not (leb (t + 1) (start s a))) (above (floor m a) (m.price a t))
      same t l =
          let k : ℕ = on_arc m a t in
          let c : ℕ = (time_net m).capacity k in
          let x = ap S (on_tail m a t la l) ∙ at a t la (omega arith) in
          let y = ap S (on_head m a t la l) ∙ at a (t + 1) la (omega arith) in
          ap (λ (b : Bool). pick (b && not (S ((time_net m).head k))) c) x
          ∙ (ap (λ (b : Bool). pick (leb t (start s a) && not b) c) y
          ∙ ap (pick (leb t (start s a) && not (leb (t + 1) (start s a)))) (on_capacity m a t la l))

  pub capacity_is_excess : across (time_net m) S (time_net m).capacity ≡ excess m s
  unfolding crosses
  capacity_is_excess =
      let on : ℕ = m.n * m.horizon in
      let rest : ℕ = m.n * m.horizon + m.lags * m.horizon in
      let all : (time_net m).arcs ≡ on + rest = omega arith in
      let none : sum_to (λ k. crosses (on + k)) rest ≡ 0 =
      sum_to_same (λ k. crosses (on + k)) (λ k. 0) rest
      (λ k l.
      let out : Bool = S ((time_net m).tail (on + k)) && not (S ((time_net m).head (on + k))) in
      ap (pick out) (no_capacity m (on + k) (omega arith)) ∙ pick_zero out)
      ∙ sum_to_zero rest in
      let rows : sum_to crosses on ≡ excess m s =
      sum_to_rows crosses m.horizon m.n
      ∙ sum_to_same (λ a. sum_to (λ t. crosses (a * m.horizon + t)) m.horizon)
      (λ a. above (floor m a) (m.price a (start s a))) m.n row_capacity in
      omega (arith, ap (sum_to crosses) all, sum_to_split crosses on rest, none, rows)

module _ (m : Meaning) (b : Bounds m) (S : ℕ → Bool) (s : List ℕ) (at : CutAt m S s) where
  -- a list that meets the project gives a finite cut
  pub meets_finite : Meets m s → FiniteCut (time_net m) S
  meets_finite x =
      record {
        has_source = inside m S s at 0 0 (omega (arith, b.n_low)) (omega arith) (omega arith);
        lacks_sink =
            ap S (sym (point_past m.horizon 0 m.horizon (omega (arith, b.h_low)) (omega arith)))
            ∙ outside m S s at 0 m.horizon (omega (arith, b.n_low)) (omega arith)
            (x.below_horizon 0 (omega (arith, b.n_low)));
        none_unbounded = each_arc m b
            (λ k.
            S ((time_net m).tail k) ≡ true → (time_net m).unbounded k ≡ true
            → S ((time_net m).head k) ≡ true)
            on back along;
      }
    where
      on : (a t : ℕ) → a < m.n → t < m.horizon → S ((time_net m).tail (on_arc m a t)) ≡ true
          → (time_net m).unbounded (on_arc m a t) ≡ true → S ((time_net m).head (on_arc m a t)) ≡ true
      on a t la lt e u =
          let l = inside_below m S s at a t la (omega arith) (sym (ap S (on_tail m a t la lt)) ∙ e) in
          let shut = not-true (is_open (m.price a t)) (sym (on_unbounded m a t la lt) ∙ u) in
          ap S (on_head m a t la lt) ∙
          ⊎_elim
          (λ q. absurd (both_ways _ shut (ap (λ (i : ℕ). is_open (m.price a i)) q ∙ x.in_open_slots a la)))
          (λ ne. inside m S s at a (t + 1) la (omega arith) (omega arith))
          (cases_eq t (start s a))

      back : (a t : ℕ) → a < m.n → t < m.horizon → S ((time_net m).tail (back_arc m a t)) ≡ true
          → (time_net m).unbounded (back_arc m a t) ≡ true → S ((time_net m).head (back_arc m a t)) ≡ true
      back a t la lt e u =
          let l = inside_below m S s at a (t + 1) la (omega arith) (sym (ap S (back_tail m a t la lt)) ∙ e) in
          ap S (back_head m a t la lt) ∙ inside m S s at a t la (omega arith) (omega arith)

      along : (k t : ℕ) → k < m.lags → t < m.horizon → S ((time_net m).tail (lag_arc m k t)) ≡ true
          → (time_net m).unbounded (lag_arc m k t) ≡ true → S ((time_net m).head (lag_arc m k t)) ≡ true
      along k t lk lt e u =
          let ok = b.lag_ok k lk in
          let l = inside_below m S s at (m.lag k).from t ok.from_ok (omega arith)
          (sym (ap S (lag_tail_is m k t lt)) ∙ e) in
          let z : ℤ = pos t +ℤ (m.lag k).gap in
          let le : z ≤ℤ pos (start s (m.lag k).to) = omega (arith, ints, x.lags_hold k lk) in
          ap S (lag_head_is m k t lt) ∙
          inside m S s at (m.lag k).to (cut_to m.horizon z) ok.to_ok (cut_top m.horizon z)
          (cut_le m.horizon z (start s (m.lag k).to) le)

  -- and the list of a finite cut meets the project
  pub finite_meets : length s ≡ m.n → InHorizon m s → FiniteCut (time_net m) S → Meets m s
  finite_meets one below c =
      record { one_each = one; below_horizon = below; in_open_slots = slots; lags_hold = lags }
    where
      slots : (a : ℕ) → a < m.n → is_open (m.price a (start s a)) ≡ true
      slots a la =
          let t : ℕ = start s a in
          let lt = below a la in
          ⊎_elim (λ e. e)
          (λ e.
          let u = on_unbounded m a t la lt ∙ not_from_false _ e in
          let tail = ap S (on_tail m a t la lt) ∙ inside m S s at a t la (omega arith) (omega arith) in
          let out = outside m S s at a (t + 1) la (omega arith) (omega arith) in
          let head = ap S (on_head m a t la lt) ∙ out in
          absurd (both_ways _ head (c.none_unbounded (on_arc m a t) (on_exists m a t la lt) tail u)))
          (cases_Bool (is_open (m.price a t)))

      lags : (k : ℕ) → k < m.lags
          → (pos (start s (m.lag k).from) +ℤ (m.lag k).gap) ≤ℤ pos (start s (m.lag k).to)
      lags k lk =
          let ok = b.lag_ok k lk in
          let t : ℕ = start s (m.lag k).from in
          let lt = below (m.lag k).from ok.from_ok in
          let z : ℤ = pos t +ℤ (m.lag k).gap in
          let start_in = inside m S s at (m.lag k).from t ok.from_ok (omega arith) (omega arith) in
          let tail = ap S (lag_tail_is m k t lt) ∙ start_in in
          let head = c.none_unbounded (lag_arc m k t) (lag_exists m k t lk lt) tail (lag_unbounded m k t lt) in
          let l = inside_below m S s at (m.lag k).to (cut_to m.horizon z) ok.to_ok
          (cut_top m.horizon z) (sym (ap S (lag_head_is m k t lt)) ∙ head) in
          le_cut m.horizon z (start s (m.lag k).to) (below (m.lag k).to ok.to_ok) l

-- the cut of a list, node by node
pub cut_of : Meaning → List ℕ → ℕ → Bool
cut_of m s zero = true
cut_of m s (suc zero) = false
cut_of m s (suc (suc v)) = leb (v % (m.horizon - 1) + 1) (start s (v / (m.horizon - 1)))

pub cut_of_at : (m : Meaning) → Bounds m → (s : List ℕ) → InHorizon m s → CutAt m (cut_of m s) s
unfolding cut_of
cut_of_at m b s below a t la lt =
    ⊎_elim
    (λ e. ap (λ (x : ℕ). cut_of m s (point m.horizon a x)) e ∙ sym (le-leb t (start s a) (omega arith)))
    (λ ne. ⊎_elim
    (λ e.
    ap (cut_of m s) (point_past m.horizon a t (omega (arith, b.h_low)) (omega arith))
    ∙ sym (lt-leb t (start s a) (omega (arith, below a la))))
    (λ nh.
    let w : ℕ = m.horizon - 1 in
    let l : t - 1 < w = omega arith in
    let v : ℕ = a * w + (t - 1) in
    let node : point m.horizon a t ≡ suc (suc v) =
    point_inner m.horizon a t (omega arith) (omega arith) ∙ omega arith in
    let column : v % w + 1 ≡ t = omega (arith, mod-mul-add a w (t - 1) l) in
    ap (cut_of m s) node
    ∙ (ap (λ (x : ℕ). leb x (start s (v / w))) column
    ∙ ap (λ (x : ℕ). leb t (start s x)) (div-mul-add a w (t - 1) l)))
    (cases_eq t m.horizon))
    (cases_eq t 0)

pub start_starts : (m : Meaning) (S : ℕ → Bool) (a : ℕ) → a < m.n
    → start (starts_from m S) a ≡ start_from m S a
start_starts m S a la = get_or-map-range_with_len (start_from m S) 0 m.n a a 0 la (omega arith)

-- the greatest slot of each activity in a finite cut
module _ (m : Meaning) (b : Bounds m) (S : ℕ → Bool) (c : FiniteCut (time_net m) S) where
  pub cut_at_greatest : (a t : ℕ) → a < m.n → t ≤ m.horizon
      → S (point m.horizon a t) ≡ leb t (start_from m S a)
  cut_at_greatest a t la lt =
      up_to_greatest m.horizon (λ i. S (point m.horizon a i)) c.has_source
      (ap S (point_past m.horizon a m.horizon (omega (arith, b.h_low)) (omega arith)) ∙ c.lacks_sink)
      (λ i l e.
      sym (ap S (back_head m a i la l))
      ∙ c.none_unbounded (back_arc m a i) (back_exists m a i la l) (ap S (back_tail m a i la l) ∙ e)
      (back_unbounded m a i la l))
      t lt

  pub cut_at_starts : CutAt m S (starts_from m S)
  cut_at_starts a t la lt = cut_at_greatest a t la lt ∙ ap (leb t) (sym (start_starts m S a la))

  pub greatest_in_horizon : (a : ℕ) → start_from m S a < m.horizon
  greatest_in_horizon a =
      greatest_below m.horizon (λ t. S (point m.horizon a t)) (omega (arith, b.h_low))

  pub starts_meet : Meets m (starts_from m S)
  starts_meet =
      finite_meets m b S (starts_from m S) cut_at_starts (length-map-range_with_len (start_from m S) 0 m.n)
      (λ a la. omega (arith, start_starts m S a la, greatest_in_horizon a)) c
