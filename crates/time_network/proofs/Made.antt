-- What is written down of a project is its time network.
use Rattle.std.proofs.Common.{◌≡◌, ℕ, ◌*◌, ◌<◌, ◌≤◌, Bool, true, false, not, ◌&&◌, T, ltb, List, ℤ, pos, negsuc, ◌+ℤ◌, sym, refl, ap, ◌∙◌, subst, arith}
use lib.Signed.{le_z}
use Rattle.std.proofs.lemmas.Bool.{lt-ltb, le-ltb, le-leb, and_from, cond-true, cond-false}
use Rattle.std.proofs.lemmas.Nat.{mul-add-lt}
use Rattle.model.specs.declared.price.Price.{Price}
use Rattle.model.specs.declared.price.Price.TheVariants.{Open, Closed}
use Rattle.model.specs.declared.lag.Lag.{Lag}
use Rattle.flow.specs.declared.network.Capacity.{Capacity}
use Rattle.model.specs.Meaning.{Meaning, Bounds, LagWithin}
use Rattle.model.specs.Starts.{is_open, floor}
use Rattle.plan_theory.specs.TimeNetwork.{point, cut_to, above, on_arc, back_arc, lag_arc, time_net}
use Rattle.plan_theory.specs.TimeArcs.{on_tail, on_head, on_capacity, on_unbounded, back_tail, back_head, back_capacity, back_unbounded, lag_tail_is, lag_head_is, lag_capacity, lag_unbounded, on_exists, each_arc}
use Rattle.plan_theory.specs.TimeBounds.{time_bounds}
use Rattle.time_network.specs.Agreement.{Same}
use Rattle.time_network.specs.Held.{lag_fits, LagsFit, held, held_net, capacity_at, amount, bounds_none, in_limit, WithinLimit}
use Rattle.time_network.specs.Making.{rise, Priced, Copied}

T_true : (x : Bool) → T x → x ≡ true
T_true true t = refl
T_true false t = absurd t

within_fits : (n : ℕ) (l : Lag) → LagWithin n l → lag_fits n l ≡ true
within_fits n l w =
    and_from (ltb l.from n && ltb l.to n) (le_z (negsuc 255) l.gap && le_z l.gap (pos 256))
    (and_from (ltb l.from n) (ltb l.to n) (lt-ltb l.from n w.from_ok) (lt-ltb l.to n w.to_ok))
    (and_from (le_z (negsuc 255) l.gap) (le_z l.gap (pos 256)) (T_true (le_z (negsuc 255) l.gap) w.low.le)
    (T_true (le_z l.gap (pos 256)) w.high.le))

pub lags_fit : (m : Meaning) → Bounds m → (n count : ℕ) (lags : List Lag) → n ≡ m.n → count ≡ m.lags
    → Copied m m.lags lags → LagsFit n count lags
lags_fit m b n count lags e f c k l =
    let lk : k < m.lags = omega arith in
    ap (lag_fits n) (c.copied k lk) ∙ (ap (λ (x : ℕ). lag_fits x (m.lag k)) e ∙ within_fits m.n (m.lag k) (b.lag_ok k lk))

amount_of : (low : ℤ) (p : Price) → above low p ≤ 2000000000 → amount (rise low p) ≡ above low p
amount_of low (Open p) few = omega arith
amount_of low (Closed height) few = refl

in_limit_of : (low : ℤ) (p : Price) → above low p ≤ 2000000000 → in_limit (rise low p) ≡ true
in_limit_of low (Open p) few = le-leb (above low (Open p)) 2000000000 few
in_limit_of low (Closed height) few = refl

none_of : (low : ℤ) (p : Price) → bounds_none (rise low p) ≡ not (is_open p)
none_of low (Open p) = refl
none_of low (Closed height) = refl

module _ (m : Meaning) (b : Bounds m) (lags : List Lag) (capacities : List Capacity) (c : Copied m m.lags lags) (p : Priced m m.n capacities) where
  abbrev x : Meaning
  x = held m.n m.horizon m.lags lags

  on_low : (a t : ℕ) → a < m.n → t < m.horizon → on_arc m a t < m.n * m.horizon
  on_low a t la lt = omega (arith, mul-add-lt a m.horizon t m.n la lt)

  rise_limit : (a t : ℕ) → a < m.n → t < m.horizon → above (floor m a) (m.price a t) ≤ 2000000000
  rise_limit a t la lt =
      let e = on_capacity m a t la lt in
      let l = (time_bounds m b).capacity_limit (on_arc m a t) (on_exists m a t la lt) in
      omega arith

  same_tail : (k : ℕ) → k < (time_net m).arcs → (time_net x).tail k ≡ (time_net m).tail k
  same_tail = each_arc m b (λ k. (time_net x).tail k ≡ (time_net m).tail k)
      (λ a t la lt. on_tail x a t la lt ∙ sym (on_tail m a t la lt))
      (λ a t la lt. back_tail x a t la lt ∙ sym (back_tail m a t la lt))
      (λ k t lk lt.
      lag_tail_is x k t lt
      ∙ (ap (λ (l : Lag). point m.horizon l.from t) (c.copied k lk) ∙ sym (lag_tail_is m k t lt)))

  same_head : (k : ℕ) → k < (time_net m).arcs → (time_net x).head k ≡ (time_net m).head k
  same_head = each_arc m b (λ k. (time_net x).head k ≡ (time_net m).head k)
      (λ a t la lt. on_head x a t la lt ∙ sym (on_head m a t la lt))
      (λ a t la lt. back_head x a t la lt ∙ sym (back_head m a t la lt))
      (λ k t lk lt.
      lag_head_is x k t lt
      ∙ (ap (λ (l : Lag). point m.horizon l.to (cut_to m.horizon (pos t +ℤ l.gap))) (c.copied k lk)
      ∙ sym (lag_head_is m k t lt)))

  same_capacity : (k : ℕ) → k < (time_net m).arcs → (held_net x capacities).capacity k ≡ (time_net m).capacity k
  same_capacity = each_arc m b (λ k. (held_net x capacities).capacity k ≡ (time_net m).capacity k)
      (λ a t la lt.
      cond-true _ _ _ (lt-ltb (on_arc m a t) (m.n * m.horizon) (on_low a t la lt))
      ∙ (ap amount (p.written a t la lt)
      ∙ (amount_of (floor m a) (m.price a t) (rise_limit a t la lt) ∙ sym (on_capacity m a t la lt))))
      (λ a t la lt.
      cond-false _ _ _ (le-ltb (back_arc m a t) (m.n * m.horizon) (omega arith)) ∙ sym (back_capacity m a t la lt))
      (λ k t lk lt.
      cond-false _ _ _ (le-ltb (lag_arc m k t) (m.n * m.horizon) (omega arith)) ∙ sym (lag_capacity m k t lt))

  same_unbounded : (k : ℕ) → k < (time_net m).arcs → (held_net x capacities).unbounded k ≡ (time_net m).unbounded k
  same_unbounded = each_arc m b (λ k. (held_net x capacities).unbounded k ≡ (time_net m).unbounded k)
      (λ a t la lt.
      cond-true _ _ _ (lt-ltb (on_arc m a t) (m.n * m.horizon) (on_low a t la lt))
      ∙ (ap bounds_none (p.written a t la lt)
      ∙ (none_of (floor m a) (m.price a t) ∙ sym (on_unbounded m a t la lt))))
      (λ a t la lt.
      cond-false _ _ _ (le-ltb (back_arc m a t) (m.n * m.horizon) (omega arith)) ∙ sym (back_unbounded m a t la lt))
      (λ k t lk lt.
      cond-false _ _ _ (le-ltb (lag_arc m k t) (m.n * m.horizon) (omega arith)) ∙ sym (lag_unbounded m k t lt))

  limited_here : (k : ℕ) → k < (time_net m).arcs → k < m.n * m.horizon → in_limit (capacity_at capacities k) ≡ true
  limited_here = each_arc m b (λ k. k < m.n * m.horizon → in_limit (capacity_at capacities k) ≡ true)
      (λ a t la lt l.
      ap in_limit (p.written a t la lt) ∙ in_limit_of (floor m a) (m.price a t) (rise_limit a t la lt))
      (λ a t la lt l. absurd (omega arith))
      (λ k t lk lt l. absurd (omega arith))

  pub limited : (n h : ℕ) → n ≡ m.n → h ≡ m.horizon → WithinLimit (n * h) capacities
  limited n h e f k l =
      let inside : k < m.n * m.horizon = rw (← e, ← f) l in
      limited_here k (omega arith) inside

  same_here : Same (held_net x capacities) (time_net m)
  same_here =
      record {
        nodes = refl;
        arcs = refl;
        tail = same_tail;
        head = same_head;
        capacity = same_capacity;
        unbounded = same_unbounded;
      }

  pub same_made : (n h count : ℕ) → n ≡ m.n → h ≡ m.horizon → count ≡ m.lags
      → Same (held_net (held n h count lags) capacities) (time_net m)
  same_made n h count e f g =
      subst (λ (i : ℕ). Same (held_net (held i h count lags) capacities) (time_net m)) (sym e)
      (subst (λ (i : ℕ). Same (held_net (held m.n i count lags) capacities) (time_net m)) (sym f)
      (subst (λ (i : ℕ). Same (held_net (held m.n m.horizon i lags) capacities) (time_net m)) (sym g) same_here))
