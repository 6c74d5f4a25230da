-- The time network of a project within its limits keeps the limits of networks.
use Rattle.std.specs.Prelude.{◌≡◌, ℕ, zero, suc, ◌+◌, ◌-◌, ◌*◌, ◌<◌, ◌≤◌, Bool, true, false, ℤ, pos, negsuc, ◌≤ℤ◌, Some, None, Option, int_le}
use Rattle.std.proofs.Common.{arith, sym}
use Rattle.std.specs.Option.{unwrap_or}
use Rattle.std.proofs.lemmas.Bool.{and_parts}
use Rattle.std.proofs.lemmas.Nat.{mul-le}
use Rattle.std.proofs.lemmas.Int.{ints, clamps}
use Rattle.model.specs.declared.price.Price.{Price}
use Rattle.model.specs.declared.price.Price.TheVariants.{Open, Closed}
use Rattle.model.specs.Meaning.{Meaning, Bounds, price_of, price_fits, within}
use Rattle.model.specs.Starts.{lower, least_open, floor}
use Rattle.flow.specs.Nets as nets
use Rattle.flow.specs.Nets.{Sound}
use Rattle.plan_theory.specs.TimeNetwork.{above, time_net}
use Rattle.plan_theory.specs.TimeArcs.{on_tail, on_head, on_capacity, back_tail, back_head, back_capacity, lag_tail_is, lag_head_is, lag_capacity, each_arc, point_in}

pub time_sound : (m : Meaning) → Bounds m → Sound (time_net m)
time_sound m b =
    record {
      two = omega arith;
      tails = each_arc m b (λ k. (time_net m).tail k < (time_net m).nodes)
          (λ a t la lt. at (sym (on_tail m a t la lt)) (point_in m a t la))
          (λ a t la lt. at (sym (back_tail m a t la lt)) (point_in m a (t + 1) la))
          (λ k t lk lt.
          at (sym (lag_tail_is m k t lt)) (point_in m (m.lag k).from t (b.lag_ok k lk).from_ok));
      heads = each_arc m b (λ k. (time_net m).head k < (time_net m).nodes)
          (λ a t la lt. at (sym (on_head m a t la lt)) (point_in m a (t + 1) la))
          (λ a t la lt. at (sym (back_head m a t la lt)) (point_in m a t la))
          (λ k t lk lt.
          at (sym (lag_head_is m k t lt)) (point_in m (m.lag k).to _ (b.lag_ok k lk).to_ok));
    }
  where
    at : {x y : ℕ} → x ≡ y → x < (time_net m).nodes → y < (time_net m).nodes
    at e l = omega arith

-- between the limits of a price
abbrev Fits : ℤ → Type 0
Fits z = (negsuc 999999999 ≤ℤ z) × (z ≤ℤ pos 1000000000)

price_within : (p : ℤ) → price_fits (Open p) ≡ true → Fits p
price_within p e =
    let x = and_parts (int_le (negsuc 999999999) p) (int_le p (pos 1000000000)) e in
    (omega (arith, ints), omega (arith, ints))

lower_fits : (o : Option ℤ) (b : Bool) (p : Price) → Fits (unwrap_or o (pos 0)) → price_fits p ≡ true
    → Fits (unwrap_or (lower o (within b p)) (pos 0))
lower_fits o false p f e = f
lower_fits o true (Closed h) f e = f
lower_fits None true (Open p) f e = price_within p e
lower_fits (Some q) true (Open p) f e =
    let x = price_within p e in
    (omega (arith, ints, clamps), omega (arith, ints, clamps))

least_fits : (m : Meaning) → Bounds m → (a : ℕ) → a < m.n → (k : ℕ) → k ≤ m.horizon
    → Fits (unwrap_or (least_open k (price_of m a)) (pos 0))
least_fits m b a la zero l = (omega (arith, ints), omega (arith, ints))
least_fits m b a la (suc k) l =
    lower_fits (least_open k (price_of m a)) _ (m.price a k) (least_fits m b a la k (omega arith))
    (b.price_ok a k la (omega arith))

above_limit : (low : ℤ) (p : Price) → Fits low → price_fits p ≡ true → above low p ≤ 2000000000
above_limit low (Closed h) f e = omega arith
above_limit low (Open p) f e = let x = price_within p e in omega (arith, ints)

-- the time network of a project within bounds is a network within bounds
pub time_bounds : (m : Meaning) → Bounds m → nets.Bounds (time_net m)
time_bounds m b =
    record {
      sound = time_sound m b;
      nodes_limit =
          let inner = mul-le m.n (m.horizon - 1) 64 127 b.n_high (omega (arith, b.h_high)) in
          omega arith;
      arcs_limit =
          let rows : 2 * m.n + m.lags ≤ 384 = omega (arith, b.n_high, b.lags_ok) in
          omega (arith, mul-le m.horizon (2 * m.n + m.lags) 128 384 b.h_high rows);
      capacity_limit = each_arc m b (λ k. (time_net m).capacity k ≤ 2000000000)
          (λ a t la lt.
          let low = least_fits m b a la m.horizon (omega arith) in
          at (sym (on_capacity m a t la lt)) (above_limit (floor m a) (m.price a t) low (b.price_ok a t la lt)))
          (λ a t la lt. at (sym (back_capacity m a t la lt)) (omega arith))
          (λ k t lk lt. at (sym (lag_capacity m k t lt)) (omega arith));
    }
  where
    at : {x y : ℕ} → x ≡ y → x ≤ 2000000000 → y ≤ 2000000000
    at e l = omega arith
