-- A small project from any bytes: one to four activities in one to six slots, up to four lags.
use Rattle.std.specs.Prelude.{◌≡◌, ℕ, ◌+◌, ◌-◌, ◌*◌, ◌≤◌, min, max, Bool, true, false, cond, ℤ, pos, negsuc, ◌+ℤ◌, ◌-ℤ◌, ◌≤ℤ◌, int_le, nat_lt, slice_index, slice_index_or, refl}
use Rattle.std.proofs.Common.{arith}
use Rattle.std.specs.Float.Ieee.Bits.{is_true}
use Rattle.std.proofs.lemmas.Bool.{and_from}
use Rattle.std.proofs.lemmas.Int.{ints}
use Rattle.model.specs.declared.price.Price.{Price}
use Rattle.model.specs.declared.price.Price.TheVariants.{Open, Closed}
use Rattle.model.specs.declared.lag.Lag.{Lag}
use Rattle.model.specs.Meaning.{Meaning, Bounds, price_fits}
use Rattle.trial_projects.specs.declared.drawn.Link.{Link}
use Rattle.trial_projects.specs.declared.drawn.Drawn.{Drawn}

abbrev pub count_of : {base : ℕ} → Drawn base → ℕ
count_of d = max (min d.count 4) 1

abbrev pub horizon_of : {base : ℕ} → Drawn base → ℕ
horizon_of d = max (min d.horizon 6) 1

-- bytes below 64 are closed slots, and the price of any other is the byte less `base`
abbrev pub cell : ℕ → ℕ → Price
cell base b = cond (nat_lt b 64) (Closed 0) (Open (pos b -ℤ pos base))

abbrev pub no_link : Link
no_link = record { from = 0; to = 0; gap = 0 }

abbrev pub link_of : {base : ℕ} → Drawn base → ℕ → Link
link_of d k = slice_index_or d.links k no_link

abbrev pub drawn_lag : {base : ℕ} → Drawn base → ℕ → Lag
drawn_lag d k = record {
  from = min (link_of d k).from (count_of d - 1);
  to = min (link_of d k).to (count_of d - 1);
  gap = pos (min (link_of d k).gap 8) +ℤ negsuc 3;
}

abbrev pub drawn : (base : ℕ) → Drawn base → Meaning
drawn base d = record {
  n = count_of d;
  horizon = horizon_of d;
  duration = λ a. min (slice_index d.durations a) 3;
  price = λ a t. cell (min base 255) (min (slice_index d.cells (8 * a + t)) 255);
  lags = min d.lags 4;
  lag = drawn_lag d;
  height = 0;
}

open_fits : (base b : ℕ) → base ≤ 255 → b ≤ 255 → price_fits (Open (pos b -ℤ pos base)) ≡ true
open_fits base b z le =
    let p : ℤ = pos b -ℤ pos base in
    let low : negsuc 999999999 ≤ℤ p = omega (arith, ints) in
    let high : p ≤ℤ pos 1000000000 = omega (arith, ints) in
    and_from (int_le (negsuc 999999999) p) (int_le p (pos 1000000000)) (is_true _ low.le) (is_true _ high.le)

cell_fits : (c : Bool) (base b : ℕ) → base ≤ 255 → b ≤ 255 → price_fits (cond c (Closed 0) (Open (pos b -ℤ pos base))) ≡ true
cell_fits true base b z le = refl
cell_fits false base b z le = open_fits base b z le

pub drawn_bounded : (base : ℕ) (d : Drawn base) → Bounds (drawn base d)
drawn_bounded base d = record {
  n_low = omega arith;
  n_high = omega arith;
  h_low = omega arith;
  h_high = omega arith;
  duration_ok = λ a lt. omega arith;
  price_ok = λ a t x y. let b = min (slice_index d.cells (8 * a + t)) 255 in cell_fits (nat_lt b 64) (min base 255) b (omega arith) (omega arith);
  lags_ok = omega arith;
  lag_ok = λ k lt. record { from_ok = omega arith; to_ok = omega arith; low = omega (arith, ints); high = omega (arith, ints) };
  height_ok = omega arith;
}
