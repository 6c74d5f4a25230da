-- Layers keep the limits of a project.
use Rattle.std.specs.Prelude.{◌≡◌, ℕ, ◌+◌, ◌-◌, ◌*◌, ◌≤◌, Bool, true, List, ℤ, pos, ◌+ℤ◌}
use Rattle.std.proofs.Common.{arith}
use Rattle.std.proofs.lemmas.Bool.Decides.{nat_tests}
use Rattle.std.proofs.lemmas.Int.{ints, clamps}
use Rattle.model.specs.declared.price.Price.{Price}
use Rattle.model.specs.declared.price.Price.TheVariants.{Open, Closed}
use Rattle.model.specs.Meaning.{Meaning, Bounds, price_fits}
use Rattle.layers.specs.declared.lateness.Term.{Term}
use Rattle.layers.specs.Layers.{Repricing, Keeps, repriced_at, raised, over, shut_by, late_by, cut, term_of}

repriced_fits : (f : Repricing) (h a t d : ℕ) (p : Price) → Keeps f → h ≤ 255 → price_fits p ≡ true
    → price_fits (repriced_at f h a t d p) ≡ true
repriced_fits f h a t d (Open p) k le fits = k h a t d p le fits
repriced_fits f h a t d (Closed c) k le fits = fits

pub over_kept : (f : Repricing) (m : Meaning) → Keeps f → Bounds m → Bounds (over f m)
over_kept f m k b = record {
  n_low = b.n_low;
  n_high = b.n_high;
  h_low = b.h_low;
  h_high = b.h_high;
  duration_ok = b.duration_ok;
  price_ok = λ a t x y. repriced_fits f (raised m.height) a t (m.duration a) (m.price a t) k (omega arith) (b.price_ok a t x y);
  lags_ok = b.lags_ok;
  lag_ok = b.lag_ok;
  height_ok = omega arith;
}

pub shut_keeps : (marks : List Bool) → Keeps (shut_by marks)
shut_keeps marks h a t d p le fits = grind (arith, nat_tests)

cut_fits : (z : ℤ) → price_fits (Open (cut z)) ≡ true
cut_fits z = grind (arith, ints, clamps)

pub late_keeps : (terms : List Term) → Keeps (late_by terms)
late_keeps terms h a t d p le fits = cut_fits (p +ℤ pos ((term_of terms a).rate * (t + d - (term_of terms a).due)))
