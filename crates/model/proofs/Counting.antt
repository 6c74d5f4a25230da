-- Steps of the counts that go slot by slot, for a loop that counts up by one.
use Rattle.std.proofs.Common.{◌≡◌, ℕ, zero, suc, ◌+◌, ◌≤◌, ℤ, ◌+ℤ◌, Some, None, Option, add-one, arith}
use Rattle.model.specs.declared.price.Price.{Price}
use Rattle.model.specs.declared.price.Price.TheVariants.{Open, Closed}
use Rattle.model.specs.Starts.{lower, least_open, sum_of}
use Rattle.model.specs.Openings.{opened, count_open}

pub least_open_more : (k : ℕ) (f : ℕ → Option Price) → least_open (k + 1) f ≡ lower (least_open k f) (f k)
least_open_more k f = rw add-one

pub sum_of_more : (k : ℕ) (f : ℕ → ℤ) → sum_of (k + 1) f ≡ sum_of k f +ℤ f k
sum_of_more k f = rw add-one

pub count_open_more : (k : ℕ) (f : ℕ → Option Price) → count_open (k + 1) f ≡ count_open k f + opened (f k)
count_open_more k f = rw add-one

opened_one : (o : Option Price) → opened o ≤ 1
opened_one None = omega arith
opened_one (Some (Open p)) = omega arith
opened_one (Some (Closed h)) = omega arith

pub count_open_bound : (k : ℕ) (f : ℕ → Option Price) → count_open k f ≤ k
count_open_bound zero f = omega arith
count_open_bound (suc k) f = omega (arith, count_open_bound k f, opened_one (f k))
