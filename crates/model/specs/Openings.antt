-- How many slots of an activity are open.
use Rattle.std.specs.Prelude.{ℕ, zero, suc, ◌+◌, Some, None, Option}
use Rattle.model.specs.declared.price.Price.{Price}
use Rattle.model.specs.declared.price.Price.TheVariants.{Open, Closed}
use Rattle.model.specs.Meaning.{Meaning, price_of}

abbrev pub opened : Option Price → ℕ
opened None = 0
opened (Some (Closed h)) = 0
opened (Some (Open p)) = 1

abbrev pub count_open : ℕ → (ℕ → Option Price) → ℕ
count_open zero f = 0
count_open (suc k) f = count_open k f + opened (f k)

abbrev pub open_slots : Meaning → ℕ → ℕ
open_slots m a = count_open m.horizon (price_of m a)
