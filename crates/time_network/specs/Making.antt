-- What is written down of a project.
use Rattle.std.specs.Prelude.{◌≡◌, ℕ, ◌+◌, ◌*◌, ◌<◌, List, ℤ, ◌-ℤ◌, unsigned_abs}
use Rattle.model.specs.declared.price.Price.{Price}
use Rattle.model.specs.declared.price.Price.TheVariants.{Open, Closed}
use Rattle.model.specs.declared.lag.Lag.{Lag}
use Rattle.flow.specs.declared.network.Capacity.{Capacity}
use Rattle.flow.specs.declared.network.Capacity.TheVariants.{Bounded, Unbounded}
use Rattle.model.specs.Meaning.{Meaning}
use Rattle.model.specs.Starts.{floor}
use Rattle.time_network.specs.Held.{lag_at, capacity_at}

-- the capacity of a price arc: what the price is above the floor, or none if the slot is closed
abbrev pub rise : ℤ → Price → Capacity
rise low (Open p) = Bounded (unsigned_abs (p -ℤ low))
rise low (Closed height) = Unbounded

abbrev pub Written : Meaning → ℕ → ℕ → List Capacity → Type 0
Written m a t capacities = capacity_at capacities (a * m.horizon + t) ≡ rise (floor m a) (m.price a t)

-- the capacities of the first activities are written
pub record Priced (m : Meaning) (rows : ℕ) (capacities : List Capacity) : Type 0 where
  pub written : (a t : ℕ) → a < rows → t < m.horizon → Written m a t capacities

-- after those of activity a: they are written, and those before are as they were
pub record Row (m : Meaning) (a columns : ℕ) (before after : List Capacity) : Type 0 where
  pub filled : (t : ℕ) → t < columns → Written m a t after
  pub kept : (j : ℕ) → j < a * m.horizon → capacity_at after j ≡ capacity_at before j

-- the first lags are written
pub record Copied (m : Meaning) (count : ℕ) (lags : List Lag) : Type 0 where
  pub copied : (k : ℕ) → k < count → lag_at lags k ≡ m.lag k

-- all of a row, of the prices and of the lags
abbrev pub RowWritten : Meaning → ℕ → List Capacity → List Capacity → Type 0
RowWritten m a before after = Row m a m.horizon before after

abbrev pub AllPriced : Meaning → List Capacity → Type 0
AllPriced m capacities = Priced m m.n capacities

abbrev pub AllCopied : Meaning → List Lag → Type 0
AllCopied m lags = Copied m m.lags lags
