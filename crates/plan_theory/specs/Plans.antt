-- Plans read from the nodes that a flow reaches in the time network, and what is proved of them.
use Rattle.std.specs.Prelude.{◌≡◌, ℕ, zero, suc, ◌-◌, Bool, false, cond, List, map, pos, ◌+ℤ◌, Some}
use Rattle.std.specs.List.{range_with_len}
use Rattle.model.specs.Meaning.{Meaning, Bounds}
use Rattle.model.specs.Starts.{cost, floors, cheapest, latest}
use Rattle.model.specs.Chosen.{Meets, NoneMeets, NoneCheaper, Cheapest, Latest}
use Rattle.flow.specs.Nets as nets
use Rattle.flow.specs.Nets.{IsFlow, Unhindered}
use Rattle.flow.specs.Cuts.{Marks}
use Rattle.flow.specs.Turning.{other, turned}
use Rattle.plan_theory.specs.TimeNetwork.{point, time_net}

-- the greatest of the numbers below k at which f holds, or 0
abbrev pub greatest : ℕ → (ℕ → Bool) → ℕ
greatest zero f = 0
greatest (suc k) f = cond (f k) k (greatest k f)

-- the least of the k numbers from t on at which f holds, or the number after them
abbrev pub least_from : ℕ → ℕ → (ℕ → Bool) → ℕ
least_from zero t f = t
least_from (suc k) t f = cond (f t) t (least_from k (suc t) f)

-- an activity starts at its greatest marked slot; slot 0 is the source, which is marked
abbrev pub start_from : Meaning → (ℕ → Bool) → ℕ → ℕ
start_from m marks a = greatest m.horizon (λ t. marks (point m.horizon a t))

abbrev pub starts_from : Meaning → (ℕ → Bool) → List ℕ
starts_from m marks = map (start_from m marks) (range_with_len 0 m.n)

-- by marks over the turned network: just before its least marked slot; the horizon is the source there
abbrev pub start_before : Meaning → (ℕ → Bool) → ℕ → ℕ
start_before m marks a = least_from m.horizon 0 (λ t. marks (other (point m.horizon a t))) - 1

abbrev pub starts_before : Meaning → (ℕ → Bool) → List ℕ
starts_before m marks = map (start_before m marks) (range_with_len 0 m.n)

-- s is the cheapest list, by its description and as it is defined, and costs w above the floors
pub record CheapestAbove (m : Meaning) (w : ℕ) (s : List ℕ) : Type 0 where
  pub described : Cheapest m s
  pub defined : cheapest m ≡ Some s
  pub costs : cost m s ≡ floors m +ℤ pos w

-- s is the latest of the cheapest lists
pub record LatestAbove (m : Meaning) (w : ℕ) (s : List ℕ) : Type 0 where
  pub described : Latest m s
  pub defined : latest m ≡ Some s
  pub costs : cost m s ≡ floors m +ℤ pos w

-- the time network of a project within its limits is a network within those of networks
abbrev pub TimeNetworkIsWithinBounds : Type 0
TimeNetworkIsWithinBounds = (m : Meaning) → Bounds m → nets.Bounds (time_net m)

-- the nodes that a flow reaches, the sink not among them, are a cheapest plan, and its value is the cost
-- above the floors
abbrev pub MinimumCutIsCheapest : Type 0
MinimumCutIsCheapest =
    (m : Meaning) → Bounds m → (f : ℕ → ℕ) (w : ℕ) → IsFlow (time_net m) f w
    → (marks : ℕ → Bool) → Marks (time_net m) f marks → marks 1 ≡ false
    → CheapestAbove m w (starts_from m marks)

-- and over the turned network they are the latest of the cheapest plans, of a flow of the same value
abbrev pub TurnedMinimumCutIsLatest : Type 0
TurnedMinimumCutIsLatest =
    (m : Meaning) → Bounds m → (f : ℕ → ℕ) (w : ℕ) → IsFlow (turned (time_net m)) f w
    → (marks : ℕ → Bool) → Marks (turned (time_net m)) f marks → marks 1 ≡ false
    → LatestAbove m w (starts_before m marks) × IsFlow (time_net m) f w

-- unbounded arcs alone lead from source to sink exactly when no list meets the project
pub record UnhinderedExactly (m : Meaning) : Type 0 where
  pub none_meets : Unhindered (time_net m) 1 → NoneMeets m
  pub unhindered : NoneMeets m → Unhindered (time_net m) 1

abbrev pub UnhinderedWhenNoneMeets : Type 0
UnhinderedWhenNoneMeets = (m : Meaning) → Bounds m → UnhinderedExactly m

-- a list that meets the project and costs, above the floors, the value of any flow is a cheapest one
abbrev pub FlowVouchesForCost : Type 0
FlowVouchesForCost =
    (m : Meaning) → Bounds m → (s : List ℕ) → Meets m s → (f : ℕ → ℕ) (w : ℕ) → IsFlow (time_net m) f w
    → cost m s ≡ floors m +ℤ pos w → NoneCheaper m s
