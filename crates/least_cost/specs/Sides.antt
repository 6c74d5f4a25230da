-- The two lists of least cost that are singled out: what each is, over which network it is found, and how
-- it is read from the marks there.
use Rattle.std.specs.Prelude.{ℕ, Bool, List, map, Option}
use Rattle.std.specs.List.{range_with_len}
use Rattle.model.specs.Meaning.{Meaning}
use Rattle.model.specs.Starts.{cheapest, latest}
use Rattle.flow.specs.Nets.{Net}
use Rattle.flow.specs.Turning.{other, turned}
use Rattle.plan_theory.specs.TimeNetwork.{point}
use Rattle.plan_theory.specs.Plans.{least_from, start_from, start_before}
use Rattle.least_cost.specs.declared.side.Side.{Side}
use Rattle.least_cost.specs.declared.side.Side.TheVariants.{Early, Late}

abbrev pub wanted : Side → Meaning → Option (List ℕ)
wanted Early m = cheapest m
wanted Late m = latest m

abbrev pub net_by : Side → Net → Net
net_by Early n = n
net_by Late n = turned n

abbrev pub least_marked : Meaning → (ℕ → Bool) → ℕ → ℕ
least_marked m marks a = least_from m.horizon 0 (λ t. marks (other (point m.horizon a t)))

abbrev pub start_by : Side → Meaning → (ℕ → Bool) → ℕ → ℕ
start_by Early m marks a = start_from m marks a
start_by Late m marks a = start_before m marks a

abbrev pub starts_by : Side → Meaning → (ℕ → Bool) → List ℕ
starts_by side m marks = map (start_by side m marks) (range_with_len 0 m.n)
