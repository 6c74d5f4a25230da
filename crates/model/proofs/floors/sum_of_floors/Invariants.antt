use Rattle.std.proofs.Common.{◌≡◌, ◌*◌, pos, neg_ℤ, ◌≤ℤ◌}
use Rattle.model.specs.Starts.{sum_of, floor}
use Rattle.model.proofs.floors.sum_of_floors.Given as goal

abbrev pub invariant-loop-activity : goal.invariant-loop-activity
invariant-loop-activity g l =
    (l.sum ≡ sum_of l.activity (floor (g.P.Project.meaning l.project)))
    × (neg_ℤ (pos (2147483648 * l.activity)) ≤ℤ l.sum)
    × (l.sum ≤ℤ pos (2147483648 * l.activity))
