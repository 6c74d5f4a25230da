use Rattle.std.proofs.Common.{◌≡◌, ℕ, ◌<◌, get_or}
use Rattle.max_flow.specs.Outcome.{marked}
use Rattle.least_cost.specs.Sides.{start_by}
use Rattle.least_cost.proofs.reading.Marks.write_starts.Given as goal

abbrev pub invariant-loop-activity : goal.invariant-loop-activity
invariant-loop-activity g l =
    (k : ℕ) → k < l.activity → get_or l.start-items k 0 ≡ start_by l.side (g.P.Project.meaning l.self.project.now) (marked l.self.nodes.now) k
