use Rattle.std.proofs.Common.{◌≡◌}
use Rattle.max_flow.specs.Layout.{Kept}
use Rattle.max_flow.proofs.nodes.Nodes.rank_on.Given as goal

abbrev pub invariant-loop-step : goal.invariant-loop-step
invariant-loop-step g l = (l.step-iterator.visit.now ≡ l.visit) × Kept l.initial.self l.self
