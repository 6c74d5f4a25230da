use Rattle.std.proofs.Common.{◌≡◌}
use Rattle.max_flow.proofs.nodes.Nodes.leads_on.Given as goal

abbrev pub invariant-loop-step : goal.invariant-loop-step
invariant-loop-step g l = l.step-iterator.visit.now.network ≡ l.self.network
