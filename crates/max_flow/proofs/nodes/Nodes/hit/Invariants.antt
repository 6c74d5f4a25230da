use Rattle.std.proofs.Common.{◌≡◌, ◌<◌}
use Rattle.flow.specs.Passing.{turned_way}
use Rattle.max_flow.proofs.nodes.Nodes.hit.Given as goal

abbrev pub invariant-loop-step : goal.invariant-loop-step
invariant-loop-step g l =
    (l.step-iterator.visit.now.network ≡ l.fn.self.network) × (l.step-iterator.visit.now.node ≡ l.node)
    × (l.step-iterator.way ≡ turned_way l.way) × (l.cursor < 2147483648)
