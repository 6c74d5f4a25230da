use Rattle.max_flow.proofs.Deepening.{Deepening}
use Rattle.max_flow.proofs.raising.Raising.deepen.Given as goal

abbrev pub invariant-loop : goal.invariant-loop
invariant-loop g l = Deepening l.fn.self l.self l.node
