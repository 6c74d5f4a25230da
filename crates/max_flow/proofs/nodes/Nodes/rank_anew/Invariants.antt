use Rattle.max_flow.specs.Layout.{Kept}
use Rattle.max_flow.proofs.nodes.Nodes.rank_anew.Given as goal

abbrev pub invariant-loop-done : goal.invariant-loop-done
invariant-loop-done g l = Kept l.fn.self l.self
