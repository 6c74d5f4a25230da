use Rattle.std.proofs.Common.{◌≤◌}
use Rattle.flow.specs.Nets.{word}
use Rattle.max_flow.specs.Layout.{Kept}
use Rattle.max_flow.specs.Stages.{SearchingIn, unranked_in}
use Rattle.max_flow.proofs.nodes.Nodes.search.Given as goal

abbrev pub invariant-loop-self : goal.invariant-loop-self
invariant-loop-self g l =
    Kept l.fn.self l.self × SearchingIn (word l.flow) l.self l.waiting × (l.done ≤ l.waiting)

abbrev pub decreases-loop-self : goal.decreases-loop-self
decreases-loop-self g l = unranked_in l.self
