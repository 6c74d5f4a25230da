use Rattle.std.proofs.Common.{◌-◌, ◌≤◌}
use Rattle.flow.specs.Nets.{word}
use Rattle.max_flow.specs.Layout.{net_of}
use Rattle.max_flow.specs.Stages.{Grown}
use Rattle.max_flow.proofs.nodes.Nodes.spread.Given as goal

abbrev pub invariant-loop-done : goal.invariant-loop-done
invariant-loop-done g l =
    Grown (word l.flow) l.initial.self l.self l.initial.waiting l.waiting × (l.done ≤ l.waiting)

abbrev pub decreases-loop-done : goal.decreases-loop-done
decreases-loop-done g l = (net_of l.initial.self).nodes - l.done
