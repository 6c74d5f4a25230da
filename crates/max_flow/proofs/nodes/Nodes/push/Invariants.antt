use Rattle.std.proofs.Common.{◌-◌}
use Rattle.flow.specs.Nets.{word}
use Rattle.flow.proofs.Ways.{Pushing}
use Rattle.max_flow.specs.Layout.{net_of, rank_in, link_in}
use Rattle.max_flow.proofs.nodes.Nodes.push.Given as goal

abbrev pub invariant-loop-node : goal.invariant-loop-node
invariant-loop-node g l =
    Pushing (net_of l.self) (word l.initial.flow) (rank_in l.self) (link_in l.self) l.value l.amount l.flow l.node
    l.stop

abbrev pub decreases-loop-node : goal.decreases-loop-node
decreases-loop-node g l = rank_in l.self 1 - rank_in l.self l.node
