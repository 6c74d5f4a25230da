use Rattle.flow.specs.Nets.{word}
use Rattle.flow.proofs.Ways.{Laying}
use Rattle.max_flow.specs.Layout.{net_of, rank_in, link_in, Kept}
use Rattle.max_flow.proofs.nodes.Nodes.lay_way.Given as goal

abbrev pub invariant-loop-node : goal.invariant-loop-node
invariant-loop-node g l =
    Kept l.fn.self l.self × Laying (net_of l.self) (word l.flow) (rank_in l.self) (link_in l.self) l.node l.k

abbrev pub decreases-loop-node : goal.decreases-loop-node
decreases-loop-node g l = rank_in l.self l.node
