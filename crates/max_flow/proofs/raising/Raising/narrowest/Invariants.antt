use Rattle.std.proofs.Common.{◌-◌}
use Rattle.flow.specs.Nets.{word}
use Rattle.flow.proofs.Ways.{Narrow}
use Rattle.max_flow.specs.Layout.{net_of, rank_in, link_in}
use Rattle.max_flow.proofs.raising.Raising.narrowest.Given as goal

abbrev pub invariant-loop-node : goal.invariant-loop-node
invariant-loop-node g l = Narrow (net_of l.self.nodes.now) (word l.self.flow.now) (rank_in l.self.nodes.now) (link_in l.self.nodes.now) l.node l.least

abbrev pub decreases-loop-node : goal.decreases-loop-node
decreases-loop-node g l = rank_in l.self.nodes.now 1 - rank_in l.self.nodes.now l.node
