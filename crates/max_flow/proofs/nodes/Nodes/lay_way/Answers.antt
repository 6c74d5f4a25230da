use Rattle.std.proofs.Common.{refl}
use Rattle.flow.specs.Nets.{word}
use Rattle.flow.proofs.Ways.{laying_begins}
use Rattle.max_flow.specs.Layout.{net_of, rank_in, link_in}
use Rattle.max_flow.proofs.Keeping.{kept_more}
use Rattle.max_flow.proofs.Laying.{laying_in}
use Rattle.max_flow.proofs.nodes.Nodes.lay_way.Goals as goal

pub loop-node-init : goal.loop-node-init
loop-node-init g c =
    let s = c.args.self.now in (
      record { same_network = refl; same_ranks = refl },
      laying_begins (net_of s) (g.N.Network.bounded s.network.now).sound (word c.args.flow.now) (rank_in s)
          (link_in s) c.requires.found c.requires.sink,
    )

pub loop-node-preserved : goal.loop-node-preserved
loop-node-preserved g c =
    let k = kept_more c.loop-node.invariant.0 c.raise_far.ensures.kept in (
      record { same_network = k.same_network; same_ranks = k.same_ranks },
      (laying_in (word c.args.flow.now) c.loop-node.self c.raise_far.new.self c.loop-node.node c.loop-node.k
          c.other_end-from.result c.in-Some.arc c.loop-node-test.true c.loop-node.invariant.1 c.in-Some.ensures
          c.raise_far.ensures c.other_end-from.ensures).0,
    )
