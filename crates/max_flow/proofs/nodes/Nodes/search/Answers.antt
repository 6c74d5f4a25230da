use Rattle.std.proofs.Common.{arith}
use Rattle.flow.specs.Nets.{word}
use Rattle.flow.proofs.Searches.{search_begins}
use Rattle.max_flow.specs.Layout.{net_of, rank_in, link_in, queue_in}
use Rattle.max_flow.proofs.nodes.Nodes.search.Goals as goal

pub loop-self-init : goal.loop-self-init
loop-self-init g c =
    let s = c.begin.new.self in
    let b = c.begin.ensures.begun in (
      c.begin.ensures.kept,
      search_begins (net_of s) (g.N.Network.bounded s.network.now).sound (word c.args.flow.now) (rank_in s)
          (link_in s) (queue_in s) b.first b.none b.waits,
      omega arith,
    )
