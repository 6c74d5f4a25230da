use Rattle.std.proofs.Common.{sym, subst, arith}
use Rattle.flow.specs.Nets.{word}
use Rattle.flow.specs.Ways.{Way, arrived}
use Rattle.flow.proofs.Ways.{way_exists}
use Rattle.max_flow.specs.Layout.{net_of, rank_in, link_in}
use Rattle.max_flow.proofs.Walks.{narrow_on}
use Rattle.max_flow.proofs.raising.Raising.narrowest.Goals as goal

pub link_from-link-requires-clause-exists : goal.link_from-link-requires-clause-exists
link_from-link-requires-clause-exists g c = way_exists c.loop-node.invariant.way c.loop-node-test.true

pub loop-node-smaller : goal.loop-node-smaller
loop-node-smaller g c =
    (narrow_on c.args.self.now.nodes.now c.loop-node-test.true c.link_from-link.ensures.link c.loop-node.invariant
    c.min-least.result (omega arith)).1

pub loop-node-preserved : goal.loop-node-preserved
loop-node-preserved g c =
    (narrow_on c.args.self.now.nodes.now c.loop-node-test.true c.link_from-link.ensures.link c.loop-node.invariant
    c.min-least.result (omega arith)).0

pub returns : goal.returns
returns g c =
    let i = c.loop-node.invariant in
    let s = c.args.self.now.nodes.now in
    record {
      some = i.some;
      most = i.most;
      carries = i.carries c.loop-node.least (omega arith)
          (subst (Way (net_of s) (word c.args.self.now.flow.now) (rank_in s) (link_in s) c.loop-node.least)
          (sym c.loop-node-test.false) arrived);
    }
