use Rattle.std.proofs.Common.{sym, refl, inl, inr, arith}
use Rattle.max_flow.proofs.Walks.{moves_on, pushing_on, pushed_in}
use Rattle.max_flow.proofs.nodes.Nodes.push.Goals as goal

pub moved-carried-requires : goal.moved-carried-requires
moved-carried-requires g c =
    moves_on c.args.self.now c.loop-node-test.true c.link_from-link.ensures.link c.requires.raised (omega arith)
    c.loop-node.invariant (omega (arith, c.requires.fits))

pub loop-node-smaller-then-not-opens : goal.loop-node-smaller-then-not-opens
loop-node-smaller-then-not-opens g c =
    (pushing_on c.args.self.now c.loop-node-test.true c.link_from-link.ensures.link c.requires.raised (omega arith)
    c.loop-node.invariant c.moved-carried.ensures c.link_from-link.result.node (inl refl)).1

pub loop-node-preserved-then-not-opens : goal.loop-node-preserved-then-not-opens
loop-node-preserved-then-not-opens g c =
    (pushing_on c.args.self.now c.loop-node-test.true c.link_from-link.ensures.link c.requires.raised (omega arith)
    c.loop-node.invariant c.moved-carried.ensures c.link_from-link.result.node (inl refl)).0

pub loop-node-smaller : goal.loop-node-smaller
loop-node-smaller g c =
    (pushing_on c.args.self.now c.loop-node-test.true c.link_from-link.ensures.link c.requires.raised (omega arith)
    c.loop-node.invariant c.moved-carried.ensures c.loop-node.stop (inr (refl, sym c.if-not-opens.ensures))).1

pub loop-node-preserved : goal.loop-node-preserved
loop-node-preserved g c =
    (pushing_on c.args.self.now c.loop-node-test.true c.link_from-link.ensures.link c.requires.raised (omega arith)
    c.loop-node.invariant c.moved-carried.ensures c.loop-node.stop (inr (refl, sym c.if-not-opens.ensures))).0

pub returns : goal.returns
returns g c =
    pushed_in c.args.self.now c.requires.raised (omega arith) c.loop-node-test.false c.loop-node.invariant
