use Rattle.std.proofs.Common.{ap, arith, rules}
use Rattle.earliest.specs.declared.nodes.Node.{Node}
use Rattle.earliest.specs.Nodes.{node_of}
use Rattle.earliest.specs.Pushing.{latest_of}
use Rattle.earliest.proofs.Trails.{walk_start, walk_more, walk_end}
use Rattle.earliest.proofs.bounds.Bounds.write_chain.Goals as goal

pub loop-node-init : goal.loop-node-init
loop-node-init g c =
    let x = c.args.self.now in
    walk_start (g.P.Project.meaning x.project.now) (node_of x.nodes.now) (latest_of x.latest) x.count (g.met.P.Project.bounded x.project.now) x.state
    c.args.last c.args.chain.now c.requires.driven c.requires.room

pub loop-node-preserved : goal.loop-node-preserved
loop-node-preserved g c =
    let x = c.args.self.now in
    let l = c.loop-node in
    rw c.node-node.ensures
    (walk_more (g.P.Project.meaning x.project.now) (node_of x.nodes.now) (latest_of x.latest) x.count (g.met.P.Project.bounded x.project.now) x.state
    c.args.chain.now l.chain l.length l.node l.invariant (omega (arith, c.loop-node-test.true)))

pub loop-node-smaller : goal.loop-node-smaller
loop-node-smaller g c =
    let sound = c.args.self.now.state.sound c.loop-node.node.parent (omega (arith, c.loop-node-test.true)) c.loop-node.invariant.trail.known in
    omega (arith, sound.earlier, ap (λ (v : Node). v.parent) c.node-node.ensures)

pub returns : goal.returns
returns g c =
    let x = c.args.self.now in
    let l = c.loop-node in
    walk_end (g.P.Project.meaning x.project.now) (node_of x.nodes.now) (latest_of x.latest) x.count (g.met.P.Project.bounded x.project.now) x.state
    c.args.chain.now l.chain _ l.length l.node c.origin_of.result l.invariant c.loop-node-test.false c.origin_of.ensures (search rules)
