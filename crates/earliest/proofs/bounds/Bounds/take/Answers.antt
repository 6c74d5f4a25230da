use Rattle.std.proofs.Common.{◌∙◌, arith, length-set, rules}
use Rattle.earliest.specs.Nodes.{node_of}
use Rattle.earliest.specs.Pushing.{latest_of}
use Rattle.earliest.proofs.Loops.{few_fit, kept, kept_one}
use Rattle.earliest.proofs.Steps.{nodes_few}
use Rattle.earliest.proofs.bounds.Bounds.take.Goals as goal

pub overflow_add-number : goal.overflow_add-number
overflow_add-number g c =
    let x = c.args.self.now in
    let f = few_fit (g.P.Project.meaning x.project.now) (node_of x.nodes.now) (latest_of x.latest) x.count (g.met.P.Project.bounded x.project.now) x.state in
    search rules

pub bounds-self-number : goal.bounds-self-number
bounds-self-number g c =
    let x = c.args.self.now in
    omega (arith, x.room, nodes_few (g.P.Project.meaning x.project.now) (node_of x.nodes.now) (latest_of x.latest) x.count x.state)

pub bounds-self-from : goal.bounds-self-from
bounds-self-from g c =
    let p = c.requires c.in_ok-node.node c.in_ok-node.was in
    omega (arith, p.real, (g.met.P.Project.bounded c.args.self.now.project.now).n_high)

pub invariant_of-self : goal.invariant_of-self
invariant_of-self g c =
    let x = c.args.self.now in
    let p = c.requires c.in_ok-node.node c.in_ok-node.was in
    record {
      room = simp length-set (omega (arith, x.room));
      state = rw c.from.ensures (kept (g.P.Project.meaning x.project.now) x.nodes.now x.latest x.count c.into.result c.in_ok-node.node x.state p
          (omega (arith, p.within, c.if-node-horizon.false, c.horizon.ensures)) (omega (arith, (g.met.P.Project.bounded x.project.now).n_high)) x.room c.into.ensures);
    }

pub returns-then-node-horizon-clause-reaches : goal.returns-then-node-horizon-clause-reaches
returns-then-node-horizon-clause-reaches g c = (c.requires c.in_ok-node.node c.in_ok-node.was, c.if-node-horizon.true ∙ c.horizon.ensures)

pub returns-clause-kept : goal.returns-clause-kept
returns-clause-kept g c none =
    let x = c.args.self.now in
    rw (c.in_ok-node.was, c.from.ensures) (kept_one x.nodes.now x.latest x.count c.into.result c.in_ok-node.node
    (omega (arith, x.room, nodes_few (g.P.Project.meaning x.project.now) (node_of x.nodes.now) (latest_of x.latest) x.count x.state))
    c.into.ensures)
