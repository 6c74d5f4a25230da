use Rattle.std.proofs.Common.{◌≡◌, arith, rules}
use Rattle.earliest.specs.Nodes.{node_of}
use Rattle.earliest.specs.Pushing.{bound, latest_of}
use Rattle.earliest.proofs.bounds.Bounds.bound.Goals as goal

pub returns-clause-low : goal.returns-clause-low
returns-clause-low g c =
    let x = c.args.self.now in
    let is : c.node.result.entry.slot.0 ≡ bound (node_of x.nodes.now) (latest_of x.latest) c.args.activity = search rules in
    omega (arith, is, x.state.below c.args.activity c.requires, (g.met.P.Project.bounded x.project.now).h_high)
