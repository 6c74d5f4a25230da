use Rattle.std.proofs.Common.{Err, ap, ◌∙◌, arith}
use Rattle.certificate.proofs.Chains.{passes, fails}
use Rattle.certificate.proofs.Points.{node_of}
use Rattle.certificate.proofs.Balances.{node_clear, node_bad, nodes_low}
use Rattle.certificate.proofs.nodes.Rows.check_node.Goals as goal

pub returns-then-sends-gets : goal.returns-then-sends-gets
returns-then-sends-gets g c =
    let m = g.P.Project.meaning c.args.self.now.project.now in
    let n = node_of m c.horizon-slots.result c.args.inner c.horizon-slots.ensures c.requires in
    passes _
    (node_clear m c.args.self.now.flow.now c.horizon-slots.result c.args.inner c.sends.result c.gets.result n
    c.sends.ensures c.gets.ensures c.if-sends-gets.true)

pub returns-else-sends-gets : goal.returns-else-sends-gets
returns-else-sends-gets g c =
    let m = g.P.Project.meaning c.args.self.now.project.now in
    let n = node_of m c.horizon-slots.result c.args.inner c.horizon-slots.ensures c.requires in
    ap Err c.at.ensures
    ∙ fails _ _
    (node_bad m c.args.self.now.flow.now c.horizon-slots.result c.args.inner c.sends.result c.gets.result n
    c.sends.ensures c.gets.ensures c.if-sends-gets.false)

pub overflow_add-inner : goal.overflow_add-inner
overflow_add-inner g c =
    let m = g.P.Project.meaning c.args.self.now.project.now in
    record { fits = omega (arith, nodes_low m (g.met.P.Project.bounded c.args.self.now.project.now), c.requires) }
