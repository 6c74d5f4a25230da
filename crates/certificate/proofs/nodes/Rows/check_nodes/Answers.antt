use Rattle.std.proofs.Common.{◌<◌, arith}
use Rattle.std.proofs.lemmas.Result.{err_from_is_err_and}
use Rattle.certificate.specs.Faults.{inner_nodes}
use Rattle.certificate.proofs.Balances.{nodes_same}
use Rattle.certificate.proofs.Chains.{each_fails}
use Rattle.certificate.proofs.nodes.Rows.check_nodes.Goals as goal

pub returns-in_err-check_node : goal.returns-in_err-check_node
returns-in_err-check_node g c =
    let m = g.P.Project.meaning c.args.self.now.project.now in
    let p = err_from_is_err_and c.from_residual.result c.from_residual.ensures.1 in
    let all = nodes_same m c.count.result c.horizon.result c.count.ensures c.horizon.ensures in
    let less : c.loop-i.i < inner_nodes m = omega arith in
    rw (p.1, p.2) (each_fails _ c.loop-i.i _ _ less c.loop-i.invariant c.in_err-check_node.ensures)
