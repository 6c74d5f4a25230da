use Rattle.std.proofs.Common.{◌<◌, arith}
use Rattle.std.proofs.lemmas.Result.{err_from_is_err_and}
use Rattle.certificate.proofs.Chains.{each_fails}
use Rattle.certificate.proofs.starts.StartList.check_starts.Goals as goal

pub returns-in_err-check_start : goal.returns-in_err-check_start
returns-in_err-check_start g c =
    let m = g.P.Project.meaning c.args.self.now.project.now in
    let p = err_from_is_err_and c.from_residual.result c.from_residual.ensures.1 in
    let less : c.loop-a.a < m.n = omega arith in
    rw (p.1, p.2) (each_fails _ c.loop-a.a _ _ less c.loop-a.invariant c.in_err-check_start.ensures)
