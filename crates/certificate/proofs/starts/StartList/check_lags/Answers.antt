use Rattle.std.proofs.Common.{◌<◌, arith}
use Rattle.std.proofs.lemmas.Result.{err_from_is_err_and}
use Rattle.certificate.proofs.Chains.{each_fails}
use Rattle.certificate.proofs.starts.StartList.check_lags.Goals as goal

pub returns-in_err-check_lag : goal.returns-in_err-check_lag
returns-in_err-check_lag g c =
    let m = g.P.Project.meaning c.args.self.now.project.now in
    let p = err_from_is_err_and c.from_residual.result c.from_residual.ensures.1 in
    let less : c.loop-k.k < m.lags = omega arith in
    rw (p.1, p.2) (each_fails _ c.loop-k.k _ _ less c.loop-k.invariant c.in_err-check_lag.ensures)
