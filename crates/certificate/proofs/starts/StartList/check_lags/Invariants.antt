use Rattle.std.proofs.Common.{◌≡◌, None}
use Rattle.certificate.specs.Faults.{each, lag_fault}
use Rattle.certificate.proofs.starts.StartList.check_lags.Given as goal

abbrev pub invariant-loop-k : goal.invariant-loop-k
invariant-loop-k g l = each l.k (lag_fault (g.P.Project.meaning l.self.project.now) l.self.starts.now) ≡ None
