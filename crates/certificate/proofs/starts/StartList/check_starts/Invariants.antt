use Rattle.std.proofs.Common.{◌≡◌, None}
use Rattle.certificate.specs.Faults.{each, start_fault}
use Rattle.certificate.proofs.starts.StartList.check_starts.Given as goal

abbrev pub invariant-loop-a : goal.invariant-loop-a
invariant-loop-a g l = each l.a (start_fault (g.P.Project.meaning l.self.project.now) l.self.starts.now) ≡ None
