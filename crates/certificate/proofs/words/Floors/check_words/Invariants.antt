use Rattle.std.proofs.Common.{◌≡◌, None}
use Rattle.certificate.specs.Faults.{each, word_fault}
use Rattle.certificate.proofs.words.Floors.check_words.Given as goal

abbrev pub invariant-loop-arc : goal.invariant-loop-arc
invariant-loop-arc g l = each l.arc (word_fault (g.P.Project.meaning l.self.project.now) l.flow) ≡ None
