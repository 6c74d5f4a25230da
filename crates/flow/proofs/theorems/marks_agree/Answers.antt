use Rattle.flow.proofs.Duals.{marks_agree}
use Rattle.flow.proofs.theorems.marks_agree.Goals as goal

pub returns : goal.returns
returns c = marks_agree
