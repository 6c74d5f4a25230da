use Rattle.flow.proofs.Duals.{closed_cut_has_the_value}
use Rattle.flow.proofs.theorems.closed_cut_has_the_value.Goals as goal

pub returns : goal.returns
returns c = closed_cut_has_the_value
