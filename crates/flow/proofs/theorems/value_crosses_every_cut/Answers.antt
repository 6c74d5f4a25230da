use Rattle.flow.proofs.Cuts.{value_crosses_every_cut}
use Rattle.flow.proofs.theorems.value_crosses_every_cut.Goals as goal

pub returns : goal.returns
returns c = value_crosses_every_cut
