use Rattle.flow.proofs.Turning.{turned_cut_is_a_cut}
use Rattle.flow.proofs.theorems.turned_cut_is_a_cut.Goals as goal

pub returns : goal.returns
returns c = turned_cut_is_a_cut
