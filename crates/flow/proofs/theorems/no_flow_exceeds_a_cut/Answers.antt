use Rattle.flow.proofs.Duals.{no_flow_exceeds_a_cut}
use Rattle.flow.proofs.theorems.no_flow_exceeds_a_cut.Goals as goal

pub returns : goal.returns
returns c = no_flow_exceeds_a_cut
