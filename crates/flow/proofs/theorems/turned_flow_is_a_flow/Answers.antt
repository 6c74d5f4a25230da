use Rattle.flow.proofs.Turning.{turned_flow_is_a_flow}
use Rattle.flow.proofs.theorems.turned_flow_is_a_flow.Goals as goal

pub returns : goal.returns
returns c = turned_flow_is_a_flow
