use Rattle.time_network.proofs.Agreeing.{same_flows}
use Rattle.time_network.proofs.agreement.same_flows.Goals as goal

pub returns : goal.returns
returns c = same_flows
