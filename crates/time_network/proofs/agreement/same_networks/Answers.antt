use Rattle.time_network.proofs.Agreeing.{same_back, same_turned}
use Rattle.time_network.proofs.agreement.same_networks.Goals as goal

pub returns : goal.returns
returns c = record { back = same_back; turned = same_turned }
