use Rattle.time_network.proofs.Agreeing.{same_unhindered}
use Rattle.time_network.proofs.agreement.same_unhindered.Goals as goal

pub returns : goal.returns
returns c = same_unhindered
