use Rattle.time_network.proofs.Agreeing.{same_cuts}
use Rattle.time_network.proofs.agreement.same_cuts.Goals as goal

pub returns : goal.returns
returns c = same_cuts
