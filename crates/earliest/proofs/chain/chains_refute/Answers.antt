use Rattle.earliest.proofs.Refute.{refute}
use Rattle.earliest.proofs.chain.chains_refute.Goals as goal

pub returns : goal.returns
returns c = refute
