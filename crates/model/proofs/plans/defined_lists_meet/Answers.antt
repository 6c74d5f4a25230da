use Rattle.model.proofs.Search.{defined_ones_meet}
use Rattle.model.proofs.plans.defined_lists_meet.Goals as goal

pub returns : goal.returns
returns c = defined_ones_meet
