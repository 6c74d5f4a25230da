use Rattle.model.proofs.Search.{none_defined_exactly}
use Rattle.model.proofs.plans.none_is_defined_exactly_when_none_meets.Goals as goal

pub returns : goal.returns
returns c = none_defined_exactly
