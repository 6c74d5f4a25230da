use Rattle.model.proofs.Meeting.{meets_test}
use Rattle.model.proofs.plans.meeting_is_decided.Goals as goal

pub returns : goal.returns
returns c = meets_test
