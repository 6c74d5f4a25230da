use Rattle.flow.proofs.Duals.{reached_lies_inside}
use Rattle.flow.proofs.theorems.reached_lies_inside.Goals as goal

pub returns : goal.returns
returns c = reached_lies_inside
