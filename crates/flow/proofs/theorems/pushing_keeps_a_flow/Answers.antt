use Rattle.flow.proofs.Pushes.{push_begins, push_along, push_against, push_ends}
use Rattle.flow.proofs.theorems.pushing_keeps_a_flow.Goals as goal

pub returns : goal.returns
returns c = record { begins = push_begins; along = push_along; against = push_against; ends = push_ends }
