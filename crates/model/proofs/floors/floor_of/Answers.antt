use Rattle.std.proofs.Common.{rules}
use Rattle.model.proofs.Counting.{least_open_more}
use Rattle.model.proofs.floors.floor_of.Goals as goal

pub loop-t-preserved : goal.loop-t-preserved
loop-t-preserved g c = search (rules, least_open_more)
