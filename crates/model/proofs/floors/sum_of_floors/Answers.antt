use Rattle.std.proofs.Common.{arith, rules}
use Rattle.std.proofs.lemmas.Int.{ints}
use Rattle.model.proofs.Counting.{sum_of_more}
use Rattle.model.proofs.floors.sum_of_floors.Goals as goal

pub loop-activity-preserved : goal.loop-activity-preserved
loop-activity-preserved g c = (search (rules, sum_of_more), omega (arith, ints), omega (arith, ints))
