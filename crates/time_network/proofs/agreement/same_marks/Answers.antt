use Rattle.time_network.proofs.Agreeing.{same_reached, same_marks}
use Rattle.time_network.proofs.agreement.same_marks.Goals as goal

pub returns : goal.returns
returns c = record { reached = same_reached; marks = same_marks }
