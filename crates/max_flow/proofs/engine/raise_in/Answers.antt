use Rattle.std.proofs.Common.{rules}
use Rattle.max_flow.proofs.Keeping.{same_net}
use Rattle.max_flow.proofs.Marking.{climbed_in}
use Rattle.max_flow.proofs.engine.raise_in.Goals as goal

pub returns : goal.returns
returns g c =
    climbed_in c.raise.new.self (same_net c.raise.ensures.kept) c.raise.ensures.climbed (search rules)
