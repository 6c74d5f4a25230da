use Rattle.std.proofs.Common.{rules}
use Rattle.max_flow.proofs.Keeping.{same_net}
use Rattle.max_flow.proofs.Marking.{reaches_in}
use Rattle.max_flow.proofs.engine.search_in.Goals as goal

pub returns : goal.returns
returns g c =
    reaches_in c.search.new.self (same_net c.search.ensures.kept) c.search.ensures.searched c.search.ensures.sink
    (search rules)
