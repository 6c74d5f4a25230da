use Rattle.model.proofs.Search.{earliest_first, cheapest_first, latest_last}
use Rattle.model.proofs.plans.described_lists_are_the_defined_ones.Goals as goal

pub returns : goal.returns
returns c = record { earliest = earliest_first; cheapest = cheapest_first; latest = latest_last }
