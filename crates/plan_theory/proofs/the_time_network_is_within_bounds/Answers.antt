use Rattle.plan_theory.specs.TimeBounds.{time_bounds}
use Rattle.plan_theory.proofs.the_time_network_is_within_bounds.Goals as goal

pub returns : goal.returns
returns c = time_bounds
