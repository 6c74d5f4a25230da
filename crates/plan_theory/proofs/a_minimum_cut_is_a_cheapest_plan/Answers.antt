use Rattle.plan_theory.proofs.Plans.{minimum_cut_is_cheapest}
use Rattle.plan_theory.proofs.a_minimum_cut_is_a_cheapest_plan.Goals as goal

pub returns : goal.returns
returns c = minimum_cut_is_cheapest
