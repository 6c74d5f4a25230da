use Rattle.plan_theory.proofs.Plans.{turned_minimum_cut_is_latest}
use Rattle.plan_theory.proofs.a_turned_minimum_cut_is_the_latest_plan.Goals as goal

pub returns : goal.returns
returns c = turned_minimum_cut_is_latest
