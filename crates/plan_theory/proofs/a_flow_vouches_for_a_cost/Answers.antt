use Rattle.plan_theory.proofs.Plans.{flow_vouches_for_cost}
use Rattle.plan_theory.proofs.a_flow_vouches_for_a_cost.Goals as goal

pub returns : goal.returns
returns c = flow_vouches_for_cost
