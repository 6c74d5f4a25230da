use Rattle.plan_theory.proofs.Plans.{unhindered_when_none_meets}
use Rattle.plan_theory.proofs.unbounded_arcs_lead_across_exactly_when_none_meets.Goals as goal

pub returns : goal.returns
returns c = unhindered_when_none_meets
