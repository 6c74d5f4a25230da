use Rattle.std.proofs.Common.{ℕ, Bool, ap, ◌∙◌, arith, rules}
use Rattle.max_flow.specs.Outcome.{marked}
use Rattle.plan_theory.specs.TimeNetwork.{point}
use Rattle.plan_theory.specs.Plans.{greatest}
use Rattle.plan_theory.proofs.Rows.{greatest_below}
use Rattle.least_cost.proofs.Slots.{greatest_from_rfind}
use Rattle.least_cost.proofs.reading.Marks.early_start.Goals as goal

pub returns : goal.returns
returns g c =
    let h : ℕ = (g.P.Project.meaning c.args.self.now.project.now).horizon in
    let b = g.met.P.Project.bounded c.args.self.now.project.now in
    let test : ℕ → Bool = λ t. marked c.args.self.now.nodes.now (point h c.args.activity t) in
    let found =
    c.unwrap_or.ensures
    ∙ (greatest_from_rfind _ _ test (λ x b q y. search rules) c.horizon.result _ c.rfind.result c.rfind.ensures.ran
    ∙ ap (λ (n : ℕ). greatest n test) c.horizon.ensures) in
    record { start = found; small = omega (arith, found, greatest_below h test b.h_low, b.h_high) }
