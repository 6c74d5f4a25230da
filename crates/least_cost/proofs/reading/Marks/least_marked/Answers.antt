use Rattle.std.proofs.Common.{ℕ, Bool, ap, ◌∙◌, arith, rules}
use Rattle.flow.specs.Turning.{other}
use Rattle.max_flow.specs.Outcome.{marked}
use Rattle.plan_theory.specs.TimeNetwork.{point}
use Rattle.plan_theory.specs.Plans.{least_from}
use Rattle.least_cost.proofs.Slots.{least_from_find, least_within}
use Rattle.least_cost.proofs.reading.Marks.least_marked.Goals as goal

pub returns : goal.returns
returns g c =
    let h : ℕ = (g.P.Project.meaning c.args.self.now.project.now).horizon in
    let b = g.met.P.Project.bounded c.args.self.now.project.now in
    let test : ℕ → Bool = λ t. marked c.args.self.now.nodes.now (other (point h c.args.activity t)) in
    let found =
    c.unwrap_or.ensures
    ∙ (least_from_find _ _ test (λ x b q y. search rules) c.horizon-horizon.result _ c.find.result c.find.ensures.ran
    ∙ ap (λ (n : ℕ). least_from n 0 test) c.horizon-horizon.ensures) in
    record { least = found; small = omega (arith, found, least_within h 0 test, b.h_high) }
