use Rattle.std.proofs.Common.{Ok, ap, arith}
use Rattle.std.proofs.lemmas.Grind.{common_steps}
use Rattle.std.proofs.lemmas.Int.{ints}
use Rattle.c_interface.proofs.Limits.{answered_limit}
use Rattle.c_interface.proofs.plan_project.Goals as goal

pub overflow_cast-result : goal.overflow_cast-result
overflow_cast-result g c =
    let x = c.args.project.now in
    let small = answered_limit (g.P.Project.meaning x) (g.met.P.Project.bounded x) _ _ _ _ _ _ c.in_ok-value.value c.in_ok-value.ensures in
    record { sfits = omega (arith, ints) }

pub overflow_add-result : goal.overflow_add-result
overflow_add-result g c =
    let x = c.args.project.now in
    let small = answered_limit (g.P.Project.meaning x) (g.met.P.Project.bounded x) _ _ _ _ _ _ c.in_ok-value.value c.in_ok-value.ensures in
    grind (arith, common_steps, small, c.sum_of_floors-floors.ensures.low, c.sum_of_floors-floors.ensures.high)

pub returns : goal.returns
returns g c =
    let x = c.args.project.now in
    let small = answered_limit (g.P.Project.meaning x) (g.met.P.Project.bounded x) _ _ _ _ _ _ c.in_ok-value.value c.in_ok-value.ensures in
    record {
      value = Ok c.in_ok-value.value;
      outcome = c.in_ok-value.ensures;
      priced = ap Ok (omega (arith, ints));
    }
