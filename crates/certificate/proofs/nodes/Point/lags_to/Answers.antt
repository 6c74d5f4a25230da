use Rattle.std.proofs.Common.{ap, ◌∙◌, arith, rules}
use Rattle.flow.specs.Sums.{sum_to}
use Rattle.certificate.specs.Sums.{lag_in}
use Rattle.certificate.specs.Faults.{word_limit}
use Rattle.certificate.proofs.Totals.{sum_fits, sum_is}
use Rattle.certificate.proofs.nodes.Point.lags_to.Goals as goal

pub sum-requires-clause-fits : goal.sum-requires-clause-fits
sum-requires-clause-fits g c =
    let few = (g.met.P.Project.bounded c.args.self.now.rows.now.project.now).lags_ok in
    sum_fits c.lag_count.result c.map.ensures.source c.map.ensures.closure (omega arith) word_limit (omega arith) (λ x v q k. search rules)

pub returns : goal.returns
returns g c =
    let few = (g.met.P.Project.bounded c.args.self.now.rows.now.project.now).lags_ok in
    let h = lag_in (g.P.Project.meaning c.args.self.now.rows.now.project.now) c.args.self.now.rows.now.flow.now c.args.self.now.activity c.args.self.now.slot in
    let total =
    sum_is c.lag_count.result c.map.ensures.source c.map.ensures.closure (omega arith) word_limit h (λ x v q k. search rules) c.sum.result
    c.sum.ensures.ran (c.sum.ensures.runs tt) in
    record { value = total.0 ∙ ap (sum_to h) c.lag_count.ensures; low = total.1 }
