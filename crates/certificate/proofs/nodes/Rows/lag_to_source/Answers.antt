use Rattle.std.proofs.Common.{ap, ◌∙◌, arith, rules}
use Rattle.flow.specs.Sums.{sum_to}
use Rattle.certificate.specs.Sums.{word_to_source}
use Rattle.certificate.specs.Faults.{word_limit}
use Rattle.certificate.proofs.Totals.{sum_fits, sum_is}
use Rattle.certificate.proofs.nodes.Rows.lag_to_source.Goals as goal

pub sum-requires-clause-fits : goal.sum-requires-clause-fits
sum-requires-clause-fits g c =
    let few = (g.met.P.Project.bounded c.args.self.now.project.now).h_high in
    sum_fits c.horizon.result c.map.ensures.source c.map.ensures.closure (omega arith) word_limit (omega arith) (λ x v q k. search rules)

pub returns : goal.returns
returns g c =
    let few = (g.met.P.Project.bounded c.args.self.now.project.now).h_high in
    let h = word_to_source (g.P.Project.meaning c.args.self.now.project.now) c.args.self.now.flow.now c.args.number in
    let total =
    sum_is c.horizon.result c.map.ensures.source c.map.ensures.closure (omega arith) word_limit h (λ x v q k. search rules) c.sum.result
    c.sum.ensures.ran (c.sum.ensures.runs tt) in
    record { value = total.0 ∙ ap (sum_to h) c.horizon.ensures; low = total.1 }
