use Rattle.std.proofs.Common.{◌+◌, ◌*◌, ap, ◌∙◌, arith, rules}
use Rattle.flow.specs.Nets.{word}
use Rattle.flow.proofs.Sums.{sum_to_same}
use Rattle.certificate.specs.Faults.{word_limit}
use Rattle.certificate.proofs.Totals.{sum_fits, sum_is}
use Rattle.certificate.proofs.nodes.Rows.first_words.Goals as goal

pub sum-requires-clause-fits : goal.sum-requires-clause-fits
sum-requires-clause-fits g c =
    let b = g.met.P.Project.bounded c.args.self.now.project.now in
    let n = b.n_high in
    let lags = b.lags_ok in
    sum_fits c.args.rows c.map.ensures.source c.map.ensures.closure (omega arith) word_limit (omega arith) (λ x v q k. search rules)

pub returns : goal.returns
returns g c =
    let m = g.P.Project.meaning c.args.self.now.project.now in
    let b = g.met.P.Project.bounded c.args.self.now.project.now in
    let n = b.n_high in
    let lags = b.lags_ok in
    let f = c.args.self.now.flow.now in
    let total =
    sum_is c.args.rows c.map.ensures.source c.map.ensures.closure (omega arith) word_limit (λ i. word f ((c.args.row + i) * m.horizon + 0)) (λ x v q k. search rules) c.sum.result
    c.sum.ensures.ran (c.sum.ensures.runs tt) in
    record { value = total.0 ∙ sum_to_same _ _ c.args.rows (λ i l. ap (word f) (omega arith)); low = total.1 }
