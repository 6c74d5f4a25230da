use Rattle.std.proofs.Common.{ℕ, ◌^◌, unwrap_or, ◌∙◌, arith, rules}
use Rattle.model.specs.Meaning.{price_of}
use Rattle.model.specs.Starts.{start, floor}
use Rattle.certificate.specs.Sums.{above_if_open}
use Rattle.certificate.proofs.Accepts.{costs_same}
use Rattle.certificate.proofs.Totals.{sum_fits, sum_is}
use Rattle.certificate.proofs.words.Floors.cost_above.Goals as goal

pub sum-requires-clause-fits : goal.sum-requires-clause-fits
sum-requires-clause-fits g c =
    let few = (g.met.P.Project.bounded c.args.self.now.project.now).n_high in
    sum_fits c.count.result c.map.ensures.source c.map.ensures.closure (omega arith) (2 ^ 32) (omega arith) (λ x v q k. search rules)

pub returns : goal.returns
returns g c =
    let few = (g.met.P.Project.bounded c.args.self.now.project.now).n_high in
    let m = g.P.Project.meaning c.args.self.now.project.now in
    let s = c.args.starts.now in
    let h : ℕ → ℕ = λ a. unwrap_or (above_if_open (floor m a) (price_of m a (start s a))) 0 in
    let total =
    sum_is c.count.result c.map.ensures.source c.map.ensures.closure (omega arith) (2 ^ 32) h (λ x v q k. search rules) c.sum.result
    c.sum.ensures.ran (c.sum.ensures.runs tt) in
    record { value = total.0 ∙ costs_same m s c.requires c.count.result c.count.ensures; low = total.1 }
