use Rattle.std.proofs.Common.{ℕ, ap, arith}
use Rattle.certificate.specs.Sums.{first_words}
use Rattle.certificate.proofs.Points.{inflow_source}
use Rattle.certificate.proofs.nodes.Rows.source_gets.Goals as goal

pub returns-clause-value : goal.returns-clause-value
returns-clause-value g c =
    let m = g.P.Project.meaning c.args.self.now.project.now in
    let f = c.args.self.now.flow.now in
    let back = ap (λ (n : ℕ). first_words f m.horizon n n) c.count-activities.ensures in
    let some = (g.met.P.Project.bounded c.args.self.now.project.now).h_low in
    omega (arith, inflow_source m f (omega arith))
