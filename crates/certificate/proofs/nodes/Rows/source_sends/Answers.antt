use Rattle.std.proofs.Common.{arith}
use Rattle.certificate.proofs.Points.{source_words}
use Rattle.certificate.proofs.nodes.Rows.source_sends.Goals as goal

pub returns : goal.returns
returns g c =
    let m = g.P.Project.meaning c.args.self.now.project.now in
    let some = (g.met.P.Project.bounded c.args.self.now.project.now).h_low in
    let all = source_words m c.args.self.now.flow.now (omega arith) c.count-activities.result c.lag_count.result c.count-activities.ensures c.lag_count.ensures in
    omega arith
