use Rattle.std.proofs.Common.{ap, ◌∙◌}
use Rattle.flow.specs.Nets.{word}
use Rattle.certificate.proofs.Points.{lag_place}
use Rattle.certificate.proofs.nodes.Rows.lag_word.Goals as goal

pub returns-clause-value : goal.returns-clause-value
returns-clause-value g c =
    let m = g.P.Project.meaning c.args.self.now.project.now in
    c.row_word.ensures.value
    ∙ ap (word c.args.self.now.flow.now) (lag_place m c.count.result c.args.number c.args.slot c.count.ensures)
