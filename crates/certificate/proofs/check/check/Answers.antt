use Rattle.certificate.proofs.Accepts.{passes_exactly, passed_is_cheapest}
use Rattle.certificate.proofs.check.check.Goals as goal

pub returns : goal.returns
returns g c =
    let m = g.P.Project.meaning c.args.project.now in
    let b = g.met.P.Project.bounded c.args.project.now in
    let starts = c.args.starts.now in
    let flow = c.args.flow.now in
    let exactly = passes_exactly m b starts flow c.answer_of.result c.answer_of.ensures in
    record {
      answer = c.answer_of.ensures;
      passes = exactly;
      cheapest = passed_is_cheapest m b starts flow c.answer_of.result exactly;
    }
