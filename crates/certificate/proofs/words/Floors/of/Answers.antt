use Rattle.std.proofs.Common.{◌≡◌, ℤ, pos, length, ◌∙◌, arith, length-take}
use Rattle.std.proofs.lemmas.List.{length-append, get_or_append_left}
use Rattle.certificate.proofs.words.Floors.of.Goals as goal

pub invariant_of-result : goal.invariant_of-result
invariant_of-result g c =
    let m = g.P.Project.meaning c.args.project.now in
    let few = (g.met.P.Project.bounded c.args.project.now).n_high in
    let items = c.loop-a.floor-items in
    let long : length items ≡ m.n = omega (arith, length-take {A = ℤ}) in
    record {
      floored = record {
        room = omega (arith, length-append {A = ℤ});
        each_floor = λ a l. get_or_append_left items _ (pos 0) a (omega arith) ∙ c.loop-a.invariant a (omega arith);
      };
    }
