use Rattle.std.proofs.Common.{ap, arith, length-set}
use Rattle.earliest.specs.declared.nodes.Node.{Node}
use Rattle.earliest.proofs.Loops.{begun}
use Rattle.earliest.proofs.bounds.Bounds.new.Goals as goal

pub invariant_of-result : goal.invariant_of-result
invariant_of-result g c = record {
  room = simp length-set (omega arith);
  state = begun (g.P.Project.meaning c.args.project.now) c.args.nodes.now c.into.result (g.met.P.Project.bounded c.args.project.now) (omega arith) (ap (λ (v : Node). v.entry.slot.0) c.into.ensures);
}
