use Rattle.std.proofs.Common.{arith}
use Rattle.max_flow.proofs.Keeping.{value_low}
use Rattle.max_flow.proofs.raising.Raising.augment.Goals as goal

pub push-stop-requires-clause-fits : goal.push-stop-requires-clause-fits
push-stop-requires-clause-fits g c =
    let x = c.args.self.now in
    omega (arith, value_low x.nodes.now x.flow.now x.value x.raised, c.narrowest-amount.ensures.most)

pub overflow_add-self : goal.overflow_add-self
overflow_add-self g c =
    let x = c.args.self.now in
    omega (arith, value_low x.nodes.now x.flow.now x.value x.raised, c.narrowest-amount.ensures.most)
