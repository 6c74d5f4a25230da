use Rattle.std.proofs.Common.{arith}
use Rattle.max_flow.proofs.Keeping.{kept_more, raised_kept, value_low}
use Rattle.max_flow.proofs.raising.Raising.climb.Goals as goal

pub invariant_of-self : goal.invariant_of-self
invariant_of-self g c =
    let x = c.loop-flow.self in
    record { raised = raised_kept x.flow.now x.value c.search.ensures.kept x.raised }

pub invariant_of-self-in-loop-flow : goal.invariant_of-self-in-loop-flow
invariant_of-self-in-loop-flow g c =
    let x = c.loop-flow.self in
    record {
      raised = raised_kept x.flow.now x.value (kept_more c.search.ensures.kept c.lay_way.ensures.kept) x.raised;
    }

pub loop-flow-smaller : goal.loop-flow-smaller
loop-flow-smaller g c =
    let x = c.deepen.new.self in
    omega (arith, value_low x.nodes.now x.flow.now x.value x.raised, c.deepen.ensures.more, c.augment.ensures.more)
