use Rattle.std.proofs.Common.{◌-◌}
use Rattle.max_flow.specs.Layout.{KeptAll}
use Rattle.max_flow.proofs.raising.Raising.climb.Given as goal

abbrev pub invariant-loop-flow : goal.invariant-loop-flow
invariant-loop-flow g l = KeptAll l.fn.self l.self

abbrev pub decreases-loop-flow : goal.decreases-loop-flow
decreases-loop-flow g l = 100000000000000 - l.self.value
