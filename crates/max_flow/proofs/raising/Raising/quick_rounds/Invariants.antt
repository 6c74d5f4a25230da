use Rattle.max_flow.specs.Layout.{KeptAll}
use Rattle.max_flow.proofs.raising.Raising.quick_rounds.Given as goal

abbrev pub invariant-loop : goal.invariant-loop
invariant-loop g l = KeptAll l.fn.self l.self
