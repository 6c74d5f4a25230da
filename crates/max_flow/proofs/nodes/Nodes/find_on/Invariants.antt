use Rattle.std.proofs.Common.{◌≡◌}
use Rattle.flow.specs.Nets.{word}
use Rattle.max_flow.specs.Stages.{Grown}
use Rattle.max_flow.proofs.nodes.Nodes.find_on.Given as goal

abbrev pub invariant-loop-step : goal.invariant-loop-step
invariant-loop-step g l =
    (l.step-iterator.visit.now ≡ l.visit) × (l.step-iterator.way ≡ l.way)
    × Grown (word l.flow) l.initial.self l.self l.initial.waiting l.waiting
