use Rattle.flow.specs.Nets.{word}
use Rattle.max_flow.specs.Stages.{Grown, Idle}
use Rattle.max_flow.proofs.nodes.Nodes.sweep.Given as goal

abbrev pub invariant-loop-k : goal.invariant-loop-k
invariant-loop-k g l =
    Grown (word l.flow) l.initial.self l.self l.initial.waiting l.waiting
    × Idle (word l.flow) l.self l.initial.waiting l.waiting l.k
