use Rattle.std.proofs.Common.{sym, ap, ◌∙◌, arith}
use Rattle.flow.specs.Nets.{word}
use Rattle.max_flow.proofs.Passing.{asked_by, step_opens}
use Rattle.max_flow.proofs.Growth.{grown_find, find_space}
use Rattle.max_flow.proofs.nodes.Nodes.find_on.Goals as goal

pub find-waiting-requires-clause-space : goal.find-waiting-requires-clause-space
find-waiting-requires-clause-space g c =
    let i = c.loop-step.invariant in
    let same = ap (λ y. (g.N.Network.net y.now).nodes) (i.2.kept.same_network ∙ sym c.requires.visits) in
    let x = asked_by c.loop-step.step-iterator.cursor c.in-Some.step i.0 i.1 c.in-Some.ensures.steps.0 in
    find_space (word c.args.flow.now) c.loop-step.self c.loop-step.waiting c.in-Some.step.node i.2.searching
    (omega (arith, x.1)) c.if-self-step-eq0.true

pub loop-step-preserved-then-passes : goal.loop-step-preserved-then-passes
loop-step-preserved-then-passes g c =
    let i = c.loop-step.invariant in
    let steps = c.in-Some.ensures.steps in
    let visit = c.args.visit.now in
    let n = g.N.Network.net visit.network.now in
    let same = ap (λ y. g.N.Network.net y.now) c.requires.visits in
    let nodes = ap (λ m. m.nodes) same in
    let step = c.in-Some.step in
    let x = asked_by c.loop-step.step-iterator.cursor c.in-Some.step i.0 i.1 steps.0 in (
      ap (λ y. y.now) steps.1 ∙ i.0,
      steps.2 ∙ i.1,
      grown_find n (word c.args.flow.now) c.args.self.now c.loop-step.self c.find-waiting.new.self c.args.waiting
          c.loop-step.waiting c.find-waiting.result visit.node step.node step.arc
          same i.2 visit.inside c.requires.waits
          (i.2.ranked visit.node (omega (arith, visit.inside)) c.requires.found) x.1
          c.if-self-step-eq0.true
          (step_opens n (word c.args.flow.now) c.args.way visit.node c.loop-step.step-iterator.cursor step x.0
          (c.if-passes.ensures x.0.exists))
          c.find-waiting.ensures,
    )
