use Rattle.std.proofs.Common.{◌≡◌, ◌-◌, ◌*◌, ◌<◌, ◌≤◌, subst, ◌∙◌, arith}
use Rattle.earliest.specs.Nodes.{node_of}
use Rattle.earliest.specs.Pushing.{closed_step, lag_step, latest_of}
use Rattle.earliest.proofs.Loops.{still_none, none_more}
use Rattle.earliest.proofs.Steps.{nodes_few}
use Rattle.earliest.proofs.bounds.Bounds.push.Goals as goal

pub loop-number-preserved : goal.loop-number-preserved
loop-number-preserved g c =
    let m = g.P.Project.meaning c.args.self.now.project.now in
    let x = c.loop-number.self in
    let y = c.take-in-loop-number.new.self in
    let i = c.loop-number.invariant in
    record {
      same = c.take-in-loop-number.ensures.same_project ∙ i.same;
      onward = omega (arith, i.onward, c.take-in-loop-number.ensures.taken.onward);
      all_open = still_none (λ ns ls a. closed_step m (node_of ns) (latest_of ls) a) m.n c.push.self.count x.count y.count x.nodes.now y.nodes.now x.latest y.latest _ _
          i.onward i.all_open c.take-in-loop-number.ensures.taken;
      all_hold = none_more (λ ns ls k. lag_step m (node_of ns) (latest_of ls) k) c.loop-number.number c.push.self.count x.count y.count x.nodes.now y.nodes.now x.latest y.latest _ _
          i.onward i.all_hold c.take-in-loop-number.ensures.taken
          (subst (λ p. c.lag_step.result ≡ lag_step (g.P.Project.meaning p) (node_of x.nodes.now) (latest_of x.latest) c.loop-number.number) i.same c.lag_step.ensures) c.in_default-take.is;
    }

pub push-smaller : goal.push-smaller
push-smaller g c =
    let m = g.P.Project.meaning c.args.self.now.project.now in
    let x = c.loop-number.self in
    let few = subst (λ p. x.count ≤ (g.P.Project.meaning p).n * ((g.P.Project.meaning p).horizon - 1)) c.loop-number.invariant.same
    (nodes_few (g.P.Project.meaning x.project.now) (node_of x.nodes.now) (latest_of x.latest) x.count x.state) in
    let less : m.n * (m.horizon - 1) - x.count < m.n * (m.horizon - 1) - c.push.self.count = omega (arith, few, c.loop-number.invariant.onward, c.if-self-before.false) in
    less
