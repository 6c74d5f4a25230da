use Rattle.flow.specs.Nets.{word}
use Rattle.max_flow.proofs.Growth.{grown_more, idle_more}
use Rattle.max_flow.proofs.nodes.Nodes.sweep.Goals as goal

pub loop-k-preserved : goal.loop-k-preserved
loop-k-preserved g c =
    let a = c.loop-k.invariant in
    let b = c.find_over-waiting.ensures in (
      grown_more a.0 b.grown,
      idle_more (word c.args.flow.now) c.args.self.now c.loop-k.self c.find_over-waiting.new.self c.args.waiting
          c.loop-k.waiting c.find_over-waiting.result c.loop-k.k a.0 a.1 b.grown b.idle,
    )
