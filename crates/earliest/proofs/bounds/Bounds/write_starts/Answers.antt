use Rattle.std.proofs.Common.{arith}
use Rattle.earliest.specs.Nodes.{node_of}
use Rattle.earliest.specs.Pushing.{bound, latest_of}
use Rattle.earliest.proofs.Fronts.{front_more}
use Rattle.earliest.proofs.Trails.{drop_put}
use Rattle.earliest.proofs.bounds.Bounds.write_starts.Goals as goal

pub loop-activity-preserved : goal.loop-activity-preserved
loop-activity-preserved g c =
    let x = c.args.self.now in
    let l = c.loop-activity in
    rw c.from.ensures (
      front_more (bound (node_of x.nodes.now) (latest_of x.latest)) l.starts l.activity c.bound.result.0 (omega arith) l.invariant.0 c.bound.ensures.value,
      drop_put l.starts c.args.starts.now l.activity c.bound.result.0 l.invariant.1,
    )
