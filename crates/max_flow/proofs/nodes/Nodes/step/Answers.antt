use Rattle.max_flow.proofs.Laying.{all_same, way_same}
use Rattle.max_flow.proofs.nodes.Nodes.step.Goals as goal
use Rattle.max_flow.proofs.nodes.Nodes.step.Goals.{then-self-node-eq0+in_default, else-self-node-eq0}

pub descend-requires-2-clause-way : goal.descend-requires-2-clause-way
descend-requires-2-clause-way g c =
    elim c.if-self-node-eq0.branch [
      | then-self-node-eq0+in_default w ↦ way_same c.args.flow.now c.args.node (all_same w.self-is) w.in_default.ensures.tried
      | else-self-node-eq0 w ↦ way_same c.args.flow.now c.args.node (all_same w.self-is) c.requires.way
    ]
