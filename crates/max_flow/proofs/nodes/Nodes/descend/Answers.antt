use Rattle.std.proofs.Common.{refl}
use Rattle.max_flow.proofs.Laying.{same_ways, way_down}
use Rattle.max_flow.proofs.nodes.Nodes.descend.Goals as goal
use Rattle.max_flow.proofs.nodes.Nodes.descend.Goals.{in-Along, in-Back}

pub returns-clause-tried : goal.returns-clause-tried
returns-clause-tried g c =
    let h = c.in_ok-hit.ensures in
    way_down c.args.flow.now c.args.self.now c.match-way.self c.in_ok-hit.hit.node c.args.node c.in_ok-hit.hit.arc
    (elim c.match-way.branch [
      | in-Along w ↦ same_ways w.self-is refl refl refl
      | in-Back w ↦ same_ways w.self-is refl refl refl
    ])
    h.0 c.requires.inside h.1 c.requires.way
