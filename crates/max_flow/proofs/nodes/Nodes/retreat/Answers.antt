use Rattle.max_flow.proofs.Walks.{retreat_on}
use Rattle.max_flow.proofs.nodes.Nodes.retreat.Goals as goal

pub returns-clause-way : goal.returns-clause-way
returns-clause-way g c =
    (retreat_on c.args.self.now c.requires.passed c.link_from-link.ensures.link c.requires.inside c.requires.way).1
