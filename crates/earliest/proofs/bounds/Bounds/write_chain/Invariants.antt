use Rattle.earliest.specs.Nodes.{node_of}
use Rattle.earliest.proofs.Trails.{Walk}
use Rattle.earliest.proofs.bounds.Bounds.write_chain.Given as goal

abbrev pub invariant-loop-node : goal.invariant-loop-node
invariant-loop-node g l = Walk (g.P.Project.meaning l.self.project.now) (node_of l.self.nodes.now) l.self.count l.fn.chain l.chain l.length l.node

abbrev pub decreases-loop-node : goal.decreases-loop-node
decreases-loop-node g l = l.node.parent
