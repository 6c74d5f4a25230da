use Rattle.std.proofs.Common.{◌≡◌, ◌+◌, None}
use Rattle.certificate.specs.Faults.{each, node_fault}
use Rattle.certificate.proofs.nodes.Rows.check_nodes.Given as goal

abbrev pub invariant-loop-i : goal.invariant-loop-i
invariant-loop-i g l = each l.i (λ i. node_fault (g.P.Project.meaning l.self.project.now) l.self.flow.now (2 + i)) ≡ None
