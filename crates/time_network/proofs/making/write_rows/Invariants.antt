use Rattle.std.proofs.Common.{◌≡◌, length}
use Rattle.time_network.specs.Making.{Priced}
use Rattle.time_network.proofs.making.write_rows.Given as goal

abbrev pub invariant-loop-a : goal.invariant-loop-a
invariant-loop-a g l = Priced (g.P.Project.meaning l.project) l.a l.capacities × (length l.capacities ≡ 8192)
