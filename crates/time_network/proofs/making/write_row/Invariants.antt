use Rattle.std.proofs.Common.{◌≡◌, length}
use Rattle.time_network.specs.Making.{Row}
use Rattle.time_network.proofs.making.write_row.Given as goal

abbrev pub invariant-loop-t : goal.invariant-loop-t
invariant-loop-t g l =
    Row (g.P.Project.meaning l.project) l.activity l.t l.initial.capacities l.capacities × (length l.capacities ≡ 8192)
