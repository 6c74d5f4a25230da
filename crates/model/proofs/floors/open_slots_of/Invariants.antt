use Rattle.std.proofs.Common.{◌≡◌}
use Rattle.model.specs.Meaning.{price_of}
use Rattle.model.specs.Openings.{count_open}
use Rattle.model.proofs.floors.open_slots_of.Given as goal

abbrev pub invariant-loop-t : goal.invariant-loop-t
invariant-loop-t g l = l.count ≡ count_open l.t (price_of (g.P.Project.meaning l.project) l.activity)
