use Rattle.std.proofs.Common.{◌≡◌, ℕ, ◌<◌, get_or, pos}
use Rattle.model.specs.Starts.{floor}
use Rattle.certificate.proofs.words.Floors.of.Given as goal

abbrev pub invariant-loop-a : goal.invariant-loop-a
invariant-loop-a g l = (k : ℕ) → k < l.a → get_or l.floor-items k (pos 0) ≡ floor (g.P.Project.meaning l.project) k
