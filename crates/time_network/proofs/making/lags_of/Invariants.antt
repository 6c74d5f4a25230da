use Rattle.std.proofs.Common.{◌≡◌, length}
use Rattle.time_network.specs.Making.{Copied}
use Rattle.time_network.proofs.making.lags_of.Given as goal

abbrev pub invariant-loop-k : goal.invariant-loop-k
invariant-loop-k g l = Copied (g.P.Project.meaning l.project) l.k l.lags × (length l.lags ≡ 256)
