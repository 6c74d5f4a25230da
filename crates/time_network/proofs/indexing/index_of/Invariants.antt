use Rattle.std.proofs.Common.{◌≡◌, length}
use Rattle.time_network.specs.Held.{Firsts, Nexts}
use Rattle.time_network.proofs.indexing.index_of.Given as goal

-- the lags from k on are in the index
abbrev pub invariant-loop-k : goal.invariant-loop-k
invariant-loop-k l =
    Firsts l.end l.lags l.count l.k l.first
    × Nexts l.end l.lags l.count l.k l.next
    × (length l.first ≡ 256)
    × (length l.next ≡ 256)
