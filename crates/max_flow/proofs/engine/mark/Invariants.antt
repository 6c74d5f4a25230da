use Rattle.std.proofs.Common.{◌≡◌, ℕ, ◌<◌, ◌≤◌, min, get_or}
use Rattle.max_flow.proofs.engine.mark.Given as goal

abbrev pub invariant-loop-rank : goal.invariant-loop-rank
invariant-loop-rank l =
    ((j : ℕ) → j < l.rank-index → get_or l.ranks j 0 ≡ min (get_or l.initial.ranks j 0) 1)
    × ((j : ℕ) → l.rank-index ≤ j → get_or l.ranks j 0 ≡ get_or l.initial.ranks j 0)
