-- Small files, byte by byte.
use Rattle.std.specs.Prelude.{ℕ, List, [], ◌∷◌}

-- horizon 4; activities of durations 2 and 1 at prices 5 3 4 6 and 9 7 2 6; the second starts once the first is finished
abbrev pub two_in_turn : List ℕ
two_in_turn = 84 ∷ 4 ∷ 2 ∷ 2 ∷ 1 ∷ 8 ∷ 0 ∷ 5 ∷ 0 ∷ 0 ∷ 0 ∷ 3 ∷ 0 ∷ 0 ∷ 0 ∷ 4 ∷ 0 ∷ 0 ∷ 0 ∷ 6 ∷ 0 ∷ 0 ∷ 0 ∷ 9 ∷ 0 ∷ 0 ∷ 0 ∷ 7 ∷ 0 ∷ 0 ∷ 0 ∷ 2 ∷ 0 ∷ 0 ∷ 0 ∷ 6 ∷ 0 ∷ 0 ∷ 0 ∷ 1 ∷ 0 ∷ 70 ∷ 83 ∷ 76 ∷ 0 ∷ 1 ∷ 0 ∷ 0 ∷ []

-- and no later than it is finished
abbrev pub two_in_a_row : List ℕ
two_in_a_row = 84 ∷ 4 ∷ 2 ∷ 2 ∷ 1 ∷ 8 ∷ 0 ∷ 5 ∷ 0 ∷ 0 ∷ 0 ∷ 3 ∷ 0 ∷ 0 ∷ 0 ∷ 4 ∷ 0 ∷ 0 ∷ 0 ∷ 6 ∷ 0 ∷ 0 ∷ 0 ∷ 9 ∷ 0 ∷ 0 ∷ 0 ∷ 7 ∷ 0 ∷ 0 ∷ 0 ∷ 2 ∷ 0 ∷ 0 ∷ 0 ∷ 6 ∷ 0 ∷ 0 ∷ 0 ∷ 2 ∷ 0 ∷ 70 ∷ 83 ∷ 76 ∷ 0 ∷ 1 ∷ 0 ∷ 0 ∷ 70 ∷ 83 ∷ 77 ∷ 0 ∷ 1 ∷ 0 ∷ 0 ∷ []

-- horizon 3; one activity of duration 0 at the price 4 everywhere
abbrev pub one_at_will : List ℕ
one_at_will = 84 ∷ 3 ∷ 1 ∷ 0 ∷ 3 ∷ 0 ∷ 4 ∷ 0 ∷ 0 ∷ 0 ∷ 4 ∷ 0 ∷ 0 ∷ 0 ∷ 4 ∷ 0 ∷ 0 ∷ 0 ∷ 0 ∷ 0 ∷ []

-- horizon 2; one activity that is to start one slot after itself
abbrev pub after_itself : List ℕ
after_itself = 84 ∷ 2 ∷ 1 ∷ 0 ∷ 2 ∷ 0 ∷ 0 ∷ 0 ∷ 0 ∷ 0 ∷ 0 ∷ 0 ∷ 0 ∷ 0 ∷ 1 ∷ 0 ∷ 83 ∷ 83 ∷ 76 ∷ 0 ∷ 0 ∷ 1 ∷ 0 ∷ []
