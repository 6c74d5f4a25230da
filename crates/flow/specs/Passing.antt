-- How an arc is passed: along it over capacity left, or back over its flow.
use Rattle.std.specs.Prelude.{ℕ, Bool, true, Some, None, Option, nat_lt}
use Rattle.flow.specs.declared.visit.Way.{Way}
use Rattle.flow.specs.declared.visit.Way.TheVariants.{Along, Back}
use Rattle.flow.specs.Nets.{Net, room}

abbrev pub turned_way : Way → Way
turned_way Along = Back
turned_way Back = Along

-- the one thing or the other
abbrev pub by_way : {T : Type 0} → Way → T → T → T
by_way Along x y = x
by_way Back x y = y

-- the end at which an arc is passed first, and the end that it leads to
abbrev pub near : Net → Way → ℕ → ℕ
near n Along k = n.tail k
near n Back k = n.head k

abbrev pub far : Net → Way → ℕ → ℕ
far n Along k = n.head k
far n Back k = n.tail k

-- whether a cursor lies before the end, if there is one
abbrev pub is_before : ℕ → Option ℕ → Bool
is_before cursor None = true
is_before cursor (Some end) = nat_lt cursor end

-- whether arc k can be passed
abbrev pub passes : Net → (ℕ → ℕ) → Way → ℕ → Bool
passes n f Along k = room n f k
passes n f Back k = nat_lt 0 (f k)
