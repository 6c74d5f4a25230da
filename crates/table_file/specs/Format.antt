-- The table file, field by field, from front to back. A field is one number or one letter.
--
--   place               bytes     field
--   0                   1         the kind letter, T
--   1                   1         the horizon H, 1 to 128
--   2                   1         the number n of activities, 1 to 64
--   3                   n × 1     their durations, 0 to 128
--   3 + n               2         the number of prices, n·H
--   5 + n               n·H × 4   the prices, activity by activity and slot by slot
--   5 + n + 4·n·H       2         the number q of relations, 0 to 256
--   7 + n + 4·n·H       q × 7     the relations: three letters, from, to, and two bytes of interval
--   7 + n + 4·n·H + 7·q           the end
use Rattle.std.specs.Prelude.{ℕ, zero, suc, ◌+◌, ◌*◌, Bool, true, false, cond, ◌&&◌, ◌||◌, List, length, ℤ, pos, negsuc, Some, None, Ok, Err, Option, Result, ◌==◌, int_le, nat_le, nat_lt}
use Rattle.model.specs.declared.refusal.Fault.{Fault}
use Rattle.model.specs.declared.refusal.Fault.TheVariants.{Kind, Horizon, Short, Count, Range, Trailing}
use Rattle.model.specs.declared.refusal.Refusal.{Refusal}
use Rattle.model.specs.Refusals.{refuse}
use Rattle.relations.specs.declared.relation.Relation.{Relation}
use Rattle.relations.specs.declared.relation.End.{End}
use Rattle.relations.specs.declared.relation.End.TheVariants.{Start, Finish}
use Rattle.relations.specs.declared.relation.Sense.{Sense}
use Rattle.relations.specs.declared.relation.Sense.TheVariants.{Least, Greatest}
use Rattle.relations.specs.Lags.{gap_of, gap_fits}
use Rattle.table_file.specs.declared.shape.Shape.{Shape}
use Rattle.table_file.specs.Numbers.{byte, two_bytes, four_bytes, signed}

-- What stands in the file.
abbrev pub horizon_in : List ℕ → ℕ
horizon_in file = byte file 1

abbrev pub activities_in : List ℕ → ℕ
activities_in file = byte file 2

abbrev pub duration_in : List ℕ → ℕ → ℕ
duration_in file a = byte file (3 + a)

abbrev pub cells_in : List ℕ → ℕ
cells_in file = activities_in file * horizon_in file

abbrev pub price_count_place : List ℕ → ℕ
price_count_place file = 3 + activities_in file

abbrev pub prices_place : List ℕ → ℕ
prices_place file = 5 + activities_in file

abbrev pub price_in : List ℕ → ℕ → ℤ
price_in file i = signed 32 (four_bytes file (prices_place file + 4 * i))

abbrev pub relation_count_place : List ℕ → ℕ
relation_count_place file = prices_place file + 4 * cells_in file

abbrev pub relations_in : List ℕ → ℕ
relations_in file = two_bytes file (relation_count_place file)

abbrev pub relations_place : List ℕ → ℕ
relations_place file = 2 + relation_count_place file

abbrev pub end_place : List ℕ → ℕ
end_place file = relations_place file + 7 * relations_in file

-- 83 is S, 70 is F, 76 is L, 77 is M
abbrev pub is_end : ℕ → Bool
is_end letter = letter == 83 || letter == 70

abbrev pub is_sense : ℕ → Bool
is_sense letter = letter == 76 || letter == 77

abbrev pub end_named : ℕ → End
end_named letter = cond (letter == 83) Start Finish

abbrev pub sense_named : ℕ → Sense
sense_named letter = cond (letter == 76) Least Greatest

-- the relation whose record begins at a place
abbrev pub relation_at : List ℕ → ℕ → Relation
relation_at file at = record {
  from_end = end_named (byte file at);
  to_end = end_named (byte file (at + 1));
  sense = sense_named (byte file (at + 2));
  from = byte file (at + 3);
  to = byte file (at + 4);
  interval = signed 16 (two_bytes file (at + 5));
}

-- the gap between the starts that this relation asks for
abbrev pub gap_at : List ℕ → ℕ → ℤ
gap_at file at = gap_of (relation_at file at) (duration_in file (byte file (at + 3))) (duration_in file (byte file (at + 4)))

-- What is wrong with it: the first fault counts.
abbrev pub or_else : Option Refusal → Option Refusal → Option Refusal
or_else None later = later
or_else (Some e) later = Some e

-- the first fault of k fields or records, in their order
abbrev pub each : ℕ → (ℕ → Option Refusal) → Option Refusal
each zero f = None
each (suc k) f = or_else (each k f) (f k)

-- a field of so many bytes: it runs past the end, or it is not in range
abbrev pub field : List ℕ → ℕ → ℕ → Bool → Fault → Option Refusal
field file at bytes in_range fault =
    cond (nat_lt (length file) (at + bytes)) (Some (refuse Short (length file))) (cond in_range None (Some (refuse fault at)))

abbrev pub between : ℕ → ℕ → ℕ → Bool
between low high x = nat_le low x && nat_le x high

-- −2,147,483,648 is a closed slot, and no other number outside ±1,000,000,000 is a price
abbrev pub is_closed : ℤ → Bool
is_closed (pos p) = false
is_closed (negsuc p) = p == 2147483647

abbrev pub price_ok : ℤ → Bool
price_ok p = is_closed p || (int_le (negsuc 999999999) p && int_le p (pos 1000000000))

abbrev pub kind_fault : List ℕ → Option Refusal
kind_fault file = field file 0 1 (byte file 0 == 84) Kind

abbrev pub horizon_fault : List ℕ → Option Refusal
horizon_fault file = field file 1 1 (between 1 128 (horizon_in file)) Horizon

abbrev pub activities_fault : List ℕ → Option Refusal
activities_fault file = field file 2 1 (between 1 64 (activities_in file)) Count

abbrev pub head_fault : List ℕ → Option Refusal
head_fault file = or_else (kind_fault file) (or_else (horizon_fault file) (activities_fault file))

abbrev pub duration_fault : List ℕ → ℕ → Option Refusal
duration_fault file a = field file (3 + a) 1 (nat_le (duration_in file a) 128) Range

abbrev pub price_count_fault : List ℕ → Option Refusal
price_count_fault file =
    field file (price_count_place file) 2 (two_bytes file (price_count_place file) == cells_in file) Count

abbrev pub price_fault : List ℕ → ℕ → Option Refusal
price_fault file i = field file (prices_place file + 4 * i) 4 (price_ok (price_in file i)) Range

abbrev pub relation_count_fault : List ℕ → Option Refusal
relation_count_fault file = field file (relation_count_place file) 2 (nat_le (relations_in file) 256) Count

abbrev pub end_letter_fault : List ℕ → ℕ → Option Refusal
end_letter_fault file at = field file at 1 (is_end (byte file at)) Range

abbrev pub sense_letter_fault : List ℕ → ℕ → Option Refusal
sense_letter_fault file at = field file at 1 (is_sense (byte file at)) Range

abbrev pub activity_fault : List ℕ → ℕ → Option Refusal
activity_fault file at = field file at 1 (nat_lt (byte file at) (activities_in file)) Range

-- the interval has no range of its own: the gap that it gives has
abbrev pub interval_fault : List ℕ → ℕ → Option Refusal
interval_fault file at = field file (at + 5) 2 (gap_fits (gap_at file at)) Range

-- a record up to its interval
abbrev pub ends_fault : List ℕ → ℕ → Option Refusal
ends_fault file at =
    or_else (end_letter_fault file at)
    (or_else (end_letter_fault file (at + 1))
    (or_else (sense_letter_fault file (at + 2))
    (or_else (activity_fault file (at + 3))
    (activity_fault file (at + 4)))))

-- the record of a relation
abbrev pub relation_fault : List ℕ → ℕ → Option Refusal
relation_fault file at = or_else (ends_fault file at) (interval_fault file at)

abbrev pub record_place : List ℕ → ℕ → ℕ
record_place file k = relations_place file + 7 * k

abbrev pub durations_fault : List ℕ → Option Refusal
durations_fault file = each (activities_in file) (duration_fault file)

abbrev pub prices_fault : List ℕ → Option Refusal
prices_fault file = each (cells_in file) (price_fault file)

abbrev pub relations_fault : List ℕ → Option Refusal
relations_fault file = each (relations_in file) (λ k. relation_fault file (record_place file k))

-- nothing follows the last section
abbrev pub end_fault : List ℕ → Option Refusal
end_fault file = cond (nat_lt (end_place file) (length file)) (Some (refuse Trailing (end_place file))) None

-- the first fault of a file
abbrev pub file_fault : List ℕ → Option Refusal
file_fault file =
    or_else (head_fault file)
    (or_else (durations_fault file)
    (or_else (price_count_fault file)
    (or_else (prices_fault file)
    (or_else (relation_count_fault file)
    (or_else (relations_fault file)
    (end_fault file))))))

abbrev pub is_none : Option Refusal → Bool
is_none None = true
is_none (Some e) = false

abbrev pub faultless : List ℕ → Bool
faultless file = is_none (file_fault file)

-- What opening answers: the first fault, or the shape.
abbrev pub shape_of : List ℕ → Shape
shape_of file = record { horizon = horizon_in file; activities = activities_in file; relations = relations_in file }

-- a value, unless there is a fault
abbrev pub unless : {A : Type 0} → Option Refusal → A → Result A Refusal
unless None value = Ok value
unless (Some e) value = Err e

abbrev pub opening : List ℕ → Result Shape Refusal
opening file = unless (file_fault file) (shape_of file)
