-- The lag that a relation gives between activities of durations d (from) and e (to).
use Rattle.std.specs.Prelude.{ℕ, Bool, ◌&&◌, ℤ, pos, negsuc, ◌+ℤ◌, ◌-ℤ◌, int_le}
use Rattle.model.specs.declared.lag.Lag.{Lag}
use Rattle.relations.specs.declared.relation.End.{End}
use Rattle.relations.specs.declared.relation.End.TheVariants.{Start, Finish}
use Rattle.relations.specs.declared.relation.Sense.{Sense}
use Rattle.relations.specs.declared.relation.Sense.TheVariants.{Least, Greatest}
use Rattle.relations.specs.declared.relation.Relation.{Relation}

-- how far an end lies behind the start
abbrev pub reach : End → ℕ → ℕ
reach Start d = 0
reach Finish d = d

-- v + a − b for a least interval, b − a − v for a greatest
abbrev pub gap_by : Sense → ℤ → ℤ → ℤ → ℤ
gap_by Least v a b = (v +ℤ a) -ℤ b
gap_by Greatest v a b = (b -ℤ a) -ℤ v

abbrev pub gap_of : Relation → ℕ → ℕ → ℤ
gap_of r d e = gap_by r.sense r.interval (pos (reach r.from_end d)) (pos (reach r.to_end e))

-- −256 to 256
abbrev pub gap_fits : ℤ → Bool
gap_fits g = int_le (negsuc 255) g && int_le g (pos 256)

-- a greatest interval turns the lag round
abbrev pub turned_by : Sense → ℕ → ℕ → ℤ → Lag
turned_by Least f t g = record { from = f; to = t; gap = g }
turned_by Greatest f t g = record { from = t; to = f; gap = g }

abbrev pub lag_of : Relation → ℕ → ℕ → Lag
lag_of r d e = turned_by r.sense r.from r.to (gap_of r d e)
