-- What a relation says of two starts, in its own words.
use Rattle.std.specs.Prelude.{ℕ, ◌+◌, List, ℤ, pos, ◌+ℤ◌, ◌≤ℤ◌, Decides}
use Rattle.model.specs.Starts.{start, holds}
use Rattle.relations.specs.declared.relation.End.{End}
use Rattle.relations.specs.declared.relation.End.TheVariants.{Start, Finish}
use Rattle.relations.specs.declared.relation.Sense.{Sense}
use Rattle.relations.specs.declared.relation.Sense.TheVariants.{Least, Greatest}
use Rattle.relations.specs.declared.relation.Relation.{Relation}
use Rattle.relations.specs.Lags.{lag_of}

-- when an end comes, of an activity that starts at s and lasts d
abbrev pub moment : End → ℕ → ℕ → ℕ
moment Start s d = s
moment Finish s d = s + d

-- `later` lies at least, or at most, v after `earlier`
abbrev pub Apart : Sense → ℤ → ℕ → ℕ → Type 0
Apart Least v earlier later = (pos earlier +ℤ v) ≤ℤ pos later
Apart Greatest v earlier later = pos later ≤ℤ (pos earlier +ℤ v)

-- of starts s and t, durations d and e, of the from- and the to-activity
abbrev pub Says : Relation → ℕ → ℕ → ℕ → ℕ → Type 0
Says r d e s t = Apart r.sense r.interval (moment r.from_end s d) (moment r.to_end t e)

abbrev pub RelationIsItsLag : Type 0
RelationIsItsLag =
    (r : Relation) (d e : ℕ) (s : List ℕ) → Decides (holds (lag_of r d e) s) (Says r d e (start s r.from) (start s r.to))
