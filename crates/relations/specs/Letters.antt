-- The letters of a relation: S and F for an end, L and M for the sense. Another letter is out of range.
use Rattle.std.specs.Prelude.{ℕ, cond, Ok, Err, Result, ◌==◌}
use Rattle.model.specs.declared.refusal.Fault.TheVariants.{Range}
use Rattle.model.specs.declared.refusal.Refusal.{Refusal}
use Rattle.model.specs.Refusals.{refuse}
use Rattle.relations.specs.declared.relation.End.{End}
use Rattle.relations.specs.declared.relation.End.TheVariants.{Start, Finish}
use Rattle.relations.specs.declared.relation.Sense.{Sense}
use Rattle.relations.specs.declared.relation.Sense.TheVariants.{Least, Greatest}

-- 83 is S, 70 is F
abbrev pub end_answer : ℕ → ℕ → Result End Refusal
end_answer letter place = cond (letter == 83) (Ok Start) (cond (letter == 70) (Ok Finish) (Err (refuse Range place)))

-- 76 is L, 77 is M
abbrev pub sense_answer : ℕ → ℕ → Result Sense Refusal
sense_answer letter place = cond (letter == 76) (Ok Least) (cond (letter == 77) (Ok Greatest) (Err (refuse Range place)))
