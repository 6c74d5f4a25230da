-- The fields of a record once they were read, in a file and at a place that are known to be these: none has
-- a fault, and each holds what stands there. Then the test of the gap.
use Rattle.std.proofs.Common.{◌≡◌, ℕ, ◌+◌, false, cond, ltb, List, length, ℤ, Some, None, Ok, Option, Result, slice_range, refl, ap, ◌∙◌, w16, arith}
use Rattle.std.specs.Int.{cast_signed, from_le_bytes}
use Rattle.std.proofs.lemmas.Grind.{common_steps}
use Rattle.std.proofs.lemmas.Bool.Decides.{nat_tests}
use Rattle.model.specs.declared.refusal.Fault.TheVariants.{Range}
use Rattle.model.specs.declared.refusal.Refusal.{Refusal}
use Rattle.model.specs.Refusals.{refuse}
use Rattle.relations.specs.declared.relation.End.{End}
use Rattle.relations.specs.declared.relation.Sense.{Sense}
use Rattle.relations.specs.declared.relation.Relation.{Relation}
use Rattle.relations.specs.Letters.{end_answer, sense_answer}
use Rattle.relations.specs.Lags.{gap_of, gap_fits}
use Rattle.table_file.specs.Numbers.{byte, two_bytes, signed}
use Rattle.table_file.specs.Format.{unless, or_else, duration_in, end_named, sense_named, end_letter_fault, sense_letter_fault, activity_fault, ends_fault, interval_fault, relation_fault, relation_at, gap_at}
use Rattle.table_file.specs.Reading.{there, bytes_read}
use Rattle.table_file.proofs.Chains.{clear, value}
use Rattle.table_file.proofs.Single.{read_there, field_there}

-- a field that passed, and what it was read as
pub record Passed {A : Type 0} (f : Option Refusal) (v x : A) : Type 0 where
  pub clean : f ≡ None
  pub same : x ≡ v

pub part_read : {A : Type 0} (read : List ℕ → ℕ → Result A Refusal) (file file' : List ℕ) (at at' : ℕ) (f : Option Refusal) (v x : A)
    → file' ≡ file → at' ≡ at → Ok x ≡ read file' at' → read file at ≡ unless f v → Passed f v x
part_read read file file' at at' f v x same here e is =
    let answer = e ∙ ap (λ g. read g at') same ∙ ap (read file) here ∙ is in
    record { clean = clear f v x answer; same = value f v x answer }

-- what is read of each kind
abbrev pub end_at : List ℕ → ℕ → Result End Refusal
end_at file at = there file at 1 (end_answer (byte file at) at)

abbrev pub sense_at : List ℕ → ℕ → Result Sense Refusal
sense_at file at = there file at 1 (sense_answer (byte file at) at)

abbrev pub activity_at : List ℕ → ℕ → Result ℕ Refusal
activity_at file at = unless (activity_fault file at) (byte file at)

pub end_is : (file : List ℕ) (at : ℕ) → end_at file at ≡ unless (end_letter_fault file at) (end_named (byte file at))
end_is file at = grind (arith, nat_tests)

pub sense_is : (file : List ℕ) (at : ℕ) → sense_at file at ≡ unless (sense_letter_fault file at) (sense_named (byte file at))
sense_is file at = grind (arith, nat_tests)

pub interval_read : (file file' : List ℕ) (at at' : ℕ) (bytes : List ℕ) (v : ℤ) → file' ≡ file → at' ≡ at → Ok bytes ≡ bytes_read file' at' 2 → v ≡ cast_signed w16 (from_le_bytes w16 bytes)
    → (ltb (length file) (at + 2) ≡ false) × (v ≡ signed 16 (two_bytes file at))
interval_read file file' at at' bytes v same here e is =
    let p = read_there file at 2 _ bytes (e ∙ ap (λ g. bytes_read g at' 2) same ∙ ap (λ i. bytes_read file i 2) here) in
    (p.0, is ∙ ap (λ b. cast_signed w16 (from_le_bytes w16 b)) p.1 ∙ ap (cast_signed w16) (two_of file at))
  where
    two_of : (file : List ℕ) (at : ℕ) → from_le_bytes w16 (slice_range file at (at + 2)) ≡ two_bytes file at
    two_of file at = grind (arith, common_steps)

-- a relation of its fields
abbrev pub made : End → End → Sense → ℕ → ℕ → ℤ → Relation
made x y k f t v = record { from_end = x; to_end = y; sense = k; from = f; to = t; interval = v }

made_is : (file : List ℕ) (at : ℕ) (x y : End) (k : Sense) (f t : ℕ) (v : ℤ)
    → x ≡ end_named (byte file at) → y ≡ end_named (byte file (at + 1)) → k ≡ sense_named (byte file (at + 2)) → f ≡ byte file (at + 3) → t ≡ byte file (at + 4) → v ≡ signed 16 (two_bytes file (at + 5))
    → made x y k f t v ≡ relation_at file at
made_is file at x y k f t v a b c d e i = rw (a, b, c, d, e, i) refl

-- a record whose fields before the interval passed: what the test of its gap answers
pub record Tested (file : List ℕ) (at : ℕ) (rel : Relation) (d e : ℕ) : Type 0 where
  pub same : rel ≡ relation_at file at
  pub answer : relation_fault file at ≡ cond (gap_fits (gap_of rel d e)) None (Some (refuse Range (at + 5)))

pub tested : (file : List ℕ) (at : ℕ) (rel : Relation) (d e : ℕ)
    → Passed (end_letter_fault file at) (end_named (byte file at)) rel.from_end
    → Passed (end_letter_fault file (at + 1)) (end_named (byte file (at + 1))) rel.to_end
    → Passed (sense_letter_fault file (at + 2)) (sense_named (byte file (at + 2))) rel.sense
    → Passed (activity_fault file (at + 3)) (byte file (at + 3)) rel.from
    → Passed (activity_fault file (at + 4)) (byte file (at + 4)) rel.to
    → (ltb (length file) (at + 5 + 2) ≡ false) × (rel.interval ≡ signed 16 (two_bytes file (at + 5)))
    → d ≡ duration_in file rel.from → e ≡ duration_in file rel.to → Tested file at rel d e
tested file at rel d e a b s f t i from_lasts to_lasts =
    let same : rel ≡ relation_at file at = made_is file at rel.from_end rel.to_end rel.sense rel.from rel.to rel.interval a.same b.same s.same f.same t.same i.1 in
    let ends : ends_fault file at ≡ None = rw (a.clean, b.clean, s.clean, f.clean, t.clean) refl in
    let gap : gap_fits (gap_at file at) ≡ gap_fits (gap_of rel d e) = rw (from_lasts, to_lasts, same) refl in
    record {
      same = same;
      answer = ap (λ o. or_else o (interval_fault file at)) ends ∙ field_there file (at + 5) 2 (gap_fits (gap_at file at)) (gap_fits (gap_of rel d e)) Range i.0 gap;
    }
