-- Where a record stands in a faultless file, and that it passes.
use Rattle.std.proofs.Common.{◌≡◌, ℕ, ◌+◌, ◌<◌, true, ltb, List, length, Some, None, Result, sym, ap, ◌∙◌, arith}
use Rattle.std.proofs.lemmas.Bool.{ltb-true}
use Rattle.model.specs.declared.refusal.Fault.TheVariants.{Range}
use Rattle.model.specs.Meaning.{within, lag_of as lag_of_meaning}
use Rattle.relations.specs.Lags.{gap_of, gap_fits, lag_of}
use Rattle.table_file.specs.Stated.{stated, lag_stated, relation_of}
use Rattle.table_file.proofs.Single.{present_fits}
use Rattle.std.specs.Result.{result_ok}
use Rattle.model.specs.declared.refusal.Refusal.{Refusal}
use Rattle.relations.specs.declared.relation.Relation.{Relation}
use Rattle.table_file.specs.Format.{faultless, unless, duration_in, relation_fault, ends_fault, interval_fault, relation_at, record_place, relations_in}
use Rattle.table_file.specs.Bounded.{faultless_parts}
use Rattle.table_file.specs.Clear.{both_clear, each_clear, field_clear, ends_clear, EndsClear, durations_there}

pub record_passes : (file : List ℕ) (k : ℕ) → faultless file ≡ true → k < relations_in file → relation_fault file (record_place file k) ≡ None
record_passes file k ok less = each_clear (relations_in file) k (λ k. relation_fault file (record_place file k)) less (faultless_parts file ok).relations

-- the same record, in a file and at a place that are known to be these
pub record_here : (file file' : List ℕ) (at at' : ℕ) → file' ≡ file → at' ≡ at → relation_fault file at ≡ relation_fault file' at'
record_here file file' at at' same here = sym (ap (λ f. relation_fault f at') same ∙ ap (relation_fault file) here)

pub relation_read : (file file' : List ℕ) (k at : ℕ) (r : Result Relation Refusal) → faultless file ≡ true → k < relations_in file → file' ≡ file → at ≡ record_place file k → r ≡ unless (relation_fault file' at) (relation_at file' at) → result_ok r ≡ Some (relation_at file (record_place file k))
relation_read file file' k at r ok less same here e =
    ap result_ok (e ∙ ap (λ f. unless (relation_fault f at) (relation_at f at)) same ∙ ap (λ p. unless (relation_fault file p) (relation_at file p)) here)
    ∙ ap (λ o. result_ok (unless o (relation_at file (record_place file k)))) (record_passes file k ok less)

record_ends : (file : List ℕ) (k : ℕ) → faultless file ≡ true → k < relations_in file → EndsClear file (record_place file k)
record_ends file k ok less =
    let at = record_place file k in
    ends_clear file at (both_clear (ends_fault file at) (interval_fault file at) (record_passes file k ok less)).0

-- the durations that a relation of the file needs are there
pub ends_there : (file : List ℕ) (k : ℕ) (rel : Relation) → faultless file ≡ true → Some rel ≡ relation_of file k → (3 + rel.from < length file) × (3 + rel.to < length file)
ends_there file k rel ok e =
    let p = present_fits (ltb k (relations_in file)) (relation_at file (record_place file k)) rel e in
    let ends = record_ends file k ok (ltb-true k (relations_in file) p.0) in
    let long = durations_there file (faultless_parts file ok).price_count in
    (rw p.1 (omega arith), rw p.1 (omega arith))

pub lag_read : (file : List ℕ) (k : ℕ) (rel : Relation) (d e : ℕ) → faultless file ≡ true → Some rel ≡ relation_of file k → d ≡ duration_in file rel.from → e ≡ duration_in file rel.to
    → within (gap_fits (gap_of rel d e)) (lag_of rel d e) ≡ lag_of_meaning (stated file) k
lag_read file k rel d e ok here from_lasts to_lasts =
    let at = record_place file k in
    let p = present_fits (ltb k (relations_in file)) (relation_at file at) rel here in
    let clean = record_passes file k ok (ltb-true k (relations_in file) p.0) in
    let fits = (field_clear file (at + 5) 2 _ Range (both_clear (ends_fault file at) (interval_fault file at) clean).1).fits in
    rw (from_lasts, to_lasts)
    (ap (λ (r : Relation). within (gap_fits (gap_of r (duration_in file r.from) (duration_in file r.to))) (lag_of r (duration_in file r.from) (duration_in file r.to))) p.1
    ∙ ap (λ b. within b (lag_stated file at)) (fits ∙ sym p.0))
