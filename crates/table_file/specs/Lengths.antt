-- Where the sections of a faultless file end.
use Rattle.std.specs.Prelude.{◌≡◌, ℕ, zero, suc, ◌+◌, ◌*◌, ◌≤◌, true, List, length, None, refl}
use Rattle.std.proofs.Common.{arith}
use Rattle.model.specs.declared.refusal.Fault.TheVariants.{Range, Count}
use Rattle.table_file.specs.Format.{faultless, relation_count_place, relations_place, relations_in, relations_fault, relation_fault, ends_fault, interval_fault, record_place, end_place}
use Rattle.table_file.specs.Clear.{both_clear, each_clear, field_clear, end_clear}
use Rattle.table_file.specs.Bounded.{faultless_parts}

pub record Lengths (file : List ℕ) : Type 0 where
  pub count_there : relation_count_place file + 2 ≤ length file
  pub whole : length file ≡ end_place file

-- k records that passed reach so far
records_there : (file : List ℕ) (q k : ℕ) → (suc k ≤ q) → relation_count_place file + 2 ≤ length file → relations_in file ≡ q → relations_fault file ≡ None → relations_place file + 7 * suc k ≤ length file
records_there file q k le start same clean =
    let at = record_place file k in
    let here = both_clear (ends_fault file at) (interval_fault file at) (each_clear (relations_in file) k (λ k. relation_fault file (record_place file k)) (omega arith) clean) in
    let there = (field_clear file (at + 5) 2 _ Range here.1).there in
    omega arith

all_there : (file : List ℕ) (q : ℕ) → relation_count_place file + 2 ≤ length file → relations_in file ≡ q → relations_fault file ≡ None → end_place file ≤ length file
all_there file zero start same clean = omega (arith, same)
all_there file (suc k) start same clean = let there = records_there file (suc k) k (omega arith) start same clean in omega (arith, same)

pub lengths : (file : List ℕ) → faultless file ≡ true → Lengths file
lengths file e =
    let w = faultless_parts file e in
    let start = (field_clear file (relation_count_place file) 2 _ Count w.relation_count).there in
    let reach = all_there file (relations_in file) start refl w.relations in
    let no_more = end_clear file w.the_end in
    record { count_there = start; whole = omega arith }
