-- What a file without a fault is known to have: every field is there and in range, so the project that
-- it states keeps the bounds of a project.
use Rattle.std.specs.Prelude.{◌≡◌, ℕ, zero, suc, ◌+◌, ◌<◌, ◌≤◌, Bool, true, false, cond, ltb, List, length, Some, None, Option, ◌≢◌, nat_le, nat_lt, refl}
use Rattle.std.proofs.Common.{sym, ap, ◌∙◌, ⊎_elim, arith}
use Rattle.std.proofs.lemmas.Bool.{cases_Bool, cases_order, ltb-false, ltb-true, leb-true, and_parts}
use Rattle.model.specs.declared.refusal.Fault.{Fault}
use Rattle.model.specs.declared.refusal.Fault.TheVariants.{Short, Range, Count, Horizon, Trailing}
use Rattle.model.specs.declared.refusal.Refusal.{Refusal}
use Rattle.model.specs.Refusals.{refuse}
use Rattle.table_file.specs.Numbers.{byte}
use Rattle.table_file.specs.Format.{field, or_else, each, between, kind_fault, horizon_fault, activities_fault, head_fault, horizon_in, activities_in, price_count_place, price_count_fault, relation_count_place, relation_count_fault, relations_in, end_letter_fault, sense_letter_fault, activity_fault, ends_fault, end_place, end_fault}

-- both parts are free of faults where the whole is
pub both_clear : (f g : Option Refusal) → or_else f g ≡ None → (f ≡ None) × (g ≡ None)
both_clear None g e = (refl, e)
both_clear (Some r) g e = absurd (let z : ◌≡◌ {A = ℕ} 0 1 = cc in omega arith)

pub each_clear : (n k : ℕ) (f : ℕ → Option Refusal) → k < n → each n f ≡ None → f k ≡ None
each_clear zero k f less clean = absurd (omega arith)
each_clear (suc n) k f less clean =
    let parts = both_clear (each n f) (f n) clean in
    ⊎_elim
    (λ (same : n ≡ k). ap f (sym same) ∙ parts.1)
    (λ other. let earlier : k < n = ⊎_elim (λ l. omega arith) (λ l. l) other in each_clear n k f earlier parts.0)
    (cases_order n k)

pub record Whole (file : List ℕ) (at bytes : ℕ) (in_range : Bool) : Type 0 where
  pub there : at + bytes ≤ length file
  pub fits : in_range ≡ true

-- a field without a fault is there and in range
pub field_clear : (file : List ℕ) (at bytes : ℕ) (b : Bool) (f : Fault) → field file at bytes b f ≡ None → Whole file at bytes b
field_clear file at bytes b f e =
    ⊎_elim
    (λ (short : ltb (length file) (at + bytes) ≡ true). absurd (none_some (sym (ap (λ v. cond v (Some (refuse Short (length file))) (cond b None (Some (refuse f at)))) short) ∙ e)))
    (λ (long : ltb (length file) (at + bytes) ≡ false).
    record { there = ltb-false (length file) (at + bytes) long; fits = in_range b (sym (ap (λ v. cond v (Some (refuse Short (length file))) (cond b None (Some (refuse f at)))) long) ∙ e) })
    (cases_Bool (nat_lt (length file) (at + bytes)))
  where
    none_some : {r : Refusal} → Some r ≢ None
    none_some z = let o : ◌≡◌ {A = ℕ} 0 1 = cc in omega arith

    in_range : (b : Bool) → cond b None (Some (refuse f at)) ≡ None → b ≡ true
    in_range true z = refl
    in_range false z = absurd (none_some z)

-- the activities of a record that passed
pub record EndsClear (file : List ℕ) (at : ℕ) : Type 0 where
  pub from_there : byte file (at + 3) < activities_in file
  pub to_there : byte file (at + 4) < activities_in file

pub ends_clear : (file : List ℕ) (at : ℕ) → ends_fault file at ≡ None → EndsClear file at
ends_clear file at e =
    let a = (both_clear (end_letter_fault file at) _ e).1 in
    let b = (both_clear (end_letter_fault file (at + 1)) _ a).1 in
    let c = (both_clear (sense_letter_fault file (at + 2)) _ b).1 in
    let d = both_clear (activity_fault file (at + 3)) (activity_fault file (at + 4)) c in
    record {
      from_there = ltb-true (byte file (at + 3)) (activities_in file) (field_clear file (at + 3) 1 _ Range d.0).fits;
      to_there = ltb-true (byte file (at + 4)) (activities_in file) (field_clear file (at + 4) 1 _ Range d.1).fits;
    }

-- the head of a file that passed
pub record HeadClear (file : List ℕ) : Type 0 where
  pub h_low : 1 ≤ horizon_in file
  pub h_high : horizon_in file ≤ 128
  pub n_low : 1 ≤ activities_in file
  pub n_high : activities_in file ≤ 64

between_parts : (low high x : ℕ) → between low high x ≡ true → (low ≤ x) × (x ≤ high)
between_parts low high x e =
    let parts = and_parts (nat_le low x) (nat_le x high) e in
    (leb-true low x parts.0, leb-true x high parts.1)

pub head_clear : (file : List ℕ) → head_fault file ≡ None → HeadClear file
head_clear file e =
    let a = both_clear (kind_fault file) _ e in
    let b = both_clear (horizon_fault file) (activities_fault file) a.1 in
    let h = between_parts 1 128 (horizon_in file) (field_clear file 1 1 _ Horizon b.0).fits in
    let n = between_parts 1 64 (activities_in file) (field_clear file 2 1 _ Count b.1).fits in
    record { h_low = h.0; h_high = h.1; n_low = n.0; n_high = n.1 }

pub relations_few : (file : List ℕ) → relation_count_fault file ≡ None → relations_in file ≤ 256
relations_few file e = leb-true (relations_in file) 256 (field_clear file (relation_count_place file) 2 _ Count e).fits

pub durations_there : (file : List ℕ) → price_count_fault file ≡ None → 3 + activities_in file ≤ length file
durations_there file e = let w = (field_clear file (price_count_place file) 2 _ Count e).there in omega arith

pub end_clear : (file : List ℕ) → end_fault file ≡ None → length file ≤ end_place file
end_clear file e =
    ⊎_elim
    (λ (more : ltb (end_place file) (length file) ≡ true). absurd (some_none (sym (ap (λ v. cond v (Some (refuse Trailing (end_place file))) None) more) ∙ e)))
    (λ (fewer : ltb (end_place file) (length file) ≡ false). ltb-false (end_place file) (length file) fewer)
    (cases_Bool (nat_lt (end_place file) (length file)))
  where
    some_none : {r : Refusal} → Some r ≢ None
    some_none z = let o : ◌≡◌ {A = ℕ} 0 1 = cc in omega arith
