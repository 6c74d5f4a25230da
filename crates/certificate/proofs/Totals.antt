-- Sums of what a closure answers over the numbers below n.
use Rattle.std.proofs.Common.{◌≡◌, ℕ, zero, suc, ◌+◌, ◌*◌, ◌^◌, ◌<◌, ◌≤◌, List, map, refl, ap, ◌∙◌, arith, add-one}
use Rattle.std.specs.Bool.{⊤}
use Rattle.std.specs.Fn.{Called}
use Rattle.std.specs.Iterator.{Drains}
use Rattle.std.specs.Iterator.Runs.{WholeRun, EachRunFrom}
use Rattle.std.specs.Iterator.Adapters.{map_source, map_callee}
use Rattle.std.specs.declared.iter.Map.{Map}
use Rattle.std.specs.declared.ops.Range.{Range}
use Rattle.std.specs.List.{fold, sum, range_with_len}
use denote.Param.Members.{Mut}
use Rattle.std.proofs.iter.Yields.{nat_range_steps}
use Rattle.std.proofs.lemmas.Iterator.{YieldsList, YieldsList-from_range, YieldsList-from_map, maps}
use Rattle.std.proofs.lemmas.Iterator.Adapters.{at_most_from_yields_List, fits_from_length, total_from_yields_List}
use Rattle.std.proofs.lemmas.List.FromFn.{sum_by-map-range_with_len_more, length-range_with_len}
use Rattle.flow.specs.Sums.{sum_to}
use Rattle.certificate.specs.Sums.{most_terms}

sum_of_range : (f : ℕ → ℕ) (n : ℕ) → sum (map f (range_with_len 0 n)) ≡ sum_to f n
sum_of_range f zero = refl
sum_of_range f (suc n) =
    let more = sum_by-map-range_with_len_more (λ x. x) f 0 n n (omega arith) in
    let one = ap (λ (k : ℕ). sum (map f (range_with_len 0 k))) (add-one n) in
    omega (arith, sum_of_range f n)

numbers : {s : Range ℕ} (n : ℕ) → s ≡ record { start = 0; end = n }
    → YieldsList nat_range_steps (λ x. x) s (range_with_len 0 n)
numbers n e = YieldsList-from_range 0 n n e (omega arith)

module _ {F : Type 0} {s : Map (Range ℕ) F} {g : Mut F (ℕ × Unit {0}) ℕ} {f : F} (n : ℕ)
    (source : map_source s ≡ record { start = 0; end = n }) (callee : map_callee s ≡ f) (few : n ≤ most_terms)
    (limit : ℕ) where
  sums_low : ((x v : ℕ) (q : F) → Called g f (x, tt) v q → (q ≡ f) × (v ≤ limit))
      → EachRunFrom (maps nat_range_steps g) s (λ p. fold (λ a x. a + x) 0 p.items < most_terms * limit + 1)
  sums_low k =
      fits_from_length g f most_terms (most_terms * limit + 1)
      (at_most_from_yields_List (numbers n source) (omega (arith, length-range_with_len 0 n))) callee (omega arith)
      (λ x v q y. let z = k x v q y in (z.0, omega arith))

  -- where no answer of the closure is above a limit
  pub sum_fits : most_terms * limit < 2 ^ 64
      → ((x v : ℕ) (q : F) → Called g f (x, tt) v q → (q ≡ f) × (v ≤ limit))
      → EachRunFrom (maps nat_range_steps g) s (λ p. fold (λ a x. a + x) 0 p.items < 2 ^ 64)
  sum_fits small k = λ p seen at. omega (arith, sums_low k p seen at)

  -- and each is that of h
  pub sum_is : (h : ℕ → ℕ) → ((x v : ℕ) (q : F) → Called g f (x, tt) v q → (q ≡ f) × (v ≡ h x) × (v ≤ limit))
      → (r : ℕ) → (xs : List ℕ) × (⊤ → Drains (maps nat_range_steps g) s xs) × (r ≡ fold (λ a x. a + x) 0 xs)
      → WholeRun (maps nat_range_steps g) s (λ p. r ≡ fold (λ a x. a + x) 0 p.items)
      → (r ≡ sum_to h n) × (r ≤ most_terms * limit)
  sum_is h k r ran run = (
    total_from_yields_List (λ a x. a + x) 0 r ran
        (YieldsList-from_map g h (numbers n source) callee (λ x v q y. let z = k x v q y in (z.0, z.1)))
        ∙ sum_of_range h n,
    omega (arith, run.3, sums_low (λ x v q y. let z = k x v q y in (z.0, z.2)) run.0 run.0.seen run.1),
  )
