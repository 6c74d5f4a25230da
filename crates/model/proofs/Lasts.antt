-- The last list that passes a test, among all lists of n slots below h.
use Rattle.std.proofs.Common.{◌≡◌, ℕ, zero, suc, ◌+◌, ◌<◌, ◌≤◌, Bool, true, false, cond, not, List, [], ◌∷◌, ◌++◌, map, Some, None, Option, sym, refl, ap, ◌∙◌, ⊎_elim, arith}
use Rattle.std.specs.Option.{option_or, option_map}
use Rattle.std.proofs.lemmas.Bool.{and_parts, and_from, cases_order, cases_Bool}
use Rattle.model.specs.Starts.{lists, after_each, last, all_of}
use Rattle.model.specs.Chosen.{NoneLater}
use Rattle.model.proofs.Firsts.{In, false_from, all_in}

or_assoc : {A : Type 0} (x y z : Option A) → option_or (option_or x y) z ≡ option_or x (option_or y z)
or_assoc None y z = refl
or_assoc (Some x) y z = refl

or_none : {A : Type 0} (x : Option A) → option_or x None ≡ x
or_none None = refl
or_none (Some x) = refl

pub last_none : {A : Type 0} (p : A → Bool) (xs : List A) → all_of (λ x. not (p x)) xs ≡ true → last p xs ≡ None
last_none p [] e = refl
last_none p (x ∷ xs) e =
    let h = and_parts (not (p x)) (all_of (λ x. not (p x)) xs) e in
    ap (λ o. option_or o (cond (p x) (Some x) None)) (last_none p xs h.1) ∙ ap (λ v. cond v (Some x) None) (negated (p x) h.0)
  where
    negated : (b : Bool) → not b ≡ true → b ≡ false
    negated true z = sym z
    negated false z = refl

or_both : {A : Type 0} (x y : Option A) → option_or x y ≡ None → (x ≡ None) × (y ≡ None)
or_both None y e = (refl, e)
or_both (Some x) y e = absurd (let o : ◌≡◌ {A = ℕ} 0 1 = cc in omega arith)

pub none_lasts : {A : Type 0} (p : A → Bool) (xs : List A) → last p xs ≡ None → all_of (λ x. not (p x)) xs ≡ true
none_lasts p [] e = refl
none_lasts p (x ∷ xs) e =
    let h = or_both (last p xs) (cond (p x) (Some x) None) e in
    and_from (not (p x)) (all_of (λ x. not (p x)) xs) (failed (p x) h.1) (none_lasts p xs h.0)
  where
    failed : (b : Bool) → cond b (Some x) None ≡ None → not b ≡ true
    failed true z = absurd (let o : ◌≡◌ {A = ℕ} 0 1 = cc in omega arith)
    failed false z = refl

-- what is found passes
pub last_passes : {A : Type 0} (p : A → Bool) (xs : List A) (x : A) → last p xs ≡ Some x → p x ≡ true
last_passes p [] x e = absurd (let o : ◌≡◌ {A = ℕ} 0 1 = cc in omega arith)
last_passes {A} p (y ∷ ys) x e =
    elim (last p ys) as (λ o. last p ys ≡ o → option_or o (cond (p y) (Some y) None) ≡ Some x → p x ≡ true) [
      | None ↦ λ was f. ⊎_elim (λ (yes : p y ≡ true). let same : y ≡ x = cc in ap p (sym same) ∙ yes) (λ (no : p y ≡ false). absurd (let o : ◌≡◌ {A = ℕ} 0 1 = cc in omega arith)) (cases_Bool (p y))
      | Some z ↦ λ was f. last_passes p ys x (was ∙ f)
    ] refl e

last-++ : {A : Type 0} (p : A → Bool) (xs ys : List A) → last p (xs ++ ys) ≡ option_or (last p ys) (last p xs)
last-++ p [] ys = sym (or_none (last p ys))
last-++ p (x ∷ xs) ys = ap (λ o. option_or o (cond (p x) (Some x) None)) (last-++ p xs ys) ∙ or_assoc (last p ys) (last p xs) (cond (p x) (Some x) None)

mapped_or : {A B : Type 0} (f : A → B) (x y : Option A) → option_or (option_map f x) (option_map f y) ≡ option_map f (option_or x y)
mapped_or f None y = refl
mapped_or f (Some x) y = refl

last_map : {A B : Type 0} (p : B → Bool) (f : A → B) (xs : List A) → last p (map f xs) ≡ option_map f (last (λ x. p (f x)) xs)
last_map p f [] = refl
last_map p f (x ∷ xs) =
    ap (λ o. option_or o (cond (p (f x)) (Some (f x)) None)) (last_map p f xs)
    ∙ ap (option_or (option_map f (last (λ x. p (f x)) xs))) (chosen (p (f x)))
    ∙ mapped_or f (last (λ x. p (f x)) xs) (cond (p (f x)) (Some x) None)
  where
    chosen : (b : Bool) → cond b (Some (f x)) None ≡ option_map f (cond b (Some x) None)
    chosen true = refl
    chosen false = refl

module _ (p : List ℕ → Bool) (rest : List (List ℕ)) where
  block : (u : ℕ) (more : List (List ℕ)) → last p (map (λ s. u ∷ s) rest ++ more) ≡ option_or (last p more) (option_map (λ s. u ∷ s) (last (λ s. p (u ∷ s)) rest))
  block u more = last-++ p (map (λ s. u ∷ s) rest) more ∙ ap (option_or (last p more)) (last_map p (λ s. u ∷ s) rest)

  each_none : (k u : ℕ) → ((j : ℕ) → u ≤ j → j < u + k → last (λ s. p (j ∷ s)) rest ≡ None) → last p (after_each k u rest) ≡ None
  each_none zero u f = refl
  each_none (suc k) u f =
      block u (after_each k (suc u) rest)
      ∙ ap (λ o. option_or (last p (after_each k (suc u) rest)) (option_map (λ s. u ∷ s) o)) (f u (omega arith) (omega arith))
      ∙ or_none (last p (after_each k (suc u) rest))
      ∙ each_none k (suc u) (λ j a b. f j (omega arith) (omega arith))

  -- the last block with a find has the last find
  each_some : (k u t : ℕ) (r : List ℕ) → u ≤ t → t < u + k → ((j : ℕ) → t < j → j < u + k → last (λ s. p (j ∷ s)) rest ≡ None) → last (λ s. p (t ∷ s)) rest ≡ Some r → last p (after_each k u rest) ≡ Some (t ∷ r)
  each_some zero u t r a b f e = absurd (omega arith)
  each_some (suc k) u t r a b f e =
      ⊎_elim
      (λ (same : u ≡ t).
      block u (after_each k (suc u) rest)
      ∙ ap (λ o. option_or o (option_map (λ s. u ∷ s) (last (λ s. p (u ∷ s)) rest))) (each_none k (suc u) (λ j c d. f j (omega arith) (omega arith)))
      ∙ ap (option_map (λ s. u ∷ s)) (ap (λ j. last (λ s. p (j ∷ s)) rest) same ∙ e)
      ∙ ap (λ j. Some (j ∷ r)) same)
      (λ other.
      let less : u < t = ⊎_elim (λ h. h) (λ h. omega arith) other in
      block u (after_each k (suc u) rest)
      ∙ ap (λ o. option_or o (option_map (λ s. u ∷ s) (last (λ s. p (u ∷ s)) rest))) (each_some k (suc u) t r (omega arith) (omega arith) (λ j c d. f j c (omega arith)) e))
      (cases_order u t)

none_in : (n h : ℕ) (p : List ℕ → Bool) → ((s : List ℕ) → In n h s → p s ≡ false) → last p (lists n h) ≡ None
none_in n h p f = last_none p (lists n h) (all_in n h (λ s. not (p s)) (λ s i. ap not (f s i)))

-- a list that passes and is nowhere below any other that passes is the last
pub last_greatest : (n h : ℕ) (p : List ℕ → Bool) (s : List ℕ) → In n h s → p s ≡ true → ((r : List ℕ) → In n h r → p r ≡ true → NoneLater n r s) → last p (lists n h) ≡ Some s
last_greatest zero h p [] i e f = ap (λ v. cond v (Some []) None) e
last_greatest zero h p (t ∷ s) i e f = absurd i
last_greatest (suc n) h p [] i e f = absurd i
last_greatest (suc n) h p (t ∷ s) i e f =
    each_some p (lists n h) h 0 t s (omega arith) (omega (arith, i.0))
    (λ j a b. none_in n h (λ r. p (j ∷ r)) (λ r k. false_from (p (j ∷ r)) (λ y. let z : j ≤ t = f (j ∷ r) (omega arith, k) y 0 (omega arith) in omega arith)))
    (last_greatest n h (λ r. p (t ∷ r)) s i.1 e (λ r k y a l. f (t ∷ r) (i.0, k) y (suc a) (omega arith)))
