-- The first list that passes a test, among all lists of n slots below h.
use Rattle.std.proofs.Common.{◌≡◌, ℕ, zero, suc, ◌+◌, ◌<◌, ◌≤◌, Bool, true, false, cond, not, ◌&&◌, List, [], ◌∷◌, ◌++◌, map, length, Some, None, sym, refl, ap, ◌∙◌, ⊎_elim, arith}
use Rattle.std.specs.Option.{option_or, option_map}
use Rattle.std.proofs.lemmas.Bool.{and_parts, and_from, cases_order, cases_Bool}
use Rattle.model.specs.Starts.{start, lists, after_each, first, all_of}
use Rattle.model.specs.Chosen.{NoneLater}

pub false_from : (b : Bool) → (b ≡ true → ⊥) → b ≡ false
false_from true f = absurd (f refl)
false_from false f = refl

-- n slots below h, slot by slot
abbrev pub In : ℕ → ℕ → List ℕ → Type 0
In zero h [] = Unit {0}
In zero h (t ∷ s) = ⊥
In (suc n) h [] = ⊥
In (suc n) h (t ∷ s) = (t < h) × In n h s

pub in_from : (n h : ℕ) (s : List ℕ) → length s ≡ n → ((a : ℕ) → a < n → start s a < h) → In n h s
in_from zero h [] e f = tt
in_from zero h (t ∷ s) e f = absurd (omega arith)
in_from (suc n) h [] e f = absurd (omega arith)
in_from (suc n) h (t ∷ s) e f = (f 0 (omega arith), in_from n h s (omega arith) (λ a l. f (suc a) (omega arith)))

-- what holds of all the lists holds of each, and back
pub all-++ : {A : Type 0} (q : A → Bool) (xs ys : List A) → all_of q xs ≡ true → all_of q ys ≡ true → all_of q (xs ++ ys) ≡ true
all-++ q [] ys e f = f
all-++ q (x ∷ xs) ys e f = let h = and_parts (q x) (all_of q xs) e in and_from (q x) (all_of q (xs ++ ys)) h.0 (all-++ q xs ys h.1 f)

all_map : {A B : Type 0} (q : B → Bool) (f : A → B) (xs : List A) → all_of (λ x. q (f x)) xs ≡ true → all_of q (map f xs) ≡ true
all_map q f [] e = refl
all_map q f (x ∷ xs) e = let h = and_parts (q (f x)) (all_of (λ x. q (f x)) xs) e in and_from (q (f x)) (all_of q (map f xs)) h.0 (all_map q f xs h.1)

of-++ : {A : Type 0} (q : A → Bool) (xs ys : List A) → all_of q (xs ++ ys) ≡ true → (all_of q xs ≡ true) × (all_of q ys ≡ true)
of-++ q [] ys e = (refl, e)
of-++ q (x ∷ xs) ys e =
    let h = and_parts (q x) (all_of q (xs ++ ys)) e in
    let k = of-++ q xs ys h.1 in
    (and_from (q x) (all_of q xs) h.0 k.0, k.1)

of_map : {A B : Type 0} (q : B → Bool) (f : A → B) (xs : List A) → all_of q (map f xs) ≡ true → all_of (λ x. q (f x)) xs ≡ true
of_map q f [] e = refl
of_map q f (x ∷ xs) e = let h = and_parts (q (f x)) (all_of q (map f xs)) e in and_from (q (f x)) (all_of (λ x. q (f x)) xs) h.0 (of_map q f xs h.1)

module _ (q : List ℕ → Bool) (rest : List (List ℕ)) where
  each_all : (k u : ℕ) → ((j : ℕ) → u ≤ j → j < u + k → all_of (λ s. q (j ∷ s)) rest ≡ true) → all_of q (after_each k u rest) ≡ true
  each_all zero u f = refl
  each_all (suc k) u f = all-++ q (map (λ s. u ∷ s) rest) (after_each k (suc u) rest) (all_map q (λ s. u ∷ s) rest (f u (omega arith) (omega arith))) (each_all k (suc u) (λ j a b. f j (omega arith) (omega arith)))

  of_each : (k u j : ℕ) → u ≤ j → j < u + k → all_of q (after_each k u rest) ≡ true → all_of (λ s. q (j ∷ s)) rest ≡ true
  of_each zero u j a b e = absurd (omega arith)
  of_each (suc k) u j a b e =
      let h = of-++ q (map (λ s. u ∷ s) rest) (after_each k (suc u) rest) e in
      ⊎_elim
      (λ (same : u ≡ j). ap (λ i. all_of (λ s. q (i ∷ s)) rest) (sym same) ∙ of_map q (λ s. u ∷ s) rest h.0)
      (λ other. let less : u < j = ⊎_elim (λ l. l) (λ l. omega arith) other in of_each k (suc u) j (omega arith) (omega arith) h.1)
      (cases_order u j)

pub all_in : (n h : ℕ) (q : List ℕ → Bool) → ((s : List ℕ) → In n h s → q s ≡ true) → all_of q (lists n h) ≡ true
all_in zero h q f = and_from (q []) true (f [] tt) refl
all_in (suc n) h q f = each_all q (lists n h) h 0 (λ j a b. all_in n h (λ s. q (j ∷ s)) (λ s i. f (j ∷ s) (omega arith, i)))

pub of_in : (n h : ℕ) (q : List ℕ → Bool) → all_of q (lists n h) ≡ true → (s : List ℕ) → In n h s → q s ≡ true
of_in zero h q e [] i = (and_parts (q []) true e).0
of_in zero h q e (t ∷ s) i = absurd i
of_in (suc n) h q e [] i = absurd i
of_in (suc n) h q e (t ∷ s) i = of_in n h (λ r. q (t ∷ r)) (of_each q (lists n h) h 0 t (omega arith) (omega (arith, i.0)) e) s i.1

-- where none passes, none is found; and back
pub first_none : {A : Type 0} (p : A → Bool) (xs : List A) → all_of (λ x. not (p x)) xs ≡ true → first p xs ≡ None
first_none p [] e = refl
first_none p (x ∷ xs) e =
    elim (p x) as (λ v. (not v && all_of (λ x. not (p x)) xs) ≡ true → cond v (Some x) (first p xs) ≡ None)
    [ true ↦ λ no. absurd (false_true no) | false ↦ λ more. first_none p xs more ]
    e
  where
    false_true : false ≡ true → ⊥
    false_true z = let o : ◌≡◌ {A = ℕ} 0 1 = cc in omega arith

pub none_passes : {A : Type 0} (p : A → Bool) (xs : List A) → first p xs ≡ None → all_of (λ x. not (p x)) xs ≡ true
none_passes p [] e = refl
none_passes p (x ∷ xs) e =
    elim (p x) as (λ v. cond v (Some x) (first p xs) ≡ None → (not v && all_of (λ x. not (p x)) xs) ≡ true)
    [ true ↦ λ no. absurd (let o : ◌≡◌ {A = ℕ} 0 1 = cc in omega arith) | false ↦ λ more. none_passes p xs more ]
    e

-- what is found passes
pub first_passes : {A : Type 0} (p : A → Bool) (xs : List A) (x : A) → first p xs ≡ Some x → p x ≡ true
first_passes p [] x e = absurd (let o : ◌≡◌ {A = ℕ} 0 1 = cc in omega arith)
first_passes p (y ∷ ys) x e =
    ⊎_elim
    (λ (yes : p y ≡ true). let same : y ≡ x = cc in ap p (sym same) ∙ yes)
    (λ (not_y : p y ≡ false). first_passes p ys x (sym (ap (λ v. cond v (Some y) (first p ys)) not_y) ∙ e))
    (cases_Bool (p y))

first-++ : {A : Type 0} (p : A → Bool) (xs ys : List A) → first p (xs ++ ys) ≡ option_or (first p xs) (first p ys)
first-++ p [] ys = refl
first-++ p (x ∷ xs) ys = elim (p x) as (λ v. cond v (Some x) (first p (xs ++ ys)) ≡ option_or (cond v (Some x) (first p xs)) (first p ys)) [ true ↦ refl | false ↦ first-++ p xs ys ]

first_map : {A B : Type 0} (p : B → Bool) (f : A → B) (xs : List A) → first p (map f xs) ≡ option_map f (first (λ x. p (f x)) xs)
first_map p f [] = refl
first_map p f (x ∷ xs) = elim (p (f x)) as (λ v. cond v (Some (f x)) (first p (map f xs)) ≡ option_map f (cond v (Some x) (first (λ x. p (f x)) xs))) [ true ↦ refl | false ↦ first_map p f xs ]

module _ (p : List ℕ → Bool) (rest : List (List ℕ)) where
  block : (u : ℕ) (more : List (List ℕ)) → first p (map (λ s. u ∷ s) rest ++ more) ≡ option_or (option_map (λ s. u ∷ s) (first (λ s. p (u ∷ s)) rest)) (first p more)
  block u more = first-++ p (map (λ s. u ∷ s) rest) more ∙ ap (λ o. option_or o (first p more)) (first_map p (λ s. u ∷ s) rest)

  -- the first block with a find has the first find
  each_some : (k u t : ℕ) (r : List ℕ) → u ≤ t → t < u + k → ((j : ℕ) → u ≤ j → j < t → first (λ s. p (j ∷ s)) rest ≡ None) → first (λ s. p (t ∷ s)) rest ≡ Some r → first p (after_each k u rest) ≡ Some (t ∷ r)
  each_some zero u t r a b f e = absurd (omega arith)
  each_some (suc k) u t r a b f e =
      ⊎_elim
      (λ (same : u ≡ t).
      block u (after_each k (suc u) rest)
      ∙ ap (λ o. option_or (option_map (λ s. u ∷ s) o) (first p (after_each k (suc u) rest))) (ap (λ j. first (λ s. p (j ∷ s)) rest) same ∙ e)
      ∙ ap (λ j. Some (j ∷ r)) same)
      (λ other.
      let less : u < t = ⊎_elim (λ h. h) (λ h. omega arith) other in
      block u (after_each k (suc u) rest)
      ∙ ap (λ o. option_or (option_map (λ s. u ∷ s) o) (first p (after_each k (suc u) rest))) (f u (omega arith) less)
      ∙ each_some k (suc u) t r (omega arith) (omega arith) (λ j c d. f j (omega arith) d) e)
      (cases_order u t)

pub none_in : (n h : ℕ) (p : List ℕ → Bool) → ((s : List ℕ) → In n h s → p s ≡ false) → first p (lists n h) ≡ None
none_in n h p f = first_none p (lists n h) (all_in n h (λ s. not (p s)) (λ s i. ap not (f s i)))

-- a list that passes and is nowhere above any other that passes is the first
pub first_least : (n h : ℕ) (p : List ℕ → Bool) (s : List ℕ) → In n h s → p s ≡ true → ((r : List ℕ) → In n h r → p r ≡ true → NoneLater n s r) → first p (lists n h) ≡ Some s
first_least zero h p [] i e f = ap (λ v. cond v (Some []) None) e
first_least zero h p (t ∷ s) i e f = absurd i
first_least (suc n) h p [] i e f = absurd i
first_least (suc n) h p (t ∷ s) i e f =
    each_some p (lists n h) h 0 t s (omega arith) (omega (arith, i.0))
    (λ j a b. none_in n h (λ r. p (j ∷ r)) (λ r k. false_from (p (j ∷ r)) (λ y. let z : t ≤ j = f (j ∷ r) (omega (arith, i.0), k) y 0 (omega arith) in omega arith)))
    (first_least n h (λ r. p (t ∷ r)) s i.1 e (λ r k y a l. f (t ∷ r) (i.0, k) y (suc a) (omega arith)))
