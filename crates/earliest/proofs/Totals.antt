-- Sums of a function over the numbers below n.
use Rattle.std.proofs.Common.{◌≡◌, ℕ, zero, suc, ◌+◌, ◌*◌, ◌<◌, ◌≤◌, refl, ap, ⊎_elim, suc-mul, arith}
use Rattle.std.proofs.lemmas.Bool.{cases_eq}
use Rattle.earliest.specs.Pushing.{total}

total_same : (n : ℕ) (f g : ℕ → ℕ) → ((b : ℕ) → b < n → g b ≡ f b) → total n g ≡ total n f
total_same zero f g same = refl
total_same (suc n) f g same = omega (arith, total_same n f g (λ b lt. same b (omega arith)), same n (omega arith))

pub total_more : (n : ℕ) (f g : ℕ → ℕ) (a : ℕ) → a < n → ((b : ℕ) → b < n → (b ≡ a → ⊥) → g b ≡ f b) → f a < g a → total n f + 1 ≤ total n g
total_more zero f g a lt other up = omega arith
total_more (suc n) f g a lt other up =
    ⊎_elim
    (λ (e : n ≡ a). omega (arith, total_same n f g (λ b h. other b (omega arith) (λ x. omega arith)), ap f e, ap g e))
    (λ (ne : n ≡ a → ⊥).
    omega (arith, total_more n f g a (omega arith) (λ b h. other b (omega arith)) up, other n (omega arith) ne))
    (cases_eq n a)

pub total_most : (n k : ℕ) (f : ℕ → ℕ) → ((b : ℕ) → b < n → f b ≤ k) → total n f ≤ n * k
total_most zero k f most = omega arith
total_most (suc n) k f most = omega (arith, total_most n k f (λ b h. most b (omega arith)), most n (omega arith), suc-mul n k)
