-- Laws of finite sums.
use Rattle.std.proofs.Common.{◌≡◌, ℕ, zero, suc, ◌+◌, ◌<◌, ◌≤◌, Bool, true, false, sym, refl, ap, ⊎_elim, add-one, arith}
use Rattle.std.proofs.lemmas.Bool.{cases_eq}
use Rattle.flow.specs.Sums.{sum_to, pick}

pub sum_to_more : (f : ℕ → ℕ) (n : ℕ) → sum_to f (n + 1) ≡ sum_to f n + f n
sum_to_more f n = rw add-one

pub sum_to_same : (f g : ℕ → ℕ) (n : ℕ) → ((k : ℕ) → k < n → f k ≡ g k) → sum_to f n ≡ sum_to g n
sum_to_same f g zero h = refl
sum_to_same f g (suc n) h = omega (arith, sum_to_same f g n (λ k l. h k (omega arith)), h n (omega arith))

pub sum_to_le : (f g : ℕ → ℕ) (n : ℕ) → ((k : ℕ) → k < n → f k ≤ g k) → sum_to f n ≤ sum_to g n
sum_to_le f g zero h = omega arith
sum_to_le f g (suc n) h = omega (arith, sum_to_le f g n (λ k l. h k (omega arith)), h n (omega arith))

pub sum_to_add : (f g : ℕ → ℕ) (n : ℕ) → sum_to (λ k. f k + g k) n ≡ sum_to f n + sum_to g n
sum_to_add f g zero = omega arith
sum_to_add f g (suc n) = omega (arith, sum_to_add f g n)

pub sum_to_zero : (n : ℕ) → sum_to (λ k. 0) n ≡ 0
sum_to_zero zero = refl
sum_to_zero (suc n) = omega (arith, sum_to_zero n)

pub sum_to_swap : (f : ℕ → ℕ → ℕ) (n m : ℕ) → sum_to (λ i. sum_to (λ j. f i j) m) n ≡ sum_to (λ j. sum_to (λ i. f i j) n) m
sum_to_swap f n zero = sum_to_zero n
sum_to_swap f n (suc m) = omega (arith, sum_to_add (λ i. sum_to (λ j. f i j) m) (λ i. f i m) n, sum_to_swap f n m)

pub pick_sum_to : (b : Bool) (f : ℕ → ℕ) (n : ℕ) → pick b (sum_to f n) ≡ sum_to (λ k. pick b (f k)) n
pick_sum_to true f n = refl
pick_sum_to false f n = sym (sum_to_zero n)

-- f and g differ at t alone
pub sum_to_but : (f g : ℕ → ℕ) (t n : ℕ) → t < n → ((k : ℕ) → k < n → (k ≡ t → ⊥) → f k ≡ g k) → sum_to f n + g t
    ≡ sum_to g n + f t
sum_to_but f g t zero l h = omega arith
sum_to_but f g t (suc n) l h =
    ⊎_elim
    (λ e. omega (arith, ap f e, ap g e, sum_to_same f g n (λ k m. h k (omega arith) (λ q. omega arith))))
    (λ ne.
    let s : t < n = omega arith in
    omega (arith, h n (omega arith) ne, sum_to_but f g t n s (λ k m. h k (omega arith))))
    (cases_eq n t)

-- the sum of what is 0 but at t
pub sum_to_only : (f : ℕ → ℕ) (t n : ℕ) → t < n → ((k : ℕ) → k < n → (k ≡ t → ⊥) → f k ≡ 0) → sum_to f n ≡ f t
sum_to_only f t n l h = omega (arith, sum_to_but f (λ k. 0) t n l h, sum_to_zero n)

pub sum_to_at : (f : ℕ → ℕ) (t n : ℕ) → t < n → f t ≤ sum_to f n
sum_to_at f t zero l = omega arith
sum_to_at f t (suc n) l =
    ⊎_elim (λ e. omega (arith, ap f e)) (λ ne. omega (arith, sum_to_at f t n (omega arith))) (cases_eq n t)

-- sums that are equal, of what is below, are equal at each place
pub sum_to_tight : (f g : ℕ → ℕ) (n : ℕ) → ((k : ℕ) → k < n → f k ≤ g k) → sum_to g n ≤ sum_to f n → (k : ℕ) → k
    < n → f k ≡ g k
sum_to_tight f g zero h e k l = omega arith
sum_to_tight f g (suc n) h e k l =
    let below = sum_to_le f g n (λ j m. h j (omega arith)) in
    let here = h n (omega arith) in
    ⊎_elim
    (λ q. let x = ap f q in let y = ap g q in omega arith)
    (λ ne. sum_to_tight f g n (λ j m. h j (omega arith)) (omega arith) k (omega arith))
    (cases_eq k n)
