-- Sums over rows, and the greatest and the least place at which a test holds.
use Rattle.std.proofs.Common.{◌≡◌, ℕ, zero, suc, ◌+◌, ◌-◌, ◌*◌, ◌<◌, ◌≤◌, Bool, true, false, not, ◌&&◌, leb, sym, ap, ◌∙◌, subst, ⊎_elim, arith}
use Rattle.std.proofs.lemmas.Bool.{cases_eq, cases_lt, cases_Bool, cond-true, cond-false, cond_both, le-leb, lt-leb}
use Rattle.flow.specs.Sums.{sum_to}
use Rattle.plan_theory.specs.Plans.{greatest, least_from}

pub sum_to_split : (f : ℕ → ℕ) (p q : ℕ) → sum_to f (p + q) ≡ sum_to f p + sum_to (λ k. f (p + k)) q
sum_to_split f p zero = let e : p + 0 ≡ p = omega arith in omega (arith, ap (sum_to f) e)
sum_to_split f p (suc q) =
    let e : p + suc q ≡ suc (p + q) = omega arith in
    omega (arith, ap (sum_to f) e, sum_to_split f p q)

-- a sum over w rows of h, row by row
pub sum_to_rows : (f : ℕ → ℕ) (h w : ℕ) → sum_to f (w * h) ≡ sum_to (λ a. sum_to (λ t. f (a * h + t)) h) w
sum_to_rows f h zero = let e : 0 * h ≡ 0 = omega arith in ap (sum_to f) e
sum_to_rows f h (suc w) =
    let e : suc w * h ≡ w * h + h = omega arith in
    omega (arith, ap (sum_to f) e, sum_to_split f (w * h) h, sum_to_rows f h w)

-- the one slot t with t ≤ x and not t + 1 ≤ x is x
pub last_slot : (t x : ℕ) → t ≡ x → (leb t x && not (leb (t + 1) x)) ≡ true
last_slot t x e =
    ap (λ b. b && not (leb (t + 1) x)) (le-leb t x (omega arith)) ∙ ap not (lt-leb (t + 1) x (omega arith))

pub not_last_slot : (t x : ℕ) → (t ≡ x → ⊥) → (leb t x && not (leb (t + 1) x)) ≡ false
not_last_slot t x ne =
    ⊎_elim
    (λ l.
    ap (λ b. b && not (leb (t + 1) x)) (le-leb t x (omega arith)) ∙ ap not (le-leb (t + 1) x (omega arith)))
    (λ l. ap (λ b. b && not (leb (t + 1) x)) (lt-leb t x (omega arith)))
    (cases_lt t x)

greatest_holds : (k : ℕ) (f : ℕ → Bool) → f 0 ≡ true → f (greatest k f) ≡ true
greatest_holds zero f z = z
greatest_holds (suc k) f z =
    cond_both (f k) k (greatest k f) (λ x. f x ≡ true) (λ e. e) (λ e. greatest_holds k f z)

pub greatest_below : (k : ℕ) (f : ℕ → Bool) → 0 < k → greatest k f < k
greatest_below zero f l = absurd (omega arith)
greatest_below (suc zero) f l = cond_both (f 0) 0 0 (λ x. x < 1) (λ e. omega arith) (λ e. omega arith)
greatest_below (suc (suc k)) f l =
    cond_both (f (suc k)) (suc k) (greatest (suc k) f) (λ x. x < suc (suc k)) (λ e. omega arith)
    (λ e. omega (arith, greatest_below (suc k) f (omega arith)))

greatest_top : (k : ℕ) (f : ℕ → Bool) (t : ℕ) → t < k → greatest k f < t → f t ≡ false
greatest_top zero f t l g = absurd (omega arith)
greatest_top (suc k) f t l g =
    ⊎_elim
    (λ e. absurd (let x = cond-true (f k) k (greatest k f) e in omega arith))
    (λ e.
    let x = cond-false (f k) k (greatest k f) e in
    ⊎_elim (λ q. ap f q ∙ e) (λ ne. greatest_top k f t (omega arith) (omega arith)) (cases_eq t k))
    (cases_Bool (f k))

-- a test that holds at 0, fails at h, and holds below each place where it holds: it holds up to the greatest
module _ (h : ℕ) (f : ℕ → Bool) (z : f 0 ≡ true) (end : f h ≡ false)
    (down : (t : ℕ) → t < h → f (t + 1) ≡ true → f t ≡ true) where
  all_down : (d t : ℕ) → t + d ≤ h → f (t + d) ≡ true → f t ≡ true
  all_down zero t l e = let q : t + 0 ≡ t = omega arith in subst (λ (x : ℕ). f x ≡ true) q e
  all_down (suc d) t l e =
      let q : t + suc d ≡ (t + d) + 1 = omega arith in
      all_down d t (omega arith) (down (t + d) (omega arith) (subst (λ (x : ℕ). f x ≡ true) q e))

  pub up_to_greatest : (t : ℕ) → t ≤ h → f t ≡ leb t (greatest h f)
  up_to_greatest t l =
      let g : ℕ = greatest h f in
      ⊎_elim
      (λ x. ⊎_elim
      (λ e. ap f e ∙ (end ∙ sym (lt-leb t g x)))
      (λ ne. greatest_top h f t (omega arith) x ∙ sym (lt-leb t g x))
      (cases_eq t h))
      (λ x.
      let q : t + (g - t) ≡ g = omega arith in
      let low : g ≤ h = ⊎_elim (λ y. omega (arith, greatest_below h f y)) (λ y. none h y) (cases_lt 0 h) in
      all_down (g - t) t (omega arith) (subst (λ (v : ℕ). f v ≡ true) (sym q) (greatest_holds h f z))
      ∙ sym (le-leb t g x))
      (cases_lt (greatest h f) t)
    where
      none : (k : ℕ) → k ≤ 0 → greatest k f ≤ k
      none zero y = omega arith
      none (suc k) y = absurd (omega arith)

pub least_from_is : (k t x : ℕ) (f : ℕ → Bool) → ((j : ℕ) → t ≤ j → j < x → f j ≡ false) → t ≤ x → x ≤ t + k
    → (x < t + k → f x ≡ true) → least_from k t f ≡ x
least_from_is zero t x f none l u here = omega arith
least_from_is (suc k) t x f none l u here =
    ⊎_elim
    (λ e. cond-true _ _ _ (ap f e ∙ here (omega arith)) ∙ e)
    (λ ne.
    cond-false _ _ _ (none t (omega arith) (omega arith))
    ∙ least_from_is k (suc t) x f (λ j a c. none j (omega arith) c) (omega arith) (omega arith)
    (λ c. here (omega arith)))
    (cases_eq t x)
