-- The least place from k on, below a count, at which a test holds; the count if there is none.
use Rattle.std.specs.Prelude.{◌≡◌, ℕ, zero, suc, ◌+◌, ◌-◌, ◌<◌, ◌≤◌, Bool, true, false, cond}
use Rattle.std.proofs.Common.{arith, ⊎_elim, sym, ap, ◌∙◌, subst}
use Rattle.std.proofs.lemmas.Bool.{both_ways, cases_order, cases_Bool, cases_lt, cond-true, cond-false}

abbrev pub seek_in : (ℕ → Bool) → ℕ → ℕ → ℕ
seek_in p zero k = k
seek_in p (suc left) k = cond (p k) k (seek_in p left (k + 1))

abbrev pub seek : (ℕ → Bool) → ℕ → ℕ → ℕ
seek p count k = seek_in p (count - k) k

-- r is that place
pub record Sought (p : ℕ → Bool) (count k r : ℕ) : Type 0 where
  pub low : k ≤ r
  pub high : r ≤ count
  pub hit : r < count → p r ≡ true
  pub none : (j : ℕ) → k ≤ j → j < r → p j ≡ false

sought_here : (p : ℕ → Bool) (count k : ℕ) → k ≤ count → (k < count → p k ≡ true) → Sought p count k k
sought_here p count k l e =
    record { low = omega arith; high = l; hit = e; none = λ j a b. absurd (omega arith) }

-- a place that fails can be passed over
sought_on : (p : ℕ → Bool) (count k r : ℕ) → p k ≡ false → Sought p count (k + 1) r → Sought p count k r
sought_on p count k r e s =
    record {
      low = omega (arith, s.low);
      high = s.high;
      hit = s.hit;
      none = λ j a b.
          ⊎_elim (λ q. ap p (sym q) ∙ e)
          (⊎_elim (λ q. s.none j (omega arith) b) (λ q. absurd (omega arith)))
          (cases_order k j);
    }

seek_in_sought : (p : ℕ → Bool) (left k count : ℕ) → k + left ≡ count → Sought p count k (seek_in p left k)
seek_in_sought p zero k count e = sought_here p count k (omega arith) (λ l. absurd (omega arith))
seek_in_sought p (suc left) k count e =
    ⊎_elim
    (λ t. subst (Sought p count k) (sym (cond-true (p k) k (seek_in p left (k + 1)) t)) (sought_here p count k (omega arith) (λ l. t)))
    (λ f. subst (Sought p count k) (sym (cond-false (p k) k (seek_in p left (k + 1)) f))
    (sought_on p count k (seek_in p left (k + 1)) f (seek_in_sought p left (k + 1) count (omega arith))))
    (cases_Bool (p k))

pub seek_sought : (p : ℕ → Bool) (count k : ℕ) → k ≤ count → Sought p count k (seek p count k)
seek_sought p count k l = seek_in_sought p (count - k) k count (omega arith)

-- there is only one
pub sought_same : (p : ℕ → Bool) (count k r s : ℕ) → Sought p count k r → Sought p count k s → r ≡ s
sought_same p count k r s a b =
    ⊎_elim (λ e. e)
    (⊎_elim
    (λ l. absurd (both_ways (p r) (b.none r a.low l) (a.hit (omega (arith, b.high)))))
    (λ l. absurd (both_ways (p s) (a.none s b.low l) (b.hit (omega (arith, a.high))))))
    (cases_order r s)

pub seek_past : (p : ℕ → Bool) (count k : ℕ) → count ≤ k → seek p count k ≡ k
seek_past p count k l = let e : count - k ≡ 0 = omega arith in ap (λ (x : ℕ). seek_in p x k) e

pub seek_here : (p : ℕ → Bool) (count k : ℕ) → p k ≡ true → seek p count k ≡ k
seek_here p count k t =
    ⊎_elim
    (λ l. sought_same p count k (seek p count k) k (seek_sought p count k (omega arith)) (sought_here p count k (omega arith) (λ x. t)))
    (λ l. seek_past p count k l)
    (cases_lt k count)

-- places that all fail can be passed over
pub seek_skip : (p : ℕ → Bool) (count k j : ℕ) → k ≤ j → j ≤ count → ((i : ℕ) → k ≤ i → i < j → p i ≡ false)
    → seek p count k ≡ seek p count j
seek_skip p count k j a b f =
    let s = seek_sought p count j b in
    sought_same p count k (seek p count k) (seek p count j) (seek_sought p count k (omega arith))
    (record {
      low = omega (arith, s.low);
      high = s.high;
      hit = s.hit;
      none = λ i x y. ⊎_elim (λ z. f i x z) (λ z. s.none i z y) (cases_lt i j);
    })

-- it does not pass over a place that holds
pub seek_before : (p : ℕ → Bool) (count k i : ℕ) → k ≤ i → i < count → p i ≡ true → seek p count k ≤ i
seek_before p count k i a b t =
    let s = seek_sought p count k (omega arith) in
    ⊎_elim (λ l. absurd (both_ways (p i) (s.none i a l) t)) (λ l. l) (cases_lt i (seek p count k))

-- what is found below the count was sought from below it
pub seek_found : (p : ℕ → Bool) (count k : ℕ) → seek p count k < count → Sought p count k (seek p count k)
seek_found p count k l =
    ⊎_elim (λ x. seek_sought p count k (omega arith)) (λ x. absurd (omega (arith, seek_past p count k x))) (cases_lt k count)
