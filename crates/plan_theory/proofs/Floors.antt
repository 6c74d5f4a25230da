-- No open price is below the floor; what a list costs above the floors.
use Rattle.std.proofs.Common.{◌≡◌, ℕ, zero, suc, ◌<◌, true, List, ℤ, pos, ◌+ℤ◌, ◌-ℤ◌, nat_abs, ◌≤ℤ◌, Some, None, Option, unwrap_or, sym, refl, ap, ◌∙◌, subst, ⊎_elim, arith}
use Rattle.std.proofs.lemmas.Int.{ints, clamps}
use Rattle.std.proofs.lemmas.Bool.{cases_eq, cond-true, lt-ltb, and_from, true≢false}
use Rattle.model.specs.declared.price.Price.{Price}
use Rattle.model.specs.declared.price.Price.TheVariants.{Open, Closed}
use Rattle.model.specs.Meaning.{Meaning, price_of}
use Rattle.model.specs.Starts.{start, is_open, value, sum_of, cost, lower, least_open, floor, floors}
use Rattle.model.specs.Chosen.{Meets}
use Rattle.flow.specs.Sums.{sum_to}
use Rattle.plan_theory.specs.TimeNetwork.{above}

-- it is there, and not above p
abbrev AtMost : Option ℤ → ℤ → Type 0
AtMost None p = ⊥
AtMost (Some q) p = q ≤ℤ p

lower_takes : (o : Option ℤ) (p : ℤ) → AtMost (lower o (Some (Open p))) p
lower_takes None p = omega (arith, ints)
lower_takes (Some q) p = omega (arith, ints, clamps)

lower_keeps : (o : Option ℤ) (x : Option Price) (p : ℤ) → AtMost o p → AtMost (lower o x) p
lower_keeps None x p l = absurd l
lower_keeps (Some q) None p l = l
lower_keeps (Some q) (Some (Closed h)) p l = l
lower_keeps (Some q) (Some (Open r)) p l = omega (arith, ints, clamps)

least_open_le : (f : ℕ → Option Price) (k t : ℕ) (p : ℤ) → t < k → f t ≡ Some (Open p)
    → AtMost (least_open k f) p
least_open_le f zero t p l e = absurd (omega arith)
least_open_le f (suc k) t p l e =
    ⊎_elim
    (λ q.
    subst (λ (x : Option Price). AtMost (lower (least_open k f) x) p) (sym (ap f (sym q) ∙ e))
    (lower_takes (least_open k f) p))
    (λ ne. lower_keeps (least_open k f) (f k) p (least_open_le f k t p (omega arith) e))
    (cases_eq t k)

at_most_value : (o : Option ℤ) (p : ℤ) → AtMost o p → unwrap_or o (pos 0) ≤ℤ p
at_most_value None p l = absurd l
at_most_value (Some q) p l = l

pub floor_le : (m : Meaning) (a t : ℕ) (p : ℤ) → a < m.n → t < m.horizon → m.price a t ≡ Open p
    → floor m a ≤ℤ p
floor_le m a t p la lt e =
    at_most_value (least_open m.horizon (price_of m a)) p
    (least_open_le (price_of m a) m.horizon t p lt
    (cond-true _ _ _ (and_from _ _ (lt-ltb a m.n la) (lt-ltb t m.horizon lt)) ∙ ap Some e))

-- an open price is the floor and what it is above it
pub price_above : (m : Meaning) (a t : ℕ) → a < m.n → t < m.horizon → is_open (m.price a t) ≡ true
    → value (m.price a t) ≡ floor m a +ℤ pos (above (floor m a) (m.price a t))
price_above m a t la lt = go (m.price a t) refl
  where
    go : (x : Price) → m.price a t ≡ x → is_open x ≡ true → value x ≡ floor m a +ℤ pos (above (floor m a) x)
    go (Closed h) e o = absurd (true≢false (sym o))
    go (Open p) e o = over p (floor m a) (floor_le m a t p la lt e)
      where
        over : (x low : ℤ) → low ≤ℤ x → x ≡ low +ℤ pos (nat_abs (x -ℤ low))
        over x low l = omega (arith, ints)

-- what a list costs above the floors, slot by slot
abbrev pub excess : Meaning → List ℕ → ℕ
excess m s = sum_to (λ a. above (floor m a) (m.price a (start s a))) m.n

sums : (n : ℕ) (f g : ℕ → ℤ) (c : ℕ → ℕ) → ((a : ℕ) → a < n → f a ≡ g a +ℤ pos (c a))
    → sum_of n f ≡ sum_of n g +ℤ pos (sum_to c n)
sums zero f g c h = refl
sums (suc n) f g c h =
    let x = sums n f g c (λ a l. h a (omega arith)) in
    let y = h n (omega arith) in
    omega (arith, ints)

pub cost_above : (m : Meaning) (s : List ℕ) → Meets m s → cost m s ≡ floors m +ℤ pos (excess m s)
cost_above m s x =
    sums m.n (λ a. value (m.price a (start s a))) (floor m)
    (λ a. above (floor m a) (m.price a (start s a)))
    (λ a l. price_above m a (start s a) l (x.below_horizon a l) (x.in_open_slots a l))
