-- No value is above a cut; where nothing leads on, the two are equal; the least of the least cuts.
use Rattle.std.proofs.Common.{◌≡◌, ℕ, ◌+◌, ◌<◌, ◌≤◌, Bool, true, false, not, ◌&&◌, sym, refl, ap, ◌∙◌, ⊎_elim, arith}
use Rattle.std.proofs.lemmas.Bool.{cases_eq, true≢false, cases_Bool, or_left, or_parts, ltb-true, ltb-false, or_cases, both_ways}
use Rattle.flow.specs.Sums.{pick}
use Rattle.flow.specs.Nets.{Net, Sound, IsFlow, room, Reached, source, along, back, Unhindered}
use Rattle.flow.specs.Cuts.{across, back_across, FiniteCut, Closed, Marks, NoFlowExceedsACut, ClosedCutHasTheValue, ReachedLiesInside, MarksAgree}
use Rattle.flow.proofs.Sums.{sum_to_same, sum_to_le, sum_to_zero, sum_to_at, sum_to_tight}
use Rattle.flow.proofs.Cuts.{value_crosses_every_cut}

-- what counts over the arcs from a to not b
pick_out_le : (a b : Bool) (x y : ℕ) → (a ≡ true → b ≡ false → x ≤ y) → pick (a && not b) x ≤ pick (a && not b) y
pick_out_le true true x y h = omega arith
pick_out_le true false x y h = h refl refl
pick_out_le false true x y h = omega arith
pick_out_le false false x y h = omega arith

pick_out : (a b : Bool) (x y : ℕ) → (a ≡ true → b ≡ false → x ≡ y) → pick (a && not b) x ≡ pick (a && not b) y
pick_out true true x y h = refl
pick_out true false x y h = h refl refl
pick_out false true x y h = refl
pick_out false false x y h = refl

out_pick : (a b : Bool) (x y : ℕ) → a ≡ true → b ≡ false → pick (a && not b) x ≡ pick (a && not b) y → x ≡ y
out_pick true true x y p q e = absurd (true≢false q)
out_pick true false x y p q e = e
out_pick false true x y p q e = absurd (true≢false (sym p))
out_pick false false x y p q e = absurd (true≢false (sym p))

not_unbounded : (n : Net) (S : ℕ → Bool) → FiniteCut n S → (k : ℕ) → k < n.arcs → S (n.tail k) ≡ true → S
    (n.head k) ≡ false → n.unbounded k ≡ false
not_unbounded n S b k l t h =
    ⊎_elim (λ e. absurd (both_ways _ h (b.none_unbounded k l t e))) (λ e. e) (cases_Bool (n.unbounded k))

across_le : (n : Net) (f : ℕ → ℕ) (w : ℕ) → IsFlow n f w → (S : ℕ → Bool) → FiniteCut n S → (k : ℕ) → k < n.arcs
    → pick (S (n.tail k) && not (S (n.head k))) (f k) ≤ pick (S (n.tail k) && not (S (n.head k))) (n.capacity k)
across_le n f w flow S b k l =
    pick_out_le (S (n.tail k)) (S (n.head k)) (f k) (n.capacity k)
    (λ t h. flow.below k l (not_unbounded n S b k l t h))

pub no_flow_exceeds_a_cut : NoFlowExceedsACut
no_flow_exceeds_a_cut n s f w flow S b =
    let cut = value_crosses_every_cut n s f w flow S (b.has_source, b.lacks_sink) in
    omega (arith, cut, sum_to_le _ _ n.arcs (across_le n f w flow S b))

pub closed_cut_has_the_value : ClosedCutHasTheValue
closed_cut_has_the_value n s f w flow S (src, snk) closed = (bounded, omega (arith, cut, out, none))
  where
    cut : across n S f ≡ back_across n S f + w
    cut = value_crosses_every_cut n s f w flow S (src, snk)

    bounded : FiniteCut n S
    bounded =
        record { has_source = src; lacks_sink = snk; none_unbounded = λ k l t e. closed.on k l t (or_left _ _ e) }

    full : (k : ℕ) → k < n.arcs → S (n.tail k) ≡ true → S (n.head k) ≡ false → f k ≡ n.capacity k
    full k l t h =
        ⊎_elim
        (λ e. absurd (both_ways _ h (closed.on k l t e)))
        (λ e. omega (
          arith,
          flow.below k l (or_parts (n.unbounded k) _ e).0,
          ltb-false (f k) (n.capacity k)
              (or_parts (n.unbounded k) _ e).1,
        ))
        (cases_Bool (room n f k))

    empty : (k : ℕ) → k < n.arcs → S (n.head k) ≡ true → S (n.tail k) ≡ false → f k ≡ 0
    empty k l h t =
        ⊎_elim (λ e. e) (λ ne. absurd (both_ways _ t (closed.off k l h (omega arith)))) (cases_eq (f k) 0)

    out : across n S f ≡ across n S n.capacity
    out = sum_to_same _ _ n.arcs (λ k l. pick_out (S (n.tail k)) (S (n.head k)) (f k) (n.capacity k) (full k l))

    none : back_across n S f ≡ 0
    none =
        sum_to_same _ (λ k. 0) n.arcs
        (λ k l. pick_out (S (n.head k)) (S (n.tail k)) (f k) 0 (empty k l) ∙ zero_pick
        (S (n.head k) && not (S (n.tail k))))
        ∙ sum_to_zero n.arcs
      where
        zero_pick : (b : Bool) → pick b 0 ≡ 0
        zero_pick true = refl
        zero_pick false = refl

-- a cut as dear as the flow is closed
pub tight_closed : (n : Net) → Sound n → (f : ℕ → ℕ) (w : ℕ) → IsFlow n f w → (S : ℕ → Bool) → FiniteCut n S
    → across n S n.capacity ≡ w → Closed n f S
tight_closed n s f w flow S b dear = record { on = on; off = off }
  where
    cut : across n S f ≡ back_across n S f + w
    cut = value_crosses_every_cut n s f w flow S (b.has_source, b.lacks_sink)

    most : across n S f ≤ across n S n.capacity
    most = sum_to_le _ _ n.arcs (across_le n f w flow S b)

    full : (k : ℕ) → k < n.arcs → S (n.tail k) ≡ true → S (n.head k) ≡ false → f k ≡ n.capacity k
    full k l t h =
        out_pick (S (n.tail k)) (S (n.head k)) (f k) (n.capacity k) t h
        (sum_to_tight _ _ n.arcs (across_le n f w flow S b) (omega (arith, cut)) k l)

    empty : (k : ℕ) → k < n.arcs → S (n.head k) ≡ true → S (n.tail k) ≡ false → f k ≡ 0
    empty k l h t =
        let at = sum_to_at (λ j. pick (S (n.head j) && not (S (n.tail j))) (f j)) k n.arcs l in
        let is : pick (S (n.head k) && not (S (n.tail k))) (f k) ≡ f k = ap
        (λ x. pick (x && not (S (n.tail k))) (f k)) h ∙ ap (λ x. pick (not x) (f k)) t in
        omega (arith, cut, most)

    on : (k : ℕ) → k < n.arcs → S (n.tail k) ≡ true → room n f k ≡ true → S (n.head k) ≡ true
    on k l t r =
        ⊎_elim (λ e. e)
        (λ e. absurd (⊎_elim
        (λ u. both_ways _ e (b.none_unbounded k l t u))
        (λ u. let x = ltb-true (f k) (n.capacity k) u in let y = full k l t e in omega arith)
        (or_cases (n.unbounded k) _ r)))
        (cases_Bool (S (n.head k)))

    off : (k : ℕ) → k < n.arcs → S (n.head k) ≡ true → 0 < f k → S (n.tail k) ≡ true
    off k l h p = ⊎_elim (λ e. e) (λ e. absurd (let y = empty k l h e in omega arith)) (cases_Bool (S (n.tail k)))

pub reached_in : {n : Net} {f : ℕ → ℕ} (S : ℕ → Bool) → Closed n f S → S 0 ≡ true → {v : ℕ} → Reached n f v → S
    v ≡ true
reached_in S c z source = z
reached_in S c z (along k l r p) = c.on k l (reached_in S c z p) r
reached_in S c z (back k l r p) = c.off k l (reached_in S c z p) r

pub reached_lies_inside : ReachedLiesInside
reached_lies_inside n s f w flow S b dear v r = reached_in S (tight_closed n s f w flow S b dear) b.has_source r

-- the marks of a flow are closed
pub marks_closed : (n : Net) (f : ℕ → ℕ) (m : ℕ → Bool) → Sound n → Marks n f m → Closed n f m
marks_closed n f m s k =
    record {
      on = λ j l t r. k.reached _ (along j l r (k.marked _ (s.tails j l) t));
      off = λ j l t r. k.reached _ (back j l r (k.marked _ (s.heads j l) t));
    }

-- where the sink is not marked, the marks are a cut whose capacity is the value
pub marks_cut : (n : Net) → Sound n → (f : ℕ → ℕ) (w : ℕ) → IsFlow n f w → (m : ℕ → Bool) → Marks n f m
    → m 1 ≡ false → FiniteCut n m × (across n m n.capacity ≡ w)
marks_cut n s f w flow m k none =
    closed_cut_has_the_value n s f w flow m (k.reached 0 source, none) (marks_closed n f m s k)

-- the marks of two flows of one value, the first of them below those of the second
marks_below : (n : Net) → Sound n → (f g : ℕ → ℕ) (w : ℕ) → IsFlow n f w → IsFlow n g w → (a b : ℕ → Bool)
    → Marks n f a → Marks n g b → a 1 ≡ false → (v : ℕ) → v < n.nodes → b v ≡ true → a v ≡ true
marks_below n s f g w ff fg a b ma mb none v l t =
    let cut = marks_cut n s f w ff a ma none in
    reached_lies_inside n s g w fg a cut.0 cut.1 v (mb.marked v l t)

pub marks_agree : MarksAgree
marks_agree n s f g w ff fg a b ma mb none v l = go (a v) (b v) refl refl
  where
    other_none : b 1 ≡ false
    other_none =
        ⊎_elim
        (λ t. absurd (both_ways _ none (marks_below n s f g w ff fg a b ma mb none 1 (omega (arith, s.two)) t)))
        (λ e. e)
        (cases_Bool (b 1))

    go : (x y : Bool) → a v ≡ x → b v ≡ y → x ≡ y
    go true true p q = refl
    go false false p q = refl
    go true false p q = absurd (both_ways _ q (marks_below n s g f w fg ff b a mb ma other_none v l p))
    go false true p q = absurd (both_ways _ p (marks_below n s f g w ff fg a b ma mb none v l q))

-- unbounded arcs alone lead to no node outside a finite cut
pub unhindered_inside : {n : Net} (S : ℕ → Bool) → FiniteCut n S → {v : ℕ} → Unhindered n v → S v ≡ true
unhindered_inside S c Unhindered.source = c.has_source
unhindered_inside S c (Unhindered.along k l u p) = c.none_unbounded k l (unhindered_inside S c p) u
