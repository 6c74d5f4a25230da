-- What the parts of a check that find no fault tell of a plan, and the other way round.
use Rattle.std.proofs.Common.{◌≡◌, ℕ, zero, suc, ◌+◌, ◌-◌, ◌<◌, ◌≤◌, Bool, true, false, cond, ltb, List, length, take, ℤ, pos, negsuc, ◌+ℤ◌, ◌-ℤ◌, ◌≤ℤ◌, Some, None, Option, unwrap_or, Result, eqb, sym, refl, ap, ◌∙◌, subst, ⊎_elim, arith, length-take}
use lib.Signed.{le_z}
use Rattle.std.proofs.lemmas.Int.{ints}
use Rattle.std.proofs.lemmas.Bool.{eq-eqb, eqb-true, le-leb, leb-true, lt-ltb, ltb-true, cond-true, cond-false, cond_both, and_from, and_parts, both_ways, cases_Bool, cases_eq}
use Rattle.model.specs.declared.price.Price.{Price}
use Rattle.model.specs.declared.price.Price.TheVariants.{Open, Closed}
use Rattle.model.specs.declared.refusal.Fault.TheVariants.{ValueDiffers}
use Rattle.model.specs.declared.refusal.Refusal.{Refusal}
use Rattle.model.specs.Meaning.{Meaning, Bounds, price_of}
use Rattle.model.specs.Starts.{start, is_open, cost, floor, floors, holds}
use Rattle.model.specs.Chosen.{Meets}
use Rattle.flow.specs.Sums.{sum_to}
use Rattle.flow.specs.Nets.{IsFlow, word, outflow, inflow}
use Rattle.flow.proofs.Sums.{sum_to_same}
use Rattle.plan_theory.specs.TimeNetwork.{time_net, above}
use Rattle.plan_theory.specs.TimeBounds.{time_bounds}
use Rattle.plan_theory.proofs.Floors.{excess, cost_above}
use Rattle.plan_theory.proofs.Plans.{flow_vouches_for_cost}
use Rattle.certificate.specs.Faults.{or_else, each, arcs_of, inner_nodes, most, word_limit, start_fault, lag_fault, word_fault, node_fault, same_number, value_of, value_fault, worth_fault, unless_holds, starts_fault, lags_fault, words_fault, nodes_fault, check_fault, check_answer}
use Rattle.certificate.specs.Accepting.{Accounts, PassesExactly, PassedIsCheapest}
use Rattle.certificate.proofs.Chains.{clear, passes}
use Rattle.certificate.specs.Sums.{Carried, above_floors, above_if_open}

above_is : (low : ℤ) (p : Price) → unwrap_or (above_if_open low (Some p)) 0 ≡ above low p
above_is low (Open p) = refl
above_is low (Closed h) = refl

-- what starts that meet the project cost above the floors, price by price
pub costs_same : (m : Meaning) (s : List ℕ) → Meets m s → (n : ℕ) → n ≡ m.n
    → sum_to (λ a. unwrap_or (above_if_open (floor m a) (price_of m a (start s a))) 0) n
    ≡ sum_to (above_floors m s) m.n
costs_same m s x n e =
    sum_to_same _ (above_floors m s) n
    (λ a l.
    let la : a < m.n = omega arith in
    ap (λ (o : Option Price). unwrap_or (above_if_open (floor m a) o) 0)
    (cond-true _ _ _ (and_from _ _ (lt-ltb a m.n la) (lt-ltb (start s a) m.horizon (x.below_horizon a la))))
    ∙ above_is (floor m a) (m.price a (start s a)))
    ∙ ap (sum_to (above_floors m s)) e

le_int_refl : (x : ℤ) → le_z x x ≡ true
le_int_refl (pos a) = le-leb a a (omega arith)
le_int_refl (negsuc a) = le-leb a a (omega arith)

same_is : (x y : ℤ) → x ≡ y → same_number x y ≡ true
same_is x y e = ap (same_number x) (sym e) ∙ and_from (le_z x x) (le_z x x) (le_int_refl x) (le_int_refl x)

same_true : (x y : ℤ) → same_number x y ≡ true → x ≡ y
same_true x y e = let p = and_parts (le_z x y) (le_z y x) e in omega (arith, ints)

-- the value of a flow is what the starts cost above the floors
balance_is : (o i w : ℕ) (c f : ℤ) → c ≡ f +ℤ pos w → o ≡ i + w → pos o -ℤ pos i ≡ c -ℤ f
balance_is o i w c f e q = omega (arith, ints)

balance_from : (o i w : ℕ) (c f : ℤ) → c ≡ f +ℤ pos w → pos o -ℤ pos i ≡ c -ℤ f → o ≡ i + w
balance_from o i w c f e q = omega (arith, ints)

-- the value is right: what leaves the source is what enters it and the cost above the floors
module _ (m : Meaning) (s f : List ℕ) (meeting : Meets m s) where
  worth_is : (w : ℕ) → w ≡ excess m s
      → outflow (time_net m) (word f) 0 ≡ inflow (time_net m) (word f) 0 + w
      → same_number (value_of m f) (cost m s -ℤ floors m) ≡ true
  worth_is w q e =
      same_is (value_of m f) (cost m s -ℤ floors m)
      (balance_is _ _ w (cost m s) (floors m)
      (cost_above m s meeting ∙ ap (λ (v : ℕ). floors m +ℤ pos v) (sym q)) e)

  worth_from : same_number (value_of m f) (cost m s -ℤ floors m) ≡ true
      → outflow (time_net m) (word f) 0 ≡ inflow (time_net m) (word f) 0 + excess m s
  worth_from e =
      balance_from _ _ (excess m s) (cost m s) (floors m) (cost_above m s meeting)
      (same_true (value_of m f) (cost m s -ℤ floors m) e)

  -- a cost that is worked out as a sum, in place of the costs
  pub worth_same : (w : ℕ) → w ≡ sum_to (above_floors m s) m.n → worth_fault m f w ≡ value_fault m s f
  worth_same w q =
      ap (λ (b : Bool). unless_holds b ValueDiffers 0)
      (⊎_elim
      (λ t. t ∙ sym (worth_is w q (eqb-true _ _ t)))
      (λ n.
      n
      ∙ sym
      (⊎_elim (λ t. let o = worth_from t in absurd (both_ways _ n (eq-eqb _ _ (o ∙ ap (λ (v : ℕ). into + v) (sym q)))))
      (λ no. no) (cases_Bool (same_number (value_of m f) (cost m s -ℤ floors m)))))
      (cases_Bool (eqb out (into + w))))
    where
      out : ℕ
      out = outflow (time_net m) (word f) 0

      into : ℕ
      into = inflow (time_net m) (word f) 0

-- a part that finds no fault, and the parts of a chain
holds_from : (b : Bool) (r : Refusal) → ◌≡◌ {A = Option Refusal} (cond b None (Some r)) None → b ≡ true
holds_from true r q = refl
holds_from false r q = absurd (let z : ◌≡◌ {A = ℕ} 0 1 = cc in omega arith)

pub or_parts : (f g : Option Refusal) → or_else f g ≡ None → (f ≡ None) × (g ≡ None)
or_parts None g e = (refl, e)
or_parts (Some r) g e = absurd (let z : ◌≡◌ {A = ℕ} 0 1 = cc in omega arith)

pub or_both : (f g : Option Refusal) → f ≡ None → g ≡ None → or_else f g ≡ None
or_both f g x y = ap (λ o. or_else o g) x ∙ y

pub each_none : (n : ℕ) (f : ℕ → Option Refusal) → each n f ≡ None → (k : ℕ) → k < n → f k ≡ None
each_none zero f e k l = absurd (omega arith)
each_none (suc n) f e k l =
    let p = or_parts (each n f) (f n) e in
    ⊎_elim (λ q. ap f q ∙ p.1) (λ ne. each_none n f p.0 k (omega arith)) (cases_eq k n)

pub none_each : (n : ℕ) (f : ℕ → Option Refusal) → ((k : ℕ) → k < n → f k ≡ None) → each n f ≡ None
none_each zero f all = refl
none_each (suc n) f all =
    or_both (each n f) (f n) (none_each n f (λ k l. all k (omega arith))) (all n (omega arith))

-- starts and lags without a fault meet the project
pub meets_of : (m : Meaning) (s : List ℕ) → length s ≡ m.n → starts_fault m s ≡ None → lags_fault m s ≡ None
    → Meets m s
meets_of m s one starts lags =
    record {
      one_each = one;
      below_horizon = λ a l. ltb-true _ _ (slot a l).0;
      in_open_slots = λ a l. (slot a l).1;
      lags_hold = λ k l.
          let e : holds (m.lag k) s ≡ true = holds_from _ _ (each_none m.lags (lag_fault m s) lags k l) in
          omega (arith, ints);
    }
  where
    slot : (a : ℕ) → a < m.n
        → (ltb (start s a) m.horizon ≡ true) × (is_open (m.price a (start s a)) ≡ true)
    slot a l = and_parts _ _ (holds_from _ _ (each_none m.n (start_fault m s) starts a l))

-- words without a fault are below the capacities and the limit
module _ (m : Meaning) (f : List ℕ) where
  below_most : words_fault m f ≡ None → (k : ℕ) → k < arcs_of m → word f k ≤ most m k
  below_most e k l = leb-true _ _ (holds_from _ _ (each_none (arcs_of m) (word_fault m f) e k l))

  pub carried_of : Bounds m → arcs_of m ≤ length f → words_fault m f ≡ None → Carried m f
  carried_of b long e =
      record {
        long = long;
        low = λ k l.
            let most_low : most m k ≤ 128000000000 =
            cond_both ((time_net m).unbounded k) word_limit ((time_net m).capacity k) (λ x. x ≤ 128000000000)
            (λ u. omega arith) (λ u. omega (arith, (time_bounds m b).capacity_limit k l)) in
            omega (arith, below_most e k l);
      }

  pub flow_of : words_fault m f ≡ None → nodes_fault m f ≡ None → (w : ℕ)
      → outflow (time_net m) (word f) 0 ≡ inflow (time_net m) (word f) 0 + w → IsFlow (time_net m) (word f) w
  flow_of words nodes w worth =
      record {
        below = λ k l u.
            let cap = cond-false ((time_net m).unbounded k) word_limit ((time_net m).capacity k) u in
            omega (arith, below_most words k l);
        balanced = λ v two l.
            let back : 2 + (v - 2) ≡ v = omega arith in
            subst (λ (x : ℕ). outflow (time_net m) (word f) x ≡ inflow (time_net m) (word f) x) back
            (eqb-true _ _ (holds_from _ _
            (each_none (inner_nodes m) (λ i. node_fault m f (2 + i)) nodes (v - 2) (omega arith))));
        worth = worth;
      }

  -- and the words of a flow have none
  pub words_clear : (w : ℕ) → IsFlow (time_net m) (word f) w → ((k : ℕ) → k < arcs_of m → word f k ≤ word_limit)
      → words_fault m f ≡ None
  words_clear w flow low =
      none_each (arcs_of m) (word_fault m f)
      (λ k l.
      cond-true _ _ _
      (le-leb (word f k) (most m k)
      (cond_both ((time_net m).unbounded k) word_limit ((time_net m).capacity k) (λ x. word f k ≤ x)
      (λ u. low k l) (λ u. flow.below k l u))))

  pub nodes_clear : (w : ℕ) → IsFlow (time_net m) (word f) w → nodes_fault m f ≡ None
  nodes_clear w flow =
      none_each (inner_nodes m) (λ i. node_fault m f (2 + i))
      (λ i l. cond-true _ _ _ (eq-eqb _ _ (flow.balanced (2 + i) (omega arith) (omega arith))))

pub starts_clear : (m : Meaning) (s : List ℕ) → Meets m s → starts_fault m s ≡ None
starts_clear m s x =
    none_each m.n (start_fault m s)
    (λ a l. cond-true _ _ _ (and_from _ _ (lt-ltb _ _ (x.below_horizon a l)) (x.in_open_slots a l)))

pub lags_clear : (m : Meaning) (s : List ℕ) → Meets m s → lags_fault m s ≡ None
lags_clear m s x =
    none_each m.lags (lag_fault m s) (λ k l. cond-true _ _ _ (le_int_from _ _ (x.lags_hold k l)))
  where
    le_int_from : (p q : ℤ) → p ≤ℤ q → le_z p q ≡ true
    le_int_from p q l = grind (arith, ints)

taken : (n : ℕ) (xs : List ℕ) → n ≤ length xs → length (take n xs) ≡ n
taken n xs l = simp length-take (omega arith)

taken_from : (n : ℕ) (xs : List ℕ) → length (take n xs) ≡ n → n ≤ length xs
taken_from n xs e = omega (arith, simp length-take at e)

-- no fault exactly when the flow accounts for the cost
module _ (m : Meaning) (b : Bounds m) (bytes f : List ℕ) where
  accounts_of : check_fault m bytes f ≡ None → (w : ℕ) × Accounts m bytes f w
  accounts_of e =
      let s = take m.n bytes in
      let sizes = or_parts _ _ e in
      let lengths = or_parts _ _ sizes.0 in
      let starts = or_parts _ _ sizes.1 in
      let lags = or_parts _ _ starts.1 in
      let words = or_parts _ _ lags.1 in
      let nodes = or_parts _ _ words.1 in
      let bytes_there : m.n ≤ length bytes = leb-true _ _ (holds_from _ _ lengths.0) in
      let words_there : arcs_of m ≤ length f = leb-true _ _ (holds_from _ _ lengths.1) in
      let meeting = meets_of m s (taken m.n bytes bytes_there) starts.0 lags.0 in
      let worth = worth_from m s f meeting (holds_from _ _ nodes.1) in (
        excess m s,
        record {
          enough_words = words_there;
          meeting = meeting;
          none_above = (carried_of m f b words_there words.0).low;
          a_flow = flow_of m f words.0 nodes.0 (excess m s) worth;
          costs = cost_above m s meeting;
        },
      )

  clear_of : (w : ℕ) → Accounts m bytes f w → check_fault m bytes f ≡ None
  clear_of w x =
      let s = take m.n bytes in
      let same : w ≡ excess m s = same_worth w (excess m s) (cost m s) (floors m) x.costs (cost_above m s x.meeting) in
      or_both _ _
      (or_both _ _ (cond-true _ _ _ (le-leb _ _ (taken_from m.n bytes x.meeting.one_each))) (cond-true _ _ _ (le-leb _ _ x.enough_words)))
      (or_both _ _ (starts_clear m s x.meeting)
      (or_both _ _ (lags_clear m s x.meeting)
      (or_both _ _ (words_clear m f w x.a_flow x.none_above)
      (or_both _ _ (nodes_clear m f w x.a_flow)
      (cond-true _ _ _ (worth_is m s f x.meeting w same x.a_flow.worth))))))
    where
      same_worth : (u v : ℕ) (c d : ℤ) → c ≡ d +ℤ pos u → c ≡ d +ℤ pos v → u ≡ v
      same_worth u v c d p q = omega (arith, ints)

  pub passes_exactly : (r : Result (Unit {0}) Refusal) → r ≡ check_answer m bytes f → PassesExactly m bytes f r
  passes_exactly r e =
      record {
        accounted = λ ok. accounts_of (clear (check_fault m bytes f) tt (sym ok ∙ e));
        passed = λ w x. e ∙ sym (passes (check_fault m bytes f) (clear_of w x));
      }

  pub passed_is_cheapest : (r : Result (Unit {0}) Refusal) → PassesExactly m bytes f r → PassedIsCheapest m bytes r
  passed_is_cheapest r x ok =
      let y = x.accounted ok in
      flow_vouches_for_cost m b (take m.n bytes) y.1.meeting (word f) y.0 y.1.a_flow y.1.costs
