-- Flows and cuts of the turned network.
use Rattle.std.proofs.Common.{◌≡◌, ℕ, zero, suc, ◌+◌, ◌<◌, ◌≤◌, Bool, true, false, cond, not, ◌&&◌, eqb, sym, refl, ap, ◌∙◌, ⊎_elim, arith}
use Rattle.std.proofs.lemmas.Bool.{eq-eqb, ne_eqb, eqb-true, eqb-false, cases_eq, cases_Bool, both_ways, not-true, not_from_false}
use Rattle.flow.specs.Sums.{sum_to, pick}
use Rattle.flow.specs.Nets.{Net, Sound, outflow, inflow}
use Rattle.flow.specs.Cuts.{across}
use Rattle.flow.specs.Turning.{other, turned, far_side, other_other, TurnedFlowIsAFlow, TurnedCutIsACut}
use Rattle.flow.proofs.Sums.{sum_to_same, sum_to_zero, sum_to_but}
use Rattle.flow.proofs.Cuts.{crossing}

-- a test for a name is a test for the other name
eqb_other : (a v : ℕ) → eqb (other a) v ≡ eqb a (other v)
eqb_other a v = go (eqb a (other v)) refl
  where
    go : (b : Bool) → eqb a (other v) ≡ b → eqb (other a) v ≡ b
    go true e = eq-eqb (other a) v (ap other (eqb-true a (other v) e) ∙ other_other v)
    go false e =
        ne_eqb (other a) v (λ q. eqb-false a (other v) e (sym (other_other a) ∙ ap other q))

turned_outflow : (n : Net) (f : ℕ → ℕ) (v : ℕ) → outflow (turned n) f v ≡ inflow n f (other v)
turned_outflow n f v = sum_to_same _ _ n.arcs (λ k l. ap (λ b. pick b (f k)) (eqb_other (n.head k) v))

turned_inflow : (n : Net) (f : ℕ → ℕ) (v : ℕ) → inflow (turned n) f v ≡ outflow n f (other v)
turned_inflow n f v = sum_to_same _ _ n.arcs (λ k l. ap (λ b. pick b (f k)) (eqb_other (n.tail k) v))

-- over all nodes as much is sent as is got
all_even : (n : Net) → Sound n → (f : ℕ → ℕ) → sum_to (outflow n f) n.nodes ≡ sum_to (inflow n f) n.nodes
all_even n s f = omega (arith, crossing n s f (λ v. true), sum_to_zero n.arcs)

other_high : (v : ℕ) → 2 ≤ v → other v ≡ v
other_high zero l = absurd (omega arith)
other_high (suc zero) l = absurd (omega arith)
other_high (suc (suc v)) l = refl

-- what each node sends, but at the sink what it gets
abbrev mixed : Net → (ℕ → ℕ) → ℕ → ℕ
mixed n f v = cond (eqb v 1) (inflow n f 1) (outflow n f v)

pub turned_flow_is_a_flow : TurnedFlowIsAFlow
turned_flow_is_a_flow n s f w t = record { below = t.below; balanced = balanced; worth = worth }
  where
    balanced : (v : ℕ) → 2 ≤ v → v < n.nodes → outflow n f v ≡ inflow n f v
    balanced v two l =
        sym (turned_inflow n f v ∙ ap (outflow n f) (other_high v two))
        ∙ (sym (t.balanced v two l) ∙ (turned_outflow n f v ∙ ap (inflow n f) (other_high v two)))

    mixed_off : (v : ℕ) → (v ≡ 1 → ⊥) → mixed n f v ≡ outflow n f v
    mixed_off v ne = ap (λ b. cond b (inflow n f 1) (outflow n f v)) (ne_eqb v 1 ne)

    mixed_sink : mixed n f 1 ≡ inflow n f 1
    mixed_sink = refl

    even : (v : ℕ) → v < n.nodes → (v ≡ 0 → ⊥) → mixed n f v ≡ inflow n f v
    even v l nz =
        ⊎_elim
        (λ e. ap (mixed n f) e ∙ (mixed_sink ∙ sym (ap (inflow n f) e)))
        (λ ne. mixed_off v ne ∙ balanced v (omega arith) l)
        (cases_eq v 1)

    worth : outflow n f 0 ≡ inflow n f 0 + w
    worth =
        let a = sum_to_but (outflow n f) (mixed n f) 1 n.nodes (omega (arith, s.two))
        (λ k l ne. sym (mixed_off k ne)) in
        let b = sum_to_but (mixed n f) (inflow n f) 0 n.nodes (omega (arith, s.two)) even in
        let first = mixed_off 0 (λ e. omega arith) in
        omega (arith, a, b, first, mixed_sink, all_even n s f, t.worth, turned_outflow n f 0, turned_inflow n f 0)

-- from a to not b, seen from the other side
turned_pick : (a b : Bool) (x : ℕ) → pick (not b && not (not a)) x ≡ pick (a && not b) x
turned_pick true true x = refl
turned_pick true false x = refl
turned_pick false true x = refl
turned_pick false false x = refl

pub turned_cut_is_a_cut : TurnedCutIsACut
turned_cut_is_a_cut n s S c =
    (record { has_source = ap not c.lacks_sink; lacks_sink = ap not c.has_source; none_unbounded = none }, same)
  where
    far_at : (v : ℕ) → far_side S (other v) ≡ not (S v)
    far_at v = ap (λ (u : ℕ). not (S u)) (other_other v)

    none : (k : ℕ) → k < n.arcs → far_side S (other (n.head k)) ≡ true → n.unbounded k ≡ true
        → far_side S (other (n.tail k)) ≡ true
    none k l h u =
        let out = not-true (S (n.head k)) (sym (far_at (n.head k)) ∙ h) in
        far_at (n.tail k) ∙
        ⊎_elim
        (λ t. absurd (both_ways _ out (c.none_unbounded k l t u)))
        (λ t. not_from_false (S (n.tail k)) t)
        (cases_Bool (S (n.tail k)))

    same : across (turned n) (far_side S) n.capacity ≡ across n S n.capacity
    same =
        sum_to_same _ _ n.arcs (λ k l.
        ap (λ b. pick (b && not (far_side S (other (n.tail k)))) (n.capacity k)) (far_at (n.head k))
        ∙ (ap (λ b. pick (not (S (n.head k)) && not b) (n.capacity k)) (far_at (n.tail k))
        ∙ turned_pick (S (n.tail k)) (S (n.head k)) (n.capacity k)))
