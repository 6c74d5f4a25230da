-- What the sums at a node tell of its fault, and how many arcs and nodes there are.
use Rattle.std.proofs.Common.{◌≡◌, ℕ, ◌+◌, ◌-◌, ◌*◌, ◌/◌, ◌%◌, ◌≤◌, List, Some, None, sym, refl, ap, ◌∙◌, arith}
use Rattle.std.proofs.lemmas.Nat.{mul-le}
use Rattle.std.proofs.lemmas.Bool.{eq-eqb, ne_eqb, cond-true, cond-false}
use Rattle.model.specs.declared.refusal.Fault.TheVariants.{Unbalanced}
use Rattle.model.specs.Refusals.{refuse}
use Rattle.model.specs.Meaning.{Meaning, Bounds}
use Rattle.flow.specs.Nets.{word, outflow, inflow}
use Rattle.plan_theory.specs.TimeNetwork.{time_net}
use Rattle.certificate.specs.Sums.{out_of, in_to}
use Rattle.certificate.proofs.Points.{Node, outflow_at, inflow_at}
use Rattle.certificate.specs.Faults.{arcs_of, inner_nodes, node_fault}

-- the sums at an inner node, by its activity and slot, decide whether it is balanced
module _ (m : Meaning) (f : List ℕ) (h i x y : ℕ) (n : Node m h i)
    (out : x ≡ out_of m f (i / (h - 1)) (i % (h - 1) + 1))
    (into : y ≡ in_to m f (i / (h - 1)) (i % (h - 1) + 1)) where
  out_here : outflow (time_net m) (word f) (2 + i) ≡ x
  out_here =
      ap (outflow (time_net m) (word f)) (sym n.place)
      ∙ (outflow_at m f (i / (h - 1)) (i % (h - 1) + 1) n.activity_in (omega arith) n.slot_in ∙ sym out)

  into_here : inflow (time_net m) (word f) (2 + i) ≡ y
  into_here =
      ap (inflow (time_net m) (word f)) (sym n.place)
      ∙ (inflow_at m f (i / (h - 1)) (i % (h - 1) + 1) n.activity_in (omega arith) n.slot_in ∙ sym into)

  pub node_clear : x ≡ y → node_fault m f (2 + i) ≡ None
  node_clear same = cond-true _ _ _ (eq-eqb _ _ (out_here ∙ (same ∙ sym into_here)))

  pub node_bad : (x ≡ y → ⊥) → node_fault m f (2 + i) ≡ Some (refuse Unbalanced (2 + i))
  node_bad differ = cond-false _ _ _ (ne_eqb _ _ (λ q. differ (sym out_here ∙ (q ∙ into_here))))

-- the counts that a project answers, and their limits
pub nodes_same : (m : Meaning) (n h : ℕ) → n ≡ m.n → h ≡ m.horizon → n * (h - 1) ≡ inner_nodes m
nodes_same m n h en eh = rw (en, eh) refl

pub arcs_low : (m : Meaning) → Bounds m → arcs_of m ≤ 49152
arcs_low m b =
    let rows : 2 * m.n + m.lags ≤ 384 = omega (arith, b.n_high, b.lags_ok) in
    omega (arith, mul-le m.horizon (2 * m.n + m.lags) 128 384 b.h_high rows)

pub nodes_low : (m : Meaning) → Bounds m → inner_nodes m ≤ 8128
nodes_low m b = omega (arith, mul-le m.n (m.horizon - 1) 64 127 b.n_high (omega (arith, b.h_high)))
