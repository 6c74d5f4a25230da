-- What a table of arcs means as a network, and how its answers list the arcs of a node: one by one, from
-- the cursor on.
use Rattle.std.specs.Prelude.{◌≡◌, ℕ, zero, suc, ◌+◌, ◌-◌, ◌<◌, ◌≤◌, min, max, Bool, true, false, cond, Some, None, Option, MatchOption, ◌==◌, slice_index_or, length, refl}
use Rattle.std.proofs.Common.{arith, sym, ap, ◌∙◌, ⊎_elim}
use Rattle.std.proofs.lemmas.Bool.{eqb-true, eqb-false, cases_eq}
use Rattle.flow.specs.declared.network.Arc.{Arc}
use Rattle.flow.specs.declared.network.Step.{Step}
use Rattle.flow.specs.declared.network.Capacity.{Capacity}
use Rattle.flow.specs.declared.network.Capacity.TheVariants.{Bounded, Unbounded}
use Rattle.flow.specs.Nets.{Net, Bounds}
use Rattle.flow.specs.Answers.{Told, now_told, later_told, Lists, Adjacent}
use Rattle.flow_trial.specs.declared.table.Row.{Row}
use Rattle.flow_trial.specs.declared.table.Table.{Table}
use Rattle.flow_trial.specs.declared.table.End.{End}
use Rattle.flow_trial.specs.declared.table.End.TheVariants.{Tail, Head}

abbrev pub blank : Row
blank = record { arc = record { tail = 0; head = 0; capacity = Unbounded } }

abbrev pub entry_of : Table → ℕ → Arc
entry_of x k = (slice_index_or x.rows.items k blank).arc

abbrev pub nodes_of : Table → ℕ
nodes_of x = min (max x.nodes 2) 8

abbrev pub node_in : Table → ℕ → ℕ
node_in x v = min v (nodes_of x - 1)

abbrev pub amount : Capacity → ℕ
amount (Bounded most) = min most 2000000000
amount Unbounded = 0

abbrev pub is_unbounded : Capacity → Bool
is_unbounded (Bounded most) = false
is_unbounded Unbounded = true

abbrev pub limited : Capacity → Capacity
limited c = cond (is_unbounded c) Unbounded (Bounded (amount c))

abbrev pub table_net : Table → Net
table_net x =
    record {
      nodes = nodes_of x;
      arcs = min (length x.rows.items) 16;
      tail = λ k. node_in x (entry_of x k).tail;
      head = λ k. node_in x (entry_of x k).head;
      capacity = λ k. amount (entry_of x k).capacity;
      unbounded = λ k. is_unbounded (entry_of x k).capacity;
    }

amount_limit : (c : Capacity) → amount c ≤ 2000000000
amount_limit (Bounded most) = omega arith
amount_limit Unbounded = omega arith

pub table_bounds : (x : Table) → Bounds (table_net x)
table_bounds x =
    record {
      sound = record { two = omega arith; tails = λ k l. omega arith; heads = λ k l. omega arith };
      nodes_limit = omega arith;
      arcs_limit = omega arith;
      capacity_limit = λ k l. amount_limit (entry_of x k).capacity;
    }

-- what is told of arc k, with its far end
abbrev pub step_at : ℕ → ℕ → Step
step_at k v = record { arc = k; node = v; next = k + 1 }

-- the first of m arcs from c on whose near end is v
abbrev pub scan : (near far : ℕ → ℕ) → ℕ → ℕ → ℕ → Option Step
scan near far v zero c = None
scan near far v (suc m) c =
    cond (near c == v) (Some (record { arc = c; node = far c; next = c + 1 })) (scan near far v m (c + 1))

-- what a node answers at a cursor, of the arcs below `arcs`
abbrev pub listed : (near far : ℕ → ℕ) → ℕ → ℕ → ℕ → Option Step
listed near far arcs v c = scan near far v (arcs - c) c

module _ (near far : ℕ → ℕ) (v : ℕ) where
  scan_sound : (m c : ℕ) (s : Step) → scan near far v m c ≡ Some s
      → (c ≤ s.arc) × (s.arc < c + m) × (near s.arc ≡ v) × (far s.arc ≡ s.node) × (s.next ≡ s.arc + 1)
  scan_sound zero c s e = absurd (let z : ◌≡◌ {A = ℕ} 0 1 = cc in omega arith)
  scan_sound (suc m) c s e = go (scan_sound m (c + 1) s) (near c == v) refl e
    where
      go : (scan near far v m (c + 1) ≡ Some s
          → (c + 1 ≤ s.arc) × (s.arc < c + 1 + m) × (near s.arc ≡ v) × (far s.arc ≡ s.node)
          × (s.next ≡ s.arc + 1))
          → (b : Bool) → (near c == v) ≡ b
          → cond b (Some (record { arc = c; node = far c; next = c + 1 })) (scan near far v m (c + 1)) ≡ Some s
          → (c ≤ s.arc) × (s.arc < c + suc m) × (near s.arc ≡ v) × (far s.arc ≡ s.node)
          × (s.next ≡ s.arc + 1)
      go later true h q =
          let same_arc : s.arc ≡ c = cc in
          let same_node : s.node ≡ far c = cc in
          let same_next : s.next ≡ c + 1 = cc in (
            omega arith,
            omega arith,
            ap near same_arc ∙ eqb-true (near c) v h,
            ap far same_arc ∙ sym same_node,
            omega arith,
          )
      go later false h q =
          let x = later q in
          (omega (arith, x.0), omega (arith, x.1), x.2, x.3, x.4)

  scan_finds : (k : ℕ) → near k ≡ v → (m c : ℕ) → c ≤ k → k < c + m
      → (s : Step) × (scan near far v m c ≡ Some s) × (c ≤ s.arc) × (s.arc ≤ k) × (s.next ≡ s.arc + 1)
  scan_finds k e zero c l h = absurd (omega arith)
  scan_finds k e (suc m) c l h = go (scan_finds k e m (c + 1)) (near c == v) refl
    where
      go : (c + 1 ≤ k → k < c + 1 + m
          → (s : Step) × (scan near far v m (c + 1) ≡ Some s) × (c + 1 ≤ s.arc) × (s.arc ≤ k)
          × (s.next ≡ s.arc + 1))
          → (b : Bool) → (near c == v) ≡ b
          → (s : Step) × (cond b (Some (record { arc = c; node = far c; next = c + 1 }))
          (scan near far v m (c + 1)) ≡ Some s)
          × (c ≤ s.arc) × (s.arc ≤ k) × (s.next ≡ s.arc + 1)
      go later true q = (record { arc = c; node = far c; next = c + 1 }, refl, omega arith, l, refl)
      go later false q =
          let less : c < k = ⊎_elim (λ z. absurd (eqb-false (near c) v q (ap near z ∙ e))) (λ ne. omega arith)
          (cases_eq c k) in
          let x = later (omega arith) (omega arith) in
          (x.0, x.1, omega (arith, x.2), x.3, x.4)

  told_from : (arcs k : ℕ) → near k ≡ v → k < arcs → (m c : ℕ) → c ≤ k → k < c + m → Told (listed near far arcs v) k c
  told_from arcs k e b zero c l h = absurd (omega arith)
  told_from arcs k e b (suc m) c l h =
      let x = scan_finds k e (arcs - c) c l (omega arith) in
      ⊎_elim
      (λ z. now_told c x.0 x.1 z)
      (λ ne. later_told c x.0 x.1 (told_from arcs k e b m x.0.next (omega (arith, x.3, x.4))
      (omega (arith, x.2, x.4))))
      (cases_eq x.0.arc k)

  pub listed_lists : (n : Net) → n.arcs ≤ 50000 → Lists n near far v (listed near far n.arcs v)
  listed_lists n few =
      record {
        sound = λ c s e.
            let x = scan_sound (n.arcs - c) c s e in
            record {
              exists = omega (arith, x.0, x.1);
              here = x.2;
              there = x.3;
              onward = omega (arith, x.0, x.4);
              limit = omega (arith, x.0, x.1, x.4);
            };
        complete = λ k b e. told_from n.arcs k e b n.arcs 0 (omega arith) (omega arith);
      }

abbrev pub end_of : End → Net → ℕ → ℕ
end_of Tail n = n.tail
end_of Head n = n.head

-- r is the first arc from c on whose end is v, if there is one
abbrev pub IsFirstAt : (end : ℕ → ℕ) → ℕ → ℕ → ℕ → Option ℕ → Type 0
IsFirstAt end arcs v c r =
    MatchOption r ((k : ℕ) → c ≤ k → k < arcs → end k ≡ v → ⊥)
    (λ i. (c ≤ i) × (i < arcs) × (end i ≡ v) × ((k : ℕ) → c ≤ k → k < i → end k ≡ v → ⊥))

-- what is listed of the arcs whose near end is a node
abbrev pub listed_at : (near far : End) → Table → ℕ → ℕ → Option Step
listed_at near far x v c = listed (end_of near (table_net x)) (end_of far (table_net x)) (table_net x).arcs v c

abbrev pub leaving_of : Table → ℕ → ℕ → Option Step
leaving_of x v c = listed_at Tail Head x v c

abbrev pub entering_of : Table → ℕ → ℕ → Option Step
entering_of x v c = listed_at Head Tail x v c

pub table_adjacent : (x : Table) → Adjacent (table_net x) (leaving_of x) (entering_of x)
table_adjacent x =
    record {
      leaving_lists = λ v l. listed_lists (table_net x).tail (table_net x).head v (table_net x) (omega arith);
      entering_lists = λ v l. listed_lists (table_net x).head (table_net x).tail v (table_net x) (omega arith);
    }
