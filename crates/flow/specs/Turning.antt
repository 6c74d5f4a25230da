-- The turned network: source and sink change names and each arc runs the other way.
use Rattle.std.specs.Prelude.{◌≡◌, ℕ, zero, suc, ◌<◌, ◌≤◌, Bool, not, Some, None, Option, refl}
use Rattle.std.proofs.Common.{arith, sym, ap, ◌∙◌}
use Rattle.flow.specs.declared.network.Step.{Step}
use Rattle.flow.specs.Nets.{Net, Sound, Bounds, IsFlow}
use Rattle.flow.specs.Answers.{Names, Told, now_told, later_told, Lists, Adjacent}
use Rattle.flow.specs.Cuts.{across, FiniteCut}

-- source and sink change names
abbrev pub other : ℕ → ℕ
other zero = 1
other (suc zero) = 0
other (suc (suc v)) = suc (suc v)

abbrev pub turned : Net → Net
turned n =
    record {
      nodes = n.nodes;
      arcs = n.arcs;
      tail = λ k. other (n.head k);
      head = λ k. other (n.tail k);
      capacity = n.capacity;
      unbounded = n.unbounded;
    }

-- an answer with its far end under the other name
abbrev pub renamed : Option Step → Option Step
renamed (Some s) = Some (record { arc = s.arc; node = other s.node; next = s.next })
renamed None = None

-- a flow of the turned network is a flow of the network, with the same value
abbrev pub TurnedFlowIsAFlow : Type 0
TurnedFlowIsAFlow =
    (n : Net) → Sound n → (f : ℕ → ℕ) (w : ℕ) → IsFlow (turned n) f w → IsFlow n f w

-- the far side of a cut is a cut of the turned network, of the same capacity
abbrev pub far_side : (ℕ → Bool) → ℕ → Bool
far_side S v = not (S (other v))

abbrev pub TurnedCutIsACut : Type 0
TurnedCutIsACut =
    (n : Net) → Sound n → (S : ℕ → Bool) → FiniteCut n S
    → FiniteCut (turned n) (far_side S) × (across (turned n) (far_side S) n.capacity ≡ across n S n.capacity)

pub other_other : (v : ℕ) → other (other v) ≡ v
other_other zero = refl
other_other (suc zero) = refl
other_other (suc (suc v)) = refl

pub other_within : (m v : ℕ) → 2 ≤ m → v < m → other v < m
other_within m zero a b = omega arith
other_within m (suc zero) a b = omega arith
other_within m (suc (suc v)) a b = b

pub turned_sound : (n : Net) → Sound n → Sound (turned n)
turned_sound n s =
    record {
      two = s.two;
      tails = λ k l. other_within n.nodes (n.head k) s.two (s.heads k l);
      heads = λ k l. other_within n.nodes (n.tail k) s.two (s.tails k l);
    }

pub turned_bounds : (n : Net) → Bounds n → Bounds (turned n)
turned_bounds n b =
    record {
      sound = turned_sound n b.sound;
      nodes_limit = b.nodes_limit;
      arcs_limit = b.arcs_limit;
      capacity_limit = b.capacity_limit;
    }

module _ (n : Net) (near far : ℕ → ℕ) (v : ℕ) (answer : ℕ → Option Step) (l : Lists n near far (other v) answer) where
  renamed_sound : (cursor : ℕ) (s : Step) → renamed (answer cursor) ≡ Some s
      → Names (turned n) (λ k. other (near k)) (λ k. other (far k)) v cursor s
  renamed_sound cursor s e = go (answer cursor) refl e
    where
      go : (o : Option Step) → answer cursor ≡ o → renamed o ≡ Some s
          → Names (turned n) (λ k. other (near k)) (λ k. other (far k)) v cursor s
      go None q r = absurd (let z : ◌≡◌ {A = ℕ} 0 1 = cc in omega arith)
      go (Some t) q r =
          let x = l.sound cursor t q in
          let same_arc : s.arc ≡ t.arc = cc in
          let same_node : s.node ≡ other t.node = cc in
          let same_next : s.next ≡ t.next = cc in
          record {
            exists = omega (arith, x.exists);
            here = ap (λ (k : ℕ). other (near k)) same_arc ∙ (ap other x.here ∙ other_other v);
            there = ap (λ (k : ℕ). other (far k)) same_arc ∙ (ap other x.there ∙ sym same_node);
            onward = omega (arith, x.onward);
            limit = omega (arith, x.limit);
          }

  renamed_told : (k cursor : ℕ) → Told answer k cursor → Told (λ c. renamed (answer c)) k cursor
  renamed_told k cursor (now_told c s e q) =
      now_told c (record { arc = s.arc; node = other s.node; next = s.next }) (ap renamed e) q
  renamed_told k cursor (later_told c s e t) =
      later_told c (record { arc = s.arc; node = other s.node; next = s.next }) (ap renamed e)
      (renamed_told k s.next t)

  pub renamed_lists : Lists (turned n) (λ k. other (near k)) (λ k. other (far k)) v (λ c. renamed (answer c))
  renamed_lists =
      record {
        sound = renamed_sound;
        complete = λ k b e. renamed_told k 0 (l.complete k b (sym (other_other (near k)) ∙ ap other e));
      }

pub turned_adjacent : (n : Net) → Sound n → (outward inward : ℕ → ℕ → Option Step) → Adjacent n outward inward
    → Adjacent (turned n) (λ v c. renamed (inward (other v) c)) (λ v c. renamed (outward (other v) c))
turned_adjacent n s outward inward a =
    record {
      leaving_lists = λ v l.
          renamed_lists n n.head n.tail v (inward (other v))
          (a.entering_lists (other v) (other_within n.nodes v s.two l));
      entering_lists = λ v l.
          renamed_lists n n.tail n.head v (outward (other v))
          (a.leaving_lists (other v) (other_within n.nodes v s.two l));
    }
