-- Networks that are the same have the same flows, cuts and marks.
use Rattle.std.proofs.Common.{◌≡◌, ℕ, ◌+◌, ◌<◌, Bool, not, ◌&&◌, ◌||◌, eqb, ltb, sym, ap, ◌∙◌, subst, arith}
use Rattle.flow.specs.Sums.{sum_to, pick}
use Rattle.flow.proofs.Sums.{sum_to_same}
use Rattle.flow.specs.Nets as nets
use Rattle.flow.specs.Nets.{Net, IsFlow, outflow, inflow, room, Reached, Unhindered}
use Rattle.flow.specs.Turning.{other}
use Rattle.time_network.specs.Agreement.{Same, SameBack, SameTurned, SameFlows, SameReached, SameMarks, SameUnhindered, SameCuts}

pub same_back : SameBack
same_back a b s =
    record {
      nodes = sym s.nodes;
      arcs = sym s.arcs;
      tail = λ k l. sym (s.tail k (omega (arith, s.arcs)));
      head = λ k l. sym (s.head k (omega (arith, s.arcs)));
      capacity = λ k l. sym (s.capacity k (omega (arith, s.arcs)));
      unbounded = λ k l. sym (s.unbounded k (omega (arith, s.arcs)));
    }

pub same_turned : SameTurned
same_turned a b s =
    record {
      nodes = s.nodes;
      arcs = s.arcs;
      tail = λ k l. ap other (s.head k l);
      head = λ k l. ap other (s.tail k l);
      capacity = s.capacity;
      unbounded = s.unbounded;
    }

-- a sum over the arcs
over_arcs : (a b : Net) → Same a b → (f g : ℕ → ℕ) → ((k : ℕ) → k < b.arcs → f k ≡ g k)
    → sum_to f a.arcs ≡ sum_to g b.arcs
over_arcs a b s f g each = ap (sum_to f) s.arcs ∙ sum_to_same f g b.arcs each

same_outflow : (a b : Net) → Same a b → (f : ℕ → ℕ) (v : ℕ) → outflow a f v ≡ outflow b f v
same_outflow a b s f v =
    over_arcs a b s (λ k. pick (eqb (a.tail k) v) (f k)) (λ k. pick (eqb (b.tail k) v) (f k))
    (λ k l. ap (λ (x : ℕ). pick (eqb x v) (f k)) (s.tail k l))

same_inflow : (a b : Net) → Same a b → (f : ℕ → ℕ) (v : ℕ) → inflow a f v ≡ inflow b f v
same_inflow a b s f v =
    over_arcs a b s (λ k. pick (eqb (a.head k) v) (f k)) (λ k. pick (eqb (b.head k) v) (f k))
    (λ k l. ap (λ (x : ℕ). pick (eqb x v) (f k)) (s.head k l))

pub same_flows : SameFlows
same_flows a b s f w x =
    record {
      below = λ k l e.
          let y = x.below k (omega (arith, s.arcs)) (s.unbounded k l ∙ e) in
          omega (arith, s.capacity k l);
      balanced = λ v two l.
          sym (same_outflow a b s f v) ∙ (x.balanced v two (omega (arith, s.nodes)) ∙ same_inflow a b s f v);
      worth = sym (same_outflow a b s f 0) ∙ (x.worth ∙ ap (λ (y : ℕ). y + w) (same_inflow a b s f 0));
    }

same_room : (a b : Net) → Same a b → (f : ℕ → ℕ) (k : ℕ) → k < b.arcs → room a f k ≡ room b f k
same_room a b s f k l =
    ap (λ (x : Bool). x || ltb (f k) (a.capacity k)) (s.unbounded k l)
    ∙ ap (λ (x : ℕ). b.unbounded k || ltb (f k) x) (s.capacity k l)

pub same_reached : SameReached
same_reached a b s f v nets.Reached.source = nets.Reached.source
same_reached a b s f v (nets.Reached.along k l r t) =
    let lk : k < b.arcs = omega (arith, s.arcs) in
    subst (Reached b f) (sym (s.head k lk))
    (nets.Reached.along k lk (sym (same_room a b s f k lk) ∙ r) (subst (Reached b f) (s.tail k lk) (same_reached a b s f (a.tail k) t)))
same_reached a b s f v (nets.Reached.back k l r t) =
    let lk : k < b.arcs = omega (arith, s.arcs) in
    subst (Reached b f) (sym (s.tail k lk))
    (nets.Reached.back k lk r (subst (Reached b f) (s.head k lk) (same_reached a b s f (a.head k) t)))

pub same_marks : SameMarks
same_marks a b s f m x =
    record {
      marked = λ v l e. same_reached a b s f v (x.marked v (omega (arith, s.nodes)) e);
      reached = λ v r. x.reached v (same_reached b a (same_back a b s) f v r);
    }

pub same_unhindered : SameUnhindered
same_unhindered a b s v nets.Unhindered.source = nets.Unhindered.source
same_unhindered a b s v (nets.Unhindered.along k l r t) =
    let lk : k < b.arcs = omega (arith, s.arcs) in
    subst (Unhindered b) (sym (s.head k lk))
    (nets.Unhindered.along k lk (sym (s.unbounded k lk) ∙ r) (subst (Unhindered b) (s.tail k lk) (same_unhindered a b s (a.tail k) t)))

pub same_cuts : SameCuts
same_cuts a b s S x = (
  record {
    has_source = x.has_source;
    lacks_sink = x.lacks_sink;
    none_unbounded = λ k l t u.
        sym (ap S (s.head k l))
        ∙ x.none_unbounded k (omega (arith, s.arcs)) (ap S (s.tail k l) ∙ t) (s.unbounded k l ∙ u);
  },
  over_arcs a b s (λ k. pick (S (a.tail k) && not (S (a.head k))) (a.capacity k))
      (λ k. pick (S (b.tail k) && not (S (b.head k))) (b.capacity k))
      (λ k l.
      ap (λ (y : ℕ). pick (S y && not (S (a.head k))) (a.capacity k)) (s.tail k l)
      ∙ (ap (λ (y : ℕ). pick (S (b.tail k) && not (S y)) (a.capacity k)) (s.head k l)
      ∙ ap (pick (S (b.tail k) && not (S (b.head k)))) (s.capacity k l))),
)
