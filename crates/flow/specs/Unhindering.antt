-- A network with its unbounded arcs alone: every other arc has capacity 0.
use Rattle.std.specs.Prelude.{ℕ, Option}
use Rattle.std.proofs.Common.{zero-le}
use Rattle.flow.specs.declared.network.Step.{Step}
use Rattle.flow.specs.declared.network.Capacity.{Capacity}
use Rattle.flow.specs.declared.network.Capacity.TheVariants.{Bounded, Unbounded}
use Rattle.flow.specs.Nets.{Net, Bounds}
use Rattle.flow.specs.Answers.{Lists, Adjacent}

abbrev pub unbounded_only : Net → Net
unbounded_only n =
    record {
      nodes = n.nodes;
      arcs = n.arcs;
      tail = n.tail;
      head = n.head;
      capacity = λ k. 0;
      unbounded = n.unbounded;
    }

-- a capacity, with nothing unless it is unbounded
abbrev pub emptied : Capacity → Capacity
emptied (Bounded most) = Bounded 0
emptied Unbounded = Unbounded

pub unbounded_only_bounds : (n : Net) → Bounds n → Bounds (unbounded_only n)
unbounded_only_bounds n b =
    record {
      sound = record { two = b.sound.two; tails = b.sound.tails; heads = b.sound.heads };
      nodes_limit = b.nodes_limit;
      arcs_limit = b.arcs_limit;
      capacity_limit = λ k l. zero-le;
    }

same_lists : (n : Net) (near far : ℕ → ℕ) (v : ℕ) (answer : ℕ → Option Step) → Lists n near far v answer
    → Lists (unbounded_only n) near far v answer
same_lists n near far v answer l =
    record {
      sound = λ c s e.
          let x = l.sound c s e in
          record { exists = x.exists; here = x.here; there = x.there; onward = x.onward; limit = x.limit };
      complete = l.complete;
    }

pub unbounded_only_adjacent : (n : Net) (outward inward : ℕ → ℕ → Option Step) → Adjacent n outward inward
    → Adjacent (unbounded_only n) outward inward
unbounded_only_adjacent n outward inward a =
    record {
      leaving_lists = λ v l. same_lists n n.tail n.head v (outward v) (a.leaving_lists v l);
      entering_lists = λ v l. same_lists n n.head n.tail v (inward v) (a.entering_lists v l);
    }
