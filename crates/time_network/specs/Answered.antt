-- A time network lists the arcs at its nodes.
use Rattle.std.specs.Prelude.{ℕ, List, Option}
use Rattle.model.specs.Meaning.{Meaning}
use Rattle.flow.specs.declared.network.Capacity.{Capacity}
use Rattle.flow.specs.declared.network.Step.{Step}
use Rattle.flow.specs.Answers.{Lists, Adjacent}
use Rattle.plan_theory.specs.TimeNetwork.{time_net}
use Rattle.time_network.specs.declared.held.TimeNetwork.{TimeNetwork}
use Rattle.time_network.specs.Held.{held_net}
use Rattle.time_network.specs.Meant.{meant, net_of, meant_bounds}
use Rattle.time_network.specs.Listing.{decode, outward, inward}
use Rattle.time_network.specs.Adjacency.{outward_lists, inward_lists}

same_lists : (m : Meaning) (capacities : List Capacity) (near far : ℕ → ℕ) (v : ℕ) (answer : ℕ → Option Step)
    → Lists (time_net m) near far v answer → Lists (held_net m capacities) near far v answer
same_lists m capacities near far v answer l =
    record {
      sound = λ c s e.
          let x = l.sound c s e in
          record { exists = x.exists; here = x.here; there = x.there; onward = x.onward; limit = x.limit };
      complete = l.complete;
    }

pub net_adjacent : (x : TimeNetwork)
    → Adjacent (net_of x) (λ v c. outward (meant x) (decode (meant x) v) c) (λ v c. inward (meant x) (decode (meant x) v) c)
net_adjacent x =
    let m = meant x in
    record {
      leaving_lists = λ v l.
          same_lists m x.capacities (time_net m).tail (time_net m).head v (λ c. outward m (decode m v) c)
          (outward_lists m (meant_bounds x) v l);
      entering_lists = λ v l.
          same_lists m x.capacities (time_net m).head (time_net m).tail v (λ c. inward m (decode m v) c)
          (inward_lists m (meant_bounds x) v l);
    }
