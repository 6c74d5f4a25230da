-- The words of the nodes of a network: the ranks, the arcs by which nodes were found or ways go on, and the
-- queue of a search.
use Rattle.std.specs.Prelude.{◌≡◌, ℕ, ◌+◌, cond, List, length, ◌==◌, ◌≢◌, slice_set}
use Rattle.flow.specs.declared.network.Arc.{Arc}
use Rattle.flow.specs.Nets.{Net, word}
use Rattle.max_flow.specs.declared.nodes.Nodes.{Nodes}
use Rattle.max_flow.specs.declared.raising.Raising.{Raising}

-- four parts of m words
pub record Parts (m : ℕ) (rank link place far : List ℕ) : Type 0 where
  pub ranks : length rank ≡ m
  pub links : length link ≡ m
  pub places : length place ≡ m
  pub fars : length far ≡ m

abbrev pub net_of : {N : _} {A : _} {b : _} → Nodes N A b → Net
net_of {N} {A} {b} s = b.net s.network.now

abbrev pub rank_in : {N : _} {A : _} {b : _} → Nodes N A b → ℕ → ℕ
rank_in s v = word s.rank.now v

abbrev pub link_in : {N : _} {A : _} {b : _} → Nodes N A b → ℕ → ℕ
link_in s v = word s.link.now v

abbrev pub queue_in : {N : _} {A : _} {b : _} → Nodes N A b → ℕ → ℕ
queue_in s i = word s.place.now i

-- the same network, and the same words lent for the ranks
pub record Kept {N : _} {A : _} {b : _} (s s' : Nodes N A b) : Type 0 where
  pub same_network : s'.network ≡ s.network
  pub same_ranks : s'.rank.ghost_name ≡ s.rank.ghost_name

-- the same of a flow that is being raised, with its words
pub record KeptAll {N : _} {A : _} {b : _} (s s' : Raising N A b) : Type 0 where
  pub nodes : Kept s.nodes.now s'.nodes.now
  pub same_nodes : s'.nodes.ghost_name ≡ s.nodes.ghost_name
  pub same_flow : s'.flow.ghost_name ≡ s.flow.ghost_name

-- node v has been found over arc k, with `waiting` nodes in the queue before it: the sink gets the last of
-- all ranks and does not wait
pub record FoundAt {N : _} {A : _} {b : _} (s s' : Nodes N A b) (waiting v k waiting' : ℕ) : Type 0 where
  pub kept : Kept s s'
  pub links : s'.link.now ≡ slice_set s.link.now v k
  pub sink : v ≡ 1
      → (s'.rank.now ≡ slice_set s.rank.now v ((net_of s).nodes + 1)) × (s'.place.now ≡ s.place.now)
      × (waiting' ≡ waiting)
  pub node : (v ≢ 1)
      → (s'.rank.now ≡ slice_set s.rank.now v (waiting + 1)) × (s'.place.now ≡ slice_set s.place.now waiting v)
      × (waiting' ≡ waiting + 1)

-- ranks and links are as they were
pub record SameWays {N : _} {A : _} {b : _} (s s' : Nodes N A b) : Type 0 where
  pub kept : Kept s s'
  pub ranks : s'.rank.now ≡ s.rank.now
  pub links : s'.link.now ≡ s.link.now

-- the end of an arc that is not v
abbrev pub far_end : Arc → ℕ → ℕ
far_end a v = cond (a.head == v) a.tail a.head
