-- What the stages of the engine hand on to one another, over lent words.
use Rattle.std.specs.Prelude.{◌≡◌, ℕ, ◌+◌, ◌-◌, ◌^◌, ◌<◌, ◌≤◌, Bool, cond, nat_lt, List, Some, None, Option, ◌==◌, ◌≢◌}
use Rattle.flow.specs.declared.network.Capacity.{Capacity}
use Rattle.flow.specs.declared.visit.Way.{Way}
use Rattle.flow.specs.declared.visit.Way.TheVariants.{Along, Back}
use Rattle.flow.specs.Nets.{Net, word}
use Rattle.flow.specs.Answers.{capacity_at, has_room, room_left}
use Rattle.flow.specs.Passing.{far}
use Rattle.flow.specs.Ways.{Way as WayTo, Leads}
use Rattle.flow.specs.Searches.{Searching, Searched, unranked, Shut}
use Rattle.max_flow.specs.declared.augment.Link.{Link}
use Rattle.max_flow.specs.declared.deepen.Hit.{Hit}
use Rattle.max_flow.specs.declared.nodes.Nodes.{Nodes}
use Rattle.max_flow.specs.Raised.{Raised}
use Rattle.max_flow.specs.Layout.{net_of, rank_in, link_in, queue_in, Kept}

abbrev pub SearchingIn : {N : _} {A : _} {b : _} → (ℕ → ℕ) → Nodes N A b → ℕ → Type 0
SearchingIn f s waiting = Searching (net_of s) f (rank_in s) (link_in s) (queue_in s) waiting

abbrev pub unranked_in : {N : _} {A : _} {b : _} → Nodes N A b → ℕ
unranked_in s = unranked (net_of s).nodes (rank_in s)

-- a search went on from the words s to s'
pub record Grown {N : _} {A : _} {b : _} (f : ℕ → ℕ) (s s' : Nodes N A b) (waiting waiting' : ℕ) : Type 0 where
  pub kept : Kept s s'
  pub searching : SearchingIn f s' waiting'
  pub ranked : (v : ℕ) → v < (net_of s).nodes → 0 < rank_in s v → 0 < rank_in s' v
  pub more : waiting ≤ waiting'
  pub fewer : unranked_in s' + waiting' ≤ unranked_in s + waiting

-- where nothing was found, no arc below k leads on
abbrev pub Idle : {N : _} {A : _} {b : _} → (ℕ → ℕ) → Nodes N A b → ℕ → ℕ → ℕ → Type 0
Idle f s' waiting waiting' k =
    waiting' ≡ waiting → rank_in s' 1 ≡ 0 → (j : ℕ) → j < k → Shut (net_of s') f (rank_in s') j

-- the source alone has a rank, and waits
pub record Begun {N : _} {A : _} {b : _} (s : Nodes N A b) : Type 0 where
  pub first : rank_in s 0 ≡ 1
  pub none : (v : ℕ) → v < (net_of s).nodes → (v ≢ 0) → rank_in s v ≡ 0
  pub waits : queue_in s 0 ≡ 0

-- the links lead from u to the sink, and d more can go along them
abbrev pub WayIn : {N : _} {A : _} {b : _} → List ℕ → Nodes N A b → ℕ → ℕ → Type 0
WayIn flow s d u = WayTo (net_of s) (word flow) (rank_in s) (link_in s) d u

-- how much more can pass an arc one way beside a flow of x, of which 2,000,000,000 at most is told over a
-- capacity; whether any can; and the flow after d more
abbrev pub left : Way → Capacity → ℕ → ℕ
left Along c x = room_left c x
left Back c x = x

abbrev pub opens : Way → Capacity → ℕ → Bool
opens Along c x = has_room c x
opens Back c x = nat_lt 0 x

abbrev pub moved : Way → ℕ → ℕ → ℕ
moved Along x d = x + d
moved Back x d = x - d

-- d more fits the words, and d less is there
abbrev pub Moves : Way → ℕ → ℕ → Type 0
Moves Along x d = x + d < 2 ^ 64
Moves Back x d = d ≤ x

-- arc k as a way goes on over it from v: along where it begins there
abbrev pub way_from : Net → ℕ → ℕ → Way
way_from n k v = cond (n.tail k == v) Along Back

abbrev pub link_at : Net → ℕ → ℕ → Link
link_at n k v =
    record {
      arc = k;
      way = way_from n k v;
      capacity = capacity_at n k;
      node = far n (way_from n k v) k;
    }

-- d is something, and the way from the source carries it
pub record Carried {N : _} {A : _} {b : _} (flow : List ℕ) (s : Nodes N A b) (d : ℕ) : Type 0 where
  pub some : 0 < d
  pub most : d ≤ 2000000000
  pub carries : WayIn flow s d 0

-- the words are a flow of value w again, and from u on the way still stands
pub record Pushed {N : _} {A : _} {b : _} (flow : List ℕ) (s : Nodes N A b) (w u : ℕ) : Type 0 where
  pub raised : Raised (net_of s) flow w
  pub inside : u < (net_of s).nodes
  pub way : WayIn flow s 0 u

-- one node down or back: where it leads, the way stands from there
abbrev pub Stepped : {N : _} {A : _} {b : _} → List ℕ → Nodes N A b → Option ℕ → Type 0
Stepped flow s (Some u) = (u < (net_of s).nodes) × WayIn flow s 0 u
Stepped flow s None = Unit {0}

-- the same of a try to go down from v: without success the way stands from v still
abbrev pub Tried : {N : _} {A : _} {b : _} → List ℕ → Nodes N A b → ℕ → Option ℕ → Type 0
Tried flow s v (Some u) = (u < (net_of s).nodes) × WayIn flow s 0 u
Tried flow s v None = WayIn flow s 0 v

-- an arc that leads to v from a node of smaller rank, and the cursors that it was found at
abbrev pub Hits : {N : _} {A : _} {b : _} → List ℕ → Nodes N A b → ℕ → Option Hit → Type 0
Hits flow s v (Some h) =
    (h.node < (net_of s).nodes) × Leads (net_of s) (word flow) (rank_in s) h.arc h.node v
    × (h.cursor < 2147483648) × (h.next ≤ 1000000)
Hits flow s v None = Unit {0}

-- without flow: whether the search found the sink
pub record Reaches (n : Net) (ranks : List ℕ) (found : Bool) : Type 0 where
  pub searched : (link : ℕ → ℕ) × Searched n (λ k. 0) (word ranks) link
  pub sink : found ≡ nat_lt 0 (word ranks 1)

-- a flow of value w from which nothing leads to the sink, and the search that shows it
pub record Climbed (n : Net) (flow ranks : List ℕ) (w : ℕ) : Type 0 where
  pub raised : Raised n flow w
  pub searched : (link : ℕ → ℕ) × Searched n (word flow) (word ranks) link
  pub sink : word ranks 1 ≡ 0
