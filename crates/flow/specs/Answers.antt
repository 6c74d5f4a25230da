-- What a network answers when it is asked, by its meaning.
use Rattle.std.specs.Prelude.{◌≡◌, ℕ, ◌-◌, ◌<◌, ◌≤◌, Bool, true, cond, Some, None, Option, nat_lt}
use Rattle.flow.specs.declared.network.Arc.{Arc}
use Rattle.flow.specs.declared.network.Step.{Step}
use Rattle.flow.specs.declared.network.Capacity.{Capacity}
use Rattle.flow.specs.declared.network.Capacity.TheVariants.{Bounded, Unbounded}
use Rattle.flow.specs.Nets.{Net}

abbrev pub capacity_at : Net → ℕ → Capacity
capacity_at n k = cond (n.unbounded k) Unbounded (Bounded (n.capacity k))

abbrev pub arc_at : Net → ℕ → Arc
arc_at n k = record { tail = n.tail k; head = n.head k; capacity = capacity_at n k }

-- absent for an arc that does not exist
abbrev pub capacity_of : Net → ℕ → Option Capacity
capacity_of n k = cond (nat_lt k n.arcs) (Some (capacity_at n k)) None

abbrev pub arc_of : Net → ℕ → Option Arc
arc_of n k = cond (nat_lt k n.arcs) (Some (arc_at n k)) None

-- a is arc k, with what is known of it
pub record Seen (n : Net) (k : ℕ) (a : Arc) : Type 0 where
  pub exists : k < n.arcs
  pub tail_is : a.tail ≡ n.tail k
  pub head_is : a.head ≡ n.head k
  pub capacity_is : a.capacity ≡ capacity_at n k
  pub tail_in : a.tail < n.nodes
  pub head_in : a.head < n.nodes

-- whether an amount x lies below a capacity, and how much more fits, of which 2,000,000,000 at most is told
abbrev pub has_room : Capacity → ℕ → Bool
has_room (Bounded most) x = nat_lt x most
has_room Unbounded x = true

abbrev pub room_left : Capacity → ℕ → ℕ
room_left (Bounded most) x = most - x
room_left Unbounded x = 2000000000

-- s names an arc whose near end is v, with its far end, and a cursor further on
pub record Names (n : Net) (near far : ℕ → ℕ) (v cursor : ℕ) (s : Step) : Type 0 where
  pub exists : s.arc < n.arcs
  pub here : near s.arc ≡ v
  pub there : far s.arc ≡ s.node
  pub onward : cursor < s.next
  pub limit : s.next ≤ 1000000

-- who asks on from a cursor is told of arc k
pub data Told (answer : ℕ → Option Step) (k : ℕ) : ℕ → Type 0 where
  now_told : (cursor : ℕ) (s : Step) → answer cursor ≡ Some s → s.arc ≡ k → Told answer k cursor
  later_told : (cursor : ℕ) (s : Step) → answer cursor ≡ Some s → Told answer k s.next → Told answer k cursor

-- the answers list the arcs whose near end is v: nothing else, and from cursor 0 on all of them
pub record Lists (n : Net) (near far : ℕ → ℕ) (v : ℕ) (answer : ℕ → Option Step) : Type 0 where
  pub sound : (cursor : ℕ) (s : Step) → answer cursor ≡ Some s → Names n near far v cursor s
  pub complete : (k : ℕ) → k < n.arcs → near k ≡ v → Told answer k 0

-- by node and cursor, the answers list the arcs that leave a node and those that enter it
pub record Adjacent (n : Net) (outward inward : ℕ → ℕ → Option Step) : Type 0 where
  pub leaving_lists : (v : ℕ) → v < n.nodes → Lists n n.tail n.head v (outward v)
  pub entering_lists : (v : ℕ) → v < n.nodes → Lists n n.head n.tail v (inward v)

-- what an arc asked for is known to be
abbrev pub Looked : Net → ℕ → Option Arc → Type 0
Looked n k (Some a) = Seen n k a
Looked n k None = n.arcs ≤ k

-- what is known of the answer to "which arc is next at v"
abbrev pub Asked : Net → (ℕ → ℕ) → (ℕ → ℕ) → ℕ → ℕ → Option Step → Type 0
Asked n near far v cursor (Some s) = Names n near far v cursor s × (s.node < n.nodes)
Asked n near far v cursor None = Unit {0}
