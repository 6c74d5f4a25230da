-- Networks and flows. Node 0 is the source and node 1 the sink. All is stated in natural numbers: what
-- leaves a node and what enters it are two sums, and nothing is subtracted.
use Rattle.std.specs.Prelude.{◌≡◌, ℕ, ◌+◌, ◌<◌, ◌≤◌, Bool, true, false, ◌||◌, List, ◌==◌, nat_lt, slice_index}
use Rattle.flow.specs.Sums.{sum_to, pick}

-- arcs are numbered below `arcs`; the capacity of an unbounded arc is of no account
pub record Net : Type 0 where
  pub nodes : ℕ
  pub arcs : ℕ
  pub tail : ℕ → ℕ
  pub head : ℕ → ℕ
  pub capacity : ℕ → ℕ
  pub unbounded : ℕ → Bool

-- every arc joins two of the nodes, and source and sink are among them
pub record Sound (n : Net) : Type 0 where
  pub two : 2 ≤ n.nodes
  pub tails : (k : ℕ) → k < n.arcs → n.tail k < n.nodes
  pub heads : (k : ℕ) → k < n.arcs → n.head k < n.nodes

-- the limits of a network
pub record Bounds (n : Net) : Type 0 where
  pub sound : Sound n
  pub nodes_limit : n.nodes ≤ 10000
  pub arcs_limit : n.arcs ≤ 50000
  pub capacity_limit : (k : ℕ) → k < n.arcs → n.capacity k ≤ 2000000000

-- what f has on the arcs that leave v, and on those that enter it
abbrev pub outflow : Net → (ℕ → ℕ) → ℕ → ℕ
outflow n f v = sum_to (λ k. pick (n.tail k == v) (f k)) n.arcs

abbrev pub inflow : Net → (ℕ → ℕ) → ℕ → ℕ
inflow n f v = sum_to (λ k. pick (n.head k == v) (f k)) n.arcs

-- f is a flow of value w: within the capacities, balanced at every node but source and sink, and the
-- source sends w more than it gets
pub record IsFlow (n : Net) (f : ℕ → ℕ) (w : ℕ) : Type 0 where
  pub below : (k : ℕ) → k < n.arcs → n.unbounded k ≡ false → f k ≤ n.capacity k
  pub balanced : (v : ℕ) → 2 ≤ v → v < n.nodes → outflow n f v ≡ inflow n f v
  pub worth : outflow n f 0 ≡ inflow n f 0 + w

-- no arc carries more than the value
abbrev pub NoneAbove : Net → (ℕ → ℕ) → ℕ → Type 0
NoneAbove n f w = (k : ℕ) → k < n.arcs → f k ≤ w

-- capacity is left on arc k
abbrev pub room : Net → (ℕ → ℕ) → ℕ → Bool
room n f k = n.unbounded k || nat_lt (f k) (n.capacity k)

-- the nodes reached from the source over arcs with capacity left or backwards over flow
pub data Reached (n : Net) (f : ℕ → ℕ) : ℕ → Type 0 where
  source : Reached n f 0
  along : (k : ℕ) → k < n.arcs → room n f k ≡ true → Reached n f (n.tail k) → Reached n f (n.head k)
  back : (k : ℕ) → k < n.arcs → 0 < f k → Reached n f (n.head k) → Reached n f (n.tail k)

-- the nodes that unbounded arcs alone lead to from the source
pub data Unhindered (n : Net) : ℕ → Type 0 where
  source : Unhindered n 0
  along : (k : ℕ) → k < n.arcs → n.unbounded k ≡ true → Unhindered n (n.tail k) → Unhindered n (n.head k)

-- lent words as a function of the place, 0 past their end
abbrev pub word : List ℕ → ℕ → ℕ
word xs k = slice_index xs k
