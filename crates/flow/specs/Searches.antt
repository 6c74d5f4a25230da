-- A search from the source that ranks the nodes in the order of finding. The nodes found wait in a queue,
-- each at the place of its rank less one, but the sink: it is ranked past all others and does not wait.
use Rattle.std.specs.Prelude.{◌≡◌, ℕ, ◌+◌, ◌<◌, ◌≤◌, true, ◌⊎◌, ◌==◌, ◌≢◌}
use Rattle.flow.specs.Sums.{sum_to, pick}
use Rattle.flow.specs.Nets.{Net, room}
use Rattle.flow.specs.Ways.{Leads}

-- how many of m nodes have no rank
abbrev pub unranked : ℕ → (ℕ → ℕ) → ℕ
unranked m rank = sum_to (λ v. pick (rank v == 0) 1) m

-- arc k leads to v from a node found before it
abbrev pub Finds : Net → (ℕ → ℕ) → (ℕ → ℕ) → ℕ → ℕ → Type 0
Finds n f rank k v = (u : ℕ) × (u < n.nodes) × Leads n f rank k u v

-- each node with a rank, but the source, was found over its arc
abbrev pub Found : Net → (ℕ → ℕ) → (ℕ → ℕ) → (ℕ → ℕ) → Type 0
Found n f rank arc = (v : ℕ) → v < n.nodes → 0 < rank v → (v ≢ 0) → Finds n f rank (arc v) v

-- a search under way, with `waiting` nodes in the queue so far
pub record Searching (n : Net) (f rank arc queue : ℕ → ℕ) (waiting : ℕ) : Type 0 where
  pub root : 0 < rank 0
  pub steps : Found n f rank arc
  pub low : (v : ℕ) → v < n.nodes → (v ≢ 1) → rank v ≤ waiting
  pub queued : (i : ℕ) → i < waiting → (queue i < n.nodes) × (0 < rank (queue i)) × (queue i ≢ 1)
  pub count : waiting + unranked n.nodes rank ≤ n.nodes

-- arc k leads from u to v over capacity left, or backwards over flow
abbrev pub Opens : Net → (ℕ → ℕ) → ℕ → ℕ → ℕ → Type 0
Opens n f k u v =
    (k < n.arcs)
    × (((room n f k ≡ true) × (n.tail k ≡ u) × (n.head k ≡ v)) ⊎ ((0 < f k) × (n.head k ≡ u) × (n.tail k ≡ v)))

-- arc k leads from no ranked node to one that has no rank
pub record Shut (n : Net) (f rank : ℕ → ℕ) (k : ℕ) : Type 0 where
  pub on : 0 < rank (n.tail k) → room n f k ≡ true → 0 < rank (n.head k)
  pub off : 0 < rank (n.head k) → 0 < f k → 0 < rank (n.tail k)

-- a search that has ended: where the sink has no rank, nothing leads on
pub record Searched (n : Net) (f rank arc : ℕ → ℕ) : Type 0 where
  pub root : 0 < rank 0
  pub steps : Found n f rank arc
  pub shut : rank 1 ≡ 0 → (k : ℕ) → k < n.arcs → Shut n f rank k
