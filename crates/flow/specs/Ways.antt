-- Ways to the sink over arcs with capacity left or backwards over flow. Each node has a rank, 0 for none,
-- and a link, the arc by which its way goes on; ranks rise along a way, so no arc stands on it twice.
use Rattle.std.specs.Prelude.{◌≡◌, ℕ, ◌+◌, ◌<◌, ◌≤◌, true, false, ◌⊎◌, ◌≢◌}
use Rattle.flow.specs.Nets.{Net, room}

-- below m, g is f but for x at t
pub record Put (m : ℕ) (f g : ℕ → ℕ) (t x : ℕ) : Type 0 where
  pub here : g t ≡ x
  pub there : (j : ℕ) → j < m → (j ≢ t) → g j ≡ f j

-- arc k runs from u to v with capacity left, and v has a greater rank
pub record Over (n : Net) (f rank : ℕ → ℕ) (k u v : ℕ) : Type 0 where
  pub exists : k < n.arcs
  pub from_is : n.tail k ≡ u
  pub to_is : n.head k ≡ v
  pub left : room n f k ≡ true
  pub some : 0 < rank u
  pub less : rank u < rank v

-- arc k runs from v to u with flow, and v has a greater rank
pub record Against (n : Net) (f rank : ℕ → ℕ) (k u v : ℕ) : Type 0 where
  pub exists : k < n.arcs
  pub from_is : n.head k ≡ u
  pub to_is : n.tail k ≡ v
  pub left : 0 < f k
  pub some : 0 < rank u
  pub less : rank u < rank v

-- arc k leads on from u to v, one way or the other
abbrev pub Leads : (n : Net) (f rank : ℕ → ℕ) (k u v : ℕ) → Type 0
Leads n f rank k u v = Over n f rank k u v ⊎ Against n f rank k u v

-- the links lead from u to the sink, and d more can go along them
pub data Way (n : Net) (f rank link : ℕ → ℕ) (d : ℕ) : ℕ → Type 0 where
  arrived : Way n f rank link d 1
  over : (u v : ℕ) → v < n.nodes → Over n f rank (link u) u v
      → (n.unbounded (link u) ≡ false → f (link u) + d ≤ n.capacity (link u))
      → Way n f rank link d v → Way n f rank link d u
  against : (u v : ℕ) → v < n.nodes → Against n f rank (link u) u v → d ≤ f (link u)
      → Way n f rank link d v → Way n f rank link d u
