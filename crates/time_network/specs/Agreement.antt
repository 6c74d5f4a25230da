-- Networks that are the same, arc by arc.
use Rattle.std.specs.Prelude.{◌≡◌, ℕ, ◌<◌, Bool}
use Rattle.flow.specs.Nets.{Net, IsFlow, Reached, Unhindered}
use Rattle.flow.specs.Cuts.{Marks, FiniteCut, across}
use Rattle.flow.specs.Turning.{turned}

-- as many nodes and arcs, and each arc with the same ends and capacity
pub record Same (a b : Net) : Type 0 where
  pub nodes : a.nodes ≡ b.nodes
  pub arcs : a.arcs ≡ b.arcs
  pub tail : (k : ℕ) → k < b.arcs → a.tail k ≡ b.tail k
  pub head : (k : ℕ) → k < b.arcs → a.head k ≡ b.head k
  pub capacity : (k : ℕ) → k < b.arcs → a.capacity k ≡ b.capacity k
  pub unbounded : (k : ℕ) → k < b.arcs → a.unbounded k ≡ b.unbounded k

-- what is said of one is said of the other
abbrev pub SameBack : Type 0
SameBack = (a b : Net) → Same a b → Same b a

abbrev pub SameTurned : Type 0
SameTurned = (a b : Net) → Same a b → Same (turned a) (turned b)

abbrev pub SameFlows : Type 0
SameFlows = (a b : Net) → Same a b → (f : ℕ → ℕ) (w : ℕ) → IsFlow a f w → IsFlow b f w

abbrev pub SameReached : Type 0
SameReached = (a b : Net) → Same a b → (f : ℕ → ℕ) (v : ℕ) → Reached a f v → Reached b f v

abbrev pub SameMarks : Type 0
SameMarks = (a b : Net) → Same a b → (f : ℕ → ℕ) (m : ℕ → Bool) → Marks a f m → Marks b f m

abbrev pub SameUnhindered : Type 0
SameUnhindered = (a b : Net) → Same a b → (v : ℕ) → Unhindered a v → Unhindered b v

abbrev pub SameCuts : Type 0
SameCuts =
    (a b : Net) → Same a b → (S : ℕ → Bool) → FiniteCut a S
    → FiniteCut b S × (across a S a.capacity ≡ across b S b.capacity)
