-- More flow pushed along a way, arc by arc, from the source on.
use Rattle.std.specs.Prelude.{◌≡◌, ℕ, ◌+◌, ◌<◌, ◌≤◌, false, ◌==◌, ◌≢◌}
use Rattle.flow.specs.Sums.{pick}
use Rattle.flow.specs.Nets.{Net, Sound, IsFlow, NoneAbove, outflow, inflow}

-- a flow of value w with d more sent from the source as far as u, which gets d more than it sends
pub record Midway (n : Net) (f : ℕ → ℕ) (w d u : ℕ) : Type 0 where
  pub below : (k : ℕ) → k < n.arcs → n.unbounded k ≡ false → f k ≤ n.capacity k
  pub none_above : (k : ℕ) → k < n.arcs → f k ≤ w + d
  pub even : (v : ℕ) → v < n.nodes → (v ≢ 1)
      → outflow n f v + pick (u == v) d ≡ inflow n f v + pick (0 == v) (w + d)

-- g is f with d more at k
pub record Raised (n : Net) (f g : ℕ → ℕ) (k d : ℕ) : Type 0 where
  pub here : g k ≡ f k + d
  pub there : (j : ℕ) → j < n.arcs → (j ≢ k) → g j ≡ f j

abbrev pub PushBegins : Type 0
PushBegins = (n : Net) (f : ℕ → ℕ) (w d : ℕ) → IsFlow n f w → NoneAbove n f w → Midway n f w d 0

-- d more on an arc that had at most the value
abbrev pub PushAlong : Type 0
PushAlong =
    (n : Net) (f g : ℕ → ℕ) (w d k : ℕ) → k < n.arcs → Raised n f g k d
    → (n.unbounded k ≡ false → f k + d ≤ n.capacity k) → f k ≤ w
    → Midway n f w d (n.tail k) → Midway n g w d (n.head k)

-- d less on an arc against the way
abbrev pub PushAgainst : Type 0
PushAgainst =
    (n : Net) (f g : ℕ → ℕ) (w d k : ℕ) → k < n.arcs → Raised n g f k d
    → Midway n f w d (n.head k) → Midway n g w d (n.tail k)

abbrev pub PushEnds : Type 0
PushEnds =
    (n : Net) → Sound n → (f : ℕ → ℕ) (w d : ℕ) → Midway n f w d 1
    → IsFlow n f (w + d) × NoneAbove n f (w + d)
