-- Cuts, and what they say of flows. A cut is given by the nodes on the side of the source.
use Rattle.std.specs.Prelude.{◌≡◌, ℕ, ◌+◌, ◌<◌, ◌≤◌, Bool, true, false, not, ◌&&◌}
use Rattle.flow.specs.Sums.{sum_to, pick}
use Rattle.flow.specs.Nets.{Net, Sound, IsFlow, room, Reached}

-- what f has on the arcs that leave S, and on those that enter it
abbrev pub across : Net → (ℕ → Bool) → (ℕ → ℕ) → ℕ
across n S f = sum_to (λ k. pick (S (n.tail k) && not (S (n.head k))) (f k)) n.arcs

abbrev pub back_across : Net → (ℕ → Bool) → (ℕ → ℕ) → ℕ
back_across n S f = sum_to (λ k. pick (S (n.head k) && not (S (n.tail k))) (f k)) n.arcs

-- S has the source and not the sink
abbrev pub IsCut : (ℕ → Bool) → Type 0
IsCut S = (S 0 ≡ true) × (S 1 ≡ false)

-- a cut that no unbounded arc leaves; its capacity is `across n S n.capacity`
pub record FiniteCut (n : Net) (S : ℕ → Bool) : Type 0 where
  pub has_source : S 0 ≡ true
  pub lacks_sink : S 1 ≡ false
  pub none_unbounded :
      (k : ℕ) → k < n.arcs → S (n.tail k) ≡ true → n.unbounded k ≡ true → S (n.head k) ≡ true

-- some cut is finite
abbrev pub Finite : Net → Type 0
Finite n = (S : ℕ → Bool) × FiniteCut n S

-- no arc with capacity left leaves S, and none with flow enters it
pub record Closed (n : Net) (f : ℕ → ℕ) (S : ℕ → Bool) : Type 0 where
  pub on : (k : ℕ) → k < n.arcs → S (n.tail k) ≡ true → room n f k ≡ true → S (n.head k) ≡ true
  pub off : (k : ℕ) → k < n.arcs → S (n.head k) ≡ true → 0 < f k → S (n.tail k) ≡ true

-- m holds exactly at the nodes that are reached
pub record Marks (n : Net) (f : ℕ → ℕ) (m : ℕ → Bool) : Type 0 where
  pub marked : (v : ℕ) → v < n.nodes → m v ≡ true → Reached n f v
  pub reached : (v : ℕ) → Reached n f v → m v ≡ true

-- the value crosses every cut: what leaves it is what enters it and the value
abbrev pub ValueCrossesEveryCut : Type 0
ValueCrossesEveryCut =
    (n : Net) → Sound n → (f : ℕ → ℕ) (w : ℕ) → IsFlow n f w → (S : ℕ → Bool) → IsCut S
    → across n S f ≡ back_across n S f + w

-- no value is above the capacity of a cut
abbrev pub NoFlowExceedsACut : Type 0
NoFlowExceedsACut =
    (n : Net) → Sound n → (f : ℕ → ℕ) (w : ℕ) → IsFlow n f w → (S : ℕ → Bool) → FiniteCut n S
    → w ≤ across n S n.capacity

-- where nothing leads on from a cut, its capacity is the value
abbrev pub ClosedCutHasTheValue : Type 0
ClosedCutHasTheValue =
    (n : Net) → Sound n → (f : ℕ → ℕ) (w : ℕ) → IsFlow n f w → (S : ℕ → Bool) → IsCut S → Closed n f S
    → FiniteCut n S × (across n S n.capacity ≡ w)

-- the nodes reached lie inside every cut whose capacity is the value
abbrev pub ReachedLiesInside : Type 0
ReachedLiesInside =
    (n : Net) → Sound n → (f : ℕ → ℕ) (w : ℕ) → IsFlow n f w → (S : ℕ → Bool) → FiniteCut n S
    → across n S n.capacity ≡ w → (v : ℕ) → Reached n f v → S v ≡ true

-- two flows of one value, the greatest: the nodes reached are the same
abbrev pub MarksAgree : Type 0
MarksAgree =
    (n : Net) → Sound n → (f g : ℕ → ℕ) (w : ℕ) → IsFlow n f w → IsFlow n g w
    → (a b : ℕ → Bool) → Marks n f a → Marks n g b → a 1 ≡ false → (v : ℕ) → v < n.nodes → a v ≡ b v
