-- What the engine answers, and what it leaves in the lent words.
use Rattle.std.specs.Prelude.{◌≡◌, ℕ, ◌*◌, ◌<◌, ◌≤◌, Bool, ◌⊎◌, List, ◌++◌, length, drop, replicate, Some, None, Ok, Err, Option, Result, ◌==◌}
use Rattle.model.specs.declared.refusal.Refusal.{Refusal}
use Rattle.model.specs.declared.refusal.Fault.TheVariants.{FlowWords, NodeWords, Unbounded}
use Rattle.model.specs.Refusals.{refuse}
use Rattle.flow.specs.Nets.{Net, IsFlow, NoneAbove, Reached, Unhindered, word}
use Rattle.flow.specs.Cuts.{across, FiniteCut}

-- a node is marked with 1 exactly when it is reached
abbrev pub IsMark : Net → (ℕ → ℕ) → ℕ → ℕ → Type 0
IsMark n f v x = ((x ≡ 1) × Reached n f v) ⊎ ((x ≡ 0) × (Reached n f v → ⊥))

abbrev pub marked : List ℕ → ℕ → Bool
marked nodes v = word nodes v == 1

-- a maximum flow of value w, and the marks of the nodes reached
pub record Maximum (n : Net) (flow nodes : List ℕ) (w : ℕ) : Type 0 where
  pub is_flow : IsFlow n (word flow) w
  pub no_flow_has_more : (g : ℕ → ℕ) (x : ℕ) → IsFlow n g x → x ≤ w
  pub no_word_above_the_value : NoneAbove n (word flow) w
  pub marks : (v : ℕ) → v < n.nodes → IsMark n (word flow) v (word nodes v)
  pub rest_zero : (i : ℕ) → n.nodes ≤ i → i < 4 * n.nodes → word nodes i ≡ 0
  pub marks_cut : FiniteCut n (marked nodes)
  pub cut_has_the_value : across n (marked nodes) n.capacity ≡ w
  pub hindered : Unhindered n 1 → ⊥

-- with words for every arc and four for every node
abbrev pub Solved : Net → List ℕ → List ℕ → List ℕ → Option ℕ → Type 0
Solved n flow flow' nodes' (Some w) = Maximum n flow' nodes' w
Solved n flow flow' nodes' None = Unhindered n 1 × (flow' ≡ flow) × (nodes' ≡ replicate (4 * n.nodes) 0)

-- with words enough: what lies past those needed is as it was
abbrev pub Answered : Net → List ℕ → List ℕ → List ℕ → List ℕ → Result ℕ Refusal → Type 0
Answered n flow flow' nodes nodes' (Ok w) =
    Maximum n flow' nodes' w
    × (drop n.arcs flow' ≡ drop n.arcs flow) × (drop (4 * n.nodes) nodes' ≡ drop (4 * n.nodes) nodes)
Answered n flow flow' nodes nodes' (Err e) =
    (e ≡ refuse Unbounded 0) × Unhindered n 1
    × (flow' ≡ flow) × (nodes' ≡ replicate (4 * n.nodes) 0 ++ drop (4 * n.nodes) nodes)

-- all of it: too few words are refused, flow words first, with how many are needed, and nothing changes
pub record Outcome (n : Net) (flow flow' nodes nodes' : List ℕ) (r : Result ℕ Refusal) : Type 0 where
  pub few_flow_words : length flow < n.arcs
      → (r ≡ Err (refuse FlowWords n.arcs)) × (flow' ≡ flow) × (nodes' ≡ nodes)
  pub few_node_words : n.arcs ≤ length flow → length nodes < 4 * n.nodes
      → (r ≡ Err (refuse NodeWords (4 * n.nodes))) × (flow' ≡ flow) × (nodes' ≡ nodes)
  pub enough : n.arcs ≤ length flow → 4 * n.nodes ≤ length nodes → Answered n flow flow' nodes nodes' r
