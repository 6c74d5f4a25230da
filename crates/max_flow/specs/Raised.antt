-- What is known of a flow that is being raised.
use Rattle.std.specs.Prelude.{◌≡◌, ℕ, List, length}
use Rattle.flow.specs.Nets.{Net, IsFlow, NoneAbove, word}
use Rattle.flow.specs.Cuts.{Finite}

-- the words are a flow of value w and none is above w, where no flow grows for ever
pub record Raised (n : Net) (flow : List ℕ) (w : ℕ) : Type 0 where
  pub whole : length flow ≡ n.arcs
  pub finite : ∥ Finite n ∥₁
  pub is_flow : IsFlow n (word flow) w
  pub none_above : NoneAbove n (word flow) w
