-- What the search in depth keeps.
use Rattle.std.proofs.Common.{ℕ, ◌<◌, ◌≤◌}
use Rattle.max_flow.specs.declared.raising.Raising.{Raising}
use Rattle.max_flow.specs.Layout.{net_of, KeptAll}
use Rattle.max_flow.specs.Stages.{WayIn}

pub record Deepening {N : _} {A : _} {b : _} (s s' : Raising N A b) (node : ℕ) : Type 0 where
  pub kept : KeptAll s s'
  pub more : s.value ≤ s'.value
  pub inside : node < (net_of s'.nodes.now).nodes
  pub way : WayIn s'.flow.now s'.nodes.now 0 node
