-- What it means that a check passes.
use Rattle.std.specs.Prelude.{◌≡◌, ℕ, ◌<◌, ◌≤◌, List, length, take, pos, ◌+ℤ◌, Ok, Result}
use Rattle.model.specs.declared.refusal.Refusal.{Refusal}
use Rattle.model.specs.Meaning.{Meaning}
use Rattle.model.specs.Starts.{cost, floors}
use Rattle.model.specs.Chosen.{Meets, NoneCheaper}
use Rattle.flow.specs.Nets.{IsFlow, word}
use Rattle.plan_theory.specs.TimeNetwork.{time_net}
use Rattle.certificate.specs.Faults.{arcs_of, word_limit}

-- the first n start bytes meet the project, and the words are a flow of its time network that accounts
-- for what these starts cost above the floors
pub record Accounts (m : Meaning) (bytes flow : List ℕ) (w : ℕ) : Type 0 where
  pub enough_words : arcs_of m ≤ length flow
  pub meeting : Meets m (take m.n bytes)
  pub none_above : (k : ℕ) → k < arcs_of m → word flow k ≤ word_limit
  pub a_flow : IsFlow (time_net m) (word flow) w
  pub costs : cost m (take m.n bytes) ≡ floors m +ℤ pos w

-- a check passes exactly when the flow accounts for the cost
pub record PassesExactly (m : Meaning) (bytes flow : List ℕ) (r : Result (Unit {0}) Refusal) : Type 0 where
  pub accounted : r ≡ Ok tt → (w : ℕ) × Accounts m bytes flow w
  pub passed : (w : ℕ) → Accounts m bytes flow w → r ≡ Ok tt

-- and what passes is a cheapest plan
abbrev pub PassedIsCheapest : Meaning → List ℕ → Result (Unit {0}) Refusal → Type 0
PassedIsCheapest m bytes r = r ≡ Ok tt → NoneCheaper m (take m.n bytes)
