-- What asking for a list of least cost answers, and what it leaves in the memory lent to it.
use Rattle.std.specs.Prelude.{◌≡◌, ℕ, ◌*◌, ◌<◌, ◌≤◌, List, ◌++◌, length, drop, replicate, pos, ◌+ℤ◌, Some, None, Ok, Err, Option, Result}
use Rattle.model.specs.declared.refusal.Fault.TheVariants.{StartBytes, FlowWords, NodeWords, Unbounded}
use Rattle.model.specs.declared.refusal.Refusal.{Refusal}
use Rattle.model.specs.Meaning.{Meaning}
use Rattle.model.specs.Refusals.{refuse}
use Rattle.model.specs.Starts.{cost, floors}
use Rattle.model.specs.Chosen.{NoneMeets, Cheapest, Latest}
use Rattle.flow.specs.Nets.{IsFlow, NoneAbove, word}
use Rattle.plan_theory.specs.TimeNetwork.{time_net}
use Rattle.least_cost.specs.declared.side.Side.{Side}
use Rattle.least_cost.specs.declared.side.Side.TheVariants.{Early, Late}
use Rattle.least_cost.specs.Sides.{wanted}

-- the list that is wanted, in the subject's own words
abbrev pub Described : Side → Meaning → List ℕ → Type 0
Described Early m s = Cheapest m s
Described Late m s = Latest m s

-- a list in front of what was there
abbrev pub in_front : Option (List ℕ) → List ℕ → List ℕ
in_front None xs = xs
in_front (Some s) xs = s ++ drop (length s) xs

-- the wanted list is found, with a flow of value w that accounts for its cost
pub record Found (side : Side) (m : Meaning) (starts starts' flow flow' : List ℕ) (w : ℕ) : Type 0 where
  pub the_list : List ℕ
  pub defined : wanted side m ≡ Some the_list
  pub described : Described side m the_list
  pub costs : cost m the_list ≡ floors m +ℤ pos w
  pub starts_are : starts' ≡ in_front (wanted side m) starts
  pub a_flow : IsFlow (time_net m) (word flow') w
  pub no_word_above_the_value : NoneAbove (time_net m) (word flow') w
  pub rest_of_flow : drop (time_net m).arcs flow' ≡ drop (time_net m).arcs flow

-- no list meets the project, and nothing is written
pub record Nothing (side : Side) (m : Meaning) (starts starts' flow flow' : List ℕ) (e : Refusal) : Type 0 where
  pub refusal : e ≡ refuse Unbounded 0
  pub none_meets : NoneMeets m
  pub same_starts : starts' ≡ starts
  pub same_flow : flow' ≡ flow

abbrev pub Settled : Side → Meaning → List ℕ → List ℕ → List ℕ → List ℕ → Result ℕ Refusal → Type 0
Settled side m starts starts' flow flow' (Ok w) = Found side m starts starts' flow flow' w
Settled side m starts starts' flow flow' (Err e) = Nothing side m starts starts' flow flow' e

abbrev pub words_needed : Meaning → ℕ
words_needed m = 4 * (time_net m).nodes

pub record Enough (m : Meaning) (starts flow nodes : List ℕ) : Type 0 where
  pub starts_enough : m.n ≤ length starts
  pub flow_enough : (time_net m).arcs ≤ length flow
  pub nodes_enough : words_needed m ≤ length nodes

-- refused for want of memory: nothing is changed
pub record Refused (starts starts' flow flow' nodes nodes' : List ℕ) (r : Result ℕ Refusal) (e : Refusal) : Type 0 where
  pub answer : r ≡ Err e
  pub same_starts : starts' ≡ starts
  pub same_flow : flow' ≡ flow
  pub same_nodes : nodes' ≡ nodes

-- of the whole call; a list is primed after it. The first memory that is too short counts
pub record Outcome (side : Side) (m : Meaning) (starts starts' flow flow' nodes nodes' : List ℕ) (r : Result ℕ Refusal) : Type 0 where
  pub few_start_bytes : length starts < m.n → Refused starts starts' flow flow' nodes nodes' r (refuse StartBytes m.n)
  pub few_flow_words : m.n ≤ length starts → length flow < (time_net m).arcs → Refused starts starts' flow flow' nodes nodes' r (refuse FlowWords (time_net m).arcs)
  pub few_node_words : m.n ≤ length starts → (time_net m).arcs ≤ length flow → length nodes < words_needed m → Refused starts starts' flow flow' nodes nodes' r (refuse NodeWords (words_needed m))
  pub settled : Enough m starts flow nodes → Settled side m starts starts' flow flow' r
  pub clean : Enough m starts flow nodes → nodes' ≡ replicate (words_needed m) 0 ++ drop (words_needed m) nodes
