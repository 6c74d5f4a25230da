-- What the C entry answers for a table file, and what it leaves in the memory lent to it. A list is primed
-- after the call.
use Rattle.std.specs.Prelude.{◌≡◌, ℕ, ◌≤◌, true, List, length, ℤ, pos, ◌+ℤ◌, Some, None, Ok, Err, Option, Result}
use Rattle.model.specs.declared.refusal.Refusal.{Refusal}
use Rattle.model.specs.Meaning.{Meaning}
use Rattle.model.specs.Refusals.{code_of}
use Rattle.model.specs.Starts.{floors}
use Rattle.least_cost.specs.declared.side.Side.TheVariants.{Early}
use Rattle.least_cost.specs.Outcome.{Enough, Outcome}
use Rattle.table_file.specs.Format.{file_fault, faultless}
use Rattle.table_file.specs.Stated.{stated}

-- what a list costs that costs so much above the floors
abbrev pub cost_by : Meaning → Result ℕ Refusal → Result ℤ Refusal
cost_by m (Ok w) = Ok (floors m +ℤ pos w)
cost_by m (Err e) = Err e

-- as asking for the cheapest starts ends, with the cost in place of the value
pub record Priced (m : Meaning) (starts starts' flow flow' nodes nodes' : List ℕ) (r : Result ℤ Refusal) : Type 0 where
  pub value : Result ℕ Refusal
  pub outcome : Outcome Early m starts starts' flow flow' nodes nodes' value
  pub priced : r ≡ cost_by m value

-- refused for a fault of the file: nothing is changed
pub record Faulty (e : Refusal) (starts starts' flow flow' nodes nodes' : List ℕ) (r : Result ℤ Refusal) : Type 0 where
  pub answer : r ≡ Err e
  pub same_starts : starts' ≡ starts
  pub same_flow : flow' ≡ flow
  pub same_nodes : nodes' ≡ nodes

-- the first fault counts before all else
abbrev pub AfterFault : Option Refusal → Meaning → List ℕ → List ℕ → List ℕ → List ℕ → List ℕ → List ℕ → Result ℤ Refusal → Type 0
AfterFault (Some e) m starts starts' flow flow' nodes nodes' r = Faulty e starts starts' flow flow' nodes nodes' r
AfterFault None m starts starts' flow flow' nodes nodes' r = Priced m starts starts' flow flow' nodes nodes' r

abbrev pub FileOutcome : List ℕ → List ℕ → List ℕ → List ℕ → List ℕ → List ℕ → List ℕ → Result ℤ Refusal → Type 0
FileOutcome file starts starts' flow flow' nodes nodes' r =
    AfterFault (file_fault file) (stated file) starts starts' flow flow' nodes nodes' r

-- 0, or number × 65,536 + place
abbrev pub code_by : Result ℤ Refusal → ℕ
code_by (Ok c) = 0
code_by (Err e) = code_of e

-- the cost is written only where there is a plan
abbrev pub cost_after : Result ℤ Refusal → ℤ → ℤ
cost_after (Ok c) before = c
cost_after (Err e) before = before

-- the answer as a code, and the cost
pub record EntryOutcome (file starts starts' flow flow' nodes nodes' : List ℕ) (cost cost' : ℤ) (code : ℕ) : Type 0 where
  pub answer : Result ℤ Refusal
  pub planned : FileOutcome file starts starts' flow flow' nodes nodes' answer
  pub code_is : code ≡ code_by answer
  pub cost_is : cost' ≡ cost_after answer cost

-- memory of full size, which is enough for every file
pub record FullSize (starts flow nodes : List ℕ) : Type 0 where
  pub starts_full : 64 ≤ length starts
  pub flow_full : 49152 ≤ length flow
  pub nodes_full : 32520 ≤ length nodes

abbrev pub FullSizeIsEnough : List ℕ → List ℕ → List ℕ → List ℕ → Type 0
FullSizeIsEnough file starts flow nodes =
    faultless file ≡ true → FullSize starts flow nodes → Enough (stated file) starts flow nodes
