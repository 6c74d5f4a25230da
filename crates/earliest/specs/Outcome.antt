-- What asking for the earliest starts answers, and what it leaves in the memory lent to it: start bytes,
-- node words and chain entries, of any lengths.
use Rattle.std.specs.Prelude.{◌≡◌, ℕ, ◌+◌, ◌-◌, ◌*◌, ◌≤◌, Bool, false, cond, List, ◌++◌, length, take, drop, replicate, Some, None, Ok, Err, Decides, Option, Result, ◌==◌, nat_lt}
use Rattle.model.specs.declared.refusal.Fault.TheVariants as fault
use Rattle.model.specs.declared.refusal.Refusal.{Refusal}
use Rattle.model.specs.Meaning.{Meaning}
use Rattle.model.specs.Refusals.{refuse, number_of}
use Rattle.model.specs.Starts.{earliest}
use Rattle.model.specs.Chosen.{Earliest, NoneMeets}
use Rattle.earliest.specs.declared.chain.Entry.{Entry}
use Rattle.earliest.specs.Chain.{Chain}

-- a node for each slot from 1 to the last of each activity, and two more
abbrev pub node_count : Meaning → ℕ
node_count m = m.n * (m.horizon - 1) + 2

abbrev pub words_needed : Meaning → ℕ
words_needed m = 4 * node_count m

abbrev pub entries_needed : Meaning → ℕ
entries_needed m = m.n * m.horizon + 1

-- how asking ends: refused for want of memory, no list meets, or the earliest starts
pub data Ending : Type 0 where
  refused : Refusal → Ending
  impossible : Ending
  found : List ℕ → Ending

-- with memory enough: from the first list that meets the project
abbrev pub searched : Option (List ℕ) → Ending
searched None = impossible
searched (Some s) = found s

-- with s start bytes, w node words and c chain entries: the first memory that is too short counts
abbrev pub ending : Meaning → ℕ → ℕ → ℕ → Ending
ending m s w c =
    cond (nat_lt s m.n) (refused (refuse fault.StartBytes m.n))
    (cond (nat_lt w (words_needed m)) (refused (refuse fault.NodeWords (words_needed m)))
    (cond (nat_lt c (entries_needed m)) (refused (refuse fault.ChainEntries (entries_needed m)))
    (searched (earliest m))))

-- k is the length of the chain
abbrev pub answer_of : Ending → ℕ → Result (Unit {0}) Refusal
answer_of (refused f) k = Err f
answer_of impossible k = Err (refuse fault.Impossible k)
answer_of (found s) k = Ok tt

abbrev pub place_of : Result (Unit {0}) Refusal → ℕ
place_of (Ok u) = 0
place_of (Err e) = e.place

abbrev pub says_impossible : Result (Unit {0}) Refusal → Bool
says_impossible (Ok u) = false
says_impossible (Err e) = number_of e.fault == 18

-- the earliest starts in front, the rest as it was
abbrev pub starts_after : Ending → List ℕ → List ℕ
starts_after (refused f) xs = xs
starts_after impossible xs = xs
starts_after (found s) xs = s ++ drop (length s) xs

-- zeros in the words needed, the rest as it was
abbrev pub nodes_after : Meaning → Ending → List ℕ → List ℕ
nodes_after m (refused f) xs = xs
nodes_after m impossible xs = replicate (words_needed m) 0 ++ drop (words_needed m) xs
nodes_after m (found s) xs = replicate (words_needed m) 0 ++ drop (words_needed m) xs

-- the first k entries are a chain, the rest is as it was
pub record Explained (m : Meaning) (before after : List Entry) (k : ℕ) : Type 0 where
  pub chain : Chain m (take k after)
  pub within : k ≤ length after
  pub rest : drop k after ≡ drop k before

abbrev pub ChainAfter : Meaning → Ending → List Entry → List Entry → ℕ → Type 0
ChainAfter m (refused f) before after k = after ≡ before
ChainAfter m impossible before after k = Explained m before after k
ChainAfter m (found s) before after k = after ≡ before

pub record Enough (m : Meaning) (s w c : ℕ) : Type 0 where
  pub starts : m.n ≤ s
  pub nodes : words_needed m ≤ w
  pub entries : entries_needed m ≤ c

-- at an ending e
pub record Told (m : Meaning) (e : Ending) (starts starts' : List ℕ) (chain chain' : List Entry) (r : Result (Unit {0}) Refusal) : Type 0 where
  pub answer : r ≡ answer_of e (place_of r)
  pub starts_are : starts' ≡ starts_after e starts
  pub chain_is : ChainAfter m e chain chain' (place_of r)
  pub least : r ≡ Ok tt → Earliest m (take m.n starts')

-- of the whole call; a list is primed after it
pub record Outcome (m : Meaning) (starts starts' nodes nodes' : List ℕ) (chain chain' : List Entry) (r : Result (Unit {0}) Refusal) : Type 0 where
  pub told : Told m (ending m (length starts) (length nodes) (length chain)) starts starts' chain chain' r
  pub nodes_are : nodes' ≡ nodes_after m (ending m (length starts) (length nodes) (length chain)) nodes
  pub impossible_exactly : Enough m (length starts) (length nodes) (length chain) → Decides (says_impossible r) (NoneMeets m)
