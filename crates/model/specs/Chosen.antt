-- The lists that planning is to find, in words that name no search; and what ties these words to the
-- search: whatever fits them is the list that the search defines, for any number of activities and slots.
use Rattle.std.specs.Prelude.{◌≡◌, ℕ, ◌<◌, ◌≤◌, true, List, length, pos, ◌+ℤ◌, ◌≤ℤ◌, Some, None, Decides, Option}
use Rattle.model.specs.Meaning.{Meaning}
use Rattle.model.specs.Starts.{start, is_open, meets, cost, earliest, cheapest, latest}

-- a start list meets a project
pub record Meets (m : Meaning) (s : List ℕ) : Type 0 where
  pub one_each : length s ≡ m.n
  pub below_horizon : (a : ℕ) → a < m.n → start s a < m.horizon
  pub in_open_slots : (a : ℕ) → a < m.n → is_open (m.price a (start s a)) ≡ true
  pub lags_hold : (k : ℕ) → k < m.lags → (pos (start s (m.lag k).from) +ℤ (m.lag k).gap) ≤ℤ pos (start s (m.lag k).to)

-- none of n activities starts later in s than in r
abbrev pub NoneLater : ℕ → List ℕ → List ℕ → Type 0
NoneLater n s r = (a : ℕ) → a < n → start s a ≤ start r a

abbrev pub NoneMeets : Meaning → Type 0
NoneMeets m = (s : List ℕ) → Meets m s → ⊥

-- it starts each activity no later than any other list that meets the project
pub record Earliest (m : Meaning) (s : List ℕ) : Type 0 where
  pub meeting : Meets m s
  pub none_earlier : (r : List ℕ) → Meets m r → NoneLater m.n s r

-- no list that meets the project costs less
pub record NoneCheaper (m : Meaning) (s : List ℕ) : Type 0 where
  pub meeting : Meets m s
  pub none_cheaper : (r : List ℕ) → Meets m r → cost m s ≤ℤ cost m r

-- and one of equal cost starts no activity earlier
pub record Cheapest (m : Meaning) (s : List ℕ) : Type 0 where
  pub least : NoneCheaper m s
  pub none_earlier : (r : List ℕ) → Meets m r → cost m r ≡ cost m s → NoneLater m.n s r

-- and one of equal cost starts no activity later
pub record Latest (m : Meaning) (s : List ℕ) : Type 0 where
  pub least : NoneCheaper m s
  pub none_later : (r : List ℕ) → Meets m r → cost m r ≡ cost m s → NoneLater m.n r s

abbrev pub TestIsMeeting : Type 0
TestIsMeeting = (m : Meaning) (s : List ℕ) → Decides (meets m s) (Meets m s)

abbrev pub EarliestIsTheFirst : Type 0
EarliestIsTheFirst = (m : Meaning) (s : List ℕ) → Earliest m s → earliest m ≡ Some s

abbrev pub CheapestIsTheFirst : Type 0
CheapestIsTheFirst = (m : Meaning) (s : List ℕ) → Cheapest m s → cheapest m ≡ Some s

abbrev pub LatestIsTheLast : Type 0
LatestIsTheLast = (m : Meaning) (s : List ℕ) → Latest m s → latest m ≡ Some s

-- what the search defines meets the project, and costs least where it should
pub record DefinedOnesMeet : Type 0 where
  pub earliest_meets : (m : Meaning) (s : List ℕ) → earliest m ≡ Some s → Meets m s
  pub cheapest_is_least : (m : Meaning) (s : List ℕ) → cheapest m ≡ Some s → NoneCheaper m s
  pub latest_is_least : (m : Meaning) (s : List ℕ) → latest m ≡ Some s → NoneCheaper m s

-- nothing meets the project exactly when the search finds nothing
pub record NoneExactly (m : Meaning) (found : Option (List ℕ)) : Type 0 where
  pub none_found : NoneMeets m → found ≡ None
  pub none_meets : found ≡ None → NoneMeets m

pub record NoneDefinedExactly : Type 0 where
  pub no_earliest : (m : Meaning) → NoneExactly m (earliest m)
  pub no_cheapest : (m : Meaning) → NoneExactly m (cheapest m)
  pub no_latest : (m : Meaning) → NoneExactly m (latest m)
