-- Chains of reasons: why one activity cannot start before the horizon, so that no start list meets.
-- Each entry says that its activity starts at its slot or later, and how that follows from the entry
-- before it.
use Rattle.std.specs.Prelude.{◌≡◌, ℕ, ◌+◌, ◌<◌, min, Bool, false, ◌&&◌, List, [], ◌∷◌, ℤ, pos, negsuc, ◌+ℤ◌, ◌==◌}
use Rattle.model.specs.declared.price.Price.TheVariants.{Closed}
use Rattle.model.specs.Meaning.{Meaning}
use Rattle.model.specs.Chosen.{NoneMeets}
use Rattle.earliest.specs.declared.chain.How.{How}
use Rattle.earliest.specs.declared.chain.How.TheVariants.{Start, PastClosed, ByLag}
use Rattle.earliest.specs.declared.chain.Entry.{Entry}

-- each case's number, and the number that it carries: none, the closing height, the lag
abbrev pub as_numbers : How → ℕ × ℕ
as_numbers Start = (0, 0)
as_numbers (PastClosed h) = (1, h)
as_numbers (ByLag k) = (2, k)

-- an entry as how, activity, slot and number
abbrev pub entry_numbers : Entry → ℕ × ℕ × ℕ × ℕ
entry_numbers e = ((as_numbers e.how).0, e.activity, e.slot.0, (as_numbers e.how).1)

-- cut to the slots 0 to h
abbrev pub cut_to : ℕ → ℤ → ℕ
cut_to h (pos x) = min x h
cut_to h (negsuc x) = 0

-- that a starts at t or later forces that b starts at u or later, and how
abbrev pub Leads : Meaning → How → ℕ → ℕ → ℕ → ℕ → Type 0
Leads m Start a t b u = ⊥
Leads m (PastClosed h) a t b u = (m.price a t ≡ Closed h) × (b ≡ a) × (u ≡ t + 1)
Leads m (ByLag k) a t b u =
    (k < m.lags)
    × ((m.lag k).from ≡ a)
    × ((m.lag k).to ≡ b)
    × (u ≡ cut_to m.horizon (pos t +ℤ (m.lag k).gap))

-- from activity a and slot t, entry by entry, to the horizon, which only the last entry reaches
abbrev pub RunsOn : Meaning → ℕ → ℕ → List Entry → Type 0
RunsOn m a t [] = t ≡ m.horizon
RunsOn m a t (e ∷ es) =
    (t < m.horizon)
    × (e.activity < m.n)
    × Leads m e.how a t e.activity e.slot.0
    × RunsOn m e.activity e.slot.0 es

-- the first entry stands at slot 0 of some activity
abbrev pub Opens : Meaning → List Entry → Type 0
Opens m [] = ⊥
Opens m (e ∷ es) = (e.how ≡ Start) × (e.activity < m.n) × (e.slot.0 ≡ 0) × RunsOn m e.activity 0 es

abbrev pub same_point : Entry → Entry → Bool
same_point e f = e.activity == f.activity && e.slot.0 == f.slot.0

abbrev pub NotAmong : Entry → List Entry → Type 0
NotAmong e [] = Unit {0}
NotAmong e (f ∷ fs) = (same_point e f ≡ false) × NotAmong e fs

-- no activity and slot stand twice
abbrev pub Apart : List Entry → Type 0
Apart [] = Unit {0}
Apart (e ∷ es) = NotAmong e es × Apart es

pub record Chain (m : Meaning) (es : List Entry) : Type 0 where
  pub runs : Opens m es
  pub none_twice : Apart es

-- a chain alone is proof that no start list meets the project
abbrev pub ChainsRefute : Type 0
ChainsRefute = (m : Meaning) (es : List Entry) → Chain m es → NoneMeets m
