-- Start lists: what meets a project, what a list costs, and the lists that planning is to find, by
-- trying every list in order. A list holds one slot for each activity.
use Rattle.std.specs.Prelude.{ℕ, zero, suc, Bool, true, false, cond, not, ◌&&◌, ◌||◌, List, [], ◌∷◌, ◌++◌, map, length, ℤ, pos, ◌+ℤ◌, Some, None, Option, ◌==◌, int_le, nat_lt, slice_index}
use Rattle.std.specs.Option.{option_or, unwrap_or}
use Rattle.std.specs.Int.{int_min}
use Rattle.model.specs.declared.price.Price.{Price}
use Rattle.model.specs.declared.price.Price.TheVariants.{Open, Closed}
use Rattle.model.specs.declared.lag.Lag.{Lag}
use Rattle.model.specs.Meaning.{Meaning, price_of}

abbrev pub start : List ℕ → ℕ → ℕ
start s a = slice_index s a

abbrev pub is_open : Price → Bool
is_open (Open p) = true
is_open (Closed h) = false

abbrev pub value : Price → ℤ
value (Open p) = p
value (Closed h) = pos 0

abbrev pub every : ℕ → (ℕ → Bool) → Bool
every zero f = true
every (suc k) f = f k && every k f

abbrev pub sum_of : ℕ → (ℕ → ℤ) → ℤ
sum_of zero f = pos 0
sum_of (suc k) f = sum_of k f +ℤ f k

-- start(from) + gap is at most start(to)
abbrev pub holds : Lag → List ℕ → Bool
holds l s = int_le (pos (start s l.from) +ℤ l.gap) (pos (start s l.to))

-- one slot below the horizon for each activity, open for it, and all lags hold
abbrev pub meets : Meaning → List ℕ → Bool
meets m s =
    (length s == m.n)
    && (every m.n (λ a. nat_lt (start s a) m.horizon && is_open (m.price a (start s a)))
    && every m.lags (λ k. holds (m.lag k) s))

abbrev pub cost : Meaning → List ℕ → ℤ
cost m s = sum_of m.n (λ a. value (m.price a (start s a)))

-- the least open price so far, with one more looked at
abbrev pub lower : Option ℤ → Option Price → Option ℤ
lower least None = least
lower least (Some (Closed h)) = least
lower None (Some (Open p)) = Some p
lower (Some q) (Some (Open p)) = Some (int_min q p)

abbrev pub least_open : ℕ → (ℕ → Option Price) → Option ℤ
least_open zero f = None
least_open (suc k) f = lower (least_open k f) (f k)

-- the least open price of an activity, or 0 if it has none
abbrev pub floor : Meaning → ℕ → ℤ
floor m a = unwrap_or (least_open m.horizon (price_of m a)) (pos 0)

abbrev pub floors : Meaning → ℤ
floors m = sum_of m.n (floor m)

-- `rest` after each of the k slots from t on
abbrev pub after_each : ℕ → ℕ → List (List ℕ) → List (List ℕ)
after_each zero t rest = []
after_each (suc k) t rest = map (λ s. t ∷ s) rest ++ after_each k (suc t) rest

-- every list of n slots below h, in the order of a dictionary
abbrev pub lists : ℕ → ℕ → List (List ℕ)
lists zero h = [] ∷ []
lists (suc n) h = after_each h 0 (lists n h)

abbrev pub all_of : {A : Type 0} → (A → Bool) → List A → Bool
all_of p [] = true
all_of p (x ∷ xs) = p x && all_of p xs

abbrev pub first : {A : Type 0} → (A → Bool) → List A → Option A
first p [] = None
first p (x ∷ xs) = cond (p x) (Some x) (first p xs)

abbrev pub last : {A : Type 0} → (A → Bool) → List A → Option A
last p [] = None
last p (x ∷ xs) = option_or (last p xs) (cond (p x) (Some x) None)

-- if `other` meets the project, s costs no more
abbrev pub no_dearer : Meaning → List ℕ → List ℕ → Bool
no_dearer m s other = not (meets m other) || int_le (cost m s) (cost m other)

-- s meets the project, and costs no more than any list that does
abbrev pub of_least_cost : Meaning → List ℕ → Bool
of_least_cost m s = meets m s && all_of (no_dearer m s) (lists m.n m.horizon)

-- the first list that meets the project
abbrev pub earliest : Meaning → Option (List ℕ)
earliest m = first (meets m) (lists m.n m.horizon)

-- the first list of least cost
abbrev pub cheapest : Meaning → Option (List ℕ)
cheapest m = first (of_least_cost m) (lists m.n m.horizon)

-- the last list of least cost
abbrev pub latest : Meaning → Option (List ℕ)
latest m = last (of_least_cost m) (lists m.n m.horizon)
