-- What a layer makes of the meaning below it: open prices may change or close, and the height is one
-- more. Everything else passes through, and a slot closed below keeps its height.
use Rattle.std.specs.Prelude.{◌≡◌, ℕ, ◌+◌, ◌-◌, ◌*◌, ◌≤◌, min, Bool, true, false, cond, List, ℤ, pos, negsuc, ◌+ℤ◌, slice_index_or}
use Rattle.std.specs.Int.{int_max, int_min}
use Rattle.model.specs.declared.price.Price.{Price}
use Rattle.model.specs.declared.price.Price.TheVariants.{Open, Closed}
use Rattle.model.specs.Meaning.{Meaning, price_fits}
use Rattle.layers.specs.declared.lateness.Term.{Term}

-- what a rule makes of an open price, given the layer's height, the activity, the slot and the duration
abbrev pub Repricing : Type 0
Repricing = ℕ → ℕ → ℕ → ℕ → ℤ → Price

-- a slot closed below keeps its height
abbrev pub repriced_at : Repricing → ℕ → ℕ → ℕ → ℕ → Price → Price
repriced_at f h a t d (Open p) = f h a t d p
repriced_at f h a t d (Closed k) = Closed k

-- one more than the height below, or 255 on a height of 255
abbrev pub raised : ℕ → ℕ
raised h = min 255 (h + 1)

-- a layer with this rule
abbrev pub over : Repricing → Meaning → Meaning
over f m = record {
  n = m.n;
  horizon = m.horizon;
  duration = m.duration;
  price = λ a t. repriced_at f (raised m.height) a t (m.duration a) (m.price a t);
  lags = m.lags;
  lag = m.lag;
  height = raised m.height;
}

-- a start in a shut slot is closed at the layer's height
abbrev pub shut_by : List Bool → Repricing
shut_by marks h a t d p = cond (slice_index_or marks t false) (Closed h) (Open p)

-- cut to the price bounds
abbrev pub cut : ℤ → ℤ
cut z = int_max (negsuc 999999999) (int_min z (pos 1000000000))

-- `late` slots past the due slot, at `rate` each
abbrev pub dearer : ℕ → ℕ → ℤ → ℤ
dearer rate late p = cut (p +ℤ pos (rate * late))

abbrev pub no_term : Term
no_term = record { due = 0; rate = 0 }

abbrev pub term_of : List Term → ℕ → Term
term_of terms a = slice_index_or terms a no_term

-- the difference stops at 0: an activity that ends by its due slot is not late
abbrev pub late_by : List Term → Repricing
late_by terms h a t d p = Open (dearer (term_of terms a).rate (t + d - (term_of terms a).due) p)

-- a rule keeps prices and heights within their bounds
abbrev pub Keeps : Repricing → Type 0
Keeps f = (h a t d : ℕ) (p : ℤ) → h ≤ 255 → price_fits (Open p) ≡ true → price_fits (f h a t d p) ≡ true
