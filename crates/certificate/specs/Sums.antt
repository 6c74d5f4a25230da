-- What flow words put on the arcs at a point, kind by kind. A point has an arc on and an arc back on each
-- side, and those of the lags from and to its activity.
use Rattle.std.specs.Prelude.{◌≡◌, ℕ, ◌+◌, ◌-◌, ◌*◌, ◌<◌, ◌≤◌, ◌&&◌, List, length, ℤ, pos, ◌+ℤ◌, ◌-ℤ◌, Some, None, Option, ◌==◌, slice_index_or, unsigned_abs}
use Rattle.model.specs.declared.price.Price.{Price}
use Rattle.model.specs.declared.price.Price.TheVariants.{Open, Closed}
use Rattle.model.specs.Meaning.{Meaning}
use Rattle.model.specs.Starts.{start, floor}
use Rattle.flow.specs.Sums.{sum_to, pick}
use Rattle.flow.specs.Nets.{word}
use Rattle.plan_theory.specs.TimeNetwork.{cut_to, above, lag_arc}
use Rattle.certificate.specs.Faults.{arcs_of, word_limit}

-- rows on and back for each activity, and a row for each lag
abbrev pub rows_of : Meaning → ℕ
rows_of m = 2 * m.n + m.lags

-- no project has more rows, so no sum here has more terms
abbrev pub most_terms : ℕ
most_terms = 384

-- there is a word for each arc, and none is above the limit
pub record Carried (m : Meaning) (flow : List ℕ) : Type 0 where
  pub long : arcs_of m ≤ length flow
  pub low : (k : ℕ) → k < arcs_of m → word flow k ≤ word_limit

-- the floors of a project, one after another
pub record FloorsOf (m : Meaning) (low : List ℤ) : Type 0 where
  pub room : m.n ≤ length low
  pub each_floor : (a : ℕ) → a < m.n → slice_index_or low a (pos 0) ≡ floor m a

-- what an open price lies above a floor; nothing where the slot is closed, or where there is none
abbrev pub above_if_open : ℤ → Option Price → Option ℕ
above_if_open low (Some (Open p)) = Some (unsigned_abs (p -ℤ low))
above_if_open low (Some (Closed height)) = None
above_if_open low None = None

-- what lag k takes away from point (a, t)
abbrev pub lag_out : Meaning → List ℕ → ℕ → ℕ → ℕ → ℕ
lag_out m flow a t k = pick ((m.lag k).from == a) (word flow (lag_arc m k t))

-- what it brings to point (a, t), from all of its slots
abbrev pub lag_in : Meaning → List ℕ → ℕ → ℕ → ℕ → ℕ
lag_in m flow a t k =
    sum_to
    (λ s.
    pick ((m.lag k).to == a && cut_to m.horizon (pos s +ℤ (m.lag k).gap) == t)
    (word flow (lag_arc m k s)))
    m.horizon

-- what leaves an inner point (a, t): the word on, the word back to the slot before, and those of the lags
abbrev pub out_of : Meaning → List ℕ → ℕ → ℕ → ℕ
out_of m flow a t =
    word flow (a * m.horizon + t) + word flow ((m.n + a) * m.horizon + (t - 1))
    + sum_to (lag_out m flow a t) m.lags

-- what enters it: the word on from the slot before, the word back, and those of the lags
abbrev pub in_to : Meaning → List ℕ → ℕ → ℕ → ℕ
in_to m flow a t =
    word flow (a * m.horizon + (t - 1)) + word flow ((m.n + a) * m.horizon + t)
    + sum_to (lag_in m flow a t) m.lags

-- what its arc at slot s brings to the source, which is the first point of every activity
abbrev pub word_to_source : Meaning → List ℕ → ℕ → ℕ → ℕ
word_to_source m flow k s =
    pick (cut_to m.horizon (pos s +ℤ (m.lag k).gap) == 0) (word flow (lag_arc m k s))

abbrev pub lag_to_source : Meaning → List ℕ → ℕ → ℕ
lag_to_source m flow k = sum_to (word_to_source m flow k) m.horizon

-- the first words of so many rows of h, from a row on
abbrev pub first_words : List ℕ → ℕ → ℕ → ℕ → ℕ
first_words flow h row rows = sum_to (λ i. word flow ((row + i) * h)) rows

-- what leaves the source: the words on and those of the lags in slot 0
abbrev pub out_of_source : Meaning → List ℕ → ℕ
out_of_source m flow =
    first_words flow m.horizon 0 m.n + first_words flow m.horizon (2 * m.n) m.lags

-- what activity a costs in a start list above its floor
abbrev pub above_floors : Meaning → List ℕ → ℕ → ℕ
above_floors m s a = above (floor m a) (m.price a (start s a))
