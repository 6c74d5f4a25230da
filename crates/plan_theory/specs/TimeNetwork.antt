-- The time network of a project. Its points stand for "activity a starts at slot t or later": the start
-- of each activity is where its row of points is cut, and what the cut costs there is its price.
use Rattle.std.specs.Prelude.{ℕ, ◌+◌, ◌-◌, ◌*◌, ◌/◌, ◌%◌, min, true, cond, not, ℤ, pos, negsuc, ◌+ℤ◌, ◌-ℤ◌, ◌==◌, nat_lt, unsigned_abs}
use Rattle.model.specs.declared.price.Price.{Price}
use Rattle.model.specs.declared.price.Price.TheVariants.{Open, Closed}
use Rattle.model.specs.Meaning.{Meaning}
use Rattle.model.specs.Starts.{is_open, floor}
use Rattle.flow.specs.Nets.{Net}

-- the node of point (a, t) under horizon h: the source at slot 0, the sink from the horizon on
abbrev pub point : ℕ → ℕ → ℕ → ℕ
point h a t = cond (t == 0) 0 (cond (nat_lt t h) (2 + (a * (h - 1) + (t - 1))) 1)

-- a slot, cut to 0 to h
abbrev pub cut_to : ℕ → ℤ → ℕ
cut_to h (pos t) = min t h
cut_to h (negsuc t) = 0

-- what a price is above the floor
abbrev pub above : ℤ → Price → ℕ
above low (Open p) = unsigned_abs (p -ℤ low)
above low (Closed height) = 0

-- row and column of a place in rows of h
abbrev pub at_place : {A : Type 0} → ℕ → (ℕ → ℕ → A) → ℕ → A
at_place h f k = f (k / h) (k % h)

-- of arc k, by its kind: on from a slot to the next, back to the slot before, along a lag. Each kind has
-- a row for each activity, or lag, and there a column for each slot
abbrev pub by_kind : {A : Type 0} → Meaning → (ℕ → ℕ → A) → (ℕ → ℕ → A) → (ℕ → ℕ → A) → ℕ → A
by_kind m on back along k =
    cond (nat_lt k (m.n * m.horizon)) (at_place m.horizon on k)
    (cond (nat_lt k (2 * (m.n * m.horizon))) (at_place m.horizon back (k - m.n * m.horizon))
    (at_place m.horizon along (k - 2 * (m.n * m.horizon))))

abbrev pub here : Meaning → ℕ → ℕ → ℕ
here m a t = point m.horizon a t

abbrev pub next : Meaning → ℕ → ℕ → ℕ
next m a t = point m.horizon a (t + 1)

-- the ends of the arc of lag k at slot t; past the horizon it ends in the sink
abbrev pub lag_tail : Meaning → ℕ → ℕ → ℕ
lag_tail m k t = point m.horizon (m.lag k).from t

abbrev pub lag_head : Meaning → ℕ → ℕ → ℕ
lag_head m k t = point m.horizon (m.lag k).to (cut_to m.horizon (pos t +ℤ (m.lag k).gap))

abbrev pub time_net : Meaning → Net
time_net m =
    record {
      nodes = m.n * (m.horizon - 1) + 2;
      arcs = m.horizon * (2 * m.n + m.lags);
      tail = by_kind m (here m) (next m) (lag_tail m);
      head = by_kind m (next m) (here m) (lag_head m);
      capacity = by_kind m (λ a t. above (floor m a) (m.price a t)) (λ a t. 0) (λ k t. 0);
      unbounded = by_kind m (λ a t. not (is_open (m.price a t))) (λ a t. true) (λ k t. true);
    }

-- the numbers of the arcs
abbrev pub on_arc : Meaning → ℕ → ℕ → ℕ
on_arc m a t = a * m.horizon + t

abbrev pub back_arc : Meaning → ℕ → ℕ → ℕ
back_arc m a t = m.n * m.horizon + (a * m.horizon + t)

abbrev pub lag_arc : Meaning → ℕ → ℕ → ℕ
lag_arc m k t = 2 * (m.n * m.horizon) + (k * m.horizon + t)
