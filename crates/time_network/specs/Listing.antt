-- The arcs at each point of the time network, in the order in which they are listed.
use Rattle.std.specs.Prelude.{ℕ, ◌+◌, ◌-◌, ◌*◌, ◌/◌, ◌%◌, Bool, cond, ◌&&◌, ℤ, pos, ◌-ℤ◌, Some, None, Option, ◌==◌, int_le, int_lt, nat_lt, unsigned_abs}
use Rattle.model.specs.Meaning.{Meaning}
use Rattle.flow.specs.declared.network.Step.{Step}
use Rattle.plan_theory.specs.TimeNetwork.{cut_to, here, next, lag_tail, lag_head, on_arc, back_arc, lag_arc, time_net}
use Rattle.time_network.specs.declared.place.Place.{Place}
use Rattle.time_network.specs.declared.place.Place.TheVariants.{Source, Sink, Inner}
use Rattle.time_network.specs.declared.place.Row.{Row}
use Rattle.time_network.specs.declared.place.Row.TheVariants.{On, Back}
use Rattle.time_network.specs.declared.place.Side.{Side}
use Rattle.time_network.specs.declared.place.Side.TheVariants.{AtSource, AtSink}
use Rattle.time_network.specs.Seeking.{seek}

-- a node taken apart; past the last node all are taken for the sink
abbrev pub decode : Meaning → ℕ → Place
decode m v =
    cond (v == 0) Source
    (cond (v == 1) Sink
    (cond (nat_lt v (time_net m).nodes)
    (Inner (record { activity = (v - 2) / (m.horizon - 1); before = (v - 2) % (m.horizon - 1) }))
    Sink))

abbrev pub step : ℕ → ℕ → ℕ → Option Step
step arc node onward = Some (record { arc = arc; node = node; next = onward })

-- whether lag k leads from activity a, and whether it leads to it
abbrev pub leads : Meaning → ℕ → ℕ → Bool
leads m a k = (m.lag k).from == a

abbrev pub ends : Meaning → ℕ → ℕ → Bool
ends m a k = (m.lag k).to == a

abbrev pub next_leading : Meaning → ℕ → ℕ → ℕ
next_leading m a k = 2 + seek (leads m a) m.lags k

abbrev pub next_ending : Meaning → ℕ → ℕ → ℕ
next_ending m a k = 2 + seek (ends m a) m.lags k

-- the arcs that leave: from the source the first on arc of each activity and the first arc of each lag
abbrev pub leaving_source : Meaning → ℕ → Option Step
leaving_source m c =
    cond (nat_lt c m.n) (step (on_arc m c 0) (next m c 0) (c + 1))
    (cond (nat_lt (c - m.n) m.lags) (step (lag_arc m (c - m.n) 0) (lag_head m (c - m.n) 0) (c + 1)) None)

-- from the sink the last arc back of each activity
abbrev pub leaving_sink : Meaning → ℕ → Option Step
leaving_sink m c =
    cond (nat_lt c m.n) (step (back_arc m c (m.horizon - 1)) (here m c (m.horizon - 1)) (c + 1)) None

-- from point (a, t + 1) the arc back, the arc on, and an arc of each lag that leads from a
abbrev pub back_out : Meaning → ℕ → ℕ → Step
back_out m a t = record { arc = back_arc m a t; node = here m a t; next = 1 }

abbrev pub on_out : Meaning → ℕ → ℕ → Step
on_out m a t = record { arc = on_arc m a (t + 1); node = next m a (t + 1); next = next_leading m a 0 }

abbrev pub leaving_lag : Meaning → ℕ → ℕ → ℕ → Option Step
leaving_lag m a t k =
    cond (nat_lt k m.lags && leads m a k) (step (lag_arc m k (t + 1)) (lag_head m k (t + 1)) (next_leading m a (k + 1))) None

abbrev pub leaving_point : Meaning → ℕ → ℕ → ℕ → Option Step
leaving_point m a t c =
    cond (c == 0) (Some (back_out m a t))
    (cond (c == 1) (Some (on_out m a t))
    (leaving_lag m a t (c - 2)))

abbrev pub outward : Meaning → Place → ℕ → Option Step
outward m Source c = leaving_source m c
outward m Sink c = leaving_sink m c
outward m (Inner p) c = leaving_point m p.activity p.before c

-- where the arc of lag k that ends at slot t begins; whether there is one that ends at (a, t)
abbrev pub begins : Meaning → ℕ → ℕ → ℤ
begins m t k = pos t -ℤ (m.lag k).gap

abbrev pub lands : Meaning → ℕ → ℕ → ℕ → Bool
lands m a t k = ends m a k && (int_le (pos 0) (begins m t k) && int_lt (begins m t k) (pos m.horizon))

-- the next lag of which an arc does
abbrev pub next_landing : Meaning → ℕ → ℕ → ℕ → ℕ
next_landing m a t k = seek (lands m a t) m.lags k

abbrev pub landing : Meaning → ℕ → ℕ → ℕ → Option Step
landing m a t k =
    cond (nat_lt k m.lags)
    (step (lag_arc m k (unsigned_abs (begins m t k))) (lag_tail m k (unsigned_abs (begins m t k))) (next_ending m a (k + 1)))
    None

abbrev pub entering_lag : Meaning → ℕ → ℕ → ℕ → Option Step
entering_lag m a t k =
    cond (nat_lt k m.lags && ends m a k) (landing m a (t + 1) (next_landing m a (t + 1) k)) None

-- the arcs that enter point (a, t + 1): the arc on, the arc back, and those of lags that end there
abbrev pub on_in : Meaning → ℕ → ℕ → Step
on_in m a t = record { arc = on_arc m a t; node = here m a t; next = 1 }

abbrev pub back_in : Meaning → ℕ → ℕ → Step
back_in m a t = record { arc = back_arc m a (t + 1); node = next m a (t + 1); next = next_ending m a 0 }

-- the step along a row between point (a, t + 1) and the point before, and that between it and the point after
abbrev pub before : Meaning → Row → ℕ → ℕ → Step
before m On = on_in m
before m Back = back_out m

abbrev pub after : Meaning → Row → ℕ → ℕ → Step
after m On = on_out m
after m Back = back_in m

abbrev pub entering_point : Meaning → ℕ → ℕ → ℕ → Option Step
entering_point m a t c =
    cond (c == 0) (Some (on_in m a t))
    (cond (c == 1) (Some (back_in m a t))
    (entering_lag m a t (c - 2)))

-- how many arcs of lag k end in the source, those of its first slots; how many in the sink, those of its last
abbrev pub early : Meaning → ℕ → ℕ
early m k = cut_to m.horizon (pos 1 -ℤ (m.lag k).gap)

abbrev pub late : Meaning → ℕ → ℕ
late m k = cut_to m.horizon (m.lag k).gap

-- those at either end of the network, and the slot of each
abbrev pub cut_arcs : Meaning → Side → ℕ → ℕ
cut_arcs m AtSource = early m
cut_arcs m AtSink = late m

abbrev pub cut_slot : Meaning → Side → ℕ → ℕ
cut_slot m AtSource u = u
cut_slot m AtSink u = m.horizon - 1 - u

-- place j is the one of lag j / 128 in rows of 128 of which the first `count` are taken
abbrev pub taken : (ℕ → ℕ) → ℕ → Bool
taken count j = nat_lt (j % 128) (count (j / 128))

abbrev pub in_row : Meaning → (ℕ → ℕ) → ℕ → Option Step
in_row m slot j =
    cond (nat_lt j (m.lags * 128))
    (step (lag_arc m (j / 128) (slot (j % 128))) (lag_tail m (j / 128) (slot (j % 128))) (m.n + (j + 1)))
    None

-- the next place that is taken, and the arc there
abbrev pub next_cut : Meaning → Side → ℕ → ℕ
next_cut m side j = seek (taken (cut_arcs m side)) (m.lags * 128) j

abbrev pub cut_step : Meaning → Side → ℕ → Option Step
cut_step m side j = in_row m (cut_slot m side) j

-- the arcs that enter the source: the first arc back of each activity, and early arcs of lags
abbrev pub entering_source : Meaning → ℕ → Option Step
entering_source m c =
    cond (nat_lt c m.n) (step (back_arc m c 0) (next m c 0) (c + 1))
    (cut_step m AtSource (next_cut m AtSource (c - m.n)))

-- the arcs that enter the sink: the last on arc of each activity, and late arcs of lags, the last slot first
abbrev pub entering_sink : Meaning → ℕ → Option Step
entering_sink m c =
    cond (nat_lt c m.n) (step (on_arc m c (m.horizon - 1)) (here m c (m.horizon - 1)) (c + 1))
    (cut_step m AtSink (next_cut m AtSink (c - m.n)))

-- those at either end: the arc of an activity, or the next of a lag
abbrev pub entering_first : Meaning → Side → ℕ → Option Step
entering_first m AtSource c = step (back_arc m c 0) (next m c 0) (c + 1)
entering_first m AtSink c = step (on_arc m c (m.horizon - 1)) (here m c (m.horizon - 1)) (c + 1)

abbrev pub entering_end : Meaning → Side → ℕ → Option Step
entering_end m side c =
    cond (nat_lt c m.n) (entering_first m side c) (cut_step m side (next_cut m side (c - m.n)))

abbrev pub inward : Meaning → Place → ℕ → Option Step
inward m Source c = entering_source m c
inward m Sink c = entering_sink m c
inward m (Inner p) c = entering_point m p.activity p.before c
