-- What a time network holds: the lags of a project with an index, and the capacity of each price arc. As to
-- ends of arcs it is the time network of a project that has these lags.
use Rattle.std.specs.Prelude.{◌≡◌, ℕ, ◌+◌, ◌*◌, ◌<◌, ◌≤◌, Bool, true, false, cond, ◌&&◌, List, pos, negsuc, ◌==◌, int_le, nat_lt, nat_le, min, slice_index, slice_index_or, refl}
use Rattle.std.proofs.Common.{arith}
use Rattle.std.proofs.lemmas.Bool.{ltb-true, and_parts, cond_both}
use Rattle.std.proofs.lemmas.Int.{ints}
use Rattle.model.specs.declared.price.Price.TheVariants.{Closed}
use Rattle.model.specs.declared.lag.Lag.{Lag}
use Rattle.model.specs.Meaning as meanings
use Rattle.model.specs.Meaning.{Meaning, LagWithin}
use Rattle.flow.specs.declared.network.Capacity.{Capacity}
use Rattle.flow.specs.declared.network.Capacity.TheVariants.{Bounded, Unbounded}
use Rattle.flow.specs.Nets.{Net, Bounds}
use Rattle.plan_theory.specs.TimeNetwork.{time_net}
use Rattle.plan_theory.specs.TimeBounds.{time_bounds}
use Rattle.time_network.specs.declared.index.End.{End}
use Rattle.time_network.specs.declared.index.End.TheVariants.{From, To}
use Rattle.time_network.specs.declared.index.Index.{Index}
use Rattle.time_network.specs.Seeking.{seek}

abbrev pub no_lag : Lag
no_lag = record { from = 0; to = 0; gap = pos 0 }

abbrev pub lag_at : List Lag → ℕ → Lag
lag_at lags k = slice_index_or lags k no_lag

-- the activity at an end of a lag
abbrev pub at_end : End → Lag → ℕ
at_end From l = l.from
at_end To l = l.to

-- whether lag k has activity a at that end
abbrev pub touches : List Lag → End → ℕ → ℕ → Bool
touches lags end a k = at_end end (lag_at lags k) == a

-- the least lag with each activity at that end, and after each lag the next with the same activity there
abbrev pub Firsts : End → List Lag → ℕ → ℕ → List ℕ → Type 0
Firsts end lags count k firsts = (a : ℕ) → a < 256 → slice_index firsts a ≡ seek (touches lags end a) count k

abbrev pub Nexts : End → List Lag → ℕ → ℕ → List ℕ → Type 0
Nexts end lags count k nexts =
    (j : ℕ) → (k ≤ j) × (j < count) → slice_index nexts j ≡ seek (touches lags end (at_end end (lag_at lags j))) count (j + 1)

abbrev pub Indexed : End → List Lag → ℕ → Index → Type 0
Indexed end lags count x = Firsts end lags count 0 x.first × Nexts end lags count 0 x.next

-- between two of n activities, −256 to 256
abbrev pub lag_fits : ℕ → Lag → Bool
lag_fits n l = (nat_lt l.from n && nat_lt l.to n) && (int_le (negsuc 255) l.gap && int_le l.gap (pos 256))

abbrev pub LagsFit : ℕ → ℕ → List Lag → Type 0
LagsFit n count lags = (k : ℕ) → k < count → lag_fits n (lag_at lags k) ≡ true

-- a project with these lags; its prices are of no account here
abbrev pub held : ℕ → ℕ → ℕ → List Lag → Meaning
held n h count lags =
    record {
      n = n;
      horizon = h;
      duration = λ a. 0;
      price = λ a t. Closed 0;
      lags = count;
      lag = lag_at lags;
      height = 0;
    }

-- the capacity of price arc k
abbrev pub capacity_at : List Capacity → ℕ → Capacity
capacity_at capacities k = slice_index_or capacities k Unbounded

abbrev pub bounds_none : Capacity → Bool
bounds_none (Bounded most) = false
bounds_none Unbounded = true

-- what a capacity bounds an arc to, no more than a network may carry; of an unbounded one it is of no account
abbrev pub amount : Capacity → ℕ
amount (Bounded most) = min most 2000000000
amount Unbounded = 0

-- whether a network may have this capacity
abbrev pub in_limit : Capacity → Bool
in_limit (Bounded most) = nat_le most 2000000000
in_limit Unbounded = true

-- the first capacities are such as a network may have
abbrev pub WithinLimit : ℕ → List Capacity → Type 0
WithinLimit count capacities = (k : ℕ) → k < count → in_limit (capacity_at capacities k) ≡ true

abbrev pub held_net : Meaning → List Capacity → Net
held_net m capacities =
    record {
      nodes = (time_net m).nodes;
      arcs = (time_net m).arcs;
      tail = (time_net m).tail;
      head = (time_net m).head;
      capacity = λ k. cond (nat_lt k (m.n * m.horizon)) (amount (capacity_at capacities k)) 0;
      unbounded = λ k. cond (nat_lt k (m.n * m.horizon)) (bounds_none (capacity_at capacities k)) true;
    }

pub lag_within : (n : ℕ) (l : Lag) → lag_fits n l ≡ true → LagWithin n l
lag_within n l e =
    let x = and_parts (nat_lt l.from n && nat_lt l.to n) (int_le (negsuc 255) l.gap && int_le l.gap (pos 256)) e in
    let y = and_parts (nat_lt l.from n) (nat_lt l.to n) x.0 in
    let z = and_parts (int_le (negsuc 255) l.gap) (int_le l.gap (pos 256)) x.1 in
    record {
      from_ok = ltb-true l.from n y.0;
      to_ok = ltb-true l.to n y.1;
      low = omega (arith, ints);
      high = omega (arith, ints);
    }

pub held_bounds : (n h count : ℕ) (lags : List Lag) → 1 ≤ n → n ≤ 64 → 1 ≤ h → h ≤ 128 → count ≤ 256
    → LagsFit n count lags → meanings.Bounds (held n h count lags)
held_bounds n h count lags a b c d e f =
    record {
      n_low = a;
      n_high = b;
      h_low = c;
      h_high = d;
      duration_ok = λ i l. omega arith;
      price_ok = λ i t l k. refl;
      lags_ok = e;
      lag_ok = λ k l. lag_within n (lag_at lags k) (f k l);
      height_ok = omega arith;
    }

amount_limit : (c : Capacity) → amount c ≤ 2000000000
amount_limit (Bounded most) = omega arith
amount_limit Unbounded = omega arith

pub held_net_bounds : (m : Meaning) (capacities : List Capacity) → meanings.Bounds m → Bounds (held_net m capacities)
held_net_bounds m capacities b =
    let x = time_bounds m b in
    record {
      sound = record { two = x.sound.two; tails = x.sound.tails; heads = x.sound.heads };
      nodes_limit = x.nodes_limit;
      arcs_limit = x.arcs_limit;
      capacity_limit = λ k l.
          cond_both (nat_lt k (m.n * m.horizon)) (amount (capacity_at capacities k)) 0 (λ y. y ≤ 2000000000)
          (λ e. amount_limit (capacity_at capacities k)) (λ e. omega arith);
    }
