-- How the bounds are pushed up; callers need none of this. Each activity has a latest node, whose slot is
-- the activity's bound: no list that meets the project starts the activity before it. Node 0 stands for
-- slot 0 of any activity.
use Rattle.std.specs.Prelude.{◌≡◌, ℕ, zero, suc, ◌+◌, ◌<◌, ◌≤◌, cond, List, map, pos, ◌+ℤ◌, Some, None, Option, nat_lt, slice_index, slice_set}
use Rattle.std.specs.List.{range_with_len}
use Rattle.std.proofs.Props.{props}
use Rattle.model.specs.declared.price.Price.{Price}
use Rattle.model.specs.declared.price.Price.TheVariants.{Open, Closed}
use Rattle.model.specs.Meaning.{Meaning}
use Rattle.model.specs.Starts.{start}
use Rattle.model.specs.Chosen.{Meets}
use Rattle.earliest.specs.declared.chain.How.{How}
use Rattle.earliest.specs.declared.chain.How.TheVariants.{Start, PastClosed, ByLag}
use Rattle.earliest.specs.declared.nodes.Node.{Node}
use Rattle.earliest.specs.Chain.{cut_to, Leads}
use Rattle.earliest.specs.Nodes.{Put}

abbrev pub latest_of : List ℕ → ℕ → ℕ
latest_of ls a = slice_index ls a

-- the slot of the latest node
abbrev pub bound : (ℕ → Node) → (ℕ → ℕ) → ℕ → ℕ
bound nd la a = (nd (la a)).entry.slot.0

-- one slot on, if this one is closed
abbrev pub past : Price → ℕ → ℕ → ℕ → Option Node
past (Open p) a t e = None
past (Closed h) a t e = Some (record { entry = record { activity = a; slot = record { 0 = t + 1 }; how = PastClosed h }; parent = e })

-- an activity whose bound is a closed slot is pushed by one
abbrev pub closed_step : Meaning → (ℕ → Node) → (ℕ → ℕ) → ℕ → Option Node
closed_step m nd la a = past (m.price a (bound nd la a)) a (bound nd la a) (la a)

-- where lag k pushes its second activity to
abbrev pub lag_slot : Meaning → (ℕ → Node) → (ℕ → ℕ) → ℕ → ℕ
lag_slot m nd la k = cut_to m.horizon (pos (bound nd la (m.lag k).from) +ℤ (m.lag k).gap)

abbrev pub lag_node : Meaning → (ℕ → Node) → (ℕ → ℕ) → ℕ → Node
lag_node m nd la k = record {
  entry = record { activity = (m.lag k).to; slot = record { 0 = lag_slot m nd la k }; how = ByLag k };
  parent = la (m.lag k).from;
}

-- a lag that does not hold at the bounds pushes its second activity
abbrev pub lag_step : Meaning → (ℕ → Node) → (ℕ → ℕ) → ℕ → Option Node
lag_step m nd la k = cond (nat_lt (bound nd la (m.lag k).to) (lag_slot m nd la k)) (Some (lag_node m nd la k)) None

-- the activity that an entry came from
abbrev pub origin : Meaning → How → ℕ → ℕ
origin m Start a = a
origin m (PastClosed h) a = a
origin m (ByLag k) a = (m.lag k).from

-- the lag that an entry names is one of the project's
abbrev pub Known : Meaning → How → Type 0
Known m Start = Unit {0}
Known m (PastClosed h) = Unit {0}
Known m (ByLag k) = k < m.lags

-- a node v that pushes its activity up
pub record Pushes (m : Meaning) (nd : ℕ → Node) (la : ℕ → ℕ) (v : Node) : Type 0 where
  pub real : v.entry.activity < m.n
  pub origin_real : origin m v.entry.how v.entry.activity < m.n
  pub parent_latest : v.parent ≡ la (origin m v.entry.how v.entry.activity)
  pub leads : Leads m v.entry.how (origin m v.entry.how v.entry.activity) (bound nd la (origin m v.entry.how v.entry.activity)) v.entry.activity v.entry.slot.0
  pub above : bound nd la v.entry.activity < v.entry.slot.0
  pub within : v.entry.slot.0 ≤ m.horizon

-- node e, with p before it, under these bounds
pub record Sound (m : Meaning) (bd : ℕ → ℕ) (e : ℕ) (v p : Node) : Type 0 where
  pub earlier : v.parent < e
  pub real : v.entry.activity < m.n
  pub origin_real : origin m v.entry.how v.entry.activity < m.n
  pub joins : 0 < v.parent → p.entry.activity ≡ origin m v.entry.how v.entry.activity
  pub leads : Leads m v.entry.how (origin m v.entry.how v.entry.activity) p.entry.slot.0 v.entry.activity v.entry.slot.0
  pub above : 0 < v.entry.slot.0
  pub under : v.entry.slot.0 ≤ bd v.entry.activity

abbrev pub total : ℕ → (ℕ → ℕ) → ℕ
total zero f = 0
total (suc k) f = total k f + f k

-- nodes 1 to c have been written
pub record State (m : Meaning) (nd : ℕ → Node) (la : ℕ → ℕ) (c : ℕ) : Type 0 where
  pub root : (nd 0).entry.slot.0 ≡ 0
  pub few : c ≤ total m.n (bound nd la)
  pub numbered : (a : ℕ) → a < m.n → la a ≤ c
  pub own : (a : ℕ) → a < m.n → 0 < la a → (nd (la a)).entry.activity ≡ a
  pub below : (a : ℕ) → a < m.n → bound nd la a < m.horizon
  pub least : (s : List ℕ) → Meets m s → (a : ℕ) → a < m.n → bound nd la a ≤ start s a
  pub sound : (e : ℕ) → 0 < e → e ≤ c → Sound m (bound nd la) e (nd e) (nd (nd e).parent)
  pub apart : (e f : ℕ) → 0 < e → e < f → f ≤ c → (nd e).entry.activity ≡ (nd f).entry.activity → (nd e).entry.slot.0 < (nd f).entry.slot.0

Leads-prop : (m : Meaning) (how : How) (a t b u : ℕ) → IsProp (Leads m how a t b u)
Leads-prop m Start a t b u = hlevel props
Leads-prop m (PastClosed h) a t b u = hlevel props
Leads-prop m (ByLag k) a t b u = hlevel props

pub State-prop : (m : Meaning) (nd : ℕ → Node) (la : ℕ → ℕ) (c : ℕ) → IsProp (State m nd la c)
State-prop m nd la c = hlevel (props, Leads-prop)

-- nothing is left to push
pub record Quiet (m : Meaning) (nd : ℕ → Node) (la : ℕ → ℕ) : Type 0 where
  pub all_open : (a : ℕ) → a < m.n → closed_step m nd la a ≡ None
  pub all_hold : (k : ℕ) → k < m.lags → lag_step m nd la k ≡ None

-- a node that drives its activity to the horizon
abbrev pub Reaches : Meaning → (ℕ → Node) → (ℕ → ℕ) → Node → Type 0
Reaches m nd la v = Pushes m nd la v × (v.entry.slot.0 ≡ m.horizon)

-- no push is left, or one reaches the horizon
abbrev pub Ended : Meaning → (ℕ → Node) → (ℕ → ℕ) → Option Node → Type 0
Ended m nd la None = Quiet m nd la
Ended m nd la (Some v) = Reaches m nd la v

-- each node that a step finds pushes its activity up
abbrev pub Steps : Meaning → (ℕ → Node) → (ℕ → ℕ) → Option Node → Type 0
Steps m nd la s = (v : Node) → s ≡ Some v → Pushes m nd la v

-- a step s was taken with the answer r: a list is primed after it
pub record Taken (ns : List (List ℕ)) (ls : List ℕ) (c : ℕ) (ns' : List (List ℕ)) (ls' : List ℕ) (c' : ℕ) (s r : Option Node) : Type 0 where
  pub onward : c ≤ c'
  pub idle : c' ≡ c → (ns' ≡ ns) × (ls' ≡ ls)
  pub none : r ≡ None → c' ≡ c → s ≡ None

-- a node was kept: it is the next one and the latest of its activity, and no other changed
pub record Kept (ns : List (List ℕ)) (ls : List ℕ) (c : ℕ) (ns' : List (List ℕ)) (ls' : List ℕ) (c' : ℕ) (v : Node) : Type 0 where
  pub counted : c' ≡ c + 1
  pub written : Put ns ns' (c + 1) v
  pub newest : ls' ≡ slice_set ls v.entry.activity (c + 1)

-- the bounds, activity by activity
abbrev pub bounds : Meaning → (ℕ → Node) → (ℕ → ℕ) → List ℕ
bounds m nd la = map (bound nd la) (range_with_len 0 m.n)
