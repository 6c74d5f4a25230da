-- What is wrong with a proposed plan: the first fault, in the order in which a plan is checked.
use Rattle.std.specs.Prelude.{ℕ, zero, suc, ◌+◌, ◌-◌, ◌*◌, Bool, cond, ◌&&◌, List, length, take, ℤ, pos, ◌-ℤ◌, Some, None, Ok, Err, Option, Result, ◌==◌, int_le, nat_le, nat_lt}
use Rattle.model.specs.declared.refusal.Fault.{Fault}
use Rattle.model.specs.declared.refusal.Fault.TheVariants.{StartBytes, FlowWords, StartClosed, LagBroken, WordAbove, Unbalanced, ValueDiffers}
use Rattle.model.specs.declared.refusal.Refusal.{Refusal}
use Rattle.model.specs.Refusals.{refuse}
use Rattle.model.specs.Meaning.{Meaning}
use Rattle.model.specs.Starts.{start, is_open, holds, cost, floors}
use Rattle.flow.specs.Nets.{outflow, inflow, word}
use Rattle.plan_theory.specs.TimeNetwork.{time_net}

-- the first of two faults
abbrev pub or_else : Option Refusal → Option Refusal → Option Refusal
or_else None later = later
or_else (Some e) later = Some e

-- the first fault among those of the numbers below k
abbrev pub each : ℕ → (ℕ → Option Refusal) → Option Refusal
each zero f = None
each (suc k) f = or_else (each k f) (f k)

-- what is asked holds, or it is a fault at a place
abbrev pub unless_holds : Bool → Fault → ℕ → Option Refusal
unless_holds holding fault place = cond holding None (Some (refuse fault place))

-- how many arcs, and so words, the time network has, and how many nodes beside source and sink
abbrev pub arcs_of : Meaning → ℕ
arcs_of m = m.horizon * (2 * m.n + m.lags)

abbrev pub inner_nodes : Meaning → ℕ
inner_nodes m = m.n * (m.horizon - 1)

-- no word is above this, whatever its arc can carry
abbrev pub word_limit : ℕ
word_limit = 128000000000

-- the most that a word may be: the capacity of its arc, and the limit where the arc has none
abbrev pub most : Meaning → ℕ → ℕ
most m k = cond ((time_net m).unbounded k) word_limit ((time_net m).capacity k)

abbrev pub start_bytes_fault : Meaning → List ℕ → Option Refusal
start_bytes_fault m bytes = unless_holds (nat_le m.n (length bytes)) StartBytes m.n

abbrev pub flow_words_fault : Meaning → List ℕ → Option Refusal
flow_words_fault m flow = unless_holds (nat_le (arcs_of m) (length flow)) FlowWords (arcs_of m)

-- activity a starts below the horizon, in an open slot
abbrev pub start_fault : Meaning → List ℕ → ℕ → Option Refusal
start_fault m s a =
    unless_holds (nat_lt (start s a) m.horizon && is_open (m.price a (start s a))) StartClosed a

abbrev pub lag_fault : Meaning → List ℕ → ℕ → Option Refusal
lag_fault m s k = unless_holds (holds (m.lag k) s) LagBroken k

abbrev pub word_fault : Meaning → List ℕ → ℕ → Option Refusal
word_fault m flow k = unless_holds (nat_le (word flow k) (most m k)) WordAbove k

-- what enters node v leaves it
abbrev pub node_fault : Meaning → List ℕ → ℕ → Option Refusal
node_fault m flow v =
    unless_holds (outflow (time_net m) (word flow) v == inflow (time_net m) (word flow) v) Unbalanced v

-- what the source sends less what it gets
abbrev pub value_of : Meaning → List ℕ → ℤ
value_of m flow = pos (outflow (time_net m) (word flow) 0) -ℤ pos (inflow (time_net m) (word flow) 0)

abbrev pub same_number : ℤ → ℤ → Bool
same_number x y = int_le x y && int_le y x

abbrev pub value_fault : Meaning → List ℕ → List ℕ → Option Refusal
value_fault m s flow = unless_holds (same_number (value_of m flow) (cost m s -ℤ floors m)) ValueDiffers 0

-- the source sends w more than it gets
abbrev pub worth_fault : Meaning → List ℕ → ℕ → Option Refusal
worth_fault m flow w =
    unless_holds
    (outflow (time_net m) (word flow) 0 == inflow (time_net m) (word flow) 0 + w)
    ValueDiffers 0

abbrev pub starts_fault : Meaning → List ℕ → Option Refusal
starts_fault m s = each m.n (start_fault m s)

abbrev pub lags_fault : Meaning → List ℕ → Option Refusal
lags_fault m s = each m.lags (lag_fault m s)

abbrev pub words_fault : Meaning → List ℕ → Option Refusal
words_fault m flow = each (arcs_of m) (word_fault m flow)

-- nodes 0 and 1 are source and sink
abbrev pub nodes_fault : Meaning → List ℕ → Option Refusal
nodes_fault m flow = each (inner_nodes m) (λ i. node_fault m flow (2 + i))

-- the first fault of a start list and flow words
abbrev pub plan_fault : Meaning → List ℕ → List ℕ → Option Refusal
plan_fault m s flow =
    or_else (starts_fault m s)
    (or_else (lags_fault m s)
    (or_else (words_fault m flow)
    (or_else (nodes_fault m flow)
    (value_fault m s flow))))

-- there are enough start bytes and flow words
abbrev pub sizes_fault : Meaning → List ℕ → List ℕ → Option Refusal
sizes_fault m bytes flow = or_else (start_bytes_fault m bytes) (flow_words_fault m flow)

-- of the start bytes, the first n count
abbrev pub check_fault : Meaning → List ℕ → List ℕ → Option Refusal
check_fault m bytes flow = or_else (sizes_fault m bytes flow) (plan_fault m (take m.n bytes) flow)

-- a check passes unless there is a fault
abbrev pub unless : Option Refusal → Result (Unit {0}) Refusal
unless None = Ok tt
unless (Some e) = Err e

abbrev pub check_answer : Meaning → List ℕ → List ℕ → Result (Unit {0}) Refusal
check_answer m bytes flow = unless (check_fault m bytes flow)
