-- What setting a term of a layer answers, and the table after it.
use Rattle.std.specs.Prelude.{ℕ, Bool, false, cond, ◌&&◌, List, replicate, Ok, Err, Result, nat_le, nat_lt, slice_set}
use Rattle.model.specs.declared.refusal.Fault.TheVariants as fault
use Rattle.model.specs.declared.refusal.Refusal.{Refusal}
use Rattle.model.specs.Refusals.{refuse}
use Rattle.layers.specs.declared.lateness.Term.{Term}
use Rattle.layers.specs.Layers.{no_term}

-- the fault of a term, at the activity or the slot that was named, unless all is in range
abbrev pub settled : Bool → ℕ → Result (Unit {0}) Refusal
settled ok place = cond ok (Ok tt) (Err (refuse fault.Term place))

-- 128 slots have a mark, whatever the horizon
abbrev pub has_mark : ℕ → Bool
has_mark slot = nat_lt slot 128

abbrev pub all_open : List Bool
all_open = replicate 128 false

abbrev pub marked : List Bool → ℕ → Bool → List Bool
marked marks slot shut = cond (has_mark slot) (slice_set marks slot shut) marks

-- 64 activities have a term, however many there are; a due slot 0 to 256, a rate 0 to 1,000,000
abbrev pub term_fits : ℕ → ℕ → ℕ → Bool
term_fits a due rate = nat_lt a 64 && (nat_le due 256 && nat_le rate 1000000)

abbrev pub never_late : List Term
never_late = replicate 64 no_term

abbrev pub charged : List Term → ℕ → ℕ → ℕ → List Term
charged terms a due rate = cond (term_fits a due rate) (slice_set terms a (record { due = due; rate = rate })) terms
