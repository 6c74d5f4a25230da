-- Steps of the reader: bytes that are there or not.
use Rattle.std.specs.Prelude.{ℕ, ◌+◌, cond, List, length, Ok, Err, Result, nat_lt, slice_range}
use Rattle.model.specs.declared.refusal.Fault.TheVariants.{Short}
use Rattle.model.specs.declared.refusal.Refusal.{Refusal}
use Rattle.model.specs.Refusals.{refuse}

-- an answer where the bytes are there; otherwise the file is too short
abbrev pub there : {A : Type 0} → List ℕ → ℕ → ℕ → Result A Refusal → Result A Refusal
there file at bytes answer = cond (nat_lt (length file) (at + bytes)) (Err (refuse Short (length file))) answer

-- the bytes themselves
abbrev pub bytes_read : List ℕ → ℕ → ℕ → Result (List ℕ) Refusal
bytes_read file at bytes = there file at bytes (Ok (slice_range file at (at + bytes)))
