-- Numbers in a file: lowest byte first, signed ones in two's complement.
use Rattle.std.specs.Prelude.{ℕ, suc, ◌+◌, ◌-◌, ◌*◌, ◌^◌, cond, List, ℤ, pos, negsuc, nat_lt, slice_index}

abbrev pub byte : List ℕ → ℕ → ℕ
byte file at = slice_index file at

abbrev pub two_bytes : List ℕ → ℕ → ℕ
two_bytes file at = byte file at + byte file (at + 1) * 256

abbrev pub four_bytes : List ℕ → ℕ → ℕ
four_bytes file at = byte file at + byte file (at + 1) * 256 + byte file (at + 2) * 65536 + byte file (at + 3) * 16777216

-- a number of `bits` bits whose upper half stands for the numbers below zero
abbrev pub signed : ℕ → ℕ → ℤ
signed bits w = cond (nat_lt w (2 ^ (bits - 1))) (pos w) (negsuc (2 ^ bits - suc w))
