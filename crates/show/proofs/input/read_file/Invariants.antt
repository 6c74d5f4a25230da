use Rattle.std.proofs.Common.{◌≤◌, ◌-◌, length}
use Rattle.show.proofs.input.read_file.Given as goal

abbrev pub invariant-loop-length : goal.invariant-loop-length
invariant-loop-length g l = l.length ≤ length l.buffer

abbrev pub decreases-loop-length : goal.decreases-loop-length
decreases-loop-length g l = length l.buffer - l.length
