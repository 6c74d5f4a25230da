use Rattle.std.proofs.Common.{◌≡◌, None}
use Rattle.table_file.specs.Format.{each, duration_fault}
use Rattle.table_file.proofs.head.Headed.check_durations.Given as goal

abbrev pub invariant-loop-activity : goal.invariant-loop-activity
invariant-loop-activity l = each l.activity (duration_fault l.self.bytes.now) ≡ None
