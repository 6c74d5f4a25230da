use Rattle.std.proofs.Common.{◌<◌, arith}
use Rattle.table_file.specs.Format.{activities_in}
use Rattle.table_file.proofs.Chains.{fault, stopped, each_stops}
use Rattle.table_file.proofs.head.Headed.check_durations.Goals as goal

pub returns-in_err-check_duration : goal.returns-in_err-check_duration
returns-in_err-check_duration c =
    let less : c.loop-activity.activity < activities_in c.args.self.bytes.now = omega arith in
    stopped _ _ _ _ c.from_residual.ensures.1 (each_stops _ c.loop-activity.activity _ _ less c.loop-activity.invariant (fault _ _ _ c.in_err-check_duration.ensures))
