use Rattle.std.proofs.Common.{◌<◌, arith}
use Rattle.table_file.specs.Format.{cells_in}
use Rattle.table_file.proofs.Chains.{fault, stopped, each_stops}
use Rattle.table_file.proofs.head.Headed.check_prices.Goals as goal

pub returns-in_err-check_price : goal.returns-in_err-check_price
returns-in_err-check_price c =
    let less : c.loop-number.number < cells_in c.args.self.bytes.now = omega arith in
    stopped _ _ _ _ c.from_residual.ensures.1 (each_stops _ c.loop-number.number _ _ less c.loop-number.invariant (fault _ _ _ c.in_err-check_price.ensures))
