use Rattle.std.proofs.Common.{◌≡◌, None}
use Rattle.table_file.specs.Format.{each, price_fault}
use Rattle.table_file.proofs.head.Headed.check_prices.Given as goal

abbrev pub invariant-loop-number : goal.invariant-loop-number
invariant-loop-number l = each l.number (price_fault l.self.bytes.now) ≡ None
