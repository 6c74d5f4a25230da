use Rattle.std.proofs.Common.{arith}
use Rattle.table_file.specs.Bounded.{faultless_parts}
use Rattle.table_file.specs.Lengths.{lengths}
use Rattle.table_file.proofs.held.Table.headed.Goals as goal

pub invariant_of-result : goal.invariant_of-result
invariant_of-result c =
    let file = c.args.self.now.file.now in
    let there = (lengths file c.args.self.now.sound).count_there in
    record { long = omega arith; head = (faultless_parts file c.args.self.now.sound).head }

pub returns-clause-lengths : goal.returns-clause-lengths
returns-clause-lengths c = lengths c.args.self.now.file.now c.args.self.now.sound
