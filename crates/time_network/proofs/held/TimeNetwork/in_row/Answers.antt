use Rattle.std.proofs.Common.{refl, arith}
use Rattle.std.proofs.lemmas.Nat.{mul-le}
use Rattle.time_network.proofs.held.TimeNetwork.in_row.Goals as goal

pub returns : goal.returns
returns c =
    let s = c.args.self.now in
    record { is = refl; small = omega (arith, mul-le c.args.row s.horizon 256 128 (omega arith) s.near) }
