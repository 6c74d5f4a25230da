use Rattle.std.proofs.Common.{refl, arith}
use Rattle.std.proofs.lemmas.Nat.{mul-le}
use Rattle.time_network.proofs.held.TimeNetwork.size.Goals as goal

pub returns : goal.returns
returns c =
    let s = c.args.self.now in
    record { is = refl; small = omega (arith, mul-le s.activities s.horizon 64 128 s.few s.near) }
