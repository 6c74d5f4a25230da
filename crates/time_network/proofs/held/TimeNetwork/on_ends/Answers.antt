use Rattle.std.proofs.Common.{arith}
use Rattle.std.proofs.lemmas.Nat.{div_below}
use Rattle.time_network.proofs.held.TimeNetwork.on_ends.Goals as goal

pub point-requires : goal.point-requires
point-requires c =
    let s = c.args.self.now in
    omega (arith, div_below c.args.place s.horizon s.activities s.ahead c.requires, s.few)

pub point-requires-2 : goal.point-requires-2
point-requires-2 c =
    let s = c.args.self.now in
    omega (arith, div_below c.args.place s.horizon s.activities s.ahead c.requires, s.few)
