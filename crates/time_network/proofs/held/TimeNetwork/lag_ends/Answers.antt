use Rattle.std.proofs.Common.{arith}
use Rattle.std.proofs.lemmas.Nat.{div_below}
use Rattle.time_network.proofs.held.TimeNetwork.lag_ends.Goals as goal

pub lag-lag-requires : goal.lag-lag-requires
lag-lag-requires c =
    let s = c.args.self.now in
    omega (arith, div_below c.args.place s.horizon s.lag_count s.ahead c.requires, s.counted)
