use Rattle.std.proofs.Common.{◌≡◌, arith}
use Rattle.std.proofs.lemmas.Int.{ints}
use Rattle.time_network.specs.Held.{lag_at, lag_within}
use Rattle.time_network.proofs.held.TimeNetwork.begin.Goals as goal

pub returns : goal.returns
returns c =
    let s = c.args.self.now in
    let w = lag_within s.activities (lag_at s.lags c.args.k) (s.joined c.args.k c.requires) in
    let g : c.lag.result.gap ≡ (lag_at s.lags c.args.k).gap = cc in
    record { is = omega (arith, ints); small = omega (arith, ints) }
