use Rattle.std.proofs.Common.{◌-◌, ◌*◌, ◌/◌, ◌<◌, arith, rules}
use Rattle.std.proofs.lemmas.Nat.{div_below}
use Rattle.time_network.specs.Points.{wide}
use Rattle.time_network.proofs.held.TimeNetwork.place_of.Goals as goal

pub overflow_cast-result : goal.overflow_cast-result
overflow_cast-result c =
    let s = c.args.self.now in
    let x : c.args.v - 2 < s.activities * (s.horizon - 1) = omega arith in
    let z = div_below (c.args.v - 2) (s.horizon - 1) s.activities (wide (c.args.v - 2) s.activities (s.horizon - 1) x) x in
    let w : (c.args.v - 2) / (s.horizon - 1) < 256 = omega (arith, s.few) in
    search rules
