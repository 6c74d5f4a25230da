use Rattle.std.proofs.Common.{◌≡◌, ℕ, ◌+◌, ap, zero-le, rules}
use Rattle.time_network.specs.Meant.{meant}
use Rattle.time_network.proofs.Steps.{leaving_lag_is}
use Rattle.time_network.proofs.held.TimeNetwork.lag_from.Goals as goal

pub returns : goal.returns
returns c =
    let s = c.args.self.now in
    let from : ((meant s).lag c.args.k).from ≡ c.args.at.activity = search rules in
    leaving_lag_is (meant s) c.args.at.activity c.args.at.before c.args.k _ _ _ c.if-k-self.false from
    (search rules) (search rules) (ap (λ (x : ℕ). 2 + x) (s.leading.1 c.args.k (zero-le, c.if-k-self.false)))
