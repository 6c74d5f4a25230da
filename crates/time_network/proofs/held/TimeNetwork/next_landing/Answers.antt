use Rattle.std.proofs.Common.{◌≡◌, ◌+◌, true, get_or, sym, ◌∙◌, zero-le, arith}
use Rattle.time_network.specs.Seeking.{seek_here}
use Rattle.time_network.specs.Meant.{meant}
use Rattle.time_network.specs.Listing.{lands}
use Rattle.time_network.proofs.Steps.{Onward, onward_is}
use Rattle.time_network.proofs.held.TimeNetwork.next_landing.Goals as goal

pub returns-then-lands : goal.returns-then-lands
returns-then-lands c =
    let s = c.args.self.now in
    let k = c.loop-k.k in
    let test = lands (meant s) c.args.at.activity (c.args.at.before + 1) in
    let yes : test k ≡ true = sym c.lands.ensures ∙ c.if-lands.true in
    record { is = sym (seek_here test s.lag_count k yes) ∙ c.loop-k.invariant.2; there = c.loop-k.invariant.1 }

-- what the list says of the next lag
further : (c : goal.After-k-1)
    → Onward (meant c.args.self.now) c.args.at.activity (c.args.at.before + 1) c.loop-k.k (get_or c.args.self.now.ends.next c.loop-k.k 0)
further c =
    let s = c.args.self.now in
    let k = c.loop-k.k in
    onward_is (meant s) c.args.at.activity (c.args.at.before + 1) k (get_or s.ends.next k 0) c.loop-k-test.true
    (c.loop-k.invariant.1 c.loop-k-test.true) (sym c.if-lands.ensures) (s.ending.1 k (zero-le, c.loop-k-test.true))

pub loop-k-smaller : goal.loop-k-smaller
loop-k-smaller c = omega (arith, (further c).further, (further c).high)

pub loop-k-preserved : goal.loop-k-preserved
loop-k-preserved c = ((further c).high, (further c).there, sym (further c).same ∙ c.loop-k.invariant.2)
