use Rattle.std.proofs.Common.{◌≡◌, ◌+◌, ◌-◌, ◌<◌, ◌≤◌, true}
use Rattle.time_network.specs.Seeking.{seek}
use Rattle.time_network.specs.Meant.{meant}
use Rattle.time_network.specs.Listing.{lands, ends}
use Rattle.time_network.proofs.held.TimeNetwork.next_landing.Given as goal

-- what is sought from here on is what was sought from the start, and here stands a lag to the activity
abbrev pub invariant-loop-k : goal.invariant-loop-k
invariant-loop-k l =
    (l.k ≤ l.self.lag_count)
    × (l.k < l.self.lag_count → ends (meant l.self) l.at.activity l.k ≡ true)
    × (seek (lands (meant l.self) l.at.activity (l.at.before + 1)) l.self.lag_count l.k
    ≡ seek (lands (meant l.self) l.at.activity (l.at.before + 1)) l.self.lag_count l.from)

abbrev pub decreases-loop-k : goal.decreases-loop-k
decreases-loop-k l = l.self.lag_count - l.k
