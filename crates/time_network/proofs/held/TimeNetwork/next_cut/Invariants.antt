use Rattle.std.proofs.Common.{◌≡◌, ◌-◌, ◌*◌}
use Rattle.time_network.specs.Seeking.{seek}
use Rattle.time_network.specs.Meant.{meant}
use Rattle.time_network.specs.Listing.{taken, cut_arcs}
use Rattle.time_network.proofs.held.TimeNetwork.next_cut.Given as goal

-- what is sought from here on is what was sought from the start
abbrev pub invariant-loop-at : goal.invariant-loop-at
invariant-loop-at l =
    (l.places ≡ l.self.lag_count * 128)
    × (seek (taken (cut_arcs (meant l.self) l.side)) (l.self.lag_count * 128) l.at
    ≡ seek (taken (cut_arcs (meant l.self) l.side)) (l.self.lag_count * 128) l.from)

abbrev pub decreases-loop-at : goal.decreases-loop-at
decreases-loop-at l = l.places - l.at
