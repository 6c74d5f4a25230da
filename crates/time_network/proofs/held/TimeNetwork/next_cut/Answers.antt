use Rattle.std.proofs.Common.{◌≡◌, ◌*◌, ◌/◌, ◌%◌, true, sym, refl, ◌∙◌, arith}
use Rattle.std.proofs.lemmas.Bool.{lt-ltb}
use Rattle.time_network.specs.Seeking.{seek_here}
use Rattle.time_network.specs.Meant.{meant}
use Rattle.time_network.specs.Listing.{taken, cut_arcs}
use Rattle.time_network.proofs.Steps.{row_over}
use Rattle.time_network.proofs.held.TimeNetwork.next_cut.Goals as goal

pub returns-then-at-cut_arcs : goal.returns-then-at-cut_arcs
returns-then-at-cut_arcs c =
    let s = c.args.self.now in
    let at = c.loop-at.at in
    let count = cut_arcs (meant s) c.args.side in
    let t : taken count at ≡ true = lt-ltb (at % 128) (count (at / 128)) (omega arith) in
    sym (seek_here (taken count) (s.lag_count * 128) at t) ∙ c.loop-at.invariant.1

pub loop-at-preserved : goal.loop-at-preserved
loop-at-preserved c =
    let s = c.args.self.now in
    let at = c.loop-at.at in
    let count = cut_arcs (meant s) c.args.side in
    (refl, sym (row_over count s.lag_count at (omega arith) (omega arith)) ∙ c.loop-at.invariant.1)
