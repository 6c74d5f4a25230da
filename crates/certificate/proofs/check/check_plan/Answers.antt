use Rattle.std.proofs.Common.{ap, ◌∙◌}
use Rattle.certificate.specs.Faults.{unless}
use Rattle.certificate.proofs.Accepts.{meets_of, carried_of, worth_same}
use Rattle.certificate.proofs.Chains.{clear, past}
use Rattle.certificate.proofs.check.check_plan.Goals as goal

pub invariant_of-rows : goal.invariant_of-rows
invariant_of-rows g c =
    let p = c.args.list.now.project.now in
    record {
      carried =
          carried_of (g.P.Project.meaning p) c.args.flow.now (g.met.P.Project.bounded p) c.requires
          (rw c.of-floors.ensures at (clear _ _ c.in_ok-check_words.ensures));
    }

pub cost_above-requires : goal.cost_above-requires
cost_above-requires g c =
    rw c.of-floors.ensures
    (meets_of (g.P.Project.meaning c.args.list.now.project.now) c.args.list.now.starts.now c.args.list.now.exact
    (clear _ _ c.in_ok-check_starts.ensures) (clear _ _ c.in_ok-check_lags.ensures))

pub returns : goal.returns
returns g c =
    let m = g.P.Project.meaning c.args.list.now.project.now in
    let s = c.args.list.now.starts.now in
    let starts = clear _ _ c.in_ok-check_starts.ensures in
    let lags = clear _ _ c.in_ok-check_lags.ensures in
    let meeting = meets_of m s c.args.list.now.exact starts lags in
    let above = rw c.of-floors.ensures at c.cost_above.ensures.value in
    past _ _ _ starts
    (past _ _ _ lags
    (past _ _ _ (rw c.of-floors.ensures at (clear _ _ c.in_ok-check_words.ensures))
    (past _ _ _ (clear _ _ c.in_ok-check_nodes.ensures)
    (c.check_value.ensures
    ∙ ap unless (worth_same m s c.args.flow.now meeting c.cost_above.result above)))))
