use Rattle.std.proofs.Common.{Some, sym, ap, ◌∙◌}
use Rattle.flow_trial.specs.Tables.{table_net, end_of, step_at}
use Rattle.flow_trial.proofs.Listing.{listed_none, listed_first}
use Rattle.flow_trial.proofs.table.Table.listed.Goals as goal

pub returns-in_err-k : goal.returns-in_err-k
returns-in_err-k c =
    let n = table_net c.args.self.now in
    c.from_residual.ensures
    ∙ sym (listed_none (end_of c.args.near n) (end_of c.args.far n) c.args.at n.arcs c.args.cursor c.in_err-k.ensures)

pub returns : goal.returns
returns c =
    let n = table_net c.args.self.now in
    let h = c.in_ok-k.ensures in
    ap Some (c.told.ensures ∙ ap (step_at c.in_ok-k.k) c.end.ensures)
    ∙ sym (listed_first (end_of c.args.near n) (end_of c.args.far n) c.args.at n.arcs c.args.cursor c.in_ok-k.k h.0 h.1 h.2 h.3)
