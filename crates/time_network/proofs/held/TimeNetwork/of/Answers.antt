use Rattle.std.proofs.Common.{arith}
use Rattle.time_network.proofs.Made.{lags_fit, limited, same_made}
use Rattle.time_network.proofs.held.TimeNetwork.of.Goals as goal

pub invariant_of-result : goal.invariant_of-result
invariant_of-result g c =
    let m = g.P.Project.meaning c.args.project.now in
    let b = g.met.P.Project.bounded c.args.project.now in
    let n = c.count-activities.ensures in
    let h = c.horizon-horizon.ensures in
    let k = c.lag_count-lag_count.ensures in
    record {
      some = omega (arith, b.n_low);
      few = omega (arith, b.n_high);
      ahead = omega (arith, b.h_low);
      near = omega (arith, b.h_high);
      counted = omega (arith, b.lags_ok);
      limited = limited m b c.lags_of-lags.result c.write_rows.new.capacities c.lags_of-lags.ensures
          c.write_rows.ensures c.count-activities.result c.horizon-horizon.result n h;
      joined = lags_fit m b c.count-activities.result c.lag_count-lag_count.result c.lags_of-lags.result n k c.lags_of-lags.ensures;
      leading = c.index_of-leads.ensures;
      ending = c.index_of-ends.ensures;
    }

pub returns : goal.returns
returns g c =
    let x = c.args.project.now in
    same_made (g.P.Project.meaning x) (g.met.P.Project.bounded x) c.lags_of-lags.result c.write_rows.new.capacities
    c.lags_of-lags.ensures c.write_rows.ensures c.count-activities.result c.horizon-horizon.result
    c.lag_count-lag_count.result c.count-activities.ensures c.horizon-horizon.ensures c.lag_count-lag_count.ensures
