use Rattle.std.proofs.Common.{refl, ◌∙◌, arith, rules}
use Rattle.std.proofs.lemmas.List.{length-set}
use Rattle.time_network.proofs.Fills.{copied_none, copied_more}
use Rattle.time_network.proofs.making.lags_of.Goals as goal

pub loop-k-init : goal.loop-k-init
loop-k-init g c = (copied_none _ _, refl)

pub loop-k-preserved : goal.loop-k-preserved
loop-k-preserved g c =
    let m = g.P.Project.meaning c.args.project.now in
    let b = g.met.P.Project.bounded c.args.project.now in
    let e = c.lag_count-k-end.ensures in (
      copied_more m c.loop-k.k c.loop-k.lags c.unwrap.result c.loop-k.invariant.0 (omega (arith, b.lags_ok, c.loop-k.invariant.1))
          (search rules),
      length-set c.loop-k.lags c.loop-k.k c.unwrap.result ∙ c.loop-k.invariant.1,
    )
