use Rattle.std.proofs.Common.{ℕ, ◌+◌, ◌*◌, ◌<◌, ap, ◌∙◌, arith, rules}
use Rattle.std.proofs.lemmas.Nat.{mul-le, mul-add-lt}
use Rattle.std.proofs.lemmas.List.{length-set}
use Rattle.time_network.proofs.Fills.{row_none, row_more}
use Rattle.time_network.proofs.making.write_row.Goals as goal

pub bounds-capacities-base : goal.bounds-capacities-base
bounds-capacities-base g c =
    let m = g.P.Project.meaning c.args.project.now in
    let b = g.met.P.Project.bounded c.args.project.now in
    let e = c.horizon-horizon.ensures in
    let x = mul-add-lt c.args.activity c.horizon-horizon.result c.loop-t.t m.n c.requires c.loop-t-test.true in
    let y = mul-le c.horizon-horizon.result m.n 128 64 (omega (arith, b.h_high)) b.n_high in
    omega arith

pub loop-t-init : goal.loop-t-init
loop-t-init g c = (row_none _ _ _, c.told-capacities)

pub loop-t-preserved : goal.loop-t-preserved
loop-t-preserved g c =
    let m = g.P.Project.meaning c.args.project.now in
    let place : ℕ = c.args.activity * c.horizon-horizon.result + c.loop-t.t in
    let inside : place < 8192 = bounds-capacities-base g c in (
      row_more m c.args.activity c.loop-t.t c.args.capacities.now c.loop-t.capacities place c.rise.result
          c.loop-t.invariant.0 (ap (λ (x : ℕ). c.args.activity * x + c.loop-t.t) c.horizon-horizon.ensures)
          (omega (arith, c.loop-t.invariant.1)) (search rules),
      length-set c.loop-t.capacities place c.rise.result ∙ c.loop-t.invariant.1,
    )
