use Rattle.std.proofs.Common.{◌≡◌, ℕ, ◌<◌, pos, ◌+ℤ◌, ◌-ℤ◌, nat_abs, sym, ap, ◌∙◌, arith, w16, w32, to_z, of_z}
use Rattle.std.proofs.lemmas.Int.{ints}
use Rattle.model.specs.declared.lag.Lag.{Lag}
use Rattle.certificate.proofs.Points.{lag_in_none, lag_in_only}
use Rattle.certificate.proofs.nodes.Point.lag_to.Goals as goal
use Rattle.certificate.proofs.nodes.Point.lag_to.Goals.{then-lag-self-via-then-lag-self, then-lag-self-via-else-lag-self+then-before-lt0, then-lag-self-via-else-lag-self+else-before-lt0+then-before-horizon}

pub returns-then-lag-self : goal.returns-then-lag-self
returns-then-lag-self g c =
    let m = g.P.Project.meaning c.args.self.now.rows.now.project.now in
    let to = ap (λ (l : Lag). l.to) c.lag_at-lag.ensures in
    let gap = ap (λ (l : Lag). l.gap) c.lag_at-lag.ensures in
    let ok = (g.met.P.Project.bounded c.args.self.now.rows.now.project.now).lag_ok c.args.number c.requires in
    let high = (g.met.P.Project.bounded c.args.self.now.rows.now.project.now).h_high in
    record {
      value = sym
          (lag_in_none m c.args.self.now.rows.now.flow.now c.args.self.now.activity c.args.self.now.slot c.args.number
          c.args.self.now.past c.args.self.now.within
          (λ s l same e.
          elim c.then-lag-self.branch [
            | then-lag-self-via-then-lag-self w ↦ omega arith
            | then-lag-self-via-else-lag-self+then-before-lt0 w ↦ omega (arith, ints)
            | then-lag-self-via-else-lag-self+else-before-lt0+then-before-horizon w ↦ omega (arith, ints)
          ]));
      low = omega arith;
    }

pub returns : goal.returns
returns g c =
    let m = g.P.Project.meaning c.args.self.now.rows.now.project.now in
    let to = ap (λ (l : Lag). l.to) c.lag_at-lag.ensures in
    let gap = ap (λ (l : Lag). l.gap) c.lag_at-lag.ensures in
    let ok = (g.met.P.Project.bounded c.args.self.now.rows.now.project.now).lag_ok c.args.number c.requires in
    let high = (g.met.P.Project.bounded c.args.self.now.rows.now.project.now).h_high in
    let s : ℕ = nat_abs (to_z w32 (of_z w32 (to_z w32 c.args.self.now.slot -ℤ to_z w32 (of_z w32 (to_z w16 (of_z w16 c.lag_at-lag.result.gap)))))) in
    let below : s < m.horizon = omega (arith, ints) in
    let here : pos s +ℤ (m.lag c.args.number).gap ≡ pos c.args.self.now.slot = omega (arith, ints) in
    record {
      value = c.lag_word.ensures.value
          ∙ sym
          (lag_in_only m c.args.self.now.rows.now.flow.now c.args.self.now.activity c.args.self.now.slot c.args.number
          c.args.self.now.past c.args.self.now.within s below (omega arith) here);
      low = c.lag_word.ensures.low;
    }
