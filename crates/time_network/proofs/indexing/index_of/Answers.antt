use Rattle.std.proofs.Common.{◌≡◌, ℕ, ◌+◌, ◌-◌, replicate, ◌∙◌, subst, arith}
use Rattle.std.proofs.lemmas.List.{length-set, length-replicate}
use Rattle.time_network.specs.Held.{Firsts, Nexts}
use Rattle.time_network.proofs.Chains.{none_first, none_next, more_first, more_next}
use Rattle.time_network.proofs.indexing.index_of.Goals as goal

pub loop-k-init : goal.loop-k-init
loop-k-init c =
    let lags = c.args.lags.now in (
      none_first c.args.end lags c.args.count,
      none_next c.args.end lags c.args.count (replicate 256 0),
      length-replicate 256 c.args.count,
      length-replicate {A = ℕ} 256 0,
    )

pub loop-k-preserved : goal.loop-k-preserved
loop-k-preserved c =
    let lags = c.args.lags.now in
    let l = c.loop-k in
    let k = l.k - 1 in
    let act = c.at_end-activity.result in
    let e : l.k ≡ k + 1 = omega arith in
    let firsts = subst (λ (i : ℕ). Firsts c.args.end lags c.args.count i l.first) e l.invariant.0 in
    let nexts = subst (λ (i : ℕ). Nexts c.args.end lags c.args.count i l.next) e l.invariant.1 in (
      more_first c.args.end lags c.args.count k act l.first (omega arith) l.invariant.2 c.at_end-activity.ensures firsts,
      more_next c.args.end lags c.args.count k act l.first l.next (omega arith) c.requires l.invariant.3 c.at_end-activity.type_inv c.at_end-activity.ensures firsts nexts,
      length-set l.first act k ∙ l.invariant.2,
      length-set l.next k _ ∙ l.invariant.3,
    )
