use Rattle.std.proofs.Common.{◌≡◌, ℕ, ◌<◌, ◌≤◌, take, get_or, Err, ap, ◌∙◌, arith, length-take}
use Rattle.std.proofs.lemmas.Bool.{cond-true, cond-false, le-leb, lt-leb}
use Rattle.std.proofs.lemmas.List.{get_or-take}
use Rattle.flow.specs.Nets.{word}
use Rattle.certificate.specs.Faults.{arcs_of, most}
use Rattle.certificate.proofs.Chains.{fails, each_more, each_fails}
use Rattle.certificate.proofs.words.Floors.check_words.Goals as goal

pub returns-then-word-most : goal.returns-then-word-most
returns-then-word-most g c =
    let m = g.P.Project.meaning c.args.self.now.project.now in
    let f = c.args.flow.now in
    let k = c.loop-arc.arc in
    let less : k < arcs_of m = omega (arith, length-take {A = ℕ}) in
    let same : get_or (take c.flow_words.result f) k 0 ≡ word f k = get_or-take _ f k 0 (omega arith) in
    let above : most m k < word f k = omega arith in
    each_fails _ k _ _ less c.loop-arc.invariant
    (ap Err c.at.ensures ∙ fails _ _ (cond-false _ _ _ (lt-leb (word f k) (most m k) above)))

pub loop-arc-preserved : goal.loop-arc-preserved
loop-arc-preserved g c =
    let m = g.P.Project.meaning c.args.self.now.project.now in
    let f = c.args.flow.now in
    let k = c.loop-arc.arc in
    let less : k < arcs_of m = omega (arith, length-take {A = ℕ}) in
    let same : get_or (take c.flow_words.result f) k 0 ≡ word f k = get_or-take _ f k 0 (omega arith) in
    let within : word f k ≤ most m k = omega arith in
    each_more k _ c.loop-arc.invariant (cond-true _ _ _ (le-leb (word f k) (most m k) within))
