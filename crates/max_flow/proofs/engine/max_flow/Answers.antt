use Rattle.std.proofs.Common.{ℕ, sym, subst, arith}
use Rattle.std.proofs.lemmas.List.{length-take}
use Rattle.max_flow.specs.Outcome.{Outcome}
use Rattle.max_flow.proofs.Marking.{outcome_of}
use Rattle.max_flow.proofs.engine.max_flow.Goals as goal

pub returns : goal.returns
returns g c =
    let x = c.args.network.now in
    subst (Outcome (g.N.Network.net x) _ _ _ _) (sym c.ok_or.ensures.value)
    (outcome_of (g.N.Network.net x) (g.N.Network.bounded x) c.args.flow.now c.solve.new.flow c.args.nodes.now
    c.solve.new.nodes _ _ (omega (arith, c.arc_count-arcs.ensures)) (omega (arith, c.node_count-words.ensures))
    (omega (arith, c.arc_count-arcs.ensures)) (omega (arith, c.node_count-words.ensures)) c.solve.result
    c.at-2.result (omega (arith, length-take {A = ℕ})) (omega (arith, length-take {A = ℕ})) c.at-2.ensures c.solve.ensures)
