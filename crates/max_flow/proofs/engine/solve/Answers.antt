use Rattle.std.proofs.Common.{replicate, sym, refl, ap, ◌∙◌, arith, rules}
use Rattle.std.proofs.lemmas.Bool.{ltb-true, ltb-false}
use Rattle.std.proofs.lemmas.List.{get_or_append_left}
use Rattle.flow.specs.Nets.{word}
use Rattle.flow.proofs.Searches.{unhindered_some, unhindered_none}
use Rattle.max_flow.proofs.Marking.{maximum}
use Rattle.max_flow.proofs.engine.solve.Goals as goal

pub returns-then-search_in : goal.returns-then-search_in
returns-then-search_in g c =
    let x = c.args.network.now in
    let ranks = c.search_in.new.rank in
    let found = ltb-true 0 (word ranks 1) (sym c.if-search_in.ensures.sink) in
    let t = c.search_in.ensures.searched in (
      unhindered_some (g.N.Network.net x) (g.N.Network.bounded x).sound (word ranks) t.0 t.1 (λ e. omega arith),
      refl,
      c.fill-then-search_in.ensures.after (λ y e. e) ∙ ap (λ m. replicate m 0) (omega arith),
    )

pub raise_in-value-requires-clause-finite : goal.raise_in-value-requires-clause-finite
raise_in-value-requires-clause-finite g c =
    let ranks = c.search_in.new.rank in
    let none = ltb-false 0 (word ranks 1) (sym c.if-search_in.ensures.sink) in
    let t = c.search_in.ensures.searched in
    unhindered_none (g.N.Network.net c.args.network.now) (λ k. 0) (word ranks) t.0 t.1 (omega arith)

pub returns : goal.returns
returns g c =
    let x = c.args.network.now in
    let none = ltb-false 0 (word c.search_in.new.rank 1) (sym c.if-search_in.ensures.sink) in
    let t = c.search_in.ensures.searched in
    maximum (g.N.Network.net x) (g.N.Network.bounded x) c.raise_in-value.new.flow c.raise_in-value.new.rank _
    c.mark.new.nodes c.raise_in-value.result c.node_count-count.result c.node_count-count.ensures (search rules)
    (unhindered_none (g.N.Network.net x) (λ k. 0) (word c.search_in.new.rank) t.0 t.1 (omega arith))
    c.raise_in-value.ensures (λ v l. get_or_append_left c.raise_in-value.new.rank _ 0 v (omega arith)) c.mark.ensures
