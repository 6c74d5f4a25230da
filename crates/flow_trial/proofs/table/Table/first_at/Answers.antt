use Rattle.std.proofs.Common.{◌≡◌, ℕ, subst, arith, rules, tests}
use Rattle.std.proofs.lemmas.Iterator.{first_from_Range}
use Rattle.flow_trial.specs.Tables.{table_net, end_of, IsFirstAt}
use Rattle.flow_trial.proofs.table.Table.first_at.Goals as goal

pub returns : goal.returns
returns c =
    let end = end_of c.args.end (table_net c.args.self.now) in
    let P : ℕ → Type 0 = λ arcs. IsFirstAt end arcs c.args.node c.args.cursor c.find.result in
    subst P c.arc_count.ensures
    (first_from_Range _ _ _ _ (λ k. end k ≡ c.args.node) (λ k. end k ≡ c.args.node → ⊥) c.find.ensures.ran
    (λ k q h. grind (arith, tests))
    (λ k q h. (search rules, grind (arith, tests))))
