use Rattle.std.proofs.Common.{◌≡◌, ℕ, List, ◌++◌, length, drop, ap, ◌∙◌, arith, length-take}
use Rattle.std.proofs.lemmas.List.FromFn.{fill_by_all}
use Rattle.max_flow.specs.Outcome.{marked}
use Rattle.least_cost.specs.Sides.{start_by, starts_by}
use Rattle.least_cost.proofs.reading.Marks.write_starts.Goals as goal

pub returns : goal.returns
returns g c =
    let m = g.P.Project.meaning c.args.self.now.project.now in
    let marks = marked c.args.self.now.nodes.now in
    let items = c.loop-activity.start-items in
    let long : length items ≡ m.n = omega (arith, length-take {A = ℕ}) in
    let all : items ≡ starts_by c.args.side m marks =
    fill_by_all (start_by c.args.side m marks) items m.n 0 long (λ k l. c.loop-activity.invariant k (omega arith)) in
    ap (λ (xs : List ℕ). xs ++ drop c.count-count.result c.args.starts.now) all
    ∙ ap (λ (k : ℕ). starts_by c.args.side m marks ++ drop k c.args.starts.now) c.count-count.ensures
