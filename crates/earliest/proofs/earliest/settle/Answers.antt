use Rattle.std.proofs.Common.{Ok, Err, sym, subst, ◌∙◌}
use Rattle.model.specs.declared.refusal.Refusal.{Refusal}
use Rattle.model.specs.Starts.{earliest}
use Rattle.earliest.specs.Nodes.{node_of}
use Rattle.earliest.specs.Outcome.{Told, Explained, searched}
use Rattle.earliest.specs.Pushing.{latest_of, bounds}
use Rattle.earliest.proofs.Outcomes.{quiet_earliest, told_found, told_impossible}
use Rattle.earliest.proofs.earliest.settle.Goals as goal

pub returns-in-Some-clause-told : goal.returns-in-Some-clause-told
returns-in-Some-clause-told g c =
    let m = g.P.Project.meaning in
    let same = c.push.ensures.same_project ∙ c.new-bounds.ensures in
    let x = subst (λ p. Explained (m p) c.args.chain.now c.write_chain.new.chain c.write_chain.result) same c.write_chain.ensures in
    subst (λ (e : Refusal). Told (m c.args.project.now) (searched (earliest (m c.args.project.now))) c.args.starts.now c.args.starts.now c.args.chain.now c.write_chain.new.chain (Err e)) (sym c.at.ensures)
    (told_impossible (m c.args.project.now) c.args.starts.now c.args.chain.now c.write_chain.new.chain c.write_chain.result x)

pub returns-clause-told : goal.returns-clause-told
returns-clause-told g c =
    let m = g.P.Project.meaning in
    let x = c.push.new.self in
    let b = bounds (m x.project.now) (node_of x.nodes.now) (latest_of x.latest) in
    let same = c.push.ensures.same_project ∙ c.new-bounds.ensures in
    subst (λ p. Told (m p) (searched (earliest (m p))) c.args.starts.now c.write_starts.new.starts c.args.chain.now c.args.chain.now (Ok tt)) same
    (told_found (m x.project.now) b c.args.starts.now c.write_starts.new.starts c.args.chain.now
    (quiet_earliest (m x.project.now) (node_of x.nodes.now) (latest_of x.latest) x.count (g.met.P.Project.bounded x.project.now) x.state c.in-None.ensures.ended)
    c.write_starts.ensures)
