use Rattle.std.proofs.Common.{◌≡◌, ℕ, ◌-◌, ◌*◌, ◌<◌, ◌≤◌, None}
use Rattle.earliest.specs.Nodes.{node_of}
use Rattle.earliest.specs.Pushing.{closed_step, lag_step, latest_of}
use Rattle.earliest.proofs.bounds.Bounds.push.Given as goal

abbrev pub invariant-push : goal.invariant-push
invariant-push g l = l.self.project.now ≡ l.project

abbrev pub decreases-push : goal.decreases-push
decreases-push g l =
    let m = g.P.Project.meaning l.project in
    m.n * (m.horizon - 1) - l.self.count

abbrev pub invariant-loop-activity : goal.invariant-loop-activity
invariant-loop-activity g l =
    let m = g.P.Project.meaning l.project in
    record {
      same : l.self.project.now ≡ l.project;
      onward : l.before ≤ l.self.count;
      all_open : l.self.count ≡ l.before → (a : ℕ) → a < l.activity → closed_step m (node_of l.self.nodes.now) (latest_of l.self.latest) a ≡ None;
    }

abbrev pub invariant-loop-number : goal.invariant-loop-number
invariant-loop-number g l =
    let m = g.P.Project.meaning l.project in
    record {
      same : l.self.project.now ≡ l.project;
      onward : l.before ≤ l.self.count;
      all_open : l.self.count ≡ l.before → (a : ℕ) → a < m.n → closed_step m (node_of l.self.nodes.now) (latest_of l.self.latest) a ≡ None;
      all_hold : l.self.count ≡ l.before → (k : ℕ) → k < l.number → lag_step m (node_of l.self.nodes.now) (latest_of l.self.latest) k ≡ None;
    }
