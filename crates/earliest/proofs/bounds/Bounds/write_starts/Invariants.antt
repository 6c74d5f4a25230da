use Rattle.std.proofs.Common.{◌≡◌, map, take, drop}
use Rattle.std.specs.List.{range_with_len}
use Rattle.earliest.specs.Nodes.{node_of}
use Rattle.earliest.specs.Pushing.{bound, latest_of}
use Rattle.earliest.proofs.bounds.Bounds.write_starts.Given as goal

abbrev pub invariant-loop-activity : goal.invariant-loop-activity
invariant-loop-activity g l =
    (take l.activity l.starts ≡ map (bound (node_of l.self.nodes.now) (latest_of l.self.latest)) (range_with_len 0 l.activity))
    × (drop l.activity l.starts ≡ drop l.activity l.initial.starts)
