use Rattle.std.proofs.Common.{rules}
use Rattle.model.specs.Meaning.{price_of}
use Rattle.model.proofs.Counting.{count_open_more, count_open_bound}
use Rattle.model.proofs.floors.open_slots_of.Goals as goal

pub overflow_add-count : goal.overflow_add-count
overflow_add-count g c =
    let few = count_open_bound c.loop-t.t (price_of (g.P.Project.meaning c.args.project.now) c.args.activity) in
    search rules

pub loop-t-preserved : goal.loop-t-preserved
loop-t-preserved g c = search (rules, count_open_more)
