use Rattle.time_network.proofs.Fills.{priced_none, priced_more}
use Rattle.time_network.proofs.making.write_rows.Goals as goal

pub loop-a-init : goal.loop-a-init
loop-a-init g c = (priced_none _ _, c.told-capacities)

pub loop-a-preserved : goal.loop-a-preserved
loop-a-preserved g c = (
  priced_more (g.P.Project.meaning c.args.project.now) c.loop-a.a c.loop-a.capacities c.write_row.new.capacities
      c.loop-a.invariant.0 c.write_row.ensures,
  c.write_row.array_long,
)
