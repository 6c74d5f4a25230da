use Rattle.c_interface.proofs.Limits.{full_size_is_enough}
use Rattle.c_interface.proofs.campaign_cheapest.Goals as goal

pub returns-in-Err-clause-enough : goal.returns-in-Err-clause-enough
returns-in-Err-clause-enough c =
    full_size_is_enough c.args.file.now c.args.starts.now c.args.flow.now c.args.nodes.now
