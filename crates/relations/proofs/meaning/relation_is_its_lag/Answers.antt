use Rattle.relations.proofs.Turning.{relation_said}
use Rattle.relations.proofs.meaning.relation_is_its_lag.Goals as goal

pub returns : goal.returns
returns c = relation_said
