use Rattle.max_flow.proofs.Keeping.{raised_kept}
use Rattle.max_flow.proofs.raising.Raising.quick_rounds.Goals as goal

pub invariant_of-self : goal.invariant_of-self
invariant_of-self g c =
    record { raised = raised_kept c.loop.self.flow.now c.loop.self.value c.rank_anew.ensures c.loop.self.raised }
