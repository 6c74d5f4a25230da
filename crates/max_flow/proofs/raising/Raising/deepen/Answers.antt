use Rattle.std.proofs.Common.{refl, arith}
use Rattle.flow.specs.Ways.{arrived}
use Rattle.max_flow.proofs.Keeping.{raised_kept}
use Rattle.max_flow.proofs.raising.Raising.deepen.Goals as goal

pub loop-init : goal.loop-init
loop-init g c =
    record {
      kept = record { nodes = record { same_network = refl; same_ranks = refl }; same_nodes = refl; same_flow = refl };
      more = omega arith;
      inside = omega (arith, (g.N.Network.bounded c.args.self.now.nodes.now.network.now).sound.two);
      way = arrived;
    }

pub invariant_of-self-in-loop : goal.invariant_of-self-in-loop
invariant_of-self-in-loop g c =
    record { raised = raised_kept c.loop.self.flow.now c.loop.self.value c.step.ensures.kept c.loop.self.raised }
