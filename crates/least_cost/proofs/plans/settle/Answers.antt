use Rattle.std.proofs.Common.{length}
use Rattle.std.proofs.lemmas.Result.{err_from_is_err_and}
use Rattle.time_network.specs.Meant.{net_of}
use Rattle.least_cost.proofs.Planning.{planned, nothing, enough_flow, enough_nodes}
use Rattle.least_cost.proofs.plans.settle.Goals as goal

pub returns-in_err-value-clause-settled : goal.returns-in_err-value-clause-settled
returns-in_err-value-clause-settled g c =
    let m = g.P.Project.meaning c.args.project.now in
    let b = g.met.P.Project.bounded c.args.project.now in
    let n = net_of c.of-network.result in
    let side = c.args.side in
    let answer = c.in_err-value.ensures.enough (enough_flow side m n (length c.args.flow.now) c.of-network.ensures c.requires.flow_enough) (enough_nodes side m n (length c.args.words.now) c.of-network.ensures c.requires.nodes_enough) in
    let p = err_from_is_err_and c.from_residual.result c.from_residual.ensures.1 in
    rw (p.1, p.2)
    (nothing side m n b c.of-network.ensures c.args.starts.now c.args.flow.now c.flow_over.new.flow c.args.words.now c.flow_over.new.nodes c.in_err-value.field-0.0 answer)

pub returns-clause-settled : goal.returns-clause-settled
returns-clause-settled g c =
    let m = g.P.Project.meaning c.args.project.now in
    let b = g.met.P.Project.bounded c.args.project.now in
    let n = net_of c.of-network.result in
    let side = c.args.side in
    let answer = c.in_ok-value.ensures.enough (enough_flow side m n (length c.args.flow.now) c.of-network.ensures c.requires.flow_enough) (enough_nodes side m n (length c.args.words.now) c.of-network.ensures c.requires.nodes_enough) in
    planned side m n b c.of-network.ensures c.args.starts.now c.write_starts.new.starts c.args.flow.now c.flow_over.new.flow c.args.words.now c.flow_over.new.nodes c.in_ok-value.value answer c.write_starts.ensures
