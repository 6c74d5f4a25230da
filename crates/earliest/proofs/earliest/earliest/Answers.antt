use Rattle.std.proofs.Common.{◌≡◌, ◌++◌, length, drop, replicate, rules}
use borrow.Rule.Slice.PartMut.{post_of}
use Rattle.earliest.specs.Outcome.{Enough}
use Rattle.earliest.proofs.Outcomes.{words_fit, outcome}
use Rattle.earliest.proofs.earliest.earliest.Goals as goal

pub overflow_cast-words : goal.overflow_cast-words
overflow_cast-words g c =
    let fit = words_fit (g.P.Project.meaning c.args.project.now) (g.met.P.Project.bounded c.args.project.now) in
    search rules

pub returns : goal.returns
returns g c =
    let m = g.P.Project.meaning c.args.project.now in
    let w = c.node_words-words.result in
    let cleared : c.settle.new.words ++ post_of 0 w c.args.nodes.now ≡ replicate w 0 ++ drop w c.args.nodes.now = search rules in
    let enough : Enough m (length c.args.starts.now) (length c.args.nodes.now) (length c.args.chain.now) = search rules in
    outcome m c.args.starts.now c.settle.new.starts c.args.nodes.now _ c.args.chain.now c.settle.new.chain c.settle.result w enough c.settle.ensures.told c.node_words-words.ensures cleared
