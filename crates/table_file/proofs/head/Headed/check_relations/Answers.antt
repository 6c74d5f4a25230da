use Rattle.std.proofs.Common.{◌≡◌, ◌<◌, ◌∙◌, arith}
use Rattle.table_file.specs.Format.{relations_in, record_place}
use Rattle.table_file.proofs.Chains.{clear, fault, stopped, each_more, each_stops}
use Rattle.table_file.proofs.Places.{record_here}
use Rattle.table_file.proofs.head.Headed.check_relations.Goals as goal

pub returns-in_err-relation : goal.returns-in_err-relation
returns-in_err-relation c =
    let file = c.args.self.bytes.now in
    let k = c.loop-number.number in
    let here : c.field.result.at ≡ record_place file k = omega (arith, c.relations_place-first.ensures.value, c.field.ensures.place) in
    let less : k < relations_in file = omega arith in
    stopped _ _ _ _ c.from_residual.ensures.1 (each_stops _ k _ _ less c.loop-number.invariant (record_here file _ (record_place file k) _ c.field.ensures.file here ∙ fault _ _ _ c.in_err-relation.ensures))

pub loop-number-preserved : goal.loop-number-preserved
loop-number-preserved c =
    let file = c.args.self.bytes.now in
    let k = c.loop-number.number in
    let here : c.field.result.at ≡ record_place file k = omega (arith, c.relations_place-first.ensures.value, c.field.ensures.place) in
    each_more k _ c.loop-number.invariant (record_here file _ (record_place file k) _ c.field.ensures.file here ∙ clear _ _ _ c.in_ok-relation.ensures)
