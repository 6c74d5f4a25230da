use Rattle.std.proofs.Common.{◌≡◌, ◌<◌, sym, ap, ◌∙◌, arith}
use Rattle.std.proofs.lemmas.Bool.{lt-ltb}
use Rattle.model.specs.Meaning.{within}
use Rattle.table_file.specs.Format.{relations_place, relations_in, record_place, relation_at}
use Rattle.table_file.proofs.Places.{relation_read}
use Rattle.table_file.proofs.held.Table.relation.Goals as goal

pub returns : goal.returns
returns c =
    let self = c.args.self.now in
    let file = self.file.now in
    let k = c.args.number in
    let same = c.headed-headed.ensures.bytes in
    let less : k < relations_in file = omega (arith, c.lag_count.ensures) in
    let here : c.field.result.at ≡ record_place file k = omega (arith, c.field.ensures.place, c.relations_place.ensures.value ∙ ap relations_place same) in
    c.ok.ensures.value
    ∙ relation_read file _ k _ c.relation.result self.sound less (c.field.ensures.file ∙ same) here c.relation.ensures
    ∙ ap (λ b. within b (relation_at file (record_place file k))) (sym (lt-ltb k (relations_in file) less))
