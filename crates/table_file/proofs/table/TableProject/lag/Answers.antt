use Rattle.std.proofs.Common.{ap, ◌∙◌}
use Rattle.table_file.specs.Format.{duration_in}
use Rattle.table_file.proofs.Places.{ends_there, lag_read}
use Rattle.table_file.proofs.table.TableProject.lag.Goals as goal

pub duration-requires : goal.duration-requires
duration-requires c = rw c.headed-headed.ensures.bytes (ends_there c.args.self.now.file.now c.args.number c.in_ok-relation.relation c.args.self.now.sound c.in_ok-relation.ensures).0

pub duration-requires-2 : goal.duration-requires-2
duration-requires-2 c = rw c.headed-headed.ensures.bytes (ends_there c.args.self.now.file.now c.args.number c.in_ok-relation.relation c.args.self.now.sound c.in_ok-relation.ensures).1

pub returns : goal.returns
returns c =
    let relation = c.in_ok-relation.relation in
    let same = c.headed-headed.ensures.bytes in
    c.lag.ensures
    ∙ lag_read c.args.self.now.file.now c.args.number relation _ _ c.args.self.now.sound c.in_ok-relation.ensures
    (c.duration.ensures ∙ ap (λ file. duration_in file relation.from) same)
    (c.duration-2.ensures ∙ ap (λ file. duration_in file relation.to) same)
