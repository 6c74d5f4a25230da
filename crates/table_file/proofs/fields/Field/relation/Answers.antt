use Rattle.std.proofs.Common.{◌+◌, cond, Some, None, Ok, Err, refl, sym, ap, ◌∙◌, w16, SFits, rules}
use Rattle.std.proofs.lemmas.Int.{to_z-of_z}
use Rattle.model.specs.declared.refusal.Fault.TheVariants.{Range}
use Rattle.model.specs.Refusals.{refuse}
use Rattle.table_file.specs.Format.{relation_fault, relation_at}
use Rattle.table_file.proofs.Chains.{fails, passes}
use Rattle.table_file.proofs.Single.{absent_fails, present_fits}
use Rattle.table_file.proofs.Record.{Tested, made, part_read, end_at, sense_at, activity_at, end_is, sense_is, interval_read, tested}
use Rattle.table_file.proofs.fields.Field.relation.Goals as goal
use Rattle.table_file.proofs.fields.Field.relation.Goals.{After-lag}

gap_tested : (c : After-lag) → Tested c.args.self.file.bytes.now c.args.self.at (made c.in_ok-letter.field-0 c.in_ok-letter-2.field-0 c.in_ok-letter-3.field-0 c.in_ok-activity.field-0 c.in_ok-activity-2.field-0 c.from_le_bytes.result) c.duration-from_duration.result c.duration-to_duration.result
gap_tested c =
    let file = c.args.self.file.bytes.now in
    let at = c.args.self.at in
    tested file at _ _ _
    (part_read end_at file _ at _ _ _ _ refl refl c.in_ok-letter.ensures (end_is file at))
    (part_read end_at file _ (at + 1) _ _ _ _ c.after.ensures.file c.after.ensures.place c.in_ok-letter-2.ensures (end_is file (at + 1)))
    (part_read sense_at file _ (at + 2) _ _ _ _ c.after-2.ensures.file c.after-2.ensures.place c.in_ok-letter-3.ensures (sense_is file (at + 2)))
    (part_read activity_at file _ (at + 3) _ _ _ _ c.after-3.ensures.file c.after-3.ensures.place c.in_ok-activity.ensures refl)
    (part_read activity_at file _ (at + 4) _ _ _ _ c.after-4.ensures.file c.after-4.ensures.place c.in_ok-activity-2.ensures refl)
    (interval_read file _ (at + 5) _ _ _ c.after-5.ensures.file c.after-5.ensures.place c.in_ok-read.ensures c.from_le_bytes.ensures)
    c.duration-from_duration.ensures c.duration-to_duration.ensures

pub returns-in-Some : goal.returns-in-Some
returns-in-Some c =
    let file = c.args.self.file.bytes.now in
    let at = c.args.self.at in
    let fits : SFits w16 c.from_le_bytes.result = search rules in
    let t = gap_tested (goal.at.returns-in-Some c).After-lag in
    let p = present_fits _ _ _ (sym c.in-Some.is ∙ (simp to_z-of_z at c.lag.ensures)) in
    simp to_z-of_z
    (ap Ok t.same ∙ passes (relation_fault file at) (relation_at file at) (t.answer ∙ ap (λ b. cond b None (Some (refuse Range (at + 5)))) p.0))

pub returns-in-None : goal.returns-in-None
returns-in-None c =
    let file = c.args.self.file.bytes.now in
    let at = c.args.self.at in
    let fits : SFits w16 c.from_le_bytes.result = search rules in
    let t = gap_tested (goal.at.returns-in-None c).After-lag in
    let p = absent_fails _ _ (sym c.in-None.is ∙ (simp to_z-of_z at c.lag.ensures)) in
    ap Err c.at.ensures ∙ fails (relation_fault file at) (relation_at file at) _ (t.answer ∙ ap (λ b. cond b None (Some (refuse Range (at + 5)))) p)
