use Rattle.std.proofs.Common.{◌≡◌, None}
use Rattle.table_file.specs.Format.{each, relation_fault, record_place}
use Rattle.table_file.proofs.head.Headed.check_relations.Given as goal

abbrev pub invariant-loop-number : goal.invariant-loop-number
invariant-loop-number l =
    each l.number (λ k. relation_fault l.self.bytes.now (record_place l.self.bytes.now k)) ≡ None
