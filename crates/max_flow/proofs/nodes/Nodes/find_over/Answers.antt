use Rattle.std.proofs.Common.{sym, ap, ◌∙◌, inl, inr, arith}
use Rattle.flow.specs.Nets.{word}
use Rattle.flow.specs.Answers.{has_room}
use Rattle.flow.proofs.Ways.{has_room_is}
use Rattle.max_flow.specs.Layout.{net_of}
use Rattle.max_flow.proofs.Growth.{grown_one, find_space}
use Rattle.max_flow.proofs.nodes.Nodes.find_over.Goals as goal

pub find-requires-clause-space : goal.find-requires-clause-space
find-requires-clause-space g c =
    find_space (word c.args.flow.now) c.args.self.now c.args.waiting c.in-Some.arc.head c.requires.searching
    c.in-Some.ensures.head_in c.if-to-eq0.true

pub find-requires-then-word_at-gt0-clause-space : goal.find-requires-then-word_at-gt0-clause-space
find-requires-then-word_at-gt0-clause-space g c =
    find_space (word c.args.flow.now) c.args.self.now c.args.waiting c.in-Some.arc.tail c.requires.searching
    c.in-Some.ensures.tail_in c.if-from-eq0.true

pub returns-then-has_room-clause-grown : goal.returns-then-has_room-clause-grown
returns-then-has_room-clause-grown g c =
    let f = word c.args.flow.now in
    let k = c.args.k in
    let a = c.in-Some.arc in
    let s = c.in-Some.ensures in
    let open_arc = sym (has_room_is (net_of c.args.self.now) f k) ∙ (ap (λ y. has_room y (f k)) (sym s.capacity_is)
    ∙ (ap (has_room a.capacity) (sym c.word_at.ensures) ∙ sym c.if-has_room.ensures)) in
    grown_one f c.args.self.now c.find.new.self c.args.waiting c.find.result a.tail a.head k c.requires.searching
    s.tail_in c.if-arc-ne1.true c.if-from-gt0.true s.head_in c.if-to-eq0.true
    (s.exists, inl (open_arc, sym s.tail_is, sym s.head_is)) c.find.ensures

pub returns-then-word_at-gt0-clause-grown : goal.returns-then-word_at-gt0-clause-grown
returns-then-word_at-gt0-clause-grown g c =
    let a = c.in-Some.arc in
    let s = c.in-Some.ensures in
    grown_one (word c.args.flow.now) c.args.self.now c.find-then-word_at-gt0.new.self c.args.waiting
    c.find-then-word_at-gt0.result a.head a.tail c.args.k c.requires.searching s.head_in c.if-arc-ne1-2.true
    c.if-to-gt0.true s.tail_in c.if-from-eq0.true (s.exists, inr (omega arith, sym s.head_is, sym s.tail_is))
    c.find-then-word_at-gt0.ensures
