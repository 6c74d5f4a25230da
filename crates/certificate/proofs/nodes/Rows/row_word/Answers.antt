use Rattle.std.proofs.Common.{ℕ, ◌+◌, ◌*◌, ap, arith}
use Rattle.std.proofs.lemmas.Nat.{mul-add-lt}
use Rattle.certificate.specs.Sums.{rows_of}
use Rattle.certificate.proofs.nodes.Rows.row_word.Goals as goal

pub bounds-self-row : goal.bounds-self-row
bounds-self-row g c =
    let m = g.P.Project.meaning c.args.self.now.project.now in
    let place = ap (λ (h : ℕ). c.args.row * h + c.args.slot) c.horizon.ensures in
    let x = mul-add-lt c.args.row m.horizon c.args.slot (rows_of m) c.requires.placed c.requires.within in
    omega arith

pub returns-clause-low : goal.returns-clause-low
returns-clause-low g c =
    let m = g.P.Project.meaning c.args.self.now.project.now in
    let place = ap (λ (h : ℕ). c.args.row * h + c.args.slot) c.horizon.ensures in
    let x = mul-add-lt c.args.row m.horizon c.args.slot (rows_of m) c.requires.placed c.requires.within in
    rw place (c.args.self.now.carried.low _ x)
