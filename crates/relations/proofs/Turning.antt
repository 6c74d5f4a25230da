-- The lag of a relation and what the relation says: case by case.
use Rattle.std.proofs.Common.{◌≡◌, ℕ, ◌+◌, List, ℤ, pos, ◌+ℤ◌, ◌-ℤ◌, ◌≤ℤ◌, Decides, arith}
use Rattle.std.proofs.lemmas.Int.{ints}
use Rattle.model.specs.Starts.{start, holds}
use Rattle.model.proofs.Meeting.{le_int_true, true_le_int}
use Rattle.relations.specs.declared.relation.End.{End}
use Rattle.relations.specs.declared.relation.End.TheVariants.{Start, Finish}
use Rattle.relations.specs.declared.relation.Sense.{Sense}
use Rattle.relations.specs.declared.relation.Sense.TheVariants.{Least, Greatest}
use Rattle.relations.specs.Lags.{reach, gap_by, turned_by}
use Rattle.relations.specs.Sayings.{moment, Apart, RelationIsItsLag}

-- the moment of an end is its reach after the start
moment_is : (x : End) (s d : ℕ) → moment x s d ≡ s + reach x d
moment_is Start s d = omega arith
moment_is Finish s d = omega arith

said : (k : Sense) (v : ℤ) (x y : End) (f t d e : ℕ) (s : List ℕ)
    → Decides (holds (turned_by k f t (gap_by k v (pos (reach x d)) (pos (reach y e)))) s) (Apart k v (moment x (start s f) d) (moment y (start s t) e))
said Least v x y f t d e s =
    let p = moment_is x (start s f) d in
    let q = moment_is y (start s t) e in
    let left = pos (start s f) +ℤ ((v +ℤ pos (reach x d)) -ℤ pos (reach y e)) in
    let right = pos (start s t) in
    ((λ h. let le : left ≤ℤ right = le_int_true left right h in omega (arith, ints)), (λ h. true_le_int left right (omega (arith, ints))))
said Greatest v x y f t d e s =
    let p = moment_is x (start s f) d in
    let q = moment_is y (start s t) e in
    let left = pos (start s t) +ℤ ((pos (reach y e) -ℤ pos (reach x d)) -ℤ v) in
    let right = pos (start s f) in
    ((λ h. let le : left ≤ℤ right = le_int_true left right h in omega (arith, ints)), (λ h. true_le_int left right (omega (arith, ints))))

pub relation_said : RelationIsItsLag
relation_said r d e s = said r.sense r.interval r.from_end r.to_end r.from r.to d e s
