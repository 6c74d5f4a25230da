-- The first fault of several parts, as a reader meets it that stops at the first fault.
use Rattle.std.proofs.Common.{◌≡◌, ℕ, zero, suc, ◌+◌, ◌<◌, Some, None, Ok, Err, Option, Result, sym, refl, ap, ◌∙◌, ⊎_elim, add-one, arith}
use Rattle.std.specs.Result.{IsErrAnd}
use Rattle.std.proofs.lemmas.Bool.{cases_order}
use Rattle.std.proofs.lemmas.Result.{err_from_is_err_and}
use Rattle.model.specs.declared.refusal.Refusal.{Refusal}
use Rattle.table_file.specs.Format.{or_else, each, unless}

-- what a part that answered tells of its fault and its value
pub clear : {V : Type 0} (f : Option Refusal) (v x : V) → Ok x ≡ unless f v → f ≡ None
clear None v x e = refl
clear (Some r) v x e = absurd (let z : ◌≡◌ {A = ℕ} 0 1 = cc in omega arith)

pub value : {V : Type 0} (f : Option Refusal) (v x : V) → Ok x ≡ unless f v → x ≡ v
value None v x e = cc
value (Some r) v x e = absurd (let z : ◌≡◌ {A = ℕ} 0 1 = cc in omega arith)

pub fault : {V : Type 0} (f : Option Refusal) (v : V) (r : Refusal) → Err r ≡ unless f v → f ≡ Some r
fault None v r e = absurd (let z : ◌≡◌ {A = ℕ} 0 1 = cc in omega arith)
fault (Some s) v r e = cc

-- a part without a fault is passed by, one with a fault ends the reading
pub past : {V : Type 0} (f g : Option Refusal) (v : V) (r : Result V Refusal) → f ≡ None → r ≡ unless g v → r ≡ unless (or_else f g) v
past f g v r clean rest = rest ∙ ap (λ o. unless (or_else o g) v) (sym clean)

pub stops : {V : Type 0} (f g : Option Refusal) (v : V) (r : Refusal) → f ≡ Some r → Err r ≡ unless (or_else f g) v
stops f g v r bad = ap (λ o. unless (or_else o g) v) (sym bad)

pub fails : {V : Type 0} (f : Option Refusal) (v : V) (r : Refusal) → f ≡ Some r → Err r ≡ unless f v
fails f v r bad = ap (λ o. unless o v) (sym bad)

pub passes : {V : Type 0} (f : Option Refusal) (v : V) → f ≡ None → Ok v ≡ unless f v
passes f v clean = ap (λ o. unless o v) (sym clean)

-- what the exit of a `?` returns
pub stopped : {V : Type 0} (f : Option Refusal) (v : V) (r : Result V Refusal) (e : Refusal) → IsErrAnd r (λ y. y ≡ e) → f ≡ Some e → r ≡ unless f v
stopped f v r e bad here = let p = err_from_is_err_and r bad in rw (p.1, p.2) (fails f v e here)

-- the same over k parts
pub each_more : (k : ℕ) (f : ℕ → Option Refusal) → each k f ≡ None → f k ≡ None → each (k + 1) f ≡ None
each_more k f so_far here = rw add-one (ap (λ o. or_else o (f k)) so_far ∙ here)

pub each_stops : (n k : ℕ) (f : ℕ → Option Refusal) (r : Refusal) → k < n → each k f ≡ None → f k ≡ Some r → each n f ≡ Some r
each_stops zero k f r less so_far here = absurd (omega arith)
each_stops (suc n) k f r less so_far here =
    ⊎_elim
    (λ (same : n ≡ k). ap (λ o. or_else o (f n)) (ap (λ j. each j f) same ∙ so_far) ∙ (ap f same ∙ here))
    (λ other. let earlier : k < n = ⊎_elim (λ l. omega arith) (λ l. l) other in ap (λ o. or_else o (f n)) (each_stops n k f r earlier so_far here))
    (cases_order n k)
