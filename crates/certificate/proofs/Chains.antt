-- The first fault of several parts, as a check meets it that stops at the first fault.
use Rattle.std.proofs.Common.{◌≡◌, ℕ, zero, suc, ◌+◌, ◌<◌, Some, None, Ok, Err, Option, Result, sym, refl, ap, ◌∙◌, ⊎_elim, add-one, arith}
use Rattle.std.proofs.lemmas.Bool.{cases_order}
use Rattle.model.specs.declared.refusal.Refusal.{Refusal}
use Rattle.certificate.specs.Faults.{or_else, each, unless}

-- what a part that passed, or did not, tells of its fault
pub clear : (f : Option Refusal) (x : Unit {0}) → Ok x ≡ unless f → f ≡ None
clear None x e = refl
clear (Some r) x e = absurd (let z : ◌≡◌ {A = ℕ} 0 1 = cc in omega arith)

pub fault : (f : Option Refusal) (r : Refusal) → Err r ≡ unless f → f ≡ Some r
fault None r e = absurd (let z : ◌≡◌ {A = ℕ} 0 1 = cc in omega arith)
fault (Some s) r e = cc

-- a part without a fault is passed by
pub past : (f g : Option Refusal) (r : Result (Unit {0}) Refusal) → f ≡ None → r ≡ unless g → r ≡ unless (or_else f g)
past f g r clean rest = rest ∙ ap (λ o. unless (or_else o g)) (sym clean)

pub fails : (f : Option Refusal) (r : Refusal) → f ≡ Some r → Err r ≡ unless f
fails f r bad = ap unless (sym bad)

pub passes : (f : Option Refusal) → f ≡ None → Ok tt ≡ unless f
passes f clean = ap unless (sym clean)

-- the same over k parts
pub each_more : (k : ℕ) (f : ℕ → Option Refusal) → each k f ≡ None → f k ≡ None → each (k + 1) f ≡ None
each_more k f so_far here = rw add-one (ap (λ o. or_else o (f k)) so_far ∙ here)

pub each_stops : (n k : ℕ) (f : ℕ → Option Refusal) (r : Refusal) → k < n → each k f ≡ None → f k ≡ Some r
    → each n f ≡ Some r
each_stops zero k f r less so_far here = absurd (omega arith)
each_stops (suc n) k f r less so_far here =
    ⊎_elim
    (λ (same : n ≡ k). ap (λ o. or_else o (f n)) (ap (λ j. each j f) same ∙ so_far) ∙ (ap f same ∙ here))
    (λ other.
    let earlier : k < n = ⊎_elim (λ l. omega arith) (λ l. l) other in
    ap (λ o. or_else o (f n)) (each_stops n k f r earlier so_far here))
    (cases_order n k)

pub each_fails : (n k : ℕ) (f : ℕ → Option Refusal) (r : Refusal) → k < n → each k f ≡ None → Err r ≡ unless (f k)
    → Err r ≡ unless (each n f)
each_fails n k f r less so_far here = fails _ r (each_stops n k f r less so_far (fault _ r here))
