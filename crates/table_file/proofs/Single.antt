-- One field: what is answered where its number is not there, and where it is.
use Rattle.std.proofs.Common.{◌≡◌, ℕ, ◌+◌, Bool, true, false, cond, ltb, List, length, Some, None, Ok, Err, Result, refl, ap, ◌∙◌, arith}
use Rattle.model.specs.declared.refusal.Fault.{Fault}
use Rattle.model.specs.declared.refusal.Fault.TheVariants.{Short}
use Rattle.model.specs.declared.refusal.Refusal.{Refusal}
use Rattle.model.specs.Refusals.{refuse}
use Rattle.model.specs.Meaning.{within}
use Rattle.table_file.specs.Format.{field}
use Rattle.table_file.specs.Reading.{there}

-- a number that was read is there, and is the one that stands there
pub read_there : {V : Type 0} (file : List ℕ) (at bytes : ℕ) (v x : V) → Ok x ≡ there file at bytes (Ok v) → (ltb (length file) (at + bytes) ≡ false) × (x ≡ v)
read_there {V} file at bytes v x e =
    elim (ltb (length file) (at + bytes)) as (λ t. Ok x ≡ cond {A = Result V Refusal} t (Err (refuse Short (length file))) (Ok v) → (t ≡ false) × (x ≡ v)) [
      | true ↦ λ z. absurd (let o : ◌≡◌ {A = ℕ} 0 1 = cc in omega arith)
      | false ↦ λ z. (refl, cc)
    ] e

-- and its field passes by its range alone
pub field_there : (file : List ℕ) (at bytes : ℕ) (b t : Bool) (f : Fault) → ltb (length file) (at + bytes) ≡ false → b ≡ t → field file at bytes b f ≡ cond t None (Some (refuse f at))
field_there file at bytes b t f long same = ap (λ v. cond v (Some (refuse Short (length file))) (cond b None (Some (refuse f at)))) long ∙ ap (λ v. cond v None (Some (refuse f at))) same

pub absent_fails : {T : Type 0} (b : Bool) (x : T) → None ≡ within b x → b ≡ false
absent_fails true x e = absurd (let o : ◌≡◌ {A = ℕ} 0 1 = cc in omega arith)
absent_fails false x e = refl

pub present_fits : {T : Type 0} (b : Bool) (x y : T) → Some y ≡ within b x → (b ≡ true) × (y ≡ x)
present_fits true x y e = (refl, cc)
present_fits false x y e = absurd (let o : ◌≡◌ {A = ℕ} 0 1 = cc in omega arith)
