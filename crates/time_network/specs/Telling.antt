-- Answers that list arcs one by one: what they name, and that each arc is told of.
use Rattle.std.specs.Prelude.{◌≡◌, ℕ, zero, suc, ◌-◌, ◌<◌, ◌≤◌, Bool, true, false, cond, ◌⊎◌, Some, None, Option, refl}
use Rattle.std.proofs.Common.{arith, inl, inr, ⊎_elim, subst}
use Rattle.model.specs.Meaning.{Meaning}
use Rattle.flow.specs.declared.network.Step.{Step}
use Rattle.flow.specs.Answers.{Names, Told, now_told, later_told}
use Rattle.plan_theory.specs.TimeNetwork.{time_net}

-- who asks on from cursor c is told of an arc, or of another and then has a cursor that is no further than p
abbrev pub Onward : (ℕ → Option Step) → ℕ → ℕ → (ℕ → Type 0) → ℕ → Type 0
Onward answer k p Good c =
    (s : Step) × (answer c ≡ Some s) × ((s.arc ≡ k) ⊎ ((c < s.next) × (s.next ≤ p) × Good s.next))

pub told_by : (answer : ℕ → Option Step) (k p : ℕ) (Good : ℕ → Type 0)
    → ((c : ℕ) → c ≤ p → Good c → Onward answer k p Good c)
    → (left c : ℕ) → p - c < left → c ≤ p → Good c → Told answer k c
told_by answer k p Good each zero c l b g = absurd (omega arith)
told_by answer k p Good each (suc left) c l b g =
    let x = each c b g in
    ⊎_elim (λ e. now_told c x.0 x.1 e)
    (λ y. later_told c x.0 x.1
    (told_by answer k p Good each left x.0.next (omega (arith, y.0, y.1)) y.1 y.2))
    x.2

-- a test before an answer
pub some_cases : (b : Bool) (x s : Step) (o : Option Step) → cond b (Some x) o ≡ Some s
    → ((b ≡ true) × (x ≡ s)) ⊎ ((b ≡ false) × (o ≡ Some s))
some_cases true x s o e = inl (refl, cc)
some_cases false x s o e = inr (refl, e)

pub none_some : (s : Step) → ◌≡◌ {A = Option Step} None (Some s) → ⊥
none_some s e = let z : ◌≡◌ {A = ℕ} 0 1 = cc in omega arith

pub test_some : (b : Bool) (o : Option Step) (s : Step) → cond b o None ≡ Some s → (b ≡ true) × (o ≡ Some s)
test_some true o s e = (refl, e)
test_some false o s e = absurd (none_some s e)

pub some_same : (x s : Step) → Some x ≡ Some s → x ≡ s
some_same x s e = cc

-- an answer that names an arc
pub names_of : (m : Meaning) (near far : ℕ → ℕ) (v c k w x : ℕ) (s : Step) → record { arc = k; node = w; next = x } ≡ s
    → k < (time_net m).arcs → near k ≡ v → far k ≡ w → c < x → x ≤ 1000000 → Names (time_net m) near far v c s
names_of m near far v c k w x s e i n f l o =
    subst (Names (time_net m) near far v c) e (record { exists = i; here = n; there = f; onward = l; limit = o })
