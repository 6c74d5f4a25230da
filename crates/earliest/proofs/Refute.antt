-- Whoever follows a chain with a start list that meets finds each start at or after its entry's slot.
use Rattle.std.proofs.Common.{◌≡◌, ℕ, ◌+◌, ◌<◌, ◌≤◌, true, false, List, [], ◌∷◌, ℤ, pos, negsuc, ◌+ℤ◌, ◌≤ℤ◌, sym, ap, ◌∙◌, subst, ⊎_elim, arith}
use Rattle.std.proofs.lemmas.Int.{ints}
use Rattle.std.proofs.lemmas.Bool.{cases_eq}
use Rattle.model.specs.declared.price.Price.{Price}
use Rattle.model.specs.declared.price.Price.TheVariants.{Closed}
use Rattle.model.specs.Meaning.{Meaning}
use Rattle.model.specs.Starts.{start, is_open}
use Rattle.model.specs.Chosen.{Meets, NoneMeets}
use Rattle.earliest.specs.declared.chain.How.{How}
use Rattle.earliest.specs.declared.chain.How.TheVariants.{Start, PastClosed, ByLag}
use Rattle.earliest.specs.declared.chain.Entry.{Entry}
use Rattle.earliest.specs.Chain.{cut_to, Leads, RunsOn, Opens, ChainsRefute}

-- cutting does not raise above what already bounds
pub cut_below : (h : ℕ) (z : ℤ) (y : ℕ) → z ≤ℤ pos y → cut_to h z ≤ y
cut_below h (pos x) y le = omega (arith, ints)
cut_below h (negsuc x) y le = omega arith

-- below the horizon nothing is cut away
pub cut_kept : (h : ℕ) (z : ℤ) (y : ℕ) → cut_to h z ≤ y → y < h → z ≤ℤ pos y
cut_kept h (pos x) y le lt = omega (arith, ints)
cut_kept h (negsuc x) y le lt = omega (arith, ints)

pub open_not_closed : (p : Price) (h : ℕ) → p ≡ Closed h → is_open p ≡ true → ⊥
open_not_closed p h e o =
    let z : true ≡ false = sym o ∙ ap is_open e in
    cc

-- a reason carries what is known of one start over to the next
pub leads_on : (m : Meaning) (s : List ℕ) (how : How) (a t b u : ℕ) → Meets m s → a < m.n → Leads m how a t b u → t ≤ start s a → u ≤ start s b
leads_on m s Start a t b u met lt l le = absurd l
leads_on m s (PastClosed h) a t b u met lt l le =
    let differs : start s a ≡ t → ⊥ = λ (e : start s a ≡ t). open_not_closed (m.price a t) h l.0 (subst (λ (x : ℕ). is_open (m.price a x) ≡ true) e (met.in_open_slots a lt)) in
    let e = l.2 in
    let later : t + 1 ≤ start s a = ⊎_elim (λ (x : start s a ≡ t). absurd (differs x)) (λ (f : start s a ≡ t → ⊥). omega arith) (cases_eq (start s a) t) in
    subst (λ (x : ℕ). u ≤ start s x) (sym l.1) (omega arith)
leads_on m s (ByLag k) a t b u met lt l le =
    let held = met.lags_hold k l.0 in
    let from = subst (λ (x : ℕ). t ≤ start s x) (sym l.1) le in
    let low = cut_below m.horizon (pos t +ℤ (m.lag k).gap) (start s (m.lag k).to) (omega (arith, ints, held, from)) in
    subst (λ (x : ℕ). u ≤ start s x) l.2 (omega (arith, low, l.3))

runs_refute : (m : Meaning) (s : List ℕ) (a t : ℕ) (es : List Entry) → Meets m s → a < m.n → t ≤ start s a → RunsOn m a t es → ⊥
runs_refute m s a t [] met lt le r = omega (arith, met.below_horizon a lt, r)
runs_refute m s a t (e ∷ es) met lt le r =
    runs_refute m s e.activity e.slot.0 es met r.1 (leads_on m s e.how a t e.activity e.slot.0 met lt r.2 le) r.3

opens_refute : (m : Meaning) (es : List Entry) → Opens m es → NoneMeets m
opens_refute m [] o s met = absurd o
opens_refute m (e ∷ es) o s met = runs_refute m s e.activity 0 es met o.1 (omega arith) o.3

pub refute : ChainsRefute
refute m es c = opens_refute m es c.runs
