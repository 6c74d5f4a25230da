-- Writing down a project, step by step.
use Rattle.std.proofs.Common.{◌≡◌, ℕ, ◌+◌, ◌*◌, ◌<◌, List, length, set, sym, refl, ap, ◌∙◌, subst, ⊎_elim, arith}
use Rattle.std.proofs.lemmas.List.{get_or-set_same, get_or-set_other}
use Rattle.std.proofs.lemmas.Bool.{cases_eq}
use Rattle.std.proofs.lemmas.Nat.{mul-add-lt}
use Rattle.model.specs.declared.lag.Lag.{Lag}
use Rattle.flow.specs.declared.network.Capacity.{Capacity}
use Rattle.flow.specs.declared.network.Capacity.TheVariants.{Unbounded}
use Rattle.model.specs.Meaning.{Meaning}
use Rattle.model.specs.Starts.{floor}
use Rattle.time_network.specs.Held.{lag_at, no_lag, capacity_at}
use Rattle.time_network.specs.Making.{rise, Written, Row, Priced, Copied}

pub row_none : (m : Meaning) (a : ℕ) (capacities : List Capacity) → Row m a 0 capacities capacities
row_none m a capacities = record { filled = λ t l. absurd (omega arith); kept = λ j l. refl }

pub row_more : (m : Meaning) (a t : ℕ) (before capacities : List Capacity) (place : ℕ) (v : Capacity) → Row m a t before capacities
    → place ≡ a * m.horizon + t → place < length capacities → v ≡ rise (floor m a) (m.price a t)
    → Row m a (t + 1) before (set capacities place v)
row_more m a t before capacities place v r e l is =
    record {
      filled = λ i li. ⊎_elim
          (λ same.
          subst (λ (x : ℕ). Written m a x (set capacities place v)) (sym same)
          (ap (capacity_at (set capacities place v)) (sym e) ∙ (get_or-set_same capacities place v Unbounded l ∙ is)))
          (λ ne. get_or-set_other capacities place (a * m.horizon + i) v Unbounded (λ x. ne (omega arith)) ∙ r.filled i (omega arith))
          (cases_eq i t);
      kept = λ j lj. get_or-set_other capacities place j v Unbounded (λ x. omega arith) ∙ r.kept j lj;
    }

pub priced_none : (m : Meaning) (capacities : List Capacity) → Priced m 0 capacities
priced_none m capacities = record { written = λ a t la lt. absurd (omega arith) }

pub priced_more : (m : Meaning) (a : ℕ) (before after : List Capacity) → Priced m a before
    → Row m a m.horizon before after → Priced m (a + 1) after
priced_more m a before after p r =
    record {
      written = λ i t li lt. ⊎_elim
          (λ same. subst (λ (x : ℕ). Written m x t after) (sym same) (r.filled t lt))
          (λ ne.
          let lower : i < a = omega arith in
          r.kept (i * m.horizon + t) (omega (arith, mul-add-lt i m.horizon t a lower lt)) ∙ p.written i t lower lt)
          (cases_eq i a);
    }

pub copied_none : (m : Meaning) (lags : List Lag) → Copied m 0 lags
copied_none m lags = record { copied = λ k l. absurd (omega arith) }

pub copied_more : (m : Meaning) (k : ℕ) (lags : List Lag) (v : Lag) → Copied m k lags → k < length lags
    → v ≡ m.lag k → Copied m (k + 1) (set lags k v)
copied_more m k lags v c l is =
    record {
      copied = λ i li. ⊎_elim
          (λ same.
          subst (λ (x : ℕ). lag_at (set lags k v) x ≡ m.lag x) (sym same) (get_or-set_same lags k v no_lag l ∙ is))
          (λ ne. get_or-set_other lags k i v no_lag ne ∙ c.copied i (omega arith))
          (cases_eq i k);
    }
