-- A scan for the arcs of a node finds the first of them.
use Rattle.std.proofs.Common.{◌≡◌, ℕ, zero, suc, ◌+◌, ◌-◌, ◌<◌, ◌≤◌, cond, Some, None, ap, ◌∙◌, arith, ⊎_elim, refl}
use Rattle.std.proofs.lemmas.Bool.{eq-eqb, ne_eqb, cases_eq}
use Rattle.flow_trial.specs.Tables.{scan, listed, step_at}

module _ (near far : ℕ → ℕ) (v : ℕ) where
  step_on : (m c : ℕ) → (near c ≡ v → ⊥) → scan near far v (suc m) c ≡ scan near far v m (c + 1)
  step_on m c ne = ap (λ b. cond b (Some (step_at c (far c))) (scan near far v m (c + 1))) (ne_eqb (near c) v ne)

  scan_none : (m c : ℕ) → ((k : ℕ) → c ≤ k → k < c + m → near k ≡ v → ⊥) → scan near far v m c ≡ None
  scan_none zero c none_at = refl
  scan_none (suc m) c none_at =
      step_on m c (none_at c (omega arith) (omega arith))
      ∙ scan_none m (c + 1) (λ k l h. none_at k (omega arith) (omega arith))

  scan_first : (m c i : ℕ) → c ≤ i → i < c + m → near i ≡ v → ((k : ℕ) → c ≤ k → k < i → near k ≡ v → ⊥)
      → scan near far v m c ≡ Some (step_at i (far i))
  scan_first zero c i l h e none_at = absurd (omega arith)
  scan_first (suc m) c i l h e none_at =
      ⊎_elim
      (λ z. ap (λ b. cond b (Some (step_at c (far c))) (scan near far v m (c + 1))) (eq-eqb (near c) v (ap near z ∙ e))
      ∙ ap (λ k. Some (step_at k (far k))) z)
      (λ ne.
      let more : c < i = omega arith in
      step_on m c (none_at c (omega arith) more)
      ∙ scan_first m (c + 1) i (omega (arith, more)) (omega arith) e (λ k le lt. none_at k (omega arith) lt))
      (cases_eq c i)

  pub listed_none : (arcs c : ℕ) → ((k : ℕ) → c ≤ k → k < arcs → near k ≡ v → ⊥) → listed near far arcs v c ≡ None
  listed_none arcs c none_at = scan_none (arcs - c) c (λ k l h. none_at k l (omega arith))

  pub listed_first : (arcs c i : ℕ) → c ≤ i → i < arcs → near i ≡ v → ((k : ℕ) → c ≤ k → k < i → near k ≡ v → ⊥)
      → listed near far arcs v c ≡ Some (step_at i (far i))
  listed_first arcs c i l h = scan_first (arcs - c) c i l (omega arith)
