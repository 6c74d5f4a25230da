-- Of every network: unbounded arcs alone lead from source to sink, or some cut is finite.
use Rattle.std.proofs.Common.{◌≡◌, ℕ, zero, suc, ◌+◌, ◌<◌, ◌≤◌, Bool, true, false, not, ◌&&◌, ◌||◌, eqb, ◌⊎◌, sym, refl, ap, ◌∙◌, subst, inl, inr, ⊎_elim, arith}
use Rattle.std.proofs.lemmas.Bool.{cases_eq, cases_Bool, both_ways, and_parts, and_from, not-true, not_from_false, or_cases, or_left, or_right, eq-eqb, ne_eqb, eqb-true}
use Rattle.flow.specs.Sums.{sum_to, pick}
use Rattle.flow.specs.Nets.{Net, Sound, Unhindered}
use Rattle.flow.specs.Cuts.{Finite}
use Rattle.flow.proofs.Sums.{sum_to_but}

-- some number below n passes a test, or none does
find : (p : ℕ → Bool) (n : ℕ) → ((k : ℕ) × (k < n) × (p k ≡ true)) ⊎ ((k : ℕ) → k < n → p k ≡ false)
find p zero = inr (λ k l. absurd (omega arith))
find p (suc n) =
    ⊎_elim
    (λ e. inl (n, omega arith, e))
    (λ e. ⊎_elim
    (λ x. inl (x.0, omega (arith, x.1), x.2))
    (λ none. inr (λ k l. ⊎_elim (λ q. ap p q ∙ e) (λ ne. none k (omega arith)) (cases_eq k n)))
    (find p n))
    (cases_Bool (p n))

module _ (n : Net) (s : Sound n) where
  -- how many nodes are not in S
  left_out : (ℕ → Bool) → ℕ
  left_out S = sum_to (λ v. pick (not (S v)) 1) n.nodes

  -- an unbounded arc leaves S
  leaves : (ℕ → Bool) → ℕ → Bool
  leaves S k = (S (n.tail k) && n.unbounded k) && not (S (n.head k))

  more : (ℕ → Bool) → ℕ → ℕ → Bool
  more S u v = S v || eqb u v

  fewer : (S : ℕ → Bool) (u : ℕ) → u < n.nodes → S u ≡ false → left_out S ≡ left_out (more S u) + 1
  unfolding left_out more
  fewer S u l e =
      let f : ℕ → ℕ = λ v. pick (not (S v)) 1 in
      let g : ℕ → ℕ = λ v. pick (not (S v || eqb u v)) 1 in
      let but = sum_to_but f g u n.nodes l
      (λ v lv ne.
      ap (λ (x : Bool). pick (not x) 1) (same (S v) (eqb u v) (ne_eqb u v (λ q. ne (sym q))))) in
      let x : f u ≡ 1 = ap (λ (y : Bool). pick (not y) 1) e in
      let z : g u ≡ 0 = ap (λ (y : Bool). pick (not y) 1) (or_right (S u) (eqb u u) (eq-eqb u u refl)) in
      omega arith
    where
      same : (x y : Bool) → y ≡ false → x ≡ (x || y)
      same true y q = refl
      same false y q = sym q

  -- S settles it, or a node outside S is reached too
  settle : (S : ℕ → Bool) → S 0 ≡ true → ((v : ℕ) → S v ≡ true → Unhindered n v)
      → (Unhindered n 1 ⊎ Finite n) ⊎ ((v : ℕ) × (v < n.nodes) × (S v ≡ false) × Unhindered n v)
  unfolding leaves
  settle S z u = ⊎_elim go stop (find (leaves S) n.arcs)
    where
      go : (k : ℕ) × (k < n.arcs) × (leaves S k ≡ true)
          → (Unhindered n 1 ⊎ Finite n) ⊎ ((v : ℕ) × (v < n.nodes) × (S v ≡ false) × Unhindered n v)
      go x =
          let p = and_parts (S (n.tail x.0) && n.unbounded x.0) (not (S (n.head x.0))) x.2 in
          let q = and_parts (S (n.tail x.0)) (n.unbounded x.0) p.0 in
          let further = Unhindered.along x.0 x.1 q.1 (u _ q.0) in
          inr (n.head x.0, s.heads x.0 x.1, not-true _ p.1, further)

      stop : ((k : ℕ) → k < n.arcs → leaves S k ≡ false)
          → (Unhindered n 1 ⊎ Finite n) ⊎ ((v : ℕ) × (v < n.nodes) × (S v ≡ false) × Unhindered n v)
      stop none =
          inl (⊎_elim
          (λ e. inl (u 1 e))
          (λ e. inr (
            S,
            record {
              has_source = z;
              lacks_sink = e;
              none_unbounded = λ k l t b.
                  ⊎_elim (λ h. h)
                  (λ h. absurd (both_ways _ (none k l) (and_from _ _ (and_from _ _ t b) (not_from_false _ h))))
                  (cases_Bool (S (n.head k)));
            },
          ))
          (cases_Bool (S 1)))

  grow : (fuel : ℕ) (S : ℕ → Bool) → left_out S ≤ fuel → S 0 ≡ true → ((v : ℕ) → S v ≡ true → Unhindered n v)
      → Unhindered n 1 ⊎ Finite n
  unfolding more
  grow zero S few z u =
      ⊎_elim (λ x. x) (λ x. absurd (omega (arith, fewer S x.0 x.1 x.2))) (settle S z u)
  grow (suc fuel) S few z u =
      ⊎_elim (λ x. x)
      (λ x.
      grow fuel (more S x.0) (omega (arith, fewer S x.0 x.1 x.2)) (or_left _ _ z)
      (λ v q.
      ⊎_elim (u v) (λ r. subst (Unhindered n) (eqb-true x.0 v r) x.3)
      (or_cases (S v) (eqb x.0 v) q)))
      (settle S z u)

  pub unhindered_or_finite : Unhindered n 1 ⊎ Finite n
  unhindered_or_finite =
      grow (left_out (λ v. eqb v 0)) (λ v. eqb v 0) (omega arith) refl
      (λ v e. subst (Unhindered n) (sym (eqb-true v 0 e)) Unhindered.source)
