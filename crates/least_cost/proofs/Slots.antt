-- The greatest and the least number of a range that a search finds.
use Rattle.std.proofs.Common.{◌≡◌, ℕ, zero, suc, ◌+◌, ◌-◌, ◌<◌, ◌≤◌, Bool, true, false, List, [], ◌∷◌, Some, None, Option, unwrap_or, MatchOption, IfSome, refl, sym, ap, ◌∙◌, subst, arith}
use Rattle.std.proofs.lemmas.Bool.{cond-true, cond-false, cond_both}
use Rattle.std.proofs.lemmas.Iterator.{first_from_Range}
use Rattle.std.proofs.iter.Yields.{nat_range_steps}
use Rattle.std.specs.declared.ops.Range.{Range}
use Rattle.std.specs.Fn.{CalledAt}
use Rattle.std.specs.Iterator.{YieldsThen, FindsItem}
use Rattle.std.specs.List.{FoldsTo}
use denote.Param.Members.{Mut}
use denote.Ref.{Bor}
use Rattle.plan_theory.specs.Plans.{greatest, least_from}
use Rattle.plan_theory.proofs.Rows.{least_from_is}

-- what the end of a range gives
abbrev pub steps_back : Range ℕ → Option ℕ → Range ℕ → Type 0
steps_back s r t =
    (t.start ≡ s.start)
    × MatchOption r ((s.end - s.start ≡ 0) × (t.end ≡ s.end))
    (λ x. (0 < s.end - s.start) × (x ≡ t.end) × (s.end ≡ t.end + 1))

-- searches over a range from 0 on, where the closure answers a test
module _ {F : Type 0} (g : Mut F (Bor ℕ × Unit {0}) Bool) (f : F) (test : ℕ → Bool)
    (k : (x : ℕ) (b : Bool) (q : F) → CalledAt g f x b q → (q ≡ f) × (b ≡ test x)) where
  greatest_found : (xs : List ℕ) (p j : F) (s u : Range ℕ) (r : Option ℕ) → p ≡ f → s.start ≡ 0
      → YieldsThen steps_back s xs r u → FoldsTo (λ v x q. CalledAt g v x false q) p xs j
      → IfSome r (λ x. (h : F) × CalledAt g j x true h) → unwrap_or r 0 ≡ greatest s.end test
  greatest_found [] p j s u None e z y c h =
      let none : s.end ≡ 0 = omega (arith, ap (λ (w : Range ℕ). w.end) y.1, ap (λ (w : Range ℕ). w.start) y.1, y.2.1.0) in
      ap (λ (n : ℕ). greatest n test) (sym none)
  greatest_found [] p j s u (Some x) e z y c h =
      let last : s.end ≡ suc x = omega (arith, ap (λ (w : Range ℕ). w.end) y.1, y.2.1.1, y.2.1.2) in
      let here = (k x true h.0 (subst (λ (v : F). CalledAt g v x true h.0) (sym c ∙ e) h.1)).1 in
      sym (ap (λ (n : ℕ). greatest n test) last ∙ cond-true _ _ _ (sym here))
  greatest_found (x ∷ xs) p j s u r e z y c h =
      let w = y.1.0 in
      let last : s.end ≡ suc x = omega (arith, y.1.1.1.1, y.1.1.1.2) in
      let rest : x ≡ w.end = y.1.1.1.1 in
      let here = k x false c.0 (subst (λ (v : F). CalledAt g v x false c.0) e c.1) in
      greatest_found xs c.0 j w u r here.0 (y.1.1.0 ∙ z) (y.0, y.1.2, y.2) c.2 h
      ∙ sym (ap (λ (n : ℕ). greatest n test) last ∙ (cond-false _ _ _ (sym here.1) ∙ ap (λ (n : ℕ). greatest n test) rest))

  pub greatest_from_rfind : (n : ℕ) (u : Range ℕ) (r : Option ℕ)
      → FindsItem steps_back g (record { start = 0; end = n }) f r u → unwrap_or r 0 ≡ greatest n test
  greatest_from_rfind n u r d = greatest_found d.0 f d.1 (record { start = 0; end = n }) u r refl refl d.2 d.3 d.4

  pub least_from_find : (n : ℕ) (u : Range ℕ) (r : Option ℕ)
      → FindsItem nat_range_steps g (record { start = 0; end = n }) f r u → unwrap_or r n ≡ least_from n 0 test
  least_from_find n u r d =
      by r
      (first_from_Range (record { start = 0; end = n }) u f r (λ x. test x ≡ true) (λ x. test x ≡ false) d
      (λ x q c. sym (k x true q c).1) (λ x q c. let z = k x false q c in (z.0, sym z.1)))
    where
      by : (o : Option ℕ)
          → MatchOption o ((i : ℕ) → 0 ≤ i → i < n → test i ≡ false)
          (λ x. (0 ≤ x) × (x < n) × (test x ≡ true) × ((i : ℕ) → 0 ≤ i → i < x → test i ≡ false))
          → unwrap_or o n ≡ least_from n 0 test
      by None h = sym (least_from_is n 0 n test h (omega arith) (omega arith) (λ l. absurd (omega arith)))
      by (Some x) h = sym (least_from_is n 0 x test h.3 (omega arith) (omega arith) (λ l. h.2))

pub least_within : (k t : ℕ) (f : ℕ → Bool) → least_from k t f ≤ t + k
least_within zero t f = omega arith
least_within (suc k) t f =
    cond_both (f t) t (least_from k (suc t) f) (λ x. x ≤ t + suc k) (λ e. omega arith)
    (λ e. omega (arith, least_within k (suc t) f))
