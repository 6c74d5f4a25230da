-- The index of lags, one lag after another, from the last to the first.
use Rattle.std.proofs.Common.{◌≡◌, ℕ, ◌+◌, ◌<◌, ◌≤◌, true, false, List, length, get_or, set, replicate, sym, ap, ◌∙◌, subst, ⊎_elim, arith}
use Rattle.std.proofs.lemmas.List.{get_or-set_same, get_or-set_other, get_or-replicate}
use Rattle.std.proofs.lemmas.Bool.{eq-eqb, ne_eqb, cases_eq}
use Rattle.model.specs.declared.lag.Lag.{Lag}
use Rattle.time_network.specs.declared.index.End.{End}
use Rattle.time_network.specs.Seeking.{seek, seek_past, seek_here, seek_skip}
use Rattle.time_network.specs.Held.{at_end, lag_at, touches, Firsts, Nexts}

module _ (end : End) (lags : List Lag) (count : ℕ) where
  pub none_first : Firsts end lags count count (replicate 256 count)
  none_first a l = get_or-replicate 256 a count 0 l ∙ sym (seek_past (touches lags end a) count count (omega arith))

  pub none_next : (next : List ℕ) → Nexts end lags count count next
  none_next next j l = absurd (omega (arith, l.0, l.1))

  pub more_first : (k act : ℕ) (first : List ℕ) → k < count → length first ≡ 256
      → act ≡ at_end end (lag_at lags k) → Firsts end lags count (k + 1) first → Firsts end lags count k (set first act k)
  more_first k act first l size is before a la =
      ⊎_elim
      (λ e.
      let same : act ≡ a = sym e in
      let yes : touches lags end a k ≡ true = eq-eqb (at_end end (lag_at lags k)) a (sym is ∙ same) in
      ap (λ (i : ℕ). get_or (set first i k) a 0) same
      ∙ (get_or-set_same first a k 0 (omega arith) ∙ sym (seek_here (touches lags end a) count k yes)))
      (λ ne.
      let no : touches lags end a k ≡ false = ne_eqb (at_end end (lag_at lags k)) a (λ e. ne (sym e ∙ sym is)) in
      get_or-set_other first act a k 0 ne
      ∙ (before a la
      ∙ sym (seek_skip (touches lags end a) count k (k + 1) (omega arith) (omega arith)
      (λ i x y. let z : k ≡ i = omega arith in ap (touches lags end a) (sym z) ∙ no))))
      (cases_eq a act)

  pub more_next : (k act : ℕ) (first next : List ℕ) → k < count → count ≤ 256 → length next ≡ 256 → act < 256
      → act ≡ at_end end (lag_at lags k) → Firsts end lags count (k + 1) first → Nexts end lags count (k + 1) next
      → Nexts end lags count k (set next k (get_or first act 0))
  more_next k act first next l small size la is firsts before j lj =
      ⊎_elim
      (λ e.
      let same : k ≡ j = sym e in
      let here : get_or (set next k (get_or first act 0)) k 0
      ≡ seek (touches lags end (at_end end (lag_at lags k))) count (k + 1) =
      get_or-set_same next k (get_or first act 0) 0 (omega arith)
      ∙ (firsts act la ∙ ap (λ (i : ℕ). seek (touches lags end i) count (k + 1)) is) in
      subst
      (λ (i : ℕ). get_or (set next k (get_or first act 0)) i 0 ≡ seek (touches lags end (at_end end (lag_at lags i))) count (i + 1))
      same here)
      (λ ne. get_or-set_other next k j (get_or first act 0) 0 ne ∙ before j (omega (arith, lj.0), lj.1))
      (cases_eq j k)
