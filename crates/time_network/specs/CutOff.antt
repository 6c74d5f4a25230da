-- The arcs that enter source and sink are listed: nothing else, and all of them.
use Rattle.std.specs.Prelude.{◌≡◌, ℕ, ◌+◌, ◌-◌, ◌*◌, ◌/◌, ◌%◌, ◌<◌, ◌≤◌, true, cond, pos, ◌+ℤ◌, ◌-ℤ◌, Some, None, Option, nat_lt}
use Rattle.std.proofs.Common.{arith, inl, inr, ⊎_elim, sym, ap, ◌∙◌, subst}
use Rattle.std.proofs.lemmas.Bool.{lt-ltb, le-ltb, ltb-true, cases_lt, cases_eq, cond-true, cond-false}
use Rattle.std.proofs.lemmas.Nat.{mul-add-lt, div-mul-add, mod-mul-add, div_below}
use Rattle.std.proofs.lemmas.Int.{ints}
use Rattle.model.specs.Meaning.{Meaning, Bounds}
use Rattle.flow.specs.declared.network.Step.{Step}
use Rattle.flow.specs.Answers.{Names, Told, Lists}
use Rattle.plan_theory.specs.TimeNetwork.{point, cut_to, here, next, lag_tail, lag_head, on_arc, back_arc, lag_arc, time_net}
use Rattle.plan_theory.specs.TimeArcs.{on_tail, on_head, back_tail, back_head, lag_tail_is, lag_head_is, on_exists, back_exists, lag_exists, each_arc, point_past}
use Rattle.time_network.specs.Seeking.{seek, seek_sought, seek_before, seek_found}
use Rattle.time_network.specs.Listing.{step, early, late, taken, in_row, entering_source, entering_sink}
use Rattle.time_network.specs.Points.{point_source, point_sink, last_slot, past_last_slot, cut_low, cut_low_only, cut_high, cut_high_only, cut_most, below_cut, below_cut_only}
use Rattle.time_network.specs.Telling.{told_by, some_cases, none_some, names_of}

module _ (m : Meaning) (b : Bounds m) where
  last : m.horizon - 1 < m.horizon
  last = last_slot m.horizon b.h_low

  past_last : (a : ℕ) → next m a (m.horizon - 1) ≡ 1
  past_last a = past_last_slot m.horizon a b.h_low

  -- the arcs that enter source or sink, v: an arc of each activity, then of each lag the first `count` by `slot`
  module _ (v : ℕ) (arc node : ℕ → ℕ) (count slot : ℕ → ℕ)
      (arc_in : (a : ℕ) → a < m.n → arc a < (time_net m).arcs)
      (arc_head : (a : ℕ) → a < m.n → (time_net m).head (arc a) ≡ v)
      (arc_tail : (a : ℕ) → a < m.n → (time_net m).tail (arc a) ≡ node a)
      (slot_in : (u : ℕ) → u < m.horizon → slot u < m.horizon)
      (few : (k : ℕ) → count k ≤ m.horizon)
      (ends_here : (k u : ℕ) → k < m.lags → u < count k → lag_head m k (slot u) ≡ v)
    where
      abbrev places : ℕ
      places = m.lags * 128

      abbrev at_row : ℕ → ℕ
      at_row c = seek (taken count) places (c - m.n)

      abbrev in_rows : ℕ → Option Step
      in_rows c = cond (nat_lt c m.n) (step (arc c) (node c) (c + 1)) (in_row m slot (at_row c))

      rows_sound : (c : ℕ) (s : Step) → in_rows c ≡ Some s
          → Names (time_net m) (time_net m).head (time_net m).tail v c s
      rows_sound c s e =
          ⊎_elim
          (λ x. let l = ltb-true c m.n x.0 in
          names_of m (time_net m).head (time_net m).tail v c (arc c) (node c) (c + 1) s x.1
          (arc_in c l) (arc_head c l) (arc_tail c l) (omega arith) (omega (arith, b.n_high)))
          (λ x.
          let j = at_row c in
          let y = some_cases (nat_lt j places) (record { arc = lag_arc m (j / 128) (slot (j % 128)); node = lag_tail m (j / 128) (slot (j % 128)); next = m.n + (j + 1) }) s None x.1 in
          ⊎_elim
          (λ z.
          let l = ltb-true j places z.0 in
          let q = seek_found (taken count) places (c - m.n) l in
          let k = j / 128 in
          let u = j % 128 in
          let lk = div_below j 128 m.lags (omega arith) l in
          let lu = ltb-true u (count k) (q.hit l) in
          let ls = slot_in u (omega (arith, few k)) in
          names_of m (time_net m).head (time_net m).tail v c (lag_arc m k (slot u)) (lag_tail m k (slot u)) (m.n + (j + 1)) s z.1
          (lag_exists m k (slot u) lk ls) (lag_head_is m k (slot u) ls ∙ ends_here k u lk lu) (lag_tail_is m k (slot u) ls)
          (omega (arith, q.low)) (omega (arith, b.n_high, b.lags_ok)))
          (λ z. absurd (none_some s z.1))
          y)
          (some_cases (nat_lt c m.n) _ s _ e)

      rows_told_arc : (a : ℕ) → a < m.n → Told in_rows (arc a) 0
      rows_told_arc a la =
          told_by in_rows (arc a) a (λ c. Unit {0})
          (λ c l g. (
            record { arc = arc c; node = node c; next = c + 1 },
            cond-true _ _ _ (lt-ltb c m.n (omega arith)),
            ⊎_elim (λ e. inl (ap arc e)) (λ ne. inr (omega arith, omega arith, tt)) (cases_eq c a),
          ))
          (a + 1) 0 (omega arith) (omega arith) tt

      rows_told_lag : (k u : ℕ) → k < m.lags → u < count k → Told in_rows (lag_arc m k (slot u)) 0
      rows_told_lag k u lk lu =
          let i : ℕ = k * 128 + u in
          let narrow : u < 128 = omega (arith, few k, b.h_high) in
          let is_k : i / 128 ≡ k = div-mul-add k 128 u narrow in
          let is_u : i % 128 ≡ u = mod-mul-add k 128 u narrow in
          let li : i < places = omega (arith, mul-add-lt k 128 u m.lags lk narrow) in
          let lu' : i % 128 < count (i / 128) =
          subst (λ (x : ℕ). x < count (i / 128)) (sym is_u) (subst (λ (x : ℕ). u < count x) (sym is_k) lu) in
          let yes : taken count i ≡ true = lt-ltb (i % 128) (count (i / 128)) lu' in
          let same : lag_arc m (i / 128) (slot (i % 128)) ≡ lag_arc m k (slot u) = cc in
          told_by in_rows (lag_arc m k (slot u)) (m.n + i) (λ c. Unit {0})
          (λ c l g. ⊎_elim
          (λ x. (
            record { arc = arc c; node = node c; next = c + 1 },
            cond-true _ _ _ (lt-ltb c m.n x),
            inr (omega arith, omega arith, tt),
          ))
          (λ x.
          let j = at_row c in
          let lj = seek_before (taken count) places (c - m.n) i (omega arith) li yes in
          let q = seek_sought (taken count) places (c - m.n) (omega arith) in (
            record { arc = lag_arc m (j / 128) (slot (j % 128)); node = lag_tail m (j / 128) (slot (j % 128)); next = m.n + (j + 1) },
            cond-false _ _ _ (le-ltb c m.n x) ∙ cond-true _ _ _ (lt-ltb j places (omega arith)),
            ⊎_elim (λ e. inl (ap (λ (y : ℕ). lag_arc m (y / 128) (slot (y % 128))) e ∙ same))
                (λ ne. inr (omega (arith, q.low), omega arith, tt))
                (cases_eq j i),
          ))
          (cases_lt c m.n))
          (m.n + i + 1) 0 (omega arith) (omega arith) tt

  -- an early arc of a lag ends in the source, and an arc that does is early
  early_ends : (k u : ℕ) → u < early m k → lag_head m k u ≡ 0
  early_ends k u l =
      let x = below_cut_only m.horizon u (pos 1 -ℤ (m.lag k).gap) l in
      ap (point m.horizon (m.lag k).to) (cut_low m.horizon (pos u +ℤ (m.lag k).gap) (omega (arith, ints)))

  early_only : (k u : ℕ) → u < m.horizon → lag_head m k u ≡ 0 → u < early m k
  early_only k u l e =
      let x = point_source m.horizon (m.lag k).to (cut_to m.horizon (pos u +ℤ (m.lag k).gap)) e in
      let y = cut_low_only m.horizon (pos u +ℤ (m.lag k).gap) b.h_low x in
      below_cut m.horizon u (pos 1 -ℤ (m.lag k).gap) l (omega (arith, ints))

  -- a late arc of a lag ends in the sink, and an arc that does is late
  from_last : (u : ℕ) → m.horizon - 1 - u < m.horizon
  from_last u = omega (arith, b.h_low)

  late_ends : (k u : ℕ) → u < late m k → lag_head m k (m.horizon - 1 - u) ≡ 1
  late_ends k u l =
      let x = below_cut_only m.horizon u (m.lag k).gap l in
      let o = cut_most m.horizon (m.lag k).gap in
      let t : ℕ = m.horizon - 1 - u in
      let e : t + (u + 1) ≡ m.horizon = omega arith in
      ap (point m.horizon (m.lag k).to) (cut_high m.horizon (pos t +ℤ (m.lag k).gap) (omega (arith, ints)))
      ∙ point_past m.horizon (m.lag k).to m.horizon b.h_low (omega arith)

  late_only : (k t : ℕ) → t < m.horizon → lag_head m k t ≡ 1 → m.horizon - 1 - t < late m k
  late_only k t l e =
      let x = point_sink m.horizon (m.lag k).to (cut_to m.horizon (pos t +ℤ (m.lag k).gap)) e in
      let y = cut_high_only m.horizon (pos t +ℤ (m.lag k).gap) b.h_low x in
      let u : ℕ = m.horizon - 1 - t in
      let f : t + (u + 1) ≡ m.horizon = omega arith in
      below_cut m.horizon u (m.lag k).gap (omega arith) (omega (arith, ints))

  early_most : (k : ℕ) → early m k ≤ m.horizon
  early_most k = cut_most m.horizon (pos 1 -ℤ (m.lag k).gap)

  late_most : (k : ℕ) → late m k ≤ m.horizon
  late_most k = cut_most m.horizon (m.lag k).gap

  pub entering_source_lists : Lists (time_net m) (time_net m).head (time_net m).tail 0 (entering_source m)
  entering_source_lists =
      record {
        sound = rows_sound 0 (λ a. back_arc m a 0) (λ a. next m a 0) (early m) (λ u. u) arc_in arc_head arc_tail slot_in early_most ends_here;
        complete = each_arc m b (λ k. (time_net m).head k ≡ 0 → Told (entering_source m) k 0)
            (λ a t la lt e.
            let z = point_source m.horizon a (t + 1) (sym (on_head m a t la lt) ∙ e) in absurd (omega arith))
            (λ a t la lt e.
            let z = point_source m.horizon a t (sym (back_head m a t la lt) ∙ e) in
            subst (λ (x : ℕ). Told (entering_source m) (back_arc m a x) 0) (sym z)
            (rows_told_arc 0 (λ i. back_arc m i 0) (λ i. next m i 0) (early m) (λ u. u) arc_in arc_head arc_tail slot_in early_most ends_here a la))
            (λ k t lk lt e.
            rows_told_lag 0 (λ i. back_arc m i 0) (λ i. next m i 0) (early m) (λ u. u) arc_in arc_head arc_tail slot_in early_most ends_here k t lk
            (early_only k t lt (sym (lag_head_is m k t lt) ∙ e)));
      }
    where
      arc_in : (a : ℕ) → a < m.n → back_arc m a 0 < (time_net m).arcs
      arc_in a l = back_exists m a 0 l b.h_low

      arc_head : (a : ℕ) → a < m.n → (time_net m).head (back_arc m a 0) ≡ 0
      arc_head a l = back_head m a 0 l b.h_low

      arc_tail : (a : ℕ) → a < m.n → (time_net m).tail (back_arc m a 0) ≡ next m a 0
      arc_tail a l = back_tail m a 0 l b.h_low

      slot_in : (u : ℕ) → u < m.horizon → u < m.horizon
      slot_in u l = l

      ends_here : (k u : ℕ) → k < m.lags → u < early m k → lag_head m k u ≡ 0
      ends_here k u lk l = early_ends k u l

  pub entering_sink_lists : Lists (time_net m) (time_net m).head (time_net m).tail 1 (entering_sink m)
  entering_sink_lists =
      record {
        sound = rows_sound 1 (λ a. on_arc m a (m.horizon - 1)) (λ a. here m a (m.horizon - 1)) (late m) (λ u. m.horizon - 1 - u)
            arc_in arc_head arc_tail slot_in late_most ends_here;
        complete = each_arc m b (λ k. (time_net m).head k ≡ 1 → Told (entering_sink m) k 0)
            (λ a t la lt e.
            let z = point_sink m.horizon a (t + 1) (sym (on_head m a t la lt) ∙ e) in
            let y : m.horizon - 1 ≡ t = omega arith in
            subst (λ (x : ℕ). Told (entering_sink m) (on_arc m a x) 0) y
            (rows_told_arc 1 (λ i. on_arc m i (m.horizon - 1)) (λ i. here m i (m.horizon - 1)) (late m) (λ u. m.horizon - 1 - u)
            arc_in arc_head arc_tail slot_in late_most ends_here a la))
            (λ a t la lt e.
            let z = point_sink m.horizon a t (sym (back_head m a t la lt) ∙ e) in absurd (omega arith))
            (λ k t lk lt e.
            let y : m.horizon - 1 - (m.horizon - 1 - t) ≡ t = omega arith in
            subst (λ (x : ℕ). Told (entering_sink m) (lag_arc m k x) 0) y
            (rows_told_lag 1 (λ i. on_arc m i (m.horizon - 1)) (λ i. here m i (m.horizon - 1)) (late m) (λ u. m.horizon - 1 - u)
            arc_in arc_head arc_tail slot_in late_most ends_here k (m.horizon - 1 - t) lk
            (late_only k t lt (sym (lag_head_is m k t lt) ∙ e))));
      }
    where
      arc_in : (a : ℕ) → a < m.n → on_arc m a (m.horizon - 1) < (time_net m).arcs
      arc_in a l = on_exists m a (m.horizon - 1) l last

      arc_head : (a : ℕ) → a < m.n → (time_net m).head (on_arc m a (m.horizon - 1)) ≡ 1
      arc_head a l = on_head m a (m.horizon - 1) l last ∙ past_last a

      arc_tail : (a : ℕ) → a < m.n → (time_net m).tail (on_arc m a (m.horizon - 1)) ≡ here m a (m.horizon - 1)
      arc_tail a l = on_tail m a (m.horizon - 1) l last

      slot_in : (u : ℕ) → u < m.horizon → m.horizon - 1 - u < m.horizon
      slot_in u l = from_last u

      ends_here : (k u : ℕ) → k < m.lags → u < late m k → lag_head m k (m.horizon - 1 - u) ≡ 1
      ends_here k u lk l = late_ends k u l
