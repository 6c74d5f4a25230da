-- The arcs that leave each node are listed: nothing else, and all of them.
use Rattle.std.specs.Prelude.{◌≡◌, ℕ, ◌+◌, ◌-◌, ◌<◌, ◌≤◌, true, ◌&&◌, Some, None, ◌==◌, nat_lt, refl}
use Rattle.std.proofs.Common.{arith, inl, inr, ⊎_elim, sym, ap, ◌∙◌, subst}
use Rattle.std.proofs.lemmas.Bool.{lt-ltb, le-ltb, ltb-true, cases_lt, cases_eq, eq-eqb, ne_eqb, eqb-true, eqb-false, and_parts, and_from, cond-true, cond-false}
use Rattle.model.specs.Meaning.{Meaning, Bounds}
use Rattle.flow.specs.declared.network.Step.{Step}
use Rattle.flow.specs.Answers.{Names, Told, now_told, later_told, Lists}
use Rattle.plan_theory.specs.TimeNetwork.{point, here, next, lag_head, on_arc, back_arc, lag_arc, time_net}
use Rattle.plan_theory.specs.TimeArcs.{on_tail, on_head, back_tail, back_head, lag_tail_is, lag_head_is, on_exists, back_exists, lag_exists, each_arc}
use Rattle.time_network.specs.Seeking.{seek, Sought, seek_sought, seek_before}
use Rattle.time_network.specs.Listing.{step, leads, next_leading, leaving_source, leaving_sink, leaving_point}
use Rattle.time_network.specs.Points.{point_source, point_sink, point_same, last_slot, past_last_slot}
use Rattle.time_network.specs.Telling.{told_by, some_cases, none_some, test_some, names_of}

module _ (m : Meaning) (b : Bounds m) where
  -- the arcs that leave the source
  leaving_source_sound : (c : ℕ) (s : Step) → leaving_source m c ≡ Some s
      → Names (time_net m) (time_net m).tail (time_net m).head 0 c s
  leaving_source_sound c s e =
      ⊎_elim
      (λ x. let l = ltb-true c m.n x.0 in
      names_of m (time_net m).tail (time_net m).head 0 c (on_arc m c 0) (next m c 0) (c + 1) s x.1
      (on_exists m c 0 l b.h_low) (on_tail m c 0 l b.h_low) (on_head m c 0 l b.h_low) (omega arith) (omega (arith, b.n_high)))
      (λ x. ⊎_elim
      (λ y. let l = ltb-true (c - m.n) m.lags y.0 in
      names_of m (time_net m).tail (time_net m).head 0 c (lag_arc m (c - m.n) 0) (lag_head m (c - m.n) 0) (c + 1) s y.1
      (lag_exists m (c - m.n) 0 l b.h_low) (lag_tail_is m (c - m.n) 0 b.h_low) (lag_head_is m (c - m.n) 0 b.h_low)
      (omega arith) (omega (arith, b.n_high, b.lags_ok)))
      (λ y. absurd (none_some s y.1))
      (some_cases (nat_lt (c - m.n) m.lags) _ s None x.1))
      (some_cases (nat_lt c m.n) _ s _ e)

  source_told_on : (a : ℕ) → a < m.n → Told (leaving_source m) (on_arc m a 0) 0
  source_told_on a la =
      told_by (leaving_source m) (on_arc m a 0) a (λ c. Unit {0})
      (λ c l g. (
        record { arc = on_arc m c 0; node = next m c 0; next = c + 1 },
        cond-true _ _ _ (lt-ltb c m.n (omega arith)),
        ⊎_elim (λ e. inl (ap (λ (x : ℕ). on_arc m x 0) e)) (λ ne. inr (omega arith, omega arith, tt)) (cases_eq c a),
      ))
      (a + 1) 0 (omega arith) (omega arith) tt

  source_told_lag : (k : ℕ) → k < m.lags → Told (leaving_source m) (lag_arc m k 0) 0
  source_told_lag k lk =
      told_by (leaving_source m) (lag_arc m k 0) (m.n + k) (λ c. Unit {0})
      (λ c l g. ⊎_elim
      (λ x. (
        record { arc = on_arc m c 0; node = next m c 0; next = c + 1 },
        cond-true _ _ _ (lt-ltb c m.n x),
        inr (omega arith, omega arith, tt),
      ))
      (λ x. (
        record { arc = lag_arc m (c - m.n) 0; node = lag_head m (c - m.n) 0; next = c + 1 },
        cond-false _ _ _ (le-ltb c m.n x) ∙ cond-true _ _ _ (lt-ltb (c - m.n) m.lags (omega arith)),
        ⊎_elim (λ e. inl (ap (λ (y : ℕ). lag_arc m y 0) e)) (λ ne. inr (omega arith, omega arith, tt))
            (cases_eq (c - m.n) k),
      ))
      (cases_lt c m.n))
      (m.n + k + 1) 0 (omega arith) (omega arith) tt

  pub leaving_source_lists : Lists (time_net m) (time_net m).tail (time_net m).head 0 (leaving_source m)
  leaving_source_lists =
      record {
        sound = leaving_source_sound;
        complete = each_arc m b (λ k. (time_net m).tail k ≡ 0 → Told (leaving_source m) k 0)
            (λ a t la lt e.
            let z = point_source m.horizon a t (sym (on_tail m a t la lt) ∙ e) in
            subst (λ (x : ℕ). Told (leaving_source m) (on_arc m a x) 0) (sym z) (source_told_on a la))
            (λ a t la lt e.
            let z = point_source m.horizon a (t + 1) (sym (back_tail m a t la lt) ∙ e) in absurd (omega arith))
            (λ k t lk lt e.
            let z = point_source m.horizon (m.lag k).from t (sym (lag_tail_is m k t lt) ∙ e) in
            subst (λ (x : ℕ). Told (leaving_source m) (lag_arc m k x) 0) (sym z) (source_told_lag k lk));
      }

  -- the arcs that leave the sink
  last : m.horizon - 1 < m.horizon
  last = last_slot m.horizon b.h_low

  past_last : (a : ℕ) → next m a (m.horizon - 1) ≡ 1
  past_last a = past_last_slot m.horizon a b.h_low

  leaving_sink_sound : (c : ℕ) (s : Step) → leaving_sink m c ≡ Some s
      → Names (time_net m) (time_net m).tail (time_net m).head 1 c s
  leaving_sink_sound c s e =
      ⊎_elim
      (λ x. let l = ltb-true c m.n x.0 in
      names_of m (time_net m).tail (time_net m).head 1 c (back_arc m c (m.horizon - 1)) (here m c (m.horizon - 1)) (c + 1) s x.1
      (back_exists m c (m.horizon - 1) l last) (back_tail m c (m.horizon - 1) l last ∙ past_last c)
      (back_head m c (m.horizon - 1) l last) (omega arith) (omega (arith, b.n_high)))
      (λ x. absurd (none_some s x.1))
      (some_cases (nat_lt c m.n) _ s _ e)

  sink_told_back : (a : ℕ) → a < m.n → Told (leaving_sink m) (back_arc m a (m.horizon - 1)) 0
  sink_told_back a la =
      told_by (leaving_sink m) (back_arc m a (m.horizon - 1)) a (λ c. Unit {0})
      (λ c l g. (
        record { arc = back_arc m c (m.horizon - 1); node = here m c (m.horizon - 1); next = c + 1 },
        cond-true _ _ _ (lt-ltb c m.n (omega arith)),
        ⊎_elim (λ e. inl (ap (λ (x : ℕ). back_arc m x (m.horizon - 1)) e)) (λ ne. inr (omega arith, omega arith, tt))
            (cases_eq c a),
      ))
      (a + 1) 0 (omega arith) (omega arith) tt

  pub leaving_sink_lists : Lists (time_net m) (time_net m).tail (time_net m).head 1 (leaving_sink m)
  leaving_sink_lists =
      record {
        sound = leaving_sink_sound;
        complete = each_arc m b (λ k. (time_net m).tail k ≡ 1 → Told (leaving_sink m) k 0)
            (λ a t la lt e.
            let z = point_sink m.horizon a t (sym (on_tail m a t la lt) ∙ e) in absurd (omega arith))
            (λ a t la lt e.
            let z = point_sink m.horizon a (t + 1) (sym (back_tail m a t la lt) ∙ e) in
            let y : m.horizon - 1 ≡ t = omega arith in
            subst (λ (x : ℕ). Told (leaving_sink m) (back_arc m a x) 0) y (sink_told_back a la))
            (λ k t lk lt e.
            let z = point_sink m.horizon (m.lag k).from t (sym (lag_tail_is m k t lt) ∙ e) in absurd (omega arith));
      }

  -- the arcs that leave the point (a, t + 1)
  module _ (a t : ℕ) (la : a < m.n) (lt : t + 1 < m.horizon) where
    leading : (k : ℕ) → k ≤ m.lags → Sought (leads m a) m.lags k (seek (leads m a) m.lags k)
    leading k l = seek_sought (leads m a) m.lags k l

    leaving_point_sound : (c : ℕ) (s : Step) → leaving_point m a t c ≡ Some s
        → Names (time_net m) (time_net m).tail (time_net m).head (here m a (t + 1)) c s
    leaving_point_sound c s e =
        ⊎_elim
        (λ x. let z = eqb-true c 0 x.0 in
        names_of m (time_net m).tail (time_net m).head (here m a (t + 1)) c (back_arc m a t) (here m a t) 1 s x.1
        (back_exists m a t la (omega arith)) (back_tail m a t la (omega arith)) (back_head m a t la (omega arith)) (omega arith) (omega arith))
        (λ x. ⊎_elim
        (λ y. let z = eqb-true c 1 y.0 in
        names_of m (time_net m).tail (time_net m).head (here m a (t + 1)) c (on_arc m a (t + 1)) (next m a (t + 1)) (next_leading m a 0) s y.1
        (on_exists m a (t + 1) la lt) (on_tail m a (t + 1) la lt) (on_head m a (t + 1) la lt) (omega arith)
        (omega (arith, (leading 0 (omega arith)).high, b.lags_ok)))
        (λ y. let w = test_some (nat_lt (c - 2) m.lags && leads m a (c - 2)) _ s y.1 in
        let v = and_parts (nat_lt (c - 2) m.lags) (leads m a (c - 2)) w.0 in
        let l = ltb-true (c - 2) m.lags v.0 in
        let q = leading (c - 2 + 1) (omega arith) in
        let n0 = eqb-false c 0 x.0 in
        let n1 = eqb-false c 1 y.0 in
        names_of m (time_net m).tail (time_net m).head (here m a (t + 1)) c (lag_arc m (c - 2) (t + 1)) (lag_head m (c - 2) (t + 1))
        (next_leading m a (c - 2 + 1)) s (cc)
        (lag_exists m (c - 2) (t + 1) l lt)
        (lag_tail_is m (c - 2) (t + 1) lt ∙ ap (λ (i : ℕ). point m.horizon i (t + 1)) (eqb-true (m.lag (c - 2)).from a v.1))
        (lag_head_is m (c - 2) (t + 1) lt) (omega (arith, q.low)) (omega (arith, q.high, b.lags_ok)))
        (some_cases (c == 1) _ s _ x.1))
        (some_cases (c == 0) _ s _ e)

    at_zero : leaving_point m a t 0 ≡ step (back_arc m a t) (here m a t) 1
    at_zero = refl

    at_one : leaving_point m a t 1 ≡ step (on_arc m a (t + 1)) (next m a (t + 1)) (next_leading m a 0)
    at_one = refl

    -- the cursors that are handed out: those of lags that lead from a
    abbrev Leading : ℕ → Type 0
    Leading c = (k : ℕ) → c ≡ 2 + k → k < m.lags → leads m a k ≡ true

    next_is_leading : (k : ℕ) → k ≤ m.lags → Leading (next_leading m a k)
    next_is_leading k l i e o =
        let z : i ≡ seek (leads m a) m.lags k = omega arith in
        ap (leads m a) z ∙ (leading k l).hit (omega arith)

    point_told_lag : (k : ℕ) → k < m.lags → leads m a k ≡ true → Told (leaving_point m a t) (lag_arc m k (t + 1)) 0
    point_told_lag k lk f =
        later_told 0 _ at_zero (later_told 1 _ at_one
        (told_by (leaving_point m a t) (lag_arc m k (t + 1)) (2 + k) (λ c. (2 ≤ c) × Leading c)
        (λ c l g.
        let i : c - 2 < m.lags = omega arith in
        let yes = g.1 (c - 2) (omega (arith, g.0)) i in
        let q = leading (c - 2 + 1) (omega arith) in (
          record { arc = lag_arc m (c - 2) (t + 1); node = lag_head m (c - 2) (t + 1); next = next_leading m a (c - 2 + 1) },
          cond-false _ _ _ (ne_eqb c 0 (λ e. omega (arith, g.0)))
              ∙ (cond-false _ _ _ (ne_eqb c 1 (λ e. omega (arith, g.0)))
              ∙ cond-true _ _ _ (and_from (nat_lt (c - 2) m.lags) (leads m a (c - 2)) (lt-ltb (c - 2) m.lags i) yes)),
          ⊎_elim (λ e. inl (ap (λ (y : ℕ). lag_arc m y (t + 1)) e))
              (λ ne. inr (
                omega (arith, q.low, g.0),
                omega (arith, seek_before (leads m a) m.lags (c - 2 + 1) k (omega arith) lk f),
                (omega arith, next_is_leading (c - 2 + 1) (omega arith)),
              ))
              (cases_eq (c - 2) k),
        ))
        (k + 3) (next_leading m a 0) (omega arith) (omega (arith, seek_before (leads m a) m.lags 0 k (omega arith) lk f))
        (omega arith, next_is_leading 0 (omega arith))))

    pub leaving_point_lists : Lists (time_net m) (time_net m).tail (time_net m).head (here m a (t + 1)) (leaving_point m a t)
    leaving_point_lists =
        record {
          sound = leaving_point_sound;
          complete = each_arc m b (λ k. (time_net m).tail k ≡ here m a (t + 1) → Told (leaving_point m a t) k 0)
              (λ i j li lj e.
              let z = point_same m.horizon i j a (t + 1) (omega arith) lt (sym (on_tail m i j li lj) ∙ e) in
              let p = z.0 in
              let q = z.1 in
              later_told 0 _ at_zero (now_told 1 _ at_one (cc)))
              (λ i j li lj e.
              let z = point_same m.horizon i (j + 1) a (t + 1) (omega arith) lt (sym (back_tail m i j li lj) ∙ e) in
              let p = z.0 in
              let q : j ≡ t = omega (arith, z.1) in
              now_told 0 _ at_zero (cc))
              (λ k j lk lj e.
              let z = point_same m.horizon (m.lag k).from j a (t + 1) (omega arith) lt (sym (lag_tail_is m k j lj) ∙ e) in
              subst (λ (x : ℕ). Told (leaving_point m a t) (lag_arc m k x) 0) (sym z.1)
              (point_told_lag k lk (eq-eqb (m.lag k).from a z.0)));
        }
