-- The arcs that enter a point are listed: nothing else, and all of them.
use Rattle.std.specs.Prelude.{◌≡◌, ℕ, ◌+◌, ◌-◌, ◌<◌, ◌≤◌, Bool, true, false, ◌&&◌, T, ℤ, pos, ◌+ℤ◌, ◌≤ℤ◌, ◌<ℤ◌, Some, ◌==◌, int_le, int_lt, nat_lt, unsigned_abs, refl}
use Rattle.std.proofs.Common.{arith, inl, inr, ⊎_elim, sym, ap, ◌∙◌, subst}
use Rattle.std.proofs.lemmas.Bool.{lt-ltb, ltb-true, cases_eq, eq-eqb, ne_eqb, eqb-true, eqb-false, and_parts, and_from, cond-true, cond-false}
use Rattle.std.proofs.lemmas.Int.{ints}
use Rattle.model.specs.Meaning.{Meaning, Bounds}
use Rattle.flow.specs.declared.network.Step.{Step}
use Rattle.flow.specs.Answers.{Names, Told, now_told, later_told, Lists}
use Rattle.plan_theory.specs.TimeNetwork.{point, cut_to, here, next, lag_tail, lag_head, on_arc, back_arc, lag_arc, time_net}
use Rattle.plan_theory.specs.TimeArcs.{on_tail, on_head, back_tail, back_head, lag_tail_is, lag_head_is, on_exists, back_exists, lag_exists, each_arc}
use Rattle.time_network.specs.Seeking.{seek, Sought, seek_sought, seek_before, seek_found}
use Rattle.time_network.specs.Listing.{step, ends, next_ending, begins, lands, entering_point}
use Rattle.time_network.specs.Points.{point_same, cut_inner, cut_inner_only}
use Rattle.time_network.specs.Telling.{told_by, some_cases, test_some, some_same, names_of}

T_true : (x : Bool) → T x → x ≡ true
T_true true t = refl
T_true false t = absurd t

le_le_int : (x y : ℤ) → x ≤ℤ y → int_le x y ≡ true
le_le_int x y l = T_true (int_le x y) l.le

lt_lt_int : (x y : ℤ) → x <ℤ y → int_lt x y ≡ true
lt_lt_int x y l = T_true (int_lt x y) l.lt

module _ (m : Meaning) (b : Bounds m) where
  -- the arcs that enter the point (a, t + 1)
  module _ (a t : ℕ) (la : a < m.n) (lt : t + 1 < m.horizon) where
    ending : (k : ℕ) → k ≤ m.lags → Sought (ends m a) m.lags k (seek (ends m a) m.lags k)
    ending k l = seek_sought (ends m a) m.lags k l

    -- what it is for an arc of lag k to land
    pub record Landed (k : ℕ) : Type 0 where
      pub to_a : (m.lag k).to ≡ a
      pub from_in : unsigned_abs (begins m (t + 1) k) < m.horizon
      pub lands_at : pos (unsigned_abs (begins m (t + 1) k)) +ℤ (m.lag k).gap ≡ pos (t + 1)

    landed : (k : ℕ) → lands m a (t + 1) k ≡ true → Landed k
    landed k e =
        let x = and_parts (ends m a k) (int_le (pos 0) (begins m (t + 1) k) && int_lt (begins m (t + 1) k) (pos m.horizon)) e in
        let y = and_parts (int_le (pos 0) (begins m (t + 1) k)) (int_lt (begins m (t + 1) k) (pos m.horizon)) x.1 in
        record {
          to_a = eqb-true (m.lag k).to a x.0;
          from_in = omega (arith, ints);
          lands_at = omega (arith, ints);
        }

    landed_head : (k : ℕ) → Landed k → lag_head m k (unsigned_abs (begins m (t + 1) k)) ≡ here m a (t + 1)
    landed_head k d =
        ap (point m.horizon (m.lag k).to)
        (cut_inner m.horizon (t + 1) (pos (unsigned_abs (begins m (t + 1) k)) +ℤ (m.lag k).gap) lt d.lands_at)
        ∙ ap (λ (x : ℕ). point m.horizon x (t + 1)) d.to_a

    entering_point_sound : (c : ℕ) (s : Step) → entering_point m a t c ≡ Some s
        → Names (time_net m) (time_net m).head (time_net m).tail (here m a (t + 1)) c s
    entering_point_sound c s e =
        ⊎_elim
        (λ x. let z = eqb-true c 0 x.0 in
        names_of m (time_net m).head (time_net m).tail (here m a (t + 1)) c (on_arc m a t) (here m a t) 1 s x.1
        (on_exists m a t la (omega arith)) (on_head m a t la (omega arith)) (on_tail m a t la (omega arith)) (omega arith) (omega arith))
        (λ x. ⊎_elim
        (λ y. let z = eqb-true c 1 y.0 in
        names_of m (time_net m).head (time_net m).tail (here m a (t + 1)) c (back_arc m a (t + 1)) (next m a (t + 1)) (next_ending m a 0) s y.1
        (back_exists m a (t + 1) la lt) (back_head m a (t + 1) la lt) (back_tail m a (t + 1) la lt) (omega arith)
        (omega (arith, (ending 0 (omega arith)).high, b.lags_ok)))
        (λ y.
        let w = test_some (nat_lt (c - 2) m.lags && ends m a (c - 2)) _ s y.1 in
        let r = seek (lands m a (t + 1)) m.lags (c - 2) in
        let f = test_some (nat_lt r m.lags) _ s w.1 in
        let lr = ltb-true r m.lags f.0 in
        let q = seek_found (lands m a (t + 1)) m.lags (c - 2) lr in
        let d = landed r (q.hit lr) in
        let o = ending (r + 1) (omega arith) in
        let n0 = eqb-false c 0 x.0 in
        let n1 = eqb-false c 1 y.0 in
        names_of m (time_net m).head (time_net m).tail (here m a (t + 1)) c
        (lag_arc m r (unsigned_abs (begins m (t + 1) r))) (lag_tail m r (unsigned_abs (begins m (t + 1) r))) (next_ending m a (r + 1)) s (some_same _ s f.1)
        (lag_exists m r (unsigned_abs (begins m (t + 1) r)) lr d.from_in)
        (lag_head_is m r (unsigned_abs (begins m (t + 1) r)) d.from_in ∙ landed_head r d)
        (lag_tail_is m r (unsigned_abs (begins m (t + 1) r)) d.from_in)
        (omega (arith, q.low, o.low)) (omega (arith, o.high, b.lags_ok)))
        (some_cases (c == 1) _ s _ x.1))
        (some_cases (c == 0) _ s _ e)

    in_zero : entering_point m a t 0 ≡ step (on_arc m a t) (here m a t) 1
    in_zero = refl

    in_one : entering_point m a t 1 ≡ step (back_arc m a (t + 1)) (next m a (t + 1)) (next_ending m a 0)
    in_one = refl

    -- the cursors that are handed out: those of lags that lead to a
    abbrev Ending : ℕ → Type 0
    Ending c = (k : ℕ) → c ≡ 2 + k → k < m.lags → ends m a k ≡ true

    next_is_ending : (k : ℕ) → k ≤ m.lags → Ending (next_ending m a k)
    next_is_ending k l i e o =
        let z : i ≡ seek (ends m a) m.lags k = omega arith in
        ap (ends m a) z ∙ (ending k l).hit (omega arith)

    point_told_landing : (k : ℕ) → k < m.lags → lands m a (t + 1) k ≡ true
        → Told (entering_point m a t) (lag_arc m k (unsigned_abs (begins m (t + 1) k))) 0
    point_told_landing k lk f =
        let to_a : ends m a k ≡ true = eq-eqb (m.lag k).to a (landed k f).to_a in
        later_told 0 _ in_zero (later_told 1 _ in_one
        (told_by (entering_point m a t) (lag_arc m k (unsigned_abs (begins m (t + 1) k))) (2 + k) (λ c. (2 ≤ c) × Ending c)
        (λ c l g.
        let i : c - 2 < m.lags = omega arith in
        let yes = g.1 (c - 2) (omega (arith, g.0)) i in
        let r = seek (lands m a (t + 1)) m.lags (c - 2) in
        let lr = seek_before (lands m a (t + 1)) m.lags (c - 2) k (omega arith) lk f in
        let w = seek_sought (lands m a (t + 1)) m.lags (c - 2) (omega arith) in
        let q = ending (r + 1) (omega arith) in (
          record { arc = lag_arc m r (unsigned_abs (begins m (t + 1) r)); node = lag_tail m r (unsigned_abs (begins m (t + 1) r)); next = next_ending m a (r + 1) },
          cond-false _ _ _ (ne_eqb c 0 (λ e. omega (arith, g.0)))
              ∙ (cond-false _ _ _ (ne_eqb c 1 (λ e. omega (arith, g.0)))
              ∙ (cond-true _ _ _ (and_from (nat_lt (c - 2) m.lags) (ends m a (c - 2)) (lt-ltb (c - 2) m.lags i) yes)
              ∙ cond-true _ _ _ (lt-ltb r m.lags (omega arith)))),
          ⊎_elim (λ e. inl (ap (λ (y : ℕ). lag_arc m y (unsigned_abs (begins m (t + 1) y))) e))
              (λ ne. inr (
                omega (arith, q.low, w.low, g.0),
                omega (arith, seek_before (ends m a) m.lags (r + 1) k (omega arith) lk to_a),
                (omega arith, next_is_ending (r + 1) (omega arith)),
              ))
              (cases_eq r k),
        ))
        (k + 3) (next_ending m a 0) (omega arith) (omega (arith, seek_before (ends m a) m.lags 0 k (omega arith) lk to_a))
        (omega arith, next_is_ending 0 (omega arith))))

    lands_there : (k j : ℕ) → j < m.horizon → (m.lag k).to ≡ a → pos j +ℤ (m.lag k).gap ≡ pos (t + 1)
        → (lands m a (t + 1) k ≡ true) × (unsigned_abs (begins m (t + 1) k) ≡ j)
    lands_there k j lj to_a e = (
      and_from (ends m a k) (int_le (pos 0) (begins m (t + 1) k) && int_lt (begins m (t + 1) k) (pos m.horizon))
          (eq-eqb (m.lag k).to a to_a)
          (and_from (int_le (pos 0) (begins m (t + 1) k)) (int_lt (begins m (t + 1) k) (pos m.horizon))
          (le_le_int (pos 0) (begins m (t + 1) k) (omega (arith, ints)))
          (lt_lt_int (begins m (t + 1) k) (pos m.horizon) (omega (arith, ints)))),
      omega (arith, ints),
    )

    pub entering_point_lists : Lists (time_net m) (time_net m).head (time_net m).tail (here m a (t + 1)) (entering_point m a t)
    entering_point_lists =
        record {
          sound = entering_point_sound;
          complete = each_arc m b (λ k. (time_net m).head k ≡ here m a (t + 1) → Told (entering_point m a t) k 0)
              (λ i j li lj e.
              let z = point_same m.horizon i (j + 1) a (t + 1) (omega arith) lt (sym (on_head m i j li lj) ∙ e) in
              let p = z.0 in
              let q : j ≡ t = omega (arith, z.1) in
              now_told 0 _ in_zero (cc))
              (λ i j li lj e.
              let z = point_same m.horizon i j a (t + 1) (omega arith) lt (sym (back_head m i j li lj) ∙ e) in
              let p = z.0 in
              let q = z.1 in
              later_told 0 _ in_zero (now_told 1 _ in_one (cc)))
              (λ k j lk lj e.
              let z = point_same m.horizon (m.lag k).to (cut_to m.horizon (pos j +ℤ (m.lag k).gap)) a (t + 1) (omega arith) lt
              (sym (lag_head_is m k j lj) ∙ e) in
              let y = cut_inner_only m.horizon (t + 1) (pos j +ℤ (m.lag k).gap) (omega arith) lt z.1 in
              let x = lands_there k j lj z.0 y in
              subst (λ (i : ℕ). Told (entering_point m a t) (lag_arc m k i) 0) x.1 (point_told_landing k lk x.0));
        }
