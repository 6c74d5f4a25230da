-- Steps along lags, put together from their parts.
use Rattle.std.proofs.Common.{◌≡◌, ℕ, ◌+◌, ◌*◌, ◌/◌, ◌%◌, ◌<◌, ◌≤◌, true, false, ltb, sym, ap, ◌∙◌, ⊎_elim, arith}
use Rattle.std.proofs.lemmas.Bool.{lt-ltb, le-ltb, eq-eqb, eqb-true, and_from, and_left, cond-true, cases_order}
use Rattle.model.specs.Meaning.{Meaning}
use Rattle.plan_theory.specs.TimeNetwork.{lag_head, lag_arc}
use Rattle.time_network.specs.Listing.{step, leads, ends, lands, taken, next_leading, leaving_lag}
use Rattle.time_network.specs.Seeking.{seek, seek_sought, seek_skip}

pub leaving_lag_is : (m : Meaning) (a t k arc node onward : ℕ) → k < m.lags → (m.lag k).from ≡ a
    → arc ≡ lag_arc m k (t + 1) → node ≡ lag_head m k (t + 1) → onward ≡ next_leading m (m.lag k).from (k + 1)
    → step arc node onward ≡ leaving_lag m a t k
leaving_lag_is m a t k arc node onward l from e f g =
    let x : onward ≡ next_leading m a (k + 1) = g ∙ ap (λ (i : ℕ). next_leading m i (k + 1)) from in
    let y : step arc node onward ≡ step (lag_arc m k (t + 1)) (lag_head m k (t + 1)) (next_leading m a (k + 1)) = cc in
    y ∙ sym (cond-true _ _ _ (and_from (ltb k m.lags) (leads m a k) (lt-ltb k m.lags l) (eq-eqb (m.lag k).from a from)))

-- the rest of a row can be passed over from its first place that is not taken
pub row_over : (count : ℕ → ℕ) (rows at : ℕ) → at < rows * 128 → count (at / 128) ≤ at % 128
    → seek (taken count) (rows * 128) at ≡ seek (taken count) (rows * 128) ((at / 128 + 1) * 128)
row_over count rows at l o =
    seek_skip (taken count) (rows * 128) at ((at / 128 + 1) * 128) (omega arith) (omega arith)
    (λ i a z.
    let e : i / 128 ≡ at / 128 = omega arith in
    let m : at % 128 ≤ i % 128 = omega arith in
    let c : count (i / 128) ≡ count (at / 128) = ap count e in
    le-ltb (i % 128) (count (i / 128)) (omega arith))

-- after a lag of which no arc lands, the next to the same activity
pub landing_over : (m : Meaning) (a t k : ℕ) → k < m.lags → ends m a k ≡ true → lands m a t k ≡ false
    → seek (lands m a t) m.lags k ≡ seek (lands m a t) m.lags (seek (ends m a) m.lags (k + 1))
landing_over m a t k l e f =
    let q = seek_sought (ends m a) m.lags (k + 1) (omega arith) in
    seek_skip (lands m a t) m.lags k (seek (ends m a) m.lags (k + 1)) (omega (arith, q.low)) q.high
    (λ i x y. ⊎_elim
    (λ z. ap (lands m a t) (sym z) ∙ f)
    (⊎_elim
    (λ z. and_left (ends m a i) _ (q.none i (omega arith) y))
    (λ z. absurd (omega arith)))
    (cases_order k i))

-- what is known of the next lag on the list of those to an activity, after one of which no arc lands
pub record Onward (m : Meaning) (a t k onward : ℕ) : Type 0 where
  pub high : onward ≤ m.lags
  pub there : onward < m.lags → ends m a onward ≡ true
  pub same : seek (lands m a t) m.lags k ≡ seek (lands m a t) m.lags onward
  pub further : k < onward

pub onward_is : (m : Meaning) (a t k onward : ℕ) → k < m.lags → ends m a k ≡ true → lands m a t k ≡ false
    → onward ≡ seek (ends m (m.lag k).to) m.lags (k + 1) → Onward m a t k onward
onward_is m a t k onward l e f is =
    let q = seek_sought (ends m a) m.lags (k + 1) (omega arith) in
    let x : onward ≡ seek (ends m a) m.lags (k + 1) =
    is ∙ ap (λ (i : ℕ). seek (ends m i) m.lags (k + 1)) (eqb-true (m.lag k).to a e) in
    record {
      high = omega (arith, q.high);
      there = λ o. ap (ends m a) x ∙ q.hit (omega arith);
      same = landing_over m a t k l e f ∙ ap (seek (lands m a t) m.lags) (sym x);
      further = omega (arith, q.low);
    }
