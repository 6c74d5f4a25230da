-- The arcs of the time network by their kinds, and its points by their slots.
use Rattle.std.specs.Prelude.{◌≡◌, ℕ, ◌+◌, ◌-◌, ◌*◌, ◌/◌, ◌%◌, ◌<◌, ◌≤◌, true, not, refl}
use Rattle.std.proofs.Common.{arith, ⊎_elim, sym, ap, ◌∙◌, subst}
use Rattle.std.proofs.lemmas.Bool.{lt-ltb, le-ltb, cases_lt, cases_eq, ne_eqb, cond-true, cond-false}
use Rattle.std.proofs.lemmas.Nat.{mul-add-lt, div-mul-add, mod-mul-add, div-add-mod', div_below, mod_below}
use Rattle.model.specs.Meaning.{Meaning, Bounds}
use Rattle.model.specs.Starts.{is_open, floor}
use Rattle.plan_theory.specs.TimeNetwork.{point, above, at_place, by_kind, here, next, lag_tail, lag_head, time_net, on_arc, back_arc, lag_arc}

at_place_is : {A : Type 0} (h : ℕ) (f : ℕ → ℕ → A) (a t k : ℕ) → t < h → k ≡ a * h + t → at_place h f k ≡ f a t
at_place_is h f a t k l e =
    ap (at_place h f) e
    ∙ (ap (λ (x : ℕ). f x ((a * h + t) % h)) (div-mul-add a h t l) ∙ ap (f a) (mod-mul-add a h t l))

module _ {A : Type 0} (m : Meaning) (on back along : ℕ → ℕ → A) where
  pub by_kind_on : (a t : ℕ) → a < m.n → t < m.horizon → by_kind m on back along (on_arc m a t) ≡ on a t
  by_kind_on a t la lt =
      let x = mul-add-lt a m.horizon t m.n la lt in
      cond-true _ _ _ (lt-ltb (on_arc m a t) (m.n * m.horizon) (omega arith))
      ∙ at_place_is m.horizon on a t (on_arc m a t) lt refl

  pub by_kind_back : (a t : ℕ) → a < m.n → t < m.horizon → by_kind m on back along (back_arc m a t) ≡ back a t
  by_kind_back a t la lt =
      let x = mul-add-lt a m.horizon t m.n la lt in
      cond-false _ _ _ (le-ltb (back_arc m a t) (m.n * m.horizon) (omega arith))
      ∙ (cond-true _ _ _ (lt-ltb (back_arc m a t) (2 * (m.n * m.horizon)) (omega arith))
      ∙ at_place_is m.horizon back a t (back_arc m a t - m.n * m.horizon) lt (omega arith))

  pub by_kind_lag : (k t : ℕ) → t < m.horizon → by_kind m on back along (lag_arc m k t) ≡ along k t
  by_kind_lag k t lt =
      cond-false _ _ _ (le-ltb (lag_arc m k t) (m.n * m.horizon) (omega arith))
      ∙ (cond-false _ _ _ (le-ltb (lag_arc m k t) (2 * (m.n * m.horizon)) (omega arith))
      ∙ at_place_is m.horizon along k t (lag_arc m k t - 2 * (m.n * m.horizon)) lt (omega arith))

-- what is known of each arc, by its kind
module _ (m : Meaning) (a t : ℕ) (la : a < m.n) (lt : t < m.horizon) where
  pub on_tail : (time_net m).tail (on_arc m a t) ≡ point m.horizon a t
  on_tail = by_kind_on m (here m) (next m) (lag_tail m) a t la lt

  pub on_head : (time_net m).head (on_arc m a t) ≡ point m.horizon a (t + 1)
  on_head = by_kind_on m (next m) (here m) (lag_head m) a t la lt

  pub on_capacity : (time_net m).capacity (on_arc m a t) ≡ above (floor m a) (m.price a t)
  on_capacity = by_kind_on m (λ i j. above (floor m i) (m.price i j)) (λ i j. 0) (λ k j. 0) a t la lt

  pub on_unbounded : (time_net m).unbounded (on_arc m a t) ≡ not (is_open (m.price a t))
  on_unbounded = by_kind_on m (λ i j. not (is_open (m.price i j))) (λ i j. true) (λ k j. true) a t la lt

  pub back_tail : (time_net m).tail (back_arc m a t) ≡ point m.horizon a (t + 1)
  back_tail = by_kind_back m (here m) (next m) (lag_tail m) a t la lt

  pub back_head : (time_net m).head (back_arc m a t) ≡ point m.horizon a t
  back_head = by_kind_back m (next m) (here m) (lag_head m) a t la lt

  pub back_capacity : (time_net m).capacity (back_arc m a t) ≡ 0
  back_capacity = by_kind_back m (λ i j. above (floor m i) (m.price i j)) (λ i j. 0) (λ k j. 0) a t la lt

  pub back_unbounded : (time_net m).unbounded (back_arc m a t) ≡ true
  back_unbounded = by_kind_back m (λ i j. not (is_open (m.price i j))) (λ i j. true) (λ k j. true) a t la lt

module _ (m : Meaning) (k t : ℕ) (lt : t < m.horizon) where
  pub lag_tail_is : (time_net m).tail (lag_arc m k t) ≡ lag_tail m k t
  lag_tail_is = by_kind_lag m (here m) (next m) (lag_tail m) k t lt

  pub lag_head_is : (time_net m).head (lag_arc m k t) ≡ lag_head m k t
  lag_head_is = by_kind_lag m (next m) (here m) (lag_head m) k t lt

  pub lag_capacity : (time_net m).capacity (lag_arc m k t) ≡ 0
  lag_capacity = by_kind_lag m (λ i j. above (floor m i) (m.price i j)) (λ i j. 0) (λ i j. 0) k t lt

  pub lag_unbounded : (time_net m).unbounded (lag_arc m k t) ≡ true
  lag_unbounded = by_kind_lag m (λ i j. not (is_open (m.price i j))) (λ i j. true) (λ i j. true) k t lt

-- the numbers are those of arcs
pub on_exists : (m : Meaning) (a t : ℕ) → a < m.n → t < m.horizon → on_arc m a t < (time_net m).arcs
on_exists m a t la lt = omega (arith, mul-add-lt a m.horizon t m.n la lt)

pub back_exists : (m : Meaning) (a t : ℕ) → a < m.n → t < m.horizon → back_arc m a t < (time_net m).arcs
back_exists m a t la lt = omega (arith, mul-add-lt a m.horizon t m.n la lt)

pub lag_exists : (m : Meaning) (k t : ℕ) → k < m.lags → t < m.horizon → lag_arc m k t < (time_net m).arcs
lag_exists m k t lk lt = omega (arith, mul-add-lt k m.horizon t m.lags lk lt)

-- every place below w rows of h is in a row and a column
in_row : (P : ℕ → Type 0) (base h w : ℕ) → 0 < h → ((a t : ℕ) → a < w → t < h → P (base + (a * h + t)))
    → (k : ℕ) → base ≤ k → k < base + w * h → P k
in_row P base h w some each k low high =
    let q : ℕ = (k - base) / h in
    let r : ℕ = (k - base) % h in
    let e = div-add-mod' (k - base) h in
    subst P (omega arith) (each q r (div_below (k - base) h w some (omega arith)) (mod_below (k - base) h some))

-- what holds of the arcs of each kind holds of all
pub each_arc : (m : Meaning) → Bounds m → (P : ℕ → Type 0)
    → ((a t : ℕ) → a < m.n → t < m.horizon → P (on_arc m a t))
    → ((a t : ℕ) → a < m.n → t < m.horizon → P (back_arc m a t))
    → ((k t : ℕ) → k < m.lags → t < m.horizon → P (lag_arc m k t))
    → (k : ℕ) → k < (time_net m).arcs → P k
each_arc m b P on back along k l =
    let h = m.horizon in
    let n = m.n in
    let some : 0 < h = omega (arith, b.h_low) in
    ⊎_elim
    (λ x. in_row P 0 h n some (λ a t la lt. subst P (omega arith) (on a t la lt)) k (omega arith) (omega arith))
    (λ x. ⊎_elim
    (λ y. in_row P (n * h) h n some back k (omega arith) (omega arith))
    (λ y. in_row P (2 * (n * h)) h m.lags some along k (omega arith) (omega arith))
    (cases_lt k (2 * (n * h))))
    (cases_lt k (n * h))

pub point_zero : (h a : ℕ) → point h a 0 ≡ 0
point_zero h a = refl

pub point_inner : (h a t : ℕ) → 0 < t → t < h → point h a t ≡ 2 + (a * (h - 1) + (t - 1))
point_inner h a t some l =
    cond-false _ _ _ (ne_eqb t 0 (λ e. omega arith)) ∙ cond-true _ _ _ (lt-ltb t h l)

pub point_past : (h a t : ℕ) → 0 < h → h ≤ t → point h a t ≡ 1
point_past h a t some l =
    cond-false _ _ _ (ne_eqb t 0 (λ e. omega arith)) ∙ cond-false _ _ _ (le-ltb t h l)

pub point_in : (m : Meaning) (a t : ℕ) → a < m.n → here m a t < (time_net m).nodes
point_in m a t la =
    ⊎_elim
    (λ e. subst (λ (x : ℕ). here m a x < (time_net m).nodes) (sym e) (omega arith))
    (λ ne. ⊎_elim
    (λ l.
    let inner = point_inner m.horizon a t (omega arith) l in
    omega (arith, mul-add-lt a (m.horizon - 1) (t - 1) m.n la (omega arith)))
    (λ l.
    let past : here m a t ≡ 1 =
    cond-false _ _ _ (ne_eqb t 0 (λ e. omega arith)) ∙ cond-false _ _ _ (le-ltb t m.horizon l) in
    omega arith)
    (cases_lt t m.horizon))
    (cases_eq t 0)
