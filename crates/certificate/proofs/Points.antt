-- The sums at a point of the time network, over the arcs there alone.
use Rattle.std.proofs.Common.{◌≡◌, ℕ, ◌+◌, ◌-◌, ◌*◌, ◌/◌, ◌%◌, ◌<◌, Bool, true, false, ◌&&◌, eqb, List, ℤ, pos, negsuc, ◌+ℤ◌, sym, refl, ap, ◌∙◌, subst, ⊎_elim, arith}
use Rattle.std.proofs.lemmas.Nat.{div-mul-add, mod-mul-add, mod_below, div_below, div-add-mod'}
use Rattle.std.proofs.lemmas.Int.{ints}
use Rattle.std.proofs.lemmas.Bool.{cases_eq, cases_lt, cases_Bool, eq-eqb, ne_eqb, eqb-true, and_from, and_left, and_right}
use Rattle.model.specs.Meaning.{Meaning}
use Rattle.flow.specs.Sums.{sum_to, pick}
use Rattle.flow.specs.Nets.{word, outflow, inflow}
use Rattle.flow.proofs.Sums.{sum_to_same, sum_to_zero, sum_to_only}
use Rattle.plan_theory.specs.TimeNetwork.{point, cut_to, time_net, on_arc, back_arc, lag_arc}
use Rattle.plan_theory.specs.TimeArcs.{on_tail, on_head, back_tail, back_head, lag_tail_is, lag_head_is, point_inner, point_past}
use Rattle.plan_theory.proofs.Rows.{sum_to_split, sum_to_rows}
use Rattle.certificate.specs.Faults.{inner_nodes}
use Rattle.certificate.specs.Sums.{lag_out, lag_in, out_of, in_to, out_of_source, lag_to_source, first_words}

-- of the words of a row, the one that passes a test
pub pick_row : (p : Bool) (q : ℕ → Bool) (g : ℕ → ℕ) (i h : ℕ) → i < h → q i ≡ true
    → ((j : ℕ) → j < h → (j ≡ i → ⊥) → q j ≡ false) → sum_to (λ j. pick (p && q j) (g j)) h ≡ pick p (g i)
pick_row true q g i h l here others =
    sum_to_only (λ j. pick (q j) (g j)) i h l (λ j m ne. ap (λ (b : Bool). pick b (g j)) (others j m ne))
    ∙ ap (λ (b : Bool). pick b (g i)) here
pick_row false q g i h l here others = sum_to_zero h

pub pick_none : (q : ℕ → Bool) (g : ℕ → ℕ) (h : ℕ) → ((j : ℕ) → j < h → q j ≡ false)
    → sum_to (λ j. pick (q j) (g j)) h ≡ 0
pick_none q g h none =
    sum_to_same _ (λ j. 0) h (λ j l. ap (λ (b : Bool). pick b (g j)) (none j l)) ∙ sum_to_zero h

-- a sum over all arcs, row by row of each kind
pub by_kinds : (m : Meaning) (g : ℕ → ℕ)
    → sum_to g (time_net m).arcs
    ≡ sum_to (λ a. sum_to (λ t. g (on_arc m a t)) m.horizon) m.n
    + (sum_to (λ a. sum_to (λ t. g (back_arc m a t)) m.horizon) m.n
    + sum_to (λ k. sum_to (λ t. g (lag_arc m k t)) m.horizon) m.lags)
by_kinds m g =
    let h : ℕ = m.horizon in
    let on : ℕ = m.n * h in
    let along : ℕ = m.lags * h in
    let all : (time_net m).arcs ≡ on + (on + along) = omega arith in
    let last : sum_to (λ k. g (on + (on + k))) along ≡ sum_to (λ k. sum_to (λ t. g (lag_arc m k t)) h) m.lags =
    sum_to_rows (λ k. g (on + (on + k))) h m.lags
    ∙ sum_to_same _ (λ k. sum_to (λ t. g (lag_arc m k t)) h) m.lags
    (λ k l. sum_to_same _ (λ t. g (lag_arc m k t)) h (λ t j. ap g (omega arith))) in
    omega (
      arith,
      ap (sum_to g) all,
      sum_to_split g on (on + along),
      sum_to_split (λ k. g (on + k)) on along,
      sum_to_rows g h m.n,
      sum_to_rows (λ k. g (on + k)) h m.n,
      last,
    )

-- two points are one node exactly when activity and slot are the same
pub point_same : (h a t i j : ℕ) → 0 < t → t < h → eqb (point h i j) (point h a t) ≡ (eqb i a && eqb j t)
point_same h a t i j some l =
    let there = point_inner h a t some l in
    ⊎_elim
    (λ e.
    let none = ap (point h i) e in
    ne_eqb (point h i j) (point h a t) (λ q. omega arith)
    ∙ sym (and_right (eqb i a) (eqb j t) (ne_eqb j t (λ q. omega arith))))
    (λ ne. ⊎_elim
    (λ low. inner (point_inner h i j (omega arith) low) there low (omega arith))
    (λ high.
    let sink = point_past h i j (omega arith) high in
    ne_eqb (point h i j) (point h a t) (λ q. omega arith)
    ∙ sym (and_right (eqb i a) (eqb j t) (ne_eqb j t (λ q. omega arith))))
    (cases_lt j h))
    (cases_eq j 0)
  where
    inner : point h i j ≡ 2 + (i * (h - 1) + (j - 1)) → point h a t ≡ 2 + (a * (h - 1) + (t - 1))
        → j < h → 0 < j → eqb (point h i j) (point h a t) ≡ (eqb i a && eqb j t)
    inner x y low pos_j =
        let w : ℕ = h - 1 in
        ⊎_elim
        (λ e.
        let ij = ap (λ (z : ℕ). z * w) (eqb-true i a (both e).0) in
        let jt = eqb-true j t (both e).1 in
        eq-eqb (point h i j) (point h a t) (omega arith) ∙ sym e)
        (λ e.
        ne_eqb (point h i j) (point h a t)
        (λ q.
        let v : i * w + (j - 1) ≡ a * w + (t - 1) = omega arith in
        let rows : i ≡ a =
        sym (div-mul-add i w (j - 1) (omega arith))
        ∙ (ap (λ (z : ℕ). z / w) v ∙ div-mul-add a w (t - 1) (omega arith)) in
        let columns : j - 1 ≡ t - 1 =
        sym (mod-mul-add i w (j - 1) (omega arith))
        ∙ (ap (λ (z : ℕ). z % w) v ∙ mod-mul-add a w (t - 1) (omega arith)) in
        absurd (no e (and_from (eqb i a) (eqb j t) (eq-eqb i a rows) (eq-eqb j t (omega arith)))))
        ∙ sym e)
        (cases_Bool (eqb i a && eqb j t))
      where
        both : (eqb i a && eqb j t) ≡ true → (eqb i a ≡ true) × (eqb j t ≡ true)
        both e = parts (eqb i a) (eqb j t) e
          where
            parts : (x y : Bool) → (x && y) ≡ true → (x ≡ true) × (y ≡ true)
            parts true y r = (refl, r)
            parts false y r = absurd (let z : ◌≡◌ {A = ℕ} 0 1 = cc in omega arith)

        no : {x : Bool} → x ≡ false → x ≡ true → ⊥
        no p q = let z : ◌≡◌ {A = ℕ} 0 1 = cc in omega arith

-- arcs in rows of which one end is the point of row and column, or the point after it
module _ (m : Meaning) (f : List ℕ) (a t : ℕ) (la : a < m.n) (some : 0 < t) (lt : t < m.horizon)
    (end : ℕ → ℕ) (arc : ℕ → ℕ → ℕ) where
  abbrev at_arc : ℕ → ℕ → ℕ
  at_arc i j = pick (eqb (end (arc i j)) (point m.horizon a t)) (word f (arc i j))

  pub here_rows : ((i j : ℕ) → i < m.n → j < m.horizon → end (arc i j) ≡ point m.horizon i j)
      → sum_to (λ i. sum_to (λ j. at_arc i j) m.horizon) m.n ≡ word f (arc a t)
  here_rows ends =
      sum_to_same _ (λ i. pick (eqb i a) (word f (arc i t))) m.n
      (λ i li.
      sum_to_same _ (λ j. pick (eqb i a && eqb j t) (word f (arc i j))) m.horizon
      (λ j lj.
      ap (λ (v : ℕ). pick (eqb v (point m.horizon a t)) (word f (arc i j))) (ends i j li lj)
      ∙ ap (λ (b : Bool). pick b (word f (arc i j))) (point_same m.horizon a t i j some lt))
      ∙ pick_row (eqb i a) (λ j. eqb j t) (λ j. word f (arc i j)) t m.horizon lt (eq-eqb t t refl)
      (λ j lj ne. ne_eqb j t ne))
      ∙ pick_row true (λ i. eqb i a) (λ i. word f (arc i t)) a m.n la (eq-eqb a a refl)
      (λ i li ne. ne_eqb i a ne)

  pub next_rows : ((i j : ℕ) → i < m.n → j < m.horizon → end (arc i j) ≡ point m.horizon i (j + 1))
      → sum_to (λ i. sum_to (λ j. at_arc i j) m.horizon) m.n ≡ word f (arc a (t - 1))
  next_rows ends =
      sum_to_same _ (λ i. pick (eqb i a) (word f (arc i (t - 1)))) m.n
      (λ i li.
      sum_to_same _ (λ j. pick (eqb i a && eqb (j + 1) t) (word f (arc i j))) m.horizon
      (λ j lj.
      ap (λ (v : ℕ). pick (eqb v (point m.horizon a t)) (word f (arc i j))) (ends i j li lj)
      ∙ ap (λ (b : Bool). pick b (word f (arc i j))) (point_same m.horizon a t i (j + 1) some lt))
      ∙ pick_row (eqb i a) (λ j. eqb (j + 1) t) (λ j. word f (arc i j)) (t - 1) m.horizon (omega arith)
      (eq-eqb (t - 1 + 1) t (omega arith)) (λ j lj ne. ne_eqb (j + 1) t (λ e. ne (omega arith))))
      ∙ pick_row true (λ i. eqb i a) (λ i. word f (arc i (t - 1))) a m.n la (eq-eqb a a refl)
      (λ i li ne. ne_eqb i a ne)

module _ (m : Meaning) (f : List ℕ) (a t : ℕ) (la : a < m.n) (some : 0 < t) (lt : t < m.horizon) where
  lag_out_row : (k : ℕ)
      → sum_to (λ j. pick (eqb ((time_net m).tail (lag_arc m k j)) (point m.horizon a t)) (word f (lag_arc m k j)))
      m.horizon
      ≡ lag_out m f a t k
  lag_out_row k =
      sum_to_same _ (λ j. pick (eqb (m.lag k).from a && eqb j t) (word f (lag_arc m k j))) m.horizon
      (λ j lj.
      ap (λ (v : ℕ). pick (eqb v (point m.horizon a t)) (word f (lag_arc m k j))) (lag_tail_is m k j lj)
      ∙ ap (λ (b : Bool). pick b (word f (lag_arc m k j)))
      (point_same m.horizon a t (m.lag k).from j some lt))
      ∙ pick_row (eqb (m.lag k).from a) (λ j. eqb j t) (λ j. word f (lag_arc m k j)) t m.horizon lt
      (eq-eqb t t refl) (λ j lj ne. ne_eqb j t ne)

  lag_in_row : (k : ℕ)
      → sum_to (λ j. pick (eqb ((time_net m).head (lag_arc m k j)) (point m.horizon a t)) (word f (lag_arc m k j)))
      m.horizon
      ≡ lag_in m f a t k
  lag_in_row k =
      sum_to_same _
      (λ j.
      pick (eqb (m.lag k).to a && eqb (cut_to m.horizon (pos j +ℤ (m.lag k).gap)) t)
      (word f (lag_arc m k j)))
      m.horizon
      (λ j lj.
      ap (λ (v : ℕ). pick (eqb v (point m.horizon a t)) (word f (lag_arc m k j))) (lag_head_is m k j lj)
      ∙ ap (λ (b : Bool). pick b (word f (lag_arc m k j)))
      (point_same m.horizon a t (m.lag k).to (cut_to m.horizon (pos j +ℤ (m.lag k).gap)) some lt))

  -- what leaves an inner point, and what enters it
  pub outflow_at : outflow (time_net m) (word f) (point m.horizon a t) ≡ out_of m f a t
  outflow_at =
      let lags = sum_to_same _ (lag_out m f a t) m.lags (λ k l. lag_out_row k) in
      let on = here_rows m f a t la some lt (time_net m).tail (on_arc m) (on_tail m) in
      let back = next_rows m f a t la some lt (time_net m).tail (back_arc m) (back_tail m) in
      let place : back_arc m a (t - 1) ≡ (m.n + a) * m.horizon + (t - 1) = omega arith in
      by_kinds m (λ k. pick (eqb ((time_net m).tail k) (point m.horizon a t)) (word f k))
      ∙ omega (arith, ap (word f) place)

  pub inflow_at : inflow (time_net m) (word f) (point m.horizon a t) ≡ in_to m f a t
  inflow_at =
      let lags = sum_to_same _ (lag_in m f a t) m.lags (λ k l. lag_in_row k) in
      let on = next_rows m f a t la some lt (time_net m).head (on_arc m) (on_head m) in
      let back = here_rows m f a t la some lt (time_net m).head (back_arc m) (back_head m) in
      let place : back_arc m a t ≡ (m.n + a) * m.horizon + t = omega arith in
      by_kinds m (λ k. pick (eqb ((time_net m).head k) (point m.horizon a t)) (word f k))
      ∙ omega (arith, ap (word f) place)

-- a cut slot that is neither source nor sink is the slot itself
pub cut_is : (h : ℕ) (z : ℤ) (t : ℕ) → 0 < t → t < h → cut_to h z ≡ t → z ≡ pos t
cut_is h (pos x) t some l e = ap pos (omega arith)
cut_is h (negsuc x) t some l e = absurd (omega arith)

pub cut_of : (h : ℕ) (z : ℤ) (t : ℕ) → t < h → z ≡ pos t → cut_to h z ≡ t
cut_of h z t l e = ap (cut_to h) e ∙ omega arith

-- what one lag brings: the word of the slot from which it leads here, if there is one
module _ (m : Meaning) (f : List ℕ) (a t k : ℕ) (some : 0 < t) (lt : t < m.horizon) where
  pub lag_in_none : ((s : ℕ) → s < m.horizon → (m.lag k).to ≡ a → pos s +ℤ (m.lag k).gap ≡ pos t → ⊥)
      → lag_in m f a t k ≡ 0
  lag_in_none none =
      pick_none (λ s. eqb (m.lag k).to a && eqb (cut_to m.horizon (pos s +ℤ (m.lag k).gap)) t)
      (λ s. word f (lag_arc m k s)) m.horizon
      (λ s l. ⊎_elim
      (λ e. ⊎_elim
      (λ c.
      absurd
      (none s l (eqb-true _ _ e)
      (cut_is m.horizon (pos s +ℤ (m.lag k).gap) t some lt (eqb-true _ _ c))))
      (λ c. and_right (eqb (m.lag k).to a) _ c)
      (cases_Bool (eqb (cut_to m.horizon (pos s +ℤ (m.lag k).gap)) t)))
      (λ e. and_left (eqb (m.lag k).to a) _ e)
      (cases_Bool (eqb (m.lag k).to a)))

  pub lag_in_only : (s : ℕ) → s < m.horizon → (m.lag k).to ≡ a → pos s +ℤ (m.lag k).gap ≡ pos t
      → lag_in m f a t k ≡ word f (lag_arc m k s)
  lag_in_only s l to e =
      pick_row (eqb (m.lag k).to a) (λ i. eqb (cut_to m.horizon (pos i +ℤ (m.lag k).gap)) t)
      (λ i. word f (lag_arc m k i)) s m.horizon l
      (eq-eqb _ _ (cut_of m.horizon (pos s +ℤ (m.lag k).gap) t lt e))
      (λ i li ne. ne_eqb _ _
      (λ c.
      let same = cut_is m.horizon (pos i +ℤ (m.lag k).gap) t some lt c in
      ne (once i s (m.lag k).gap (same ∙ sym e))))
      ∙ ap (λ (b : Bool). pick b (word f (lag_arc m k s))) (eq-eqb _ _ to)
    where
      once : (i j : ℕ) (gap : ℤ) → pos i +ℤ gap ≡ pos j +ℤ gap → i ≡ j
      once i j gap q = omega (arith, ints)

-- the source: every first point
pub point_source : (h i j : ℕ) → 0 < h → eqb (point h i j) 0 ≡ eqb j 0
point_source h i j some =
    ⊎_elim
    (λ e. let x = ap (point h i) e in eq-eqb (point h i j) 0 (omega arith) ∙ sym (eq-eqb j 0 e))
    (λ ne. ⊎_elim
    (λ l. let x = point_inner h i j (omega arith) l in ne_eqb (point h i j) 0 (λ q. omega arith) ∙ sym (ne_eqb j 0 ne))
    (λ l. let x = point_past h i j some l in ne_eqb (point h i j) 0 (λ q. omega arith) ∙ sym (ne_eqb j 0 ne))
    (cases_lt j h))
    (cases_eq j 0)

module _ (m : Meaning) (f : List ℕ) (some : 0 < m.horizon) (end : ℕ → ℕ) (arc : ℕ → ℕ → ℕ) where
  first_of_row : (i : ℕ) → ((j : ℕ) → j < m.horizon → (w : ℕ) × (end (arc i j) ≡ point m.horizon w j))
      → sum_to (λ j. pick (eqb (end (arc i j)) 0) (word f (arc i j))) m.horizon ≡ word f (arc i 0)
  first_of_row i ends =
      sum_to_same _ (λ j. pick (eqb j 0) (word f (arc i j))) m.horizon
      (λ j lj.
      ap (λ (v : ℕ). pick (eqb v 0) (word f (arc i j))) (ends j lj).1
      ∙ ap (λ (b : Bool). pick b (word f (arc i j))) (point_source m.horizon (ends j lj).0 j some))
      ∙ pick_row true (λ j. eqb j 0) (λ j. word f (arc i j)) 0 m.horizon some refl (λ j lj ne. ne_eqb j 0 ne)

  none_of_row : (i : ℕ) → ((j : ℕ) → j < m.horizon → end (arc i j) ≡ point m.horizon i (j + 1))
      → sum_to (λ j. pick (eqb (end (arc i j)) 0) (word f (arc i j))) m.horizon ≡ 0
  none_of_row i ends =
      pick_none (λ j. eqb (end (arc i j)) 0) (λ j. word f (arc i j)) m.horizon
      (λ j lj.
      ap (λ (v : ℕ). eqb v 0) (ends j lj)
      ∙ (point_source m.horizon i (j + 1) some ∙ ne_eqb (j + 1) 0 (λ e. omega arith)))

module _ (m : Meaning) (f : List ℕ) (some : 0 < m.horizon) where
  pub outflow_source : outflow (time_net m) (word f) 0 ≡ out_of_source m f
  outflow_source =
      let on = sum_to_same _ (λ i. word f ((0 + i) * m.horizon)) m.n
      (λ i li.
      first_of_row m f some (time_net m).tail (on_arc m) i (λ j lj. (i, on_tail m i j li lj))
      ∙ ap (word f) (omega arith)) in
      let back = sum_to_same _ (λ i. 0) m.n
      (λ i li. none_of_row m f some (time_net m).tail (back_arc m) i (λ j lj. back_tail m i j li lj)) in
      let along = sum_to_same _ (λ k. word f ((2 * m.n + k) * m.horizon)) m.lags
      (λ k lk.
      first_of_row m f some (time_net m).tail (lag_arc m) k (λ j lj. ((m.lag k).from, lag_tail_is m k j lj))
      ∙ ap (word f) (omega arith)) in
      by_kinds m (λ k. pick (eqb ((time_net m).tail k) 0) (word f k)) ∙ omega (arith, sum_to_zero m.n)

  pub source_words : (n l : ℕ) → n ≡ m.n → l ≡ m.lags
      → first_words f m.horizon 0 n + first_words f m.horizon (2 * n) l ≡ outflow (time_net m) (word f) 0
  source_words n l en el = rw (en, el) (sym outflow_source)

  pub inflow_source : inflow (time_net m) (word f) 0
      ≡ first_words f m.horizon m.n m.n + sum_to (lag_to_source m f) m.lags
  inflow_source =
      let on = sum_to_same _ (λ i. 0) m.n
      (λ i li. none_of_row m f some (time_net m).head (on_arc m) i (λ j lj. on_head m i j li lj)) in
      let back = sum_to_same _ (λ i. word f ((m.n + i) * m.horizon)) m.n
      (λ i li.
      first_of_row m f some (time_net m).head (back_arc m) i (λ j lj. (i, back_head m i j li lj))
      ∙ ap (word f) (omega arith)) in
      let along = sum_to_same _ (lag_to_source m f) m.lags
      (λ k lk.
      sum_to_same _
      (λ s. pick (eqb (cut_to m.horizon (pos s +ℤ (m.lag k).gap)) 0) (word f (lag_arc m k s))) m.horizon
      (λ s l.
      ap (λ (v : ℕ). pick (eqb v 0) (word f (lag_arc m k s))) (lag_head_is m k s l)
      ∙ ap (λ (b : Bool). pick b (word f (lag_arc m k s)))
      (point_source m.horizon (m.lag k).to (cut_to m.horizon (pos s +ℤ (m.lag k).gap)) some))) in
      by_kinds m (λ k. pick (eqb ((time_net m).head k) 0) (word f k)) ∙ omega (arith, sum_to_zero m.n)

-- where the words of a lag stand
pub lag_place : (m : Meaning) (n k t : ℕ) → n ≡ m.n → (2 * n + k) * m.horizon + t ≡ lag_arc m k t
lag_place m n k t en = rw en (omega arith)

-- inner node i by activity and slot, under a horizon h
pub record Node (m : Meaning) (h i : ℕ) : Type 0 where
  pub some : 0 < h - 1
  pub activity_in : i / (h - 1) < m.n
  pub slot_in : i % (h - 1) + 1 < m.horizon
  pub place : point m.horizon (i / (h - 1)) (i % (h - 1) + 1) ≡ 2 + i

node_here : (m : Meaning) (i : ℕ) → i < inner_nodes m → Node m m.horizon i
node_here m i l =
    let w : ℕ = m.horizon - 1 in
    let wide : 0 < w = ⊎_elim (λ e. let x = ap (λ (v : ℕ). m.n * v) e in omega arith) (λ ne. omega arith) (cases_eq w 0) in
    let column : i % w < w = mod_below i w wide in
    let at = point_inner m.horizon (i / w) (i % w + 1) (omega arith) (omega arith) in
    let all = div-add-mod' i w in
    record { some = wide; activity_in = div_below i w m.n wide l; slot_in = omega arith; place = omega arith }

pub node_of : (m : Meaning) (h i : ℕ) → h ≡ m.horizon → i < inner_nodes m → Node m h i
node_of m h i e l = subst (λ (x : ℕ). Node m x i) (sym e) (node_here m i l)
