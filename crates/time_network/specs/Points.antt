-- Which points of the time network are one node, and slots cut to the horizon.
use Rattle.std.specs.Prelude.{◌≡◌, ℕ, ◌+◌, ◌-◌, ◌*◌, ◌/◌, ◌%◌, ◌<◌, ◌≤◌, cond, ℤ, pos, negsuc, ◌≤ℤ◌, ◌==◌, nat_lt, refl}
use Rattle.std.proofs.Common.{arith, ⊎_elim, sym, ap, ◌∙◌}
use Rattle.std.proofs.lemmas.Bool.{le-ltb, cases_lt, cases_eq, ne_eqb, cond-false}
use Rattle.std.proofs.lemmas.Nat.{mul-le, div-mul-add, mod-mul-add}
use Rattle.std.proofs.lemmas.Int.{ints}
use Rattle.plan_theory.specs.TimeNetwork.{point, cut_to}
use Rattle.plan_theory.specs.TimeArcs.{point_inner, point_past}

-- a row has a place only if it has a width
pub wide : (x n w : ℕ) → x < n * w → 0 < w
wide x n w l =
    ⊎_elim (λ e. absurd (omega (arith, mul-le n w n 0 (omega arith) (omega arith)))) (λ ne. omega arith) (cases_eq w 0)

-- which points are the source, the sink, or a given point between them
pub point_source : (w a t : ℕ) → point w a t ≡ 0 → t ≡ 0
point_source w a t e =
    ⊎_elim (λ z. z)
    (λ ne. ⊎_elim
    (λ l. absurd (omega (arith, point_inner w a t (omega arith) l)))
    (λ l. absurd (omega (arith, cond-false (t == 0) 0 (cond (nat_lt t w) (2 + (a * (w - 1) + (t - 1))) 1) (ne_eqb t 0 ne), cond-false (nat_lt t w) (2 + (a * (w - 1) + (t - 1))) 1 (le-ltb t w l))))
    (cases_lt t w))
    (cases_eq t 0)

pub point_sink : (w a t : ℕ) → point w a t ≡ 1 → w ≤ t
point_sink w a t e =
    ⊎_elim
    (λ z. absurd (omega (arith, ap (point w a) z)))
    (λ ne. ⊎_elim (λ l. absurd (omega (arith, point_inner w a t (omega arith) l))) (λ l. l) (cases_lt t w))
    (cases_eq t 0)

inner_same : (w a t a' t' : ℕ) → 0 < t → t < w → 0 < t' → t' < w
    → 2 + (a * (w - 1) + (t - 1)) ≡ 2 + (a' * (w - 1) + (t' - 1)) → (a ≡ a') × (t ≡ t')
inner_same w a t a' t' p q p' q' e =
    let x : t - 1 < w - 1 = omega arith in
    let y : t' - 1 < w - 1 = omega arith in
    let z : a * (w - 1) + (t - 1) ≡ a' * (w - 1) + (t' - 1) = omega arith in
    let same_row : a ≡ a' =
    sym (div-mul-add a (w - 1) (t - 1) x) ∙ (ap (λ (i : ℕ). i / (w - 1)) z ∙ div-mul-add a' (w - 1) (t' - 1) y) in
    let same_column : t - 1 ≡ t' - 1 =
    sym (mod-mul-add a (w - 1) (t - 1) x) ∙ (ap (λ (i : ℕ). i % (w - 1)) z ∙ mod-mul-add a' (w - 1) (t' - 1) y) in
    (same_row, omega arith)

pub point_same : (w a t a' t' : ℕ) → 0 < t' → t' < w → point w a t ≡ point w a' t' → (a ≡ a') × (t ≡ t')
point_same w a t a' t' p q e =
    let x = point_inner w a' t' p q in
    ⊎_elim
    (λ z. absurd (omega (arith, ap (point w a) z)))
    (λ ne. ⊎_elim
    (λ l. let y = point_inner w a t (omega arith) l in inner_same w a t a' t' (omega arith) l p q (sym y ∙ (e ∙ x)))
    (λ l. absurd (omega (arith, point_past w a t (omega arith) l)))
    (cases_lt t w))
    (cases_eq t 0)

-- a slot cut to 0 to w
pub cut_low : (w : ℕ) (z : ℤ) → z ≤ℤ pos 0 → cut_to w z ≡ 0
cut_low w (pos x) l = omega (arith, ints)
cut_low w (negsuc x) l = refl

pub cut_low_only : (w : ℕ) (z : ℤ) → 0 < w → cut_to w z ≡ 0 → z ≤ℤ pos 0
cut_low_only w (pos x) p e = omega (arith, ints)
cut_low_only w (negsuc x) p e = omega (arith, ints)

pub cut_high : (w : ℕ) (z : ℤ) → pos w ≤ℤ z → cut_to w z ≡ w
cut_high w (pos x) l = omega (arith, ints)
cut_high w (negsuc x) l = absurd (omega (arith, ints))

pub cut_high_only : (w : ℕ) (z : ℤ) → 0 < w → w ≤ cut_to w z → pos w ≤ℤ z
cut_high_only w (pos x) p l = omega (arith, ints)
cut_high_only w (negsuc x) p l = absurd (omega arith)

pub cut_inner : (w t : ℕ) (z : ℤ) → t < w → z ≡ pos t → cut_to w z ≡ t
cut_inner w t (pos x) l e = omega (arith, ints)
cut_inner w t (negsuc x) l e = absurd (omega (arith, ints))

pub cut_inner_only : (w t : ℕ) (z : ℤ) → 0 < t → t < w → cut_to w z ≡ t → z ≡ pos t
cut_inner_only w t (pos x) p l e = ap pos (omega arith)
cut_inner_only w t (negsuc x) p l e = absurd (omega arith)

pub cut_most : (w : ℕ) (z : ℤ) → cut_to w z ≤ w
cut_most w (pos x) = omega arith
cut_most w (negsuc x) = omega arith

pub below_cut : (w u : ℕ) (z : ℤ) → u < w → pos (u + 1) ≤ℤ z → u < cut_to w z
below_cut w u (pos x) l o = omega (arith, ints)
below_cut w u (negsuc x) l o = absurd (omega (arith, ints))

pub below_cut_only : (w u : ℕ) (z : ℤ) → u < cut_to w z → pos (u + 1) ≤ℤ z
below_cut_only w u (pos x) l = omega (arith, ints)
below_cut_only w u (negsuc x) l = absurd (omega arith)

-- the last slot, and the point past it
pub last_slot : (w : ℕ) → 1 ≤ w → w - 1 < w
last_slot w l = omega arith

pub past_last_slot : (w a : ℕ) → 1 ≤ w → point w a (w - 1 + 1) ≡ 1
past_last_slot w a l = point_past w a (w - 1 + 1) l (omega arith)
