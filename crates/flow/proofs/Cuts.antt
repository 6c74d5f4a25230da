-- The value of a flow crosses every cut.
use Rattle.std.proofs.Common.{◌≡◌, ℕ, ◌+◌, ◌<◌, Bool, true, false, not, ◌&&◌, eqb, sym, refl, ap, ◌∙◌, ⊎_elim, arith}
use Rattle.std.proofs.lemmas.Bool.{eq-eqb, ne_eqb, cases_eq, true≢false}
use Rattle.flow.specs.Sums.{sum_to, pick}
use Rattle.flow.specs.Nets.{Net, Sound, outflow, inflow}
use Rattle.flow.specs.Cuts.{across, back_across, ValueCrossesEveryCut}
use Rattle.flow.proofs.Sums.{sum_to_same, sum_to_add, sum_to_swap, pick_sum_to, sum_to_only, sum_to_but}

pub pick_zero : (b : Bool) → pick b 0 ≡ 0
pick_zero true = refl
pick_zero false = refl

pub pick_by : (b : Bool) (x y : ℕ) → (b ≡ true → x ≡ y) → pick b x ≡ pick b y
pick_by true x y h = h refl
pick_by false x y h = refl

-- what a set of nodes has at one end of the arcs, arc by arc
pub gather : (e : ℕ → ℕ) (S : ℕ → Bool) (f : ℕ → ℕ) (N A : ℕ) → ((k : ℕ) → k < A → e k < N)
    → sum_to (λ v. pick (S v) (sum_to (λ k. pick (eqb (e k) v) (f k)) A)) N ≡ sum_to (λ k. pick (S (e k)) (f k)) A
gather e S f N A in_range =
    sum_to_same _ _ N (λ v l. pick_sum_to (S v) (λ k. pick (eqb (e k) v) (f k)) A)
    ∙ (sum_to_swap (λ v k. pick (S v) (pick (eqb (e k) v) (f k))) N A
    ∙ sum_to_same _ _ A (λ k l. one k (in_range k l)))
  where
    one : (k : ℕ) → e k < N → sum_to (λ v. pick (S v) (pick (eqb (e k) v) (f k))) N ≡ pick (S (e k)) (f k)
    one k l =
        sum_to_only (λ v. pick (S v) (pick (eqb (e k) v) (f k))) (e k) N l
        (λ v m ne. ap (λ b. pick (S v) (pick b (f k))) (ne_eqb (e k) v (λ q. ne (sym q))) ∙ pick_zero (S v))
        ∙ ap (λ b. pick (S (e k)) (pick b (f k))) (eq-eqb (e k) (e k) refl)

ends : (a b : Bool) (x : ℕ) → pick a x + pick (b && not a) x ≡ pick b x + pick (a && not b) x
ends true true x = omega arith
ends true false x = omega arith
ends false true x = omega arith
ends false false x = omega arith

-- over any set: leaving less entering is what the nodes send less what they get
pub crossing : (n : Net) → Sound n → (f : ℕ → ℕ) (S : ℕ → Bool)
    → sum_to (λ v. pick (S v) (outflow n f v)) n.nodes + back_across n S f
    ≡ sum_to (λ v. pick (S v) (inflow n f v)) n.nodes + across n S f
crossing n s f S =
    let a = gather n.tail S f n.nodes n.arcs s.tails in
    let b = gather n.head S f n.nodes n.arcs s.heads in
    let p = sum_to_same _ _ n.arcs (λ k l. ends (S (n.tail k)) (S (n.head k)) (f k)) in
    let q = sum_to_add (λ k. pick (S (n.tail k)) (f k)) (λ k. pick (S (n.head k) && not (S (n.tail k))) (f k))
    n.arcs in
    let r = sum_to_add (λ k. pick (S (n.head k)) (f k)) (λ k. pick (S (n.tail k) && not (S (n.head k))) (f k))
    n.arcs in
    omega (arith, a, b, p, q, r)

pub value_crosses_every_cut : ValueCrossesEveryCut
value_crosses_every_cut n s f w flow S (src, snk) =
    let same = sum_to_but (λ v. pick (S v) (outflow n f v)) (λ v. pick (S v) (inflow n f v)) 0 n.nodes
    (omega (arith, s.two)) at_node in
    let o = ap (λ b. pick b (outflow n f 0)) src in
    let i = ap (λ b. pick b (inflow n f 0)) src in
    omega (arith, same, crossing n s f S, o, i, flow.worth)
  where
    at_node : (v : ℕ) → v < n.nodes → (v ≡ 0 → ⊥) → pick (S v) (outflow n f v) ≡ pick (S v) (inflow n f v)
    at_node v l ne =
        ⊎_elim
        (λ e. pick_by (S v) _ _ (λ t. absurd (true≢false (sym t ∙ (ap S e ∙ snk)))))
        (λ ne1. ap (pick (S v)) (flow.balanced v (omega arith) l))
        (cases_eq v 1)
