-- A push keeps a flow, arc by arc.
use Rattle.std.proofs.Common.{◌≡◌, ℕ, ◌+◌, ◌<◌, ◌≤◌, Bool, true, false, eqb, sym, refl, ap, ◌∙◌, ⊎_elim, arith}
use Rattle.std.proofs.lemmas.Bool.{eq-eqb, ne_eqb, cases_eq}
use Rattle.flow.specs.Sums.{sum_to, pick}
use Rattle.flow.specs.Nets.{Net, outflow, inflow}
use Rattle.flow.specs.Pushes.{Raised, PushBegins, PushAlong, PushAgainst, PushEnds}
use Rattle.flow.proofs.Sums.{sum_to_but}

pick_add : (b : Bool) (x y : ℕ) → pick b (x + y) ≡ pick b x + pick b y
pick_add true x y = refl
pick_add false x y = omega arith

-- what more at k does to the sum at one end of the arcs
raise : (e : ℕ → ℕ) (n : Net) (f g : ℕ → ℕ) (k d u : ℕ) → k < n.arcs → Raised n f g k d
    → sum_to (λ j. pick (eqb (e j) u) (g j)) n.arcs ≡ sum_to (λ j. pick (eqb (e j) u) (f j)) n.arcs + pick
    (eqb (e k) u) d
raise e n f g k d u l r =
    let but = sum_to_but (λ j. pick (eqb (e j) u) (g j)) (λ j. pick (eqb (e j) u) (f j)) k n.arcs l
    (λ j m ne. ap (pick (eqb (e j) u)) (r.there j m ne)) in
    let at = ap (pick (eqb (e k) u)) r.here ∙ pick_add (eqb (e k) u) (f k) d in
    omega (arith, but, at)

pub push_along : PushAlong
push_along n f g w d k l r fits low m = record { below = below; none_above = none_above; even = even }
  where
    below : (j : ℕ) → j < n.arcs → n.unbounded j ≡ false → g j ≤ n.capacity j
    below j lj fr =
        ⊎_elim
        (λ e. let a = ap g e in let b = ap n.capacity e in omega
        (arith, r.here, fits (ap n.unbounded (sym e) ∙ fr)))
        (λ ne. omega (arith, r.there j lj ne, m.below j lj fr))
        (cases_eq j k)

    none_above : (j : ℕ) → j < n.arcs → g j ≤ w + d
    none_above j lj =
        ⊎_elim
        (λ e. let a = ap g e in omega (arith, r.here))
        (λ ne. omega (arith, r.there j lj ne, m.none_above j lj))
        (cases_eq j k)

    even : (v : ℕ) → v < n.nodes → (v ≡ 1 → ⊥)
        → outflow n g v + pick (eqb (n.head k) v) d ≡ inflow n g v + pick (eqb 0 v) (w + d)
    even v lv ne = omega (arith, raise n.tail n f g k d v l r, raise n.head n f g k d v l r, m.even v lv ne)

pub push_against : PushAgainst
push_against n f g w d k l r m = record { below = below; none_above = none_above; even = even }
  where
    lower : (j : ℕ) → j < n.arcs → g j ≤ f j
    lower j lj =
        ⊎_elim
        (λ e. let a = ap g e in let b = ap f e in omega (arith, r.here))
        (λ ne. omega (arith, r.there j lj ne))
        (cases_eq j k)

    below : (j : ℕ) → j < n.arcs → n.unbounded j ≡ false → g j ≤ n.capacity j
    below j lj fr = omega (arith, lower j lj, m.below j lj fr)

    none_above : (j : ℕ) → j < n.arcs → g j ≤ w + d
    none_above j lj = omega (arith, lower j lj, m.none_above j lj)

    even : (v : ℕ) → v < n.nodes → (v ≡ 1 → ⊥)
        → outflow n g v + pick (eqb (n.tail k) v) d ≡ inflow n g v + pick (eqb 0 v) (w + d)
    even v lv ne = omega (arith, raise n.tail n g f k d v l r, raise n.head n g f k d v l r, m.even v lv ne)

pub push_begins : PushBegins
push_begins n f w d flow small =
    record { below = flow.below; none_above = λ k l. omega (arith, small k l); even = even }
  where
    even : (v : ℕ) → v < n.nodes → (v ≡ 1 → ⊥) → outflow n f v + pick (eqb 0 v) d ≡ inflow n f v + pick
        (eqb 0 v) (w + d)
    even v lv ne =
        ⊎_elim
        (λ e.
        let a = ap (λ b. pick b d) (eq-eqb 0 v (sym e)) in
        let b = ap (λ b. pick b (w + d)) (eq-eqb 0 v (sym e)) in
        let o = ap (outflow n f) e in
        let i = ap (inflow n f) e in
        omega (arith, flow.worth))
        (λ nz.
        let a = ap (λ b. pick b d) (ne_eqb 0 v (λ e. nz (sym e))) in
        let b = ap (λ b. pick b (w + d)) (ne_eqb 0 v (λ e. nz (sym e))) in
        omega (arith, flow.balanced v (omega arith) lv))
        (cases_eq v 0)

pub push_ends : PushEnds
push_ends n s f w d m = (
  record {
    below = m.below;
    balanced = balanced;
    worth = omega (arith, m.even 0 (omega (arith, s.two)) (λ e. omega arith));
  },
  m.none_above,
)
  where
    balanced : (v : ℕ) → 2 ≤ v → v < n.nodes → outflow n f v ≡ inflow n f v
    balanced v two l =
        let a = ap (λ b. pick b d) (ne_eqb 1 v (λ e. omega arith)) in
        let b = ap (λ b. pick b (w + d)) (ne_eqb 0 v (λ e. omega arith)) in
        omega (arith, m.even v l (λ e. omega arith))
