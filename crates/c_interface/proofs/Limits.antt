-- A start list that meets a project costs at most 128,000,000,000 above its floors: 64 prices, each at
-- most 2,000,000,000 above its floor.
use Rattle.std.proofs.Common.{◌≡◌, ℕ, zero, suc, ◌+◌, ◌-◌, ◌*◌, ◌<◌, ◌≤◌, List, length, ℤ, pos, ◌+ℤ◌, Ok, Err, Result, subst, ⊎_elim, mul-le-mul, arith}
use Rattle.std.proofs.lemmas.Bool.{cases_lt}
use Rattle.std.proofs.lemmas.Int.{ints}
use Rattle.model.specs.declared.refusal.Refusal.{Refusal}
use Rattle.model.specs.Meaning.{Meaning, Bounds}
use Rattle.model.specs.Starts.{start, floor, floors, cost}
use Rattle.model.specs.Chosen.{Meets}
use Rattle.flow.specs.Sums.{sum_to}
use Rattle.plan_theory.specs.TimeNetwork.{above, on_arc, time_net}
use Rattle.plan_theory.specs.TimeArcs.{on_capacity, on_exists}
use Rattle.plan_theory.specs.TimeBounds.{time_bounds}
use Rattle.plan_theory.proofs.Floors.{excess, cost_above}
use Rattle.least_cost.specs.declared.side.Side.TheVariants.{Early}
use Rattle.table_file.specs.Stated.{stated}
use Rattle.table_file.specs.Bounded.{stated_bounds}
use Rattle.c_interface.specs.Entry.{FullSize, FullSizeIsEnough}
use Rattle.least_cost.specs.Outcome.{Enough, Outcome, words_needed}

sum_limit : (f : ℕ → ℕ) (n : ℕ) → ((a : ℕ) → a < n → f a ≤ 2000000000) → sum_to f n ≤ 2000000000 * n
sum_limit f zero each = omega arith
sum_limit f (suc n) each = omega (arith, sum_limit f n (λ a l. each a (omega arith)), each n (omega arith))

pub excess_limit : (m : Meaning) → Bounds m → (s : List ℕ) → Meets m s → excess m s ≤ 128000000000
excess_limit m b s x = omega (arith, sum_limit _ m.n each, b.n_high)
  where
    each : (a : ℕ) → a < m.n → above (floor m a) (m.price a (start s a)) ≤ 2000000000
    each a la =
        let lt = x.below_horizon a la in
        subst (λ (y : ℕ). y ≤ 2000000000) (on_capacity m a (start s a) la lt)
        ((time_bounds m b).capacity_limit (on_arc m a (start s a)) (on_exists m a (start s a) la lt))

same_excess : (u v : ℕ) (c d : ℤ) → c ≡ d +ℤ pos u → c ≡ d +ℤ pos v → u ≡ v
same_excess u v c d p q = omega (arith, ints)

pub value_limit : (m : Meaning) → Bounds m → (s : List ℕ) (w : ℕ) → Meets m s → cost m s ≡ floors m +ℤ pos w → w ≤ 128000000000
value_limit m b s w x e =
    let same = same_excess w (excess m s) (cost m s) (floors m) e (cost_above m s x) in
    omega (arith, excess_limit m b s x)

ok_is_no_err : (w : ℕ) (e : Refusal) → ◌≡◌ {A = Result ℕ Refusal} (Ok w) (Err e) → ⊥
ok_is_no_err w e h = let o : ◌≡◌ {A = ℕ} 0 1 = cc in omega arith

-- the value that a call answers
pub answered_limit : (m : Meaning) → Bounds m → (starts starts' flow flow' nodes nodes' : List ℕ) (w : ℕ)
    → Outcome Early m starts starts' flow flow' nodes nodes' (Ok w) → w ≤ 128000000000
answered_limit m b starts starts' flow flow' nodes nodes' w x =
    ⊎_elim
    (λ (l : length starts < m.n). absurd (ok_is_no_err w _ (x.few_start_bytes l).answer))
    (λ (s : m.n ≤ length starts).
    ⊎_elim
    (λ (l : length flow < (time_net m).arcs). absurd (ok_is_no_err w _ (x.few_flow_words s l).answer))
    (λ (f : (time_net m).arcs ≤ length flow).
    ⊎_elim
    (λ (l : length nodes < words_needed m). absurd (ok_is_no_err w _ (x.few_node_words s f l).answer))
    (λ (k : words_needed m ≤ length nodes).
    let found = x.settled (record { starts_enough = s; flow_enough = f; nodes_enough = k }) in
    value_limit m b found.the_list w found.described.least.meeting found.costs)
    (cases_lt (length nodes) (words_needed m)))
    (cases_lt (length flow) (time_net m).arcs))
    (cases_lt (length starts) m.n)

full_size : (m : Meaning) → Bounds m → (starts flow nodes : List ℕ) → FullSize starts flow nodes → Enough m starts flow nodes
full_size m b starts flow nodes x =
    let rows : 2 * m.n + m.lags ≤ 384 = omega (arith, b.n_high, b.lags_ok) in
    let slots : m.horizon - 1 ≤ 127 = omega (arith, b.h_high) in
    let arcs : m.horizon * (2 * m.n + m.lags) ≤ 128 * 384 = mul-le-mul b.h_high rows in
    let inner : m.n * (m.horizon - 1) ≤ 64 * 127 = mul-le-mul b.n_high slots in
    record {
      starts_enough = omega (arith, b.n_high, x.starts_full);
      flow_enough = omega (arith, arcs, x.flow_full);
      nodes_enough = omega (arith, inner, x.nodes_full);
    }

pub full_size_is_enough : (file starts flow nodes : List ℕ) → FullSizeIsEnough file starts flow nodes
full_size_is_enough file starts flow nodes clean x = full_size (stated file) (stated_bounds file clean) starts flow nodes x
