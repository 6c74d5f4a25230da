-- The theorems on plans, from cuts that stand at the starts of a list.
use Rattle.std.proofs.Common.{◌≡◌, ℕ, ◌+◌, ◌<◌, ◌≤◌, Bool, true, false, not, ◌&&◌, leb, List, pos, ◌+ℤ◌, Some, sym, refl, ap, ◌∙◌, ⊎_elim, arith}
use Rattle.std.proofs.lemmas.List.FromFn.{length-map-range_with_len, get_or-map-range_with_len}
use Rattle.std.proofs.lemmas.Int.{ints}
use Rattle.std.proofs.lemmas.Bool.{cases_Bool, both_ways, not-true, not-false, not_from_true, not_from_false, le-leb, lt-leb}
use Rattle.model.specs.Meaning.{Meaning, Bounds}
use Rattle.model.specs.Starts.{start, cost, floors, latest}
use Rattle.model.specs.Chosen.{Meets, NoneLater, Cheapest, Latest}
use Rattle.model.proofs.Search.{cheapest_first, latest_last}
use Rattle.flow.specs.Sums.{pick}
use Rattle.flow.specs.Nets.{Net, Sound, IsFlow}
use Rattle.flow.specs.Cuts.{across, FiniteCut}
use Rattle.flow.specs.Turning.{other, turned, far_side, other_other, other_within, turned_sound}
use Rattle.flow.proofs.Sums.{sum_to_same}
use Rattle.flow.proofs.Duals.{no_flow_exceeds_a_cut, reached_lies_inside, marks_cut, unhindered_inside}
use Rattle.flow.proofs.Turning.{turned_flow_is_a_flow, turned_cut_is_a_cut}
use Rattle.plan_theory.specs.TimeNetwork.{point, time_net}
use Rattle.plan_theory.specs.TimeArcs.{point_in}
use Rattle.plan_theory.specs.TimeBounds.{time_sound}
use Rattle.plan_theory.specs.Plans.{start_from, starts_from, start_before, starts_before, MinimumCutIsCheapest, TurnedMinimumCutIsLatest, UnhinderedWhenNoneMeets, FlowVouchesForCost}
use Rattle.plan_theory.proofs.Rows.{least_from_is}
use Rattle.plan_theory.proofs.Floors.{excess, cost_above}
use Rattle.plan_theory.proofs.Thresholds.{CutAt, inside, inside_below, capacity_is_excess, meets_finite, finite_meets, cut_of, cut_of_at, cut_at_greatest, cut_at_starts, greatest_in_horizon, starts_meet}
use Rattle.plan_theory.proofs.Crossings.{unhindered_or_finite}

-- the cut of a list that meets the project
module _ (m : Meaning) (b : Bounds m) (r : List ℕ) (x : Meets m r) where
  pub list_cut_at : CutAt m (cut_of m r) r
  list_cut_at = cut_of_at m b r x.below_horizon

  pub list_cut_finite : FiniteCut (time_net m) (cut_of m r)
  list_cut_finite = meets_finite m b (cut_of m r) r list_cut_at x

  pub list_cut_capacity : across (time_net m) (cut_of m r) (time_net m).capacity ≡ excess m r
  list_cut_capacity = capacity_is_excess m (cut_of m r) r list_cut_at x.below_horizon

  -- no flow has a value above what a list costs above the floors
  pub no_flow_exceeds_a_list : (f : ℕ → ℕ) (w : ℕ) → IsFlow (time_net m) f w → w ≤ excess m r
  no_flow_exceeds_a_list f w flow =
      let l = no_flow_exceeds_a_cut (time_net m) (time_sound m b) f w flow (cut_of m r) list_cut_finite in
      omega (arith, list_cut_capacity)

pub flow_vouches_for_cost : FlowVouchesForCost
flow_vouches_for_cost m b s x f w flow e =
    record {
      meeting = x;
      none_cheaper = λ r y.
          let c = cost_above m r y in
          let l = no_flow_exceeds_a_list m b r y f w flow in
          omega (arith, ints);
    }

-- lists of one cost have one excess
pub same_excess : (m : Meaning) (r s : List ℕ) (w : ℕ) → Meets m r → cost m s ≡ floors m +ℤ pos w
    → cost m r ≡ cost m s → excess m r ≡ w
same_excess m r s w y c e = let d = cost_above m r y in omega (arith, ints)

pub minimum_cut_is_cheapest : MinimumCutIsCheapest
minimum_cut_is_cheapest m b f w flow marks k none =
    record { described = described; defined = cheapest_first m (starts_from m marks) described; costs = costs }
  where
    cut : FiniteCut (time_net m) marks × (across (time_net m) marks (time_net m).capacity ≡ w)
    cut = marks_cut (time_net m) (time_sound m b) f w flow marks k none

    at : CutAt m marks (starts_from m marks)
    at = cut_at_starts m b marks cut.0

    meeting : Meets m (starts_from m marks)
    meeting = starts_meet m b marks cut.0

    costs : cost m (starts_from m marks) ≡ floors m +ℤ pos w
    costs =
        cost_above m (starts_from m marks) meeting
        ∙ ap (λ (v : ℕ). floors m +ℤ pos v)
        (sym (capacity_is_excess m marks (starts_from m marks) at meeting.below_horizon) ∙ cut.1)

    earlier : (r : List ℕ) → Meets m r → cost m r ≡ cost m (starts_from m marks)
        → NoneLater m.n (starts_from m marks) r
    earlier r y e a la =
        let t : ℕ = start (starts_from m marks) a in
        let lt = meeting.below_horizon a la in
        let marked = inside m marks (starts_from m marks) at a t la (omega arith) (omega arith) in
        let reached = k.marked (point m.horizon a t) (point_in m a t la) marked in
        let dear = list_cut_capacity m b r y ∙ same_excess m r (starts_from m marks) w y costs e in
        inside_below m (cut_of m r) r (list_cut_at m b r y) a t la (omega arith)
        (reached_lies_inside (time_net m) (time_sound m b) f w flow (cut_of m r) (list_cut_finite m b r y)
        dear (point m.horizon a t) reached)

    described : Cheapest m (starts_from m marks)
    described =
        record {
          least = flow_vouches_for_cost m b (starts_from m marks) meeting f w flow costs;
          none_earlier = earlier;
        }

pub unhindered_when_none_meets : UnhinderedWhenNoneMeets
unhindered_when_none_meets m b =
    record {
      none_meets = λ u s x.
          let c = list_cut_finite m b s x in
          both_ways _ c.lacks_sink (unhindered_inside (cut_of m s) c u);
      unhindered = λ none.
          ⊎_elim (λ u. u) (λ c. absurd (none (starts_from m c.0) (starts_meet m b c.0 c.1)))
          (unhindered_or_finite (time_net m) (time_sound m b));
    }

-- a finite cut of the turned network is, seen from the far side, a finite cut of the network
pub far_side_finite : (n : Net) (S : ℕ → Bool) → FiniteCut (turned n) S → FiniteCut n (far_side S)
far_side_finite n S c =
    record {
      has_source = not_from_false _ c.lacks_sink;
      lacks_sink = not_from_true _ c.has_source;
      none_unbounded = λ k l t u.
          ⊎_elim
          (λ e. absurd (both_ways _ (not-true _ t) (c.none_unbounded k l e u)))
          (λ e. not_from_false _ e)
          (cases_Bool (S (other (n.head k))));
    }

far_pick : (a b : Bool) (x : ℕ) → pick (not a && not (not b)) x ≡ pick (b && not a) x
far_pick true true x = refl
far_pick true false x = refl
far_pick false true x = refl
far_pick false false x = refl

pub far_side_capacity : (n : Net) (S : ℕ → Bool)
    → across n (far_side S) n.capacity ≡ across (turned n) S n.capacity
far_side_capacity n S =
    sum_to_same _ _ n.arcs (λ k l. far_pick (S (other (n.tail k))) (S (other (n.head k))) (n.capacity k))

pub start_starts_before : (m : Meaning) (S : ℕ → Bool) (a : ℕ) → a < m.n
    → start (starts_before m S) a ≡ start_before m S a
start_starts_before m S a la = get_or-map-range_with_len (start_before m S) 0 m.n a a 0 la (omega arith)

-- just before the least slot on the one side is the greatest on the other
pub before_is_greatest : (m : Meaning) → Bounds m → (S : ℕ → Bool) → FiniteCut (time_net m) (far_side S)
    → (a : ℕ) → a < m.n → start_before m S a ≡ start_from m (far_side S) a
before_is_greatest m b S c a la =
    let g : ℕ = start_from m (far_side S) a in
    let low = greatest_in_horizon m b (far_side S) c a in
    let at = cut_at_greatest m b (far_side S) c a in
    let least = least_from_is m.horizon 0 (g + 1) (λ t. S (other (point m.horizon a t)))
    (λ j z l. not-true _ (at j la (omega arith) ∙ le-leb j g (omega arith)))
    (omega arith) (omega arith)
    (λ l. not-false _ (at (g + 1) la (omega arith) ∙ lt-leb (g + 1) g (omega arith))) in
    omega arith

pub turned_minimum_cut_is_latest : TurnedMinimumCutIsLatest
turned_minimum_cut_is_latest m b f w turned_flow marks k none =
    (record { described = described; defined = defined; costs = costs }, flow)
  where
    sound : Sound (time_net m)
    sound = time_sound m b

    flow : IsFlow (time_net m) f w
    flow = turned_flow_is_a_flow (time_net m) sound f w turned_flow

    cut : FiniteCut (turned (time_net m)) marks
        × (across (turned (time_net m)) marks (time_net m).capacity ≡ w)
    cut = marks_cut (turned (time_net m)) (turned_sound (time_net m) sound) f w turned_flow marks k none

    finite : FiniteCut (time_net m) (far_side marks)
    finite = far_side_finite (time_net m) marks cut.0

    starts : (a : ℕ) → a < m.n → start (starts_before m marks) a ≡ start_from m (far_side marks) a
    starts a la = start_starts_before m marks a la ∙ before_is_greatest m b marks finite a la

    at : CutAt m (far_side marks) (starts_before m marks)
    at a t la lt = cut_at_greatest m b (far_side marks) finite a t la lt ∙ ap (leb t) (sym (starts a la))

    meeting : Meets m (starts_before m marks)
    meeting =
        finite_meets m b (far_side marks) (starts_before m marks) at
        (length-map-range_with_len (start_before m marks) 0 m.n)
        (λ a la. omega (arith, starts a la, greatest_in_horizon m b (far_side marks) finite a)) finite

    costs : cost m (starts_before m marks) ≡ floors m +ℤ pos w
    costs =
        cost_above m (starts_before m marks) meeting
        ∙ ap (λ (v : ℕ). floors m +ℤ pos v)
        (sym (capacity_is_excess m (far_side marks) (starts_before m marks) at meeting.below_horizon)
        ∙ (far_side_capacity (time_net m) marks ∙ cut.1))

    -- a slot of a list of this cost is not marked
    unmarked : (r : List ℕ) → Meets m r → cost m r ≡ cost m (starts_before m marks) → (a : ℕ) → a < m.n
        → marks (other (point m.horizon a (start r a))) ≡ true → ⊥
    unmarked r y e a la marked =
        let v : ℕ = point m.horizon a (start r a) in
        let lt = y.below_horizon a la in
        let far = turned_cut_is_a_cut (time_net m) sound (cut_of m r) (list_cut_finite m b r y) in
        let dear = far.1 ∙ (list_cut_capacity m b r y ∙ same_excess m r (starts_before m marks) w y costs e) in
        let node = other_within (time_net m).nodes v sound.two (point_in m a (start r a) la) in
        let reached = k.marked (other v) node marked in
        let inner = reached_lies_inside (turned (time_net m)) (turned_sound (time_net m) sound) f w turned_flow
        (far_side (cut_of m r)) far.0 dear (other v) reached in
        let out = not-true _ (ap (λ (u : ℕ). not (cut_of m r u)) (sym (other_other v)) ∙ inner) in
        both_ways _ out
        (inside m (cut_of m r) r (list_cut_at m b r y) a (start r a) la (omega arith) (omega arith))

    later : (r : List ℕ) → Meets m r → cost m r ≡ cost m (starts_before m marks)
        → NoneLater m.n r (starts_before m marks)
    later r y e a la =
        let lt = y.below_horizon a la in
        ⊎_elim
        (λ q. absurd (unmarked r y e a la q))
        (λ q.
        inside_below m (far_side marks) (starts_before m marks) at a (start r a) la (omega arith)
        (not_from_false _ q))
        (cases_Bool (marks (other (point m.horizon a (start r a)))))

    described : Latest m (starts_before m marks)
    described =
        record {
          least = flow_vouches_for_cost m b (starts_before m marks) meeting f w flow costs;
          none_later = later;
        }

    defined : latest m ≡ Some (starts_before m marks)
    defined = latest_last m (starts_before m marks) described
