-- From a maximum flow of the time network, or of the turned one, to the wanted list.
use Rattle.std.proofs.Common.{◌≡◌, ℕ, ◌*◌, ◌<◌, ◌≤◌, Bool, eqb, List, ◌++◌, drop, Some, Ok, Err, sym, refl, ap, ◌∙◌, ⊎_elim, arith}
use Rattle.std.proofs.lemmas.List.FromFn.{length-map-range_with_len}
use Rattle.std.proofs.lemmas.Bool.{both_ways, eqb-true}
use Rattle.model.specs.declared.refusal.Refusal.{Refusal}
use Rattle.model.specs.Meaning.{Meaning, Bounds}
use Rattle.flow.specs.Nets as nets
use Rattle.flow.specs.Nets.{Net, Sound, IsFlow, NoneAbove, Reached, Unhindered, word}
use Rattle.flow.specs.Cuts.{Marks}
use Rattle.flow.specs.Turning.{turned, turned_sound, far_side}
use Rattle.flow.proofs.Duals.{unhindered_inside}
use Rattle.flow.proofs.Turning.{turned_cut_is_a_cut}
use Rattle.max_flow.specs.Outcome.{marked, Maximum, Answered}
use Rattle.plan_theory.specs.TimeNetwork.{time_net}
use Rattle.plan_theory.specs.TimeBounds.{time_sound}
use Rattle.plan_theory.proofs.Crossings.{unhindered_or_finite}
use Rattle.plan_theory.proofs.Plans.{minimum_cut_is_cheapest, turned_minimum_cut_is_latest, unhindered_when_none_meets}
use Rattle.time_network.specs.Agreement.{Same}
use Rattle.time_network.proofs.Agreeing.{same_back, same_turned, same_flows, same_reached, same_unhindered}
use Rattle.least_cost.specs.declared.side.Side.{Side}
use Rattle.least_cost.specs.declared.side.Side.TheVariants.{Early, Late}
use Rattle.least_cost.specs.Sides.{net_by, start_by, starts_by, wanted}
use Rattle.least_cost.specs.Outcome.{in_front, Found, Nothing}

-- what is reached is a node
reached_in : (n : Net) (f : ℕ → ℕ) (v : ℕ) → Sound n → Reached n f v → v < n.nodes
reached_in n f v s nets.Reached.source = omega (arith, s.two)
reached_in n f v s (nets.Reached.along k l r p) = s.heads k l
reached_in n f v s (nets.Reached.back k l r p) = s.tails k l

-- the marks of the engine are the marks of any network that is the same
engine_marks : (n t : Net) → Same n t → Sound t → (flow nodes : List ℕ) (w : ℕ) → Maximum n flow nodes w → Marks t (word flow) (marked nodes)
engine_marks n t s sound flow nodes w x = record {
  marked = λ v l e. same_reached n t s (word flow) v (⊎_elim (λ y. y.1) (λ y. absurd (let z = eqb-true (word nodes v) 1 e in omega (arith, y.0))) (x.marks v (omega (arith, s.nodes))));
  reached = λ v r. ⊎_elim (λ y. ap (λ k. eqb k 1) y.0) (λ y. absurd (y.1 (same_reached t n (same_back n t s) (word flow) v r))) (x.marks v (omega (arith, s.nodes, reached_in t (word flow) v sound r)));
}

-- the list as it lies in front of the start bytes
front_is : (side : Side) (m : Meaning) (marks : ℕ → Bool) (starts : List ℕ) → wanted side m ≡ Some (starts_by side m marks)
    → starts_by side m marks ++ drop m.n starts ≡ in_front (wanted side m) starts
front_is side m marks starts e =
    ap (λ (k : ℕ). starts_by side m marks ++ drop k starts) (sym (length-map-range_with_len (start_by side m marks) 0 m.n))
    ∙ ap (λ o. in_front o starts) (sym e)

same_above : (n t : Net) → Same n t → (f : ℕ → ℕ) (w : ℕ) → NoneAbove n f w → NoneAbove t f w
same_above n t s f w x k l = x k (omega (arith, s.arcs))

pub planned : (side : Side) (m : Meaning) (n : Net) → Bounds m → Same n (time_net m) → (starts starts' flow flow' nodes nodes' : List ℕ) (w : ℕ)
    → Answered (net_by side n) flow flow' nodes nodes' (Ok w) → starts' ≡ starts_by side m (marked nodes') ++ drop m.n starts
    → Found side m starts starts' flow flow' w
planned Early m n b s starts starts' flow flow' nodes nodes' w x written =
    let marks = engine_marks n (time_net m) s (time_sound m b) flow' nodes' w x.0 in
    let f = same_flows n (time_net m) s (word flow') w x.0.is_flow in
    let best = minimum_cut_is_cheapest m b (word flow') w f (marked nodes') marks x.0.marks_cut.lacks_sink in
    record {
      the_list = starts_by Early m (marked nodes');
      defined = best.defined;
      described = best.described;
      costs = best.costs;
      starts_are = written ∙ front_is Early m (marked nodes') starts best.defined;
      a_flow = f;
      no_word_above_the_value = same_above n (time_net m) s (word flow') w x.0.no_word_above_the_value;
      rest_of_flow = ap (λ (k : ℕ). drop k flow') (sym s.arcs) ∙ (x.1 ∙ ap (λ (k : ℕ). drop k flow) s.arcs);
    }
planned Late m n b s starts starts' flow flow' nodes nodes' w x written =
    let t = same_turned n (time_net m) s in
    let marks = engine_marks (turned n) (turned (time_net m)) t (turned_sound (time_net m) (time_sound m b)) flow' nodes' w x.0 in
    let f = same_flows (turned n) (turned (time_net m)) t (word flow') w x.0.is_flow in
    let best = turned_minimum_cut_is_latest m b (word flow') w f (marked nodes') marks x.0.marks_cut.lacks_sink in
    record {
      the_list = starts_by Late m (marked nodes');
      defined = best.0.defined;
      described = best.0.described;
      costs = best.0.costs;
      starts_are = written ∙ front_is Late m (marked nodes') starts best.0.defined;
      a_flow = best.1;
      no_word_above_the_value = same_above n (time_net m) s (word flow') w x.0.no_word_above_the_value;
      rest_of_flow = ap (λ (k : ℕ). drop k flow') (sym s.arcs) ∙ (x.1 ∙ ap (λ (k : ℕ). drop k flow) s.arcs);
    }

-- where unbounded arcs lead across the turned network they lead across the network
turned_unhindered : (n : Net) → Sound n → Unhindered (turned n) 1 → Unhindered n 1
turned_unhindered n s u =
    ⊎_elim (λ x. x)
    (λ x.
    let cut = (turned_cut_is_a_cut n s x.0 x.1).0 in
    absurd (both_ways (far_side x.0 1) cut.lacks_sink (unhindered_inside (far_side x.0) cut u)))
    (unhindered_or_finite n s)

pub nothing : (side : Side) (m : Meaning) (n : Net) → Bounds m → Same n (time_net m) → (starts flow flow' nodes nodes' : List ℕ) (e : Refusal)
    → Answered (net_by side n) flow flow' nodes nodes' (Err e) → Nothing side m starts starts flow flow' e
nothing Early m n b s starts flow flow' nodes nodes' e x = record {
  refusal = x.0;
  none_meets = (unhindered_when_none_meets m b).none_meets (same_unhindered n (time_net m) s 1 x.1);
  same_starts = refl;
  same_flow = x.2;
}
nothing Late m n b s starts flow flow' nodes nodes' e x = record {
  refusal = x.0;
  none_meets = (unhindered_when_none_meets m b).none_meets (turned_unhindered (time_net m) (time_sound m b) (same_unhindered (turned n) (turned (time_net m)) (same_turned n (time_net m) s) 1 x.1));
  same_starts = refl;
  same_flow = x.2;
}

-- the memory that the engine is lent is enough for it
pub enough_flow : (side : Side) (m : Meaning) (n : Net) (k : ℕ) → Same n (time_net m) → (time_net m).arcs ≤ k → (net_by side n).arcs ≤ k
enough_flow Early m n k s l = omega (arith, s.arcs)
enough_flow Late m n k s l = omega (arith, s.arcs)

pub enough_nodes : (side : Side) (m : Meaning) (n : Net) (k : ℕ) → Same n (time_net m) → 4 * (time_net m).nodes ≤ k → 4 * (net_by side n).nodes ≤ k
enough_nodes Early m n k s l = omega (arith, s.nodes)
enough_nodes Late m n k s l = omega (arith, s.nodes)
