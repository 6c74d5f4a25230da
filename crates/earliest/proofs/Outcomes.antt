-- What the end of the pushing tells: the earliest starts, or that no list meets.
use Rattle.std.proofs.Common.{◌≡◌, ℕ, ◌-◌, ◌*◌, ◌<◌, ◌≤◌, true, false, List, ◌++◌, length, take, drop, replicate, pos, ◌+ℤ◌, ◌≤ℤ◌, Some, None, Ok, Err, Decides, Option, Result, sym, refl, ap, ◌∙◌, subst, mul-le-mul, arith}
use Rattle.std.proofs.lemmas.List.FromFn.{length-map-range_with_len, get_or-map-range_with_len}
use Rattle.std.proofs.lemmas.List.{take_at}
use Rattle.std.proofs.lemmas.Bool.Decides.{nat_tests}
use Rattle.model.specs.declared.refusal.Fault.TheVariants as fault
use Rattle.model.specs.declared.refusal.Refusal.{Refusal}
use Rattle.model.specs.Meaning.{Meaning, Bounds}
use Rattle.model.specs.Refusals.{refuse}
use Rattle.model.specs.Starts.{start, is_open, earliest}
use Rattle.model.specs.Chosen.{Earliest, NoneMeets}
use Rattle.model.proofs.Search.{earliest_first, none_defined_exactly}
use Rattle.earliest.specs.declared.chain.Entry.{Entry}
use Rattle.earliest.specs.declared.nodes.Node.{Node}
use Rattle.earliest.specs.Outcome.{words_needed, Explained, Ending, impossible, found, searched, ending, answer_of, place_of, says_impossible, nodes_after, Enough, Told, Outcome}
use Rattle.earliest.specs.Pushing.{bound, bounds, State, Quiet}
use Rattle.earliest.proofs.Refute.{refute}
use Rattle.earliest.proofs.Steps.{open_when_none, holds_when_none}

-- bounds that nothing pushes are the earliest starts
pub quiet_earliest : (m : Meaning) (nd : ℕ → Node) (la : ℕ → ℕ) (c : ℕ) → Bounds m → State m nd la c → Quiet m nd la → Earliest m (bounds m nd la)
quiet_earliest m nd la c b s q =
    let at : (a : ℕ) → a < m.n → start (bounds m nd la) a ≡ bound nd la a = λ a lt. get_or-map-range_with_len (bound nd la) 0 m.n a a 0 lt (omega arith) in
    record {
      meeting = record {
        one_each = length-map-range_with_len (bound nd la) 0 m.n;
        below_horizon = λ a lt. omega (arith, at a lt, s.below a lt);
        in_open_slots = λ a lt. ap (λ (t : ℕ). is_open (m.price a t)) (at a lt) ∙ open_when_none (m.price a (bound nd la a)) a (bound nd la a) (la a) (q.all_open a lt);
        lags_hold = λ k lt.
            let w = b.lag_ok k lt in
            let held = holds_when_none m nd la k (s.below (m.lag k).to w.to_ok) (q.all_hold k lt) in
            subst (λ (x : ℕ). (pos x +ℤ (m.lag k).gap) ≤ℤ pos (start (bounds m nd la) (m.lag k).to)) (sym (at (m.lag k).from w.from_ok))
            (subst (λ (y : ℕ). (pos (bound nd la (m.lag k).from) +ℤ (m.lag k).gap) ≤ℤ pos y) (sym (at (m.lag k).to w.to_ok)) held);
      };
      none_earlier = λ r met a lt. omega (arith, at a lt, s.least r met a lt);
    }

pub told_found : (m : Meaning) (s starts starts' : List ℕ) (chain : List Entry) → Earliest m s → starts' ≡ s ++ drop m.n starts → Told m (searched (earliest m)) starts starts' chain chain (Ok tt)
told_found m s starts starts' chain first is =
    let long : length s ≡ m.n = first.meeting.one_each in
    let t : Told m (found s) starts starts' chain chain (Ok tt) = record {
      answer = refl;
      starts_are = is ∙ ap (λ (k : ℕ). s ++ drop k starts) (sym long);
      chain_is = refl;
      least = λ ok. subst (λ (xs : List ℕ). Earliest m xs) (sym (ap (take m.n) is ∙ take_at s (drop m.n starts) m.n long)) first;
    } in
    subst (λ (o : Option (List ℕ)). Told m (searched o) starts starts' chain chain (Ok tt)) (sym (earliest_first m s first)) t

pub told_impossible : (m : Meaning) (starts : List ℕ) (chain chain' : List Entry) (k : ℕ) → Explained m chain chain' k → Told m (searched (earliest m)) starts starts chain chain' (Err (refuse fault.Impossible k))
told_impossible m starts chain chain' k x =
    let t : Told m impossible starts starts chain chain' (Err (refuse fault.Impossible k)) = record {
      answer = refl;
      starts_are = refl;
      chain_is = x;
      least = λ ok. absurd cc;
    } in
    let none = (none_defined_exactly.no_earliest m).none_found (refute m (take k chain') x.chain) in
    subst (λ (o : Option (List ℕ)). Told m (searched o) starts starts chain chain' (Err (refuse fault.Impossible k))) (sym none) t

enough_ending : (m : Meaning) (s w c : ℕ) → Enough m s w c → ending m s w c ≡ searched (earliest m)
enough_ending m s w c e = grind (arith, nat_tests)

searched_exactly : (m : Meaning) (o : Option (List ℕ)) (k : ℕ) (r : Result (Unit {0}) Refusal) → earliest m ≡ o → r ≡ answer_of (searched o) k → Decides (says_impossible r) (NoneMeets m)
searched_exactly m None k r e is = ((λ yes. (none_defined_exactly.no_earliest m).none_meets e), λ none. ap says_impossible is)
searched_exactly m (Some s) k r e is = (
  (λ yes. let z : false ≡ true = sym (ap says_impossible is) ∙ yes in absurd cc),
  λ none. let z : Some s ≡ None = sym e ∙ (none_defined_exactly.no_earliest m).none_found none in absurd cc,
)

pub exactly : (m : Meaning) (s w c : ℕ) (r : Result (Unit {0}) Refusal) → r ≡ answer_of (ending m s w c) (place_of r) → Enough m s w c → Decides (says_impossible r) (NoneMeets m)
exactly m s w c r is e =
    searched_exactly m (earliest m) (place_of r) r refl (is ∙ ap (λ (x : Ending). answer_of x (place_of r)) (enough_ending m s w c e))

pub words_fit : (m : Meaning) → Bounds m → words_needed m ≤ 32520
words_fit m b =
    let h : m.horizon - 1 ≤ 127 = omega (arith, b.h_high) in
    let p : m.n * (m.horizon - 1) ≤ 64 * 127 = mul-le-mul b.n_high h in
    omega (arith, p)

nodes_cleared : (m : Meaning) (o : Option (List ℕ)) (xs : List ℕ) → nodes_after m (searched o) xs ≡ replicate (words_needed m) 0 ++ drop (words_needed m) xs
nodes_cleared m None xs = refl
nodes_cleared m (Some s) xs = refl

pub outcome : (m : Meaning) (starts starts' nodes nodes' : List ℕ) (chain chain' : List Entry) (r : Result (Unit {0}) Refusal) (w : ℕ)
    → Enough m (length starts) (length nodes) (length chain) → Told m (searched (earliest m)) starts starts' chain chain' r → w ≡ words_needed m → nodes' ≡ replicate w 0 ++ drop w nodes
    → Outcome m starts starts' nodes nodes' chain chain' r
outcome m starts starts' nodes nodes' chain chain' r w enough told is cleared =
    let e = enough_ending m (length starts) (length nodes) (length chain) enough in
    let t : Told m (ending m (length starts) (length nodes) (length chain)) starts starts' chain chain' r = subst (λ (x : Ending). Told m x starts starts' chain chain' r) (sym e) told in
    record {
      told = t;
      nodes_are = cleared ∙ ap (λ (k : ℕ). replicate k 0 ++ drop k nodes) is ∙ sym (nodes_cleared m (earliest m) nodes) ∙ ap (λ (x : Ending). nodes_after m x nodes) (sym e);
      impossible_exactly = exactly m (length starts) (length nodes) (length chain) r t.answer;
    }
