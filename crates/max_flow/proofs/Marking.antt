-- From the last search to the marks.
use Rattle.std.proofs.Common.{◌≡◌, ℕ, ◌*◌, ◌<◌, ◌≤◌, min, Bool, true, false, cond, eqb, ltb, List, ◌++◌, length, get_or, take, drop, replicate, Some, None, Option, sym, refl, ap, ◌∙◌, subst, inl, inr, ⊎_elim, arith}
use Rattle.std.specs.Option.{ok_or}
use Rattle.std.proofs.lemmas.List.{get_or_append_left, drop_at, take-append-drop}
use Rattle.std.proofs.lemmas.Bool.{ltb-true, ltb-false, lt-ltb, le-ltb, eq-eqb, ne_eqb, both_ways, cases_Bool}
use Rattle.flow.specs.Nets.{Net, Bounds, IsFlow, word}
use Rattle.flow.specs.Cuts.{Finite, FiniteCut, Marks, across}
use Rattle.flow.proofs.Duals.{marks_cut, no_flow_exceeds_a_cut, unhindered_inside}
use Rattle.flow.proofs.Searches.{ranked_marks}
use Rattle.flow.proofs.Sames.{flow_same, none_above_same, reached_same, finite_cut_same, across_same}
use Rattle.max_flow.specs.Layout.{net_of, rank_in, link_in}
use Rattle.max_flow.specs.declared.nodes.Nodes.{Nodes}
use Rattle.max_flow.specs.Stages.{Reaches, Climbed}
use Rattle.flow.specs.Searches.{Searched}
use Rattle.model.specs.declared.refusal.Refusal.{Refusal}
use Rattle.model.specs.declared.refusal.Fault.TheVariants.{Unbounded}
use Rattle.model.specs.Refusals.{refuse}
use Rattle.max_flow.specs.Outcome.{IsMark, marked, Maximum, Solved, Outcome}

-- ranks that were lent to a search
pub reaches_in : {N : _} {A : _} {b : _} {n : Net} {ranks : List ℕ} {found : Bool} (s : Nodes N A b) → net_of s ≡ n
    → Searched (net_of s) (λ k. 0) (rank_in s) (link_in s) → found ≡ ltb 0 (rank_in s 1) → ranks ≡ s.rank.now
    → Reaches n ranks found
reaches_in {n = n} {ranks = ranks} s en t e er =
    record {
      searched = (
        link_in s,
        subst (λ (y : List ℕ). Searched n (λ k. 0) (word y) (link_in s)) (sym er)
            (subst (λ (m : Net). Searched m (λ k. 0) (rank_in s) (link_in s)) en t),
      );
      sink = e ∙ ap (λ (y : List ℕ). ltb 0 (word y 1)) (sym er);
    }

pub climbed_in : {N : _} {A : _} {b : _} {n : Net} {flow ranks : List ℕ} {w : ℕ} (s : Nodes N A b) → net_of s ≡ n
    → Climbed (net_of s) flow s.rank.now w → ranks ≡ s.rank.now → Climbed n flow ranks w
climbed_in {n = n} {flow = flow} {w = w} s en t er =
    subst (λ (y : List ℕ). Climbed n flow y w) (sym er) (subst (λ (m : Net). Climbed m flow s.rank.now w) en t)

-- a mark is 1 exactly at a rank
mark_test : (r x : ℕ) → x ≡ min r 1 → eqb x 1 ≡ ltb 0 r
mark_test r x e = go (ltb 0 r) refl
  where
    go : (b : Bool) → ltb 0 r ≡ b → eqb x 1 ≡ b
    go true h = eq-eqb x 1 (let l = ltb-true 0 r h in omega arith)
    go false h = ne_eqb x 1 (λ q. let l = ltb-false 0 r h in omega arith)

-- from the ranks in the first part of the words, to the marks
pub maximum : (n : Net) → Bounds n → (flow ranks ws ws' : List ℕ) (w count : ℕ) → count ≡ n.nodes → length ws ≡ 4 * n.nodes
    → Finite n → Climbed n flow ranks w → ((v : ℕ) → v < n.nodes → word ws v ≡ word ranks v)
    → ((i : ℕ) → i < length ws → get_or ws' i 0 ≡ cond (ltb i count) (min (get_or ws i 0) 1) 0)
    → Maximum n flow ws' w
maximum n b flow ranks ws ws' w count ec four (S, fin) c first words =
    record {
      is_flow = c.raised.is_flow;
      no_flow_has_more = most;
      no_word_above_the_value = c.raised.none_above;
      marks = mark;
      rest_zero = λ i l h. words i (omega arith) ∙ ap (λ t. cond t (min (get_or ws i 0) 1) 0)
          (le-ltb i count (omega arith));
      marks_cut = finite_cut_same n b.sound (λ v. ltb 0 (word ranks v)) (marked ws') same cut.0;
      cut_has_the_value = across_same n b.sound (λ v. ltb 0 (word ranks v)) (marked ws') same n.capacity
          ∙ cut.1;
      hindered = λ u. both_ways (S 1) fin.lacks_sink
          (unhindered_inside S fin u);
    }
  where
    here : (v : ℕ) → v < n.nodes → word ws' v ≡ min (word ranks v) 1
    here v l =
        words v (omega arith)
        ∙ (ap (λ t. cond t (min (get_or ws v 0) 1) 0) (lt-ltb v count (omega arith)) ∙ ap (λ x. min x 1) (first v l))

    known : Marks n (word flow) (λ v. ltb 0 (word ranks v))
    known = ranked_marks c.searched.1 c.sink

    cut : FiniteCut n (λ v. ltb 0 (word ranks v)) × (across n (λ v. ltb 0 (word ranks v)) n.capacity ≡ w)
    cut = marks_cut n b.sound (word flow) w c.raised.is_flow (λ v. ltb 0 (word ranks v)) known
        (le-ltb 0 _ (omega (arith, c.sink)))

    most : (g : ℕ → ℕ) (x : ℕ) → IsFlow n g x → x ≤ w
    most g x i = omega (arith, no_flow_exceeds_a_cut n b.sound g x i (λ v. ltb 0 (word ranks v)) cut.0, cut.1)

    same : (v : ℕ) → v < n.nodes → marked ws' v ≡ ltb 0 (word ranks v)
    same v l = mark_test (word ranks v) (word ws' v) (here v l)

    mark : (v : ℕ) → v < n.nodes → IsMark n (word flow) v (word ws' v)
    mark v l =
        ⊎_elim
        (λ t. inl (let r = ltb-true 0 (word ranks v) t in omega (arith, here v l), known.marked v l t))
        (λ t. inr (
          let r = ltb-false 0 (word ranks v) t in omega (arith, here v l),
          λ q. both_ways _ t
              (known.reached v q),
        ))
        (cases_Bool (ltb 0 (word ranks v)))

-- the same with further words behind
pub maximum_in : (n : Net) → Bounds n → (flow nodes flow_past nodes_past : List ℕ) (w : ℕ) → length flow ≡ n.arcs
    → length nodes ≡ 4 * n.nodes → Maximum n flow nodes w → Maximum n (flow ++ flow_past) (nodes ++ nodes_past) w
maximum_in n b flow nodes flow_past nodes_past w len four m =
    record {
      is_flow = flow_same n (word flow) (word (flow ++ flow_past)) flows w m.is_flow;
      no_flow_has_more = m.no_flow_has_more;
      no_word_above_the_value = none_above_same n (word flow) (word (flow ++ flow_past)) flows w
          m.no_word_above_the_value;
      marks = λ v l.
          subst (IsMark n (word (flow ++ flow_past)) v) (sym (words v (omega arith)))
          (⊎_elim
          (λ y. inl (y.0, reached_same n (word flow) (word (flow ++ flow_past)) flows y.1))
          (λ y. inr (
            y.0,
            λ q. y.1 (reached_same n (word (flow ++ flow_past)) (word flow)
                (λ k h. sym (flows k h)) q),
          ))
          (m.marks v l));
      rest_zero = λ i l h. words i h ∙ m.rest_zero i l h;
      marks_cut = finite_cut_same n b.sound (marked nodes) (marked (nodes ++ nodes_past))
          (λ v l. ap (λ x. eqb x 1) (words v (omega arith))) m.marks_cut;
      cut_has_the_value =
          across_same n b.sound (marked nodes) (marked (nodes ++ nodes_past))
          (λ v l. ap (λ x. eqb x 1) (words v (omega arith))) n.capacity
          ∙ m.cut_has_the_value;
      hindered = m.hindered;
    }
  where
    flows : (k : ℕ) → k < n.arcs → word (flow ++ flow_past) k ≡ word flow k
    flows k l = get_or_append_left flow flow_past 0 k (omega arith)

    words : (i : ℕ) → i < 4 * n.nodes → word (nodes ++ nodes_past) i ≡ word nodes i
    words i l = get_or_append_left nodes nodes_past 0 i (omega arith)

-- the whole outcome, where `a` and `b` are the lengths that were lent
module _ (n : Net) (bs : Bounds n) (flow flow₁ nodes nodes₁ : List ℕ) (a b : ℕ) (ea : a ≡ n.arcs)
    (eb : b ≡ 4 * n.nodes)
    (la : n.arcs ≤ length flow) (lb : 4 * n.nodes ≤ length nodes) where
  pub outcome_of : (r : Option ℕ) (e : Refusal) → length flow₁ ≡ a → length nodes₁ ≡ b → e ≡ refuse Unbounded 0
      → Solved n (take a flow) flow₁ nodes₁ r
      → Outcome n flow (flow₁ ++ drop a flow) nodes (nodes₁ ++ drop b nodes) (ok_or r e)
  outcome_of (Some w) e lf ln q m =
      record {
        few_flow_words = λ l. absurd (omega arith);
        few_node_words = λ l h. absurd (omega arith);
        enough = λ l h. (
          maximum_in n bs flow₁ nodes₁ (drop a flow) (drop b nodes) w (omega arith) (omega arith) m,
          drop_at flow₁ (drop a flow) n.arcs (omega arith) ∙ ap (λ x. drop x flow) ea,
          drop_at nodes₁ (drop b nodes) (4 * n.nodes) (omega arith) ∙ ap (λ x. drop x nodes) eb,
        );
      }
  outcome_of None e lf ln q (u, ef, en) =
      record {
        few_flow_words = λ l. absurd (omega arith);
        few_node_words = λ l h. absurd (omega arith);
        enough = λ l h. (
          q,
          u,
          ap (λ x. x ++ drop a flow) ef ∙ take-append-drop a flow,
          ap (λ x. x ++ drop b nodes) en ∙ ap (λ x. replicate (4 * n.nodes) 0 ++ drop x nodes) eb,
        );
      }
