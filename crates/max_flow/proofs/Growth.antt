-- One node more found, in the node words.
use Rattle.std.proofs.Common.{◌≡◌, ℕ, ◌+◌, ◌<◌, ◌≤◌, eqb, ◌⊎◌, List, set, sym, ap, ◌∙◌, subst, inl, inr, ⊎_elim, arith, below_more}
use Rattle.std.proofs.lemmas.List.{get_or-set_same, get_or-set_other}
use Rattle.std.proofs.lemmas.Bool.{eq-eqb, cases_eq}
use Rattle.flow.specs.Sums.{pick}
use Rattle.flow.specs.Nets.{Net, word}
use Rattle.flow.specs.Searches.{Searching, Opens, Shut, unranked}
use Rattle.flow.proofs.Sums.{sum_to_at}
use Rattle.flow.proofs.Searches.{found}
use Rattle.max_flow.specs.declared.nodes.Nodes.{Nodes}
use Rattle.max_flow.specs.Layout.{net_of, rank_in, link_in, queue_in, FoundAt}
use Rattle.max_flow.specs.Stages.{SearchingIn, Grown, Idle}
use Rattle.max_flow.proofs.Keeping.{same_net, kept_more, put_set}

-- a node without a rank counts
unranked_some : (m : ℕ) (rank : ℕ → ℕ) (v : ℕ) → v < m → rank v ≡ 0 → 0 < unranked m rank
unranked_some m rank v l e =
    let at = sum_to_at (λ y. pick (eqb (rank y) 0) 1) v m l in
    let one = ap (λ b. pick b 1) (eq-eqb (rank v) 0 e) in
    omega arith

pub grown_more : {N : _} {A : _} {b : _} {f : ℕ → ℕ} {s s' s'' : Nodes N A b} {waiting waiting' waiting'' : ℕ}
    → Grown f s s' waiting waiting' → Grown f s' s'' waiting' waiting'' → Grown f s s'' waiting waiting''
grown_more p q =
    let same = ap (λ (n : Net). n.nodes) (same_net p.kept) in
    record {
      kept = kept_more p.kept q.kept;
      searching = q.searching;
      ranked = λ v l h. q.ranked v (omega arith) (p.ranked v l h);
      more = omega (arith, p.more, q.more);
      fewer = omega (arith, p.fewer, q.fewer);
    }

-- room in the queue while a node has no rank
pub find_space : {N : _} {A : _} {b : _} (f : ℕ → ℕ) (s : Nodes N A b) (waiting v : ℕ) → SearchingIn f s waiting
    → v < (net_of s).nodes → rank_in s v ≡ 0 → waiting < (net_of s).nodes
find_space f s waiting v t l e = omega (arith, t.count, unranked_some (net_of s).nodes (rank_in s) v l e)

module _ {N : _} {A : _} {b : _} (f : ℕ → ℕ) (s s' : Nodes N A b) (waiting waiting' u v k : ℕ)
    (t : SearchingIn f s waiting) (lu : u < (net_of s).nodes) (nu : u ≡ 1 → ⊥) (ru : 0 < rank_in s u)
    (lv : v < (net_of s).nodes) (new : rank_in s v ≡ 0) (opens : Opens (net_of s) f k u v)
    (e : FoundAt s s' waiting v k waiting') where
  -- with rank x
  ranked : (x : ℕ) → s'.rank.now ≡ set s.rank.now v x → waiting < x → waiting ≤ waiting' → waiting' ≤ waiting + 1
      → ((v ≡ 1 → ⊥) → x ≤ waiting')
      → ((i : ℕ) → i < waiting' → ((i < waiting) × (queue_in s' i ≡ queue_in s i)) ⊎ ((queue_in s' i ≡ v) × (v ≡ 1 → ⊥)))
      → Grown f s s' waiting waiting'
  ranked x er low more most top queues =
      let n = net_of s in
      let ranks = put_set n.nodes s.rank.now s'.rank.now v x (omega arith) er in
      let links = put_set n.nodes s.link.now s'.link.now v k (omega arith) e.links in
      let y = found n (b.bounded s.network.now).sound f (rank_in s) (rank_in s') (link_in s) (link_in s')
      (queue_in s) (queue_in s') waiting waiting' u v k x
      t lu nu ru lv new opens ranks links low more most top queues in
      let same = same_net e.kept in
      let count = ap (λ (m : Net). unranked m.nodes (rank_in s')) same in
      record {
        kept = e.kept;
        searching = subst (λ (m : Net). Searching m f (rank_in s') (link_in s') (queue_in s') waiting') (sym same) y.0;
        ranked = λ z l h. omega (arith, ranks.there z l (λ q. let o = ap (rank_in s) q in omega arith));
        more = more;
        fewer = omega (arith, y.1);
      }

  pub grown_one : Grown f s s' waiting waiting'
  grown_one =
      ⊎_elim
      (λ one.
      let w = e.sink one in
      ranked ((net_of s).nodes + 1) w.0 (omega (arith, find_space f s waiting v t lv new)) (omega (arith, w.2))
      (omega (arith, w.2)) (λ ne. absurd (ne one))
      (λ i l. inl (omega (arith, w.2), ap (λ (y : List ℕ). word y i) w.1)))
      (λ ne.
      let w = e.node ne in
      ranked (waiting + 1) w.0 (omega arith) (omega (arith, w.2)) (omega (arith, w.2)) (λ q. omega (arith, w.2))
      (λ i l.
      ⊎_elim
      (λ q. inr (
        ap (λ (y : List ℕ). word y i) w.1 ∙ (ap (λ (j : ℕ). word (set s.place.now waiting v) j) q
            ∙ get_or-set_same s.place.now waiting v 0 (omega (arith, find_space f s waiting v t lv new))),
        ne,
      ))
      (λ nw. inl (omega (arith, w.2), ap (λ (y : List ℕ). word y i) w.1 ∙ get_or-set_other s.place.now waiting i v 0 nw))
      (cases_eq i waiting)))
      (cases_eq v 1)

-- the same after a search that grew from s₀ to s, of the same network n
pub grown_find : {N : _} {A : _} {b : _} (n : Net) (f : ℕ → ℕ) (s₀ s s' : Nodes N A b)
    (waiting₀ waiting waiting' u v k : ℕ) → n ≡ net_of s₀ → Grown f s₀ s waiting₀ waiting → u < n.nodes → (u ≡ 1 → ⊥)
    → 0 < rank_in s u → v < n.nodes → rank_in s v ≡ 0 → Opens n f k u v → FoundAt s s' waiting v k waiting'
    → Grown f s₀ s' waiting₀ waiting'
grown_find n f s₀ s s' waiting₀ waiting waiting' u v k en g lu nu ru lv new opens e =
    let same : n ≡ net_of s = en ∙ sym (same_net g.kept) in
    let m = ap (λ (y : Net). y.nodes) same in
    grown_more g
    (grown_one f s s' waiting waiting' u v k g.searching (omega arith) nu ru (omega arith)
    new (subst (λ (y : Net). Opens y f k u v) same opens) e)

-- one arc more over which nothing is found
pub idle_more : {N : _} {A : _} {b : _} (f : ℕ → ℕ) (s₀ s s' : Nodes N A b) (waiting₀ waiting waiting' k : ℕ)
    → Grown f s₀ s waiting₀ waiting → Idle f s waiting₀ waiting k → Grown f s s' waiting waiting'
    → (waiting' ≡ waiting → rank_in s' 1 ≡ 0 → (s'.rank.now ≡ s.rank.now) × Shut (net_of s) f (rank_in s) k)
    → Idle f s' waiting₀ waiting' (k + 1)
idle_more f s₀ s s' waiting₀ waiting waiting' k a idle b one same none =
    let x = one (omega (arith, a.more, b.more)) none in
    let before = ap (λ (y : List ℕ). word y 1) x.0 in
    subst (λ (n : Net). (j : ℕ) → j < k + 1 → Shut n f (rank_in s') j) (sym (same_net b.kept))
    (subst (λ (y : List ℕ). (j : ℕ) → j < k + 1 → Shut (net_of s) f (word y) j) (sym x.0)
    (below_more _ k (idle (omega (arith, a.more, b.more)) (omega arith)) x.1))
