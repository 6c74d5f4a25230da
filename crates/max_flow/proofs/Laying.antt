-- Steps on a way, in the node words.
use Rattle.std.proofs.Common.{◌≡◌, ℕ, ◌<◌, Bool, true, false, cond, eqb, List, set, sym, refl, ap, subst, arith}
use Rattle.std.proofs.lemmas.Bool.{eqb-true, eqb-false}
use Rattle.flow.specs.declared.network.Arc.{Arc}
use Rattle.flow.specs.Nets.{Net, word}
use Rattle.flow.specs.Answers.{Seen}
use Rattle.flow.specs.Ways.{Put, Leads, Way}
use Rattle.flow.proofs.Ways.{Laying, found_over, found_against, laying_more, way_more}
use Rattle.max_flow.specs.declared.nodes.Nodes.{Nodes}
use Rattle.max_flow.specs.Layout.{net_of, rank_in, link_in, SameWays, far_end}
use Rattle.max_flow.specs.Stages.{WayIn}
use Rattle.max_flow.proofs.Keeping.{same_net, put_set}

pub same_ways : {N : _} {A : _} {b : _} {s s₁ s₂ : Nodes N A b} → s₁ ≡ s₂ → s₂.network ≡ s.network
    → s₂.rank ≡ s.rank → s₂.link ≡ s.link → SameWays s s₁
same_ways {s = s} {s₁ = s₁} {s₂ = s₂} e n r l =
    subst (SameWays s) (sym e)
    (record {
      kept = record { same_network = n; same_ranks = ap (λ x. x.ghost_name) r };
      ranks = ap (λ x. x.now) r;
      links = ap (λ x. x.now) l;
    })

pub all_same : {N : _} {A : _} {b : _} {s s₁ : Nodes N A b} → s₁ ≡ s → SameWays s s₁
all_same {s = s} e =
    subst (SameWays s) (sym e) (record { kept = record { same_network = refl; same_ranks = refl }; ranks = refl; links = refl })

-- the way where ranks and links are as they were
pub way_same : {N : _} {A : _} {b : _} {s s₁ : Nodes N A b} (flow : List ℕ) (v : ℕ) → SameWays s s₁ → WayIn flow s 0 v
    → WayIn flow s₁ 0 v
way_same {s = s} {s₁ = s₁} flow v same w =
    subst (λ (n : Net). Way n (word flow) (rank_in s₁) (link_in s₁) 0 v) (sym (same_net same.kept))
    (subst (λ (z : List ℕ). Way (net_of s) (word flow) (word z) (link_in s₁) 0 v) (sym same.ranks)
    (subst (λ (z : List ℕ). Way (net_of s) (word flow) (rank_in s) (word z) 0 v) (sym same.links) w))

-- the way goes down from v to u over arc k
pub way_down : {N : _} {A : _} {b : _} (flow : List ℕ) (s s₁ : Nodes N A b) (u v k : ℕ) → SameWays s s₁
    → u < (net_of s).nodes → v < (net_of s).nodes → Leads (net_of s) (word flow) (rank_in s) k u v → WayIn flow s 0 v
    → (u < (net_of s₁).nodes)
    × Way (net_of s₁) (word flow) (rank_in s₁) (word (set s₁.link.now u k)) 0 u
way_down flow s s₁ u v k same lu lv leads w =
    let n = net_of s in
    let links : ℕ → ℕ = word (set s₁.link.now u k) in
    let put = put_set n.nodes s.link.now (set s₁.link.now u k) u k (omega arith)
    (ap (λ (z : List ℕ). set z u k) same.links) in
    let ranks : rank_in s₁ ≡ rank_in s = ap (λ (z : List ℕ). word z) same.ranks in
    let down : Way n (word flow) (rank_in s) links 0 u = way_more links u v k lv put leads w in
    subst (λ (m : Net). (u < m.nodes) × Way m (word flow) (rank_in s₁) links 0 u) (sym (same_net same.kept))
    (lu, subst (λ (r : ℕ → ℕ). Way n (word flow) r links 0 u) (sym ranks) down)

-- the step of laying the way
pub laying_in : {N : _} {A : _} {b : _} (f : ℕ → ℕ) (s s₁ : Nodes N A b) (node k from : ℕ) (a : Arc) → (node ≡ 0 → ⊥)
    → Laying (net_of s) f (rank_in s) (link_in s) node k → Seen (net_of s) k a → SameWays s s₁ → from ≡ far_end a node
    → Laying (net_of s₁) f (rank_in s₁) (word (set s₁.link.now from k)) from (link_in s₁ from)
    × (rank_in s₁ from < rank_in s node)
laying_in f s s₁ node k from a nz x seen same ef = (
  subst (λ (m : Net). Laying m f (rank_in s₁) links from (link_in s₁ from)) (sym (same_net same.kept))
      (subst (Laying n f (rank_in s₁) links from) (ap (λ (y : List ℕ). word y from) (sym same.links)) y.0),
  y.1,
)
  where
    n : Net
    n = net_of s

    links : ℕ → ℕ
    links = word (set s₁.link.now from k)

    both : (t : Bool) → eqb a.head node ≡ t
        → (cond t a.tail a.head < n.nodes) × Leads n f (rank_in s) k (cond t a.tail a.head) node
    both true e =
        (seen.tail_in, found_over n f (rank_in s) (link_in s) node k nz x a seen (eqb-true a.head node e))
    both false e =
        (seen.head_in, found_against n f (rank_in s) (link_in s) node k nz x a seen (eqb-false a.head node e))

    leads : (from < n.nodes) × Leads n f (rank_in s) k from node
    leads = subst (λ (u : ℕ). (u < n.nodes) × Leads n f (rank_in s) k u node) (sym ef) (both (eqb a.head node) refl)

    put : Put n.nodes (link_in s) links from k
    put =
        put_set n.nodes s.link.now (set s₁.link.now from k) from k (omega (arith, leads.0))
        (ap (λ (z : List ℕ). set z from k) same.links)

    y : Laying n f (rank_in s₁) links from (link_in s from) × (rank_in s₁ from < rank_in s node)
    y =
        subst (λ (z : List ℕ). Laying n f (word z) links from (link_in s from) × (word z from < rank_in s node))
        (sym same.ranks) (laying_more n f (rank_in s) (link_in s) node k nz x a seen from leads.0 leads.1 (rank_in s) links (λ v l. refl) put)
