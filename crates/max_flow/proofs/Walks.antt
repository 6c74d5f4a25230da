-- The walks along a way, from link to link.
use Rattle.std.proofs.Common.{◌≡◌, ℕ, ◌+◌, ◌-◌, ◌^◌, ◌<◌, min, Bool, true, false, cond, eqb, ◌⊎◌, List, length, set, sym, refl, subst, inl, inr, ⊎_elim, arith}
use Rattle.std.proofs.lemmas.Bool.{eqb-true, eqb-false, ltb-true}
use Rattle.flow.specs.declared.visit.Way.TheVariants.{Along, Back}
use Rattle.flow.specs.Nets.{Net, Sound, word}
use Rattle.flow.specs.Answers.{Seen, arc_at, capacity_at, has_room}
use Rattle.flow.specs.Passing.{far}
use Rattle.flow.specs.Ways.{Way}
use Rattle.flow.proofs.Ways.{Narrow, narrow_over, narrow_against, Pushing, now_over, now_against, pushing_over, pushing_against, pushing_ends, way_exists, way_back}
use Rattle.max_flow.specs.declared.augment.Link.{Link}
use Rattle.max_flow.specs.declared.nodes.Nodes.{Nodes}
use Rattle.max_flow.specs.Raised.{Raised}
use Rattle.max_flow.specs.Layout.{net_of, rank_in, link_in}
use Rattle.max_flow.specs.Stages.{left, opens, moved, Moves, link_at, Pushed}
use Rattle.max_flow.proofs.Keeping.{put_set}

-- what holds of a link, by whether its arc begins at the node
by_way : (P : Link → Type 0) (n : Net) (k v : ℕ) (l : Link) → l ≡ link_at n k v
    → (n.tail k ≡ v → P (record { arc = k; way = Along; capacity = capacity_at n k; node = n.head k }))
    → ((n.tail k ≡ v → ⊥) → P (record { arc = k; way = Back; capacity = capacity_at n k; node = n.tail k })) → P l
by_way P n k v l e p q = subst P (sym e) (go (eqb (n.tail k) v) refl)
  where
    go : (t : Bool) → eqb (n.tail k) v ≡ t
        → P (record { arc = k; way = cond t Along Back; capacity = capacity_at n k; node = far n (cond t Along Back) k })
    go true h = p (eqb-true (n.tail k) v h)
    go false h = q (eqb-false (n.tail k) v h)

-- the arc of a link
seen : (n : Net) → Sound n → (k : ℕ) → k < n.arcs → Seen n k (arc_at n k)
seen n t k l =
    record {
      exists = l;
      tail_is = refl;
      head_is = refl;
      capacity_is = refl;
      tail_in = t.tails k l;
      head_in = t.heads k l;
    }

module _ {N : _} {A : _} {b : _} (s : Nodes N A b) {node : ℕ} (ne : node ≡ 1 → ⊥) {l : Link}
    (e : l ≡ link_at (net_of s) (link_in s node) node) where
  pub narrow_on : {f : ℕ → ℕ} {least : ℕ} → Narrow (net_of s) f (rank_in s) (link_in s) node least
      → (least' : ℕ) → least' ≡ min least (left l.way l.capacity (f l.arc))
      → Narrow (net_of s) f (rank_in s) (link_in s) l.node least'
      × (rank_in s 1 - rank_in s l.node < rank_in s 1 - rank_in s node)
  narrow_on {f} {least} w least' =
      let n = net_of s in
      let k = link_in s node in
      let x = seen n (b.bounded s.network.now).sound k (way_exists w.way ne) in
      by_way (λ (y : Link). least' ≡ min least (left y.way y.capacity (f y.arc))
      → Narrow n f (rank_in s) (link_in s) y.node least'
      × (rank_in s 1 - rank_in s y.node < rank_in s 1 - rank_in s node)) n k node l e
      (narrow_over n f (rank_in s) (link_in s) node ne (arc_at n k) x least least' w)
      (narrow_against n f (rank_in s) (link_in s) node ne (arc_at n k) x least least' w)

  -- back from a node that loses its rank
  pub retreat_on : {f : ℕ → ℕ} → node < (net_of s).nodes → Way (net_of s) f (rank_in s) (link_in s) 0 node
      → (l.node < (net_of s).nodes) × Way (net_of s) f (word (set s.rank.now node 0)) (link_in s) 0 l.node
  retreat_on {f} inside w =
      let n = net_of s in
      let k = link_in s node in
      let x = seen n (b.bounded s.network.now).sound k (way_exists w ne) in
      let back = way_back n f (rank_in s) (word (set s.rank.now node 0)) (link_in s) node ne (arc_at n k) x
      (put_set n.nodes s.rank.now (set s.rank.now node 0) node 0 (omega (arith, inside)) refl) w in
      by_way (λ (y : Link). (y.node < n.nodes) × Way n f (word (set s.rank.now node 0)) (link_in s) 0 y.node) n k node l e
      (λ t. (x.head_in, back.0 t)) (λ nt. (x.tail_in, back.1 nt))

  -- while d more are pushed than the words `before` of value w had
  module _ {before flow : List ℕ} {w d stop : ℕ} (r : Raised (net_of s) before w) (same : length flow ≡ length before)
      (x : Pushing (net_of s) (word before) (rank_in s) (link_in s) w d flow node stop) where
    pub moves_on : w + d < 2 ^ 64 → Moves l.way (word flow l.arc) d
    moves_on fits =
        let n = net_of s in
        let k = link_in s node in
        let y = seen n (b.bounded s.network.now).sound k (way_exists x.way ne) in
        let a = arc_at n k in
        let len : length flow ≡ n.arcs = omega (arith, r.whole) in
        by_way (λ (z : Link). Moves z.way (word flow z.arc) d) n k node l e
        (λ t. omega (
          arith,
          now_over n (word before) (rank_in s) (link_in s) w d r.none_above flow len node stop ne x a y t,
          r.none_above k y.exists,
        ))
        (λ nt. let z = now_against n (word before) (rank_in s) (link_in s) w d r.none_above flow len node stop ne x a
        y nt in omega (arith, z.0, z.1))

    -- more can pass the arc after the push, or the way stands from its far end alone
    pub pushing_on : {carried : ℕ} → carried ≡ moved l.way (word flow l.arc) d → (stop' : ℕ)
        → (stop' ≡ l.node) ⊎ ((stop' ≡ stop) × (opens l.way l.capacity carried ≡ true))
        → Pushing (net_of s) (word before) (rank_in s) (link_in s) w d (set flow l.arc carried) l.node stop'
        × (rank_in s 1 - rank_in s l.node < rank_in s 1 - rank_in s node)
    pushing_on {carried} q stop' =
        let n = net_of s in
        let k = link_in s node in
        let y = seen n (b.bounded s.network.now).sound k (way_exists x.way ne) in
        let a = arc_at n k in
        let len : length flow ≡ n.arcs = omega (arith, r.whole) in
        by_way (λ (z : Link). carried ≡ moved z.way (word flow z.arc) d
        → (stop' ≡ z.node) ⊎ ((stop' ≡ stop) × (opens z.way z.capacity carried ≡ true))
        → Pushing n (word before) (rank_in s) (link_in s) w d (set flow z.arc carried) z.node stop'
        × (rank_in s 1 - rank_in s z.node < rank_in s 1 - rank_in s node)) n k node l e
        (λ t o full.
        subst (λ (c : ℕ).
        (stop' ≡ n.head k) ⊎ ((stop' ≡ stop) × (has_room (capacity_at n k) c ≡ true))
        → Pushing n (word before) (rank_in s) (link_in s) w d (set flow k c) (n.head k) stop'
        × (rank_in s 1 - rank_in s (n.head k) < rank_in s 1 - rank_in s node)) (sym o)
        (pushing_over n (word before) (rank_in s) (link_in s) w d r.none_above flow len node stop ne x a y stop' t) full)
        (λ nt o full.
        subst (λ (c : ℕ).
        (stop' ≡ n.tail k) ⊎ ((stop' ≡ stop) × (0 < c))
        → Pushing n (word before) (rank_in s) (link_in s) w d (set flow k c) (n.tail k) stop'
        × (rank_in s 1 - rank_in s (n.tail k) < rank_in s 1 - rank_in s node)) (sym o)
        (pushing_against n (word before) (rank_in s) (link_in s) w d r.none_above flow len node stop ne x a y stop' nt)
        (⊎_elim inl (λ z. inr (z.0, ltb-true 0 carried z.1)) full))
        q

pub pushed_in : {N : _} {A : _} {b : _} (s : Nodes N A b) {before flow : List ℕ} {w d node stop : ℕ}
    → Raised (net_of s) before w → length flow ≡ length before → node ≡ 1
    → Pushing (net_of s) (word before) (rank_in s) (link_in s) w d flow node stop → Pushed flow s (w + d) stop
pushed_in {N} {A} {b} s {before} {flow} {w} {d} {node} {stop} r same at x =
    let e = pushing_ends (net_of s) (b.bounded s.network.now) (word before) (rank_in s) (link_in s) w d flow stop
    (subst (λ (v : ℕ). Pushing (net_of s) (word before) (rank_in s) (link_in s) w d flow v stop) at x) in
    record {
      raised = record {
        whole = omega (arith, r.whole);
        finite = r.finite;
        is_flow = e.0;
        none_above = e.1;
      };
      inside = e.2;
      way = e.3;
    }
