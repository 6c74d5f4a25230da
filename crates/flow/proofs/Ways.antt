-- Ways over links: how much they carry, what a push along one does, and how one is laid.
use Rattle.std.proofs.Common.{◌≡◌, ℕ, ◌+◌, ◌-◌, ◌<◌, ◌≤◌, min, Bool, true, false, cond, ◌||◌, ltb, ◌⊎◌, List, length, set, sym, refl, ap, ◌∙◌, subst, inl, inr, ⊎_elim, arith}
use Rattle.std.proofs.lemmas.List.{get_or-set_same, get_or-set_other}
use Rattle.std.proofs.lemmas.Bool.{ltb-true, both_ways}
use Rattle.flow.specs.declared.network.Arc.{Arc}
use Rattle.flow.specs.declared.network.Capacity.TheVariants.{Bounded, Unbounded}
use Rattle.flow.specs.Nets.{Net, Sound, Bounds, room, IsFlow, NoneAbove, word}
use Rattle.flow.specs.Answers.{Seen, capacity_at, has_room, room_left}
use Rattle.flow.specs.Pushes.{Midway, Raised}
use Rattle.flow.specs.Ways.{Put, Over, Against, Leads, Way, arrived, over, against}
use Rattle.flow.specs.Searches.{Finds, Found}
use Rattle.flow.proofs.Pushes.{push_along, push_against, push_ends}

pub has_room_is : (n : Net) (f : ℕ → ℕ) (k : ℕ) → has_room (capacity_at n k) (f k) ≡ room n f k
has_room_is n f k = go (n.unbounded k)
  where
    go : (b : Bool) → has_room (cond b Unbounded (Bounded (n.capacity k))) (f k) ≡ (b || ltb (f k) (n.capacity k))
    go true = refl
    go false = refl

-- over a capacity left something fits, and as much as is left does
pub left_some : (n : Net) (f : ℕ → ℕ) (k : ℕ) → room n f k ≡ true → 0 < room_left (capacity_at n k) (f k)
left_some n f k r = go (n.unbounded k) r
  where
    go : (b : Bool) → (b || ltb (f k) (n.capacity k)) ≡ true → 0 < room_left
        (cond b Unbounded (Bounded (n.capacity k))) (f k)
    go true e = omega arith
    go false e = omega (arith, ltb-true (f k) (n.capacity k) e)

pub left_fits : (n : Net) (f : ℕ → ℕ) (k d : ℕ) → room n f k ≡ true → d ≤ room_left (capacity_at n k) (f k)
    → n.unbounded k ≡ false → f k + d ≤ n.capacity k
left_fits n f k d r = go (n.unbounded k) r
  where
    go : (b : Bool) → (b || ltb (f k) (n.capacity k)) ≡ true
        → d ≤ room_left (cond b Unbounded (Bounded (n.capacity k))) (f k) → b ≡ false → f k + d ≤ n.capacity k
    go true e l q = absurd (both_ways true q refl)
    go false e l q = omega (arith, ltb-true (f k) (n.capacity k) e)

-- what a way says at its first node, by the direction of the link there
abbrev pub GoesOver : (n : Net) (f rank link : ℕ → ℕ) (d u : ℕ) → Type 0
GoesOver n f rank link d u =
    (v : ℕ) × (v < n.nodes) × Over n f rank (link u) u v
    × (n.unbounded (link u) ≡ false → f (link u) + d ≤ n.capacity (link u)) × Way n f rank link d v

abbrev pub GoesAgainst : (n : Net) (f rank link : ℕ → ℕ) (d u : ℕ) → Type 0
GoesAgainst n f rank link d u =
    (v : ℕ) × (v < n.nodes) × Against n f rank (link u) u v × (d ≤ f (link u)) × Way n f rank link d v

pub way_step : {n : Net} {f rank link : ℕ → ℕ} {d u : ℕ} → Way n f rank link d u → (u ≡ 1 → ⊥)
    → GoesOver n f rank link d u ⊎ GoesAgainst n f rank link d u
way_step arrived ne = absurd (ne refl)
way_step (over u v l a h w) ne = inl (v, l, a, h, w)
way_step (against u v l a h w) ne = inr (v, l, a, h, w)

pub way_exists : {n : Net} {f rank link : ℕ → ℕ} {d u : ℕ} → Way n f rank link d u → (u ≡ 1 → ⊥) → link u < n.arcs
way_exists w ne = ⊎_elim (λ x. x.2.exists) (λ x. x.2.exists) (way_step w ne)

-- no rank on a way is above that of the sink
pub way_below : {n : Net} {f rank link : ℕ → ℕ} {d u : ℕ} → Way n f rank link d u → rank u ≤ rank 1
way_below arrived = omega arith
way_below (over u v l a h w) = omega (arith, a.less, way_below w)
way_below (against u v l a h w) = omega (arith, a.less, way_below w)

-- the step at a node other than the sink, by the test whether its link begins there
module _ (n : Net) (f rank link : ℕ → ℕ) (node : ℕ) (ne : node ≡ 1 → ⊥) (a : Arc) (s : Seen n (link node) a) where
  pub goes_over : (d : ℕ) → Way n f rank link d node → a.tail ≡ node
      → Over n f rank (link node) node a.head
      × (n.unbounded (link node) ≡ false → f (link node) + d ≤ n.capacity (link node)) × Way n f rank link d
      a.head
  goes_over d w e =
      ⊎_elim
      (λ x.
      let same : x.0 ≡ a.head = sym x.2.to_is ∙ sym s.head_is in
      (subst (Over n f rank (link node) node) same x.2, x.3, subst (Way n f rank link d) same x.4))
      (λ x. absurd (let q = ap rank (sym x.2.to_is ∙ (sym s.tail_is ∙ e)) in omega (arith, x.2.less)))
      (way_step w ne)

  pub goes_against : (d : ℕ) → Way n f rank link d node → (a.tail ≡ node → ⊥)
      → Against n f rank (link node) node a.tail × (d ≤ f (link node)) × Way n f rank link d a.tail
  goes_against d w nt =
      ⊎_elim
      (λ x. absurd (nt (s.tail_is ∙ x.2.from_is)))
      (λ x.
      let same : x.0 ≡ a.tail = sym x.2.to_is ∙ sym s.tail_is in
      (subst (Against n f rank (link node) node) same x.2, x.3, subst (Way n f rank link d) same x.4))
      (way_step w ne)

-- on the walk from the source that finds the least room: `least` fits up to this node
pub record Narrow (n : Net) (f rank link : ℕ → ℕ) (node least : ℕ) : Type 0 where
  pub inside : node < n.nodes
  pub way : Way n f rank link 0 node
  pub some : 0 < least
  pub most : least ≤ 2000000000
  pub carries : (d : ℕ) → d ≤ least → Way n f rank link d node → Way n f rank link d 0

module _ (n : Net) (f rank link : ℕ → ℕ) (node : ℕ) (ne : node ≡ 1 → ⊥) (a : Arc) (s : Seen n (link node) a)
    (least least' : ℕ) (w : Narrow n f rank link node least) where
  pub narrow_over : a.tail ≡ node → least' ≡ min least (room_left a.capacity (f (link node)))
      → Narrow n f rank link a.head least' × (rank 1 - rank a.head < rank 1 - rank node)
  narrow_over e q =
      let y = goes_over n f rank link node ne a s 0 w.way e in
      let x = y.0 in
      let c = ap (λ y. room_left y (f (link node))) s.capacity_is in (
        record {
          inside = s.head_in;
          way = y.2;
          some = omega (arith, w.some, left_some n f (link node) x.left);
          most = omega (arith, w.most);
          carries = λ d l r.
              w.carries d (omega arith)
              (over node a.head s.head_in x (left_fits n f (link node) d x.left (omega arith)) r);
        },
        omega (arith, x.less, way_below y.2),
      )

  pub narrow_against : (a.tail ≡ node → ⊥) → least' ≡ min least (f (link node))
      → Narrow n f rank link a.tail least' × (rank 1 - rank a.tail < rank 1 - rank node)
  narrow_against nt q =
      let y = goes_against n f rank link node ne a s 0 w.way nt in
      let x = y.0 in (
        record {
          inside = s.tail_in;
          way = y.2;
          some = omega (arith, w.some, x.left);
          most = omega (arith, w.most);
          carries = λ d l r. w.carries d (omega arith) (against node a.tail s.tail_in x (omega arith) r);
        },
        omega (arith, x.less, way_below y.2),
      )

-- the flows that agree with f on the arcs between nodes of rank up to r
abbrev Agrees : (n : Net) (rank f g : ℕ → ℕ) (r : ℕ) → Type 0
Agrees n rank f g r = (k : ℕ) → k < n.arcs → rank (n.tail k) ≤ r → rank (n.head k) ≤ r → g k ≡ f k

-- on the walk from the source that pushes d: f is the flow before the push, `flow` the words now; arcs
-- between nodes of this rank and above are as they were, and the way still stands from `stop` up to here
pub record Pushing (n : Net) (f rank link : ℕ → ℕ) (w d : ℕ) (flow : List ℕ) (node stop : ℕ) : Type 0 where
  pub inside : node < n.nodes
  pub midway : Midway n (word flow) w d node
  pub way : Way n f rank link d node
  pub same : (k : ℕ) → k < n.arcs → rank node ≤ rank (n.tail k) → rank node ≤ rank (n.head k) → word flow k ≡ f k
  pub stop_in : stop < n.nodes
  pub resumes : (g : ℕ → ℕ) → Agrees n rank (word flow) g (rank node) → Way n g rank link 0 node → Way n g rank
      link 0 stop

raised : (n : Net) (xs : List ℕ) (k d : ℕ) → k < length xs → Raised n (word xs) (word (set xs k (word xs k + d))) k d
raised n xs k d l =
    record {
      here = get_or-set_same xs k (word xs k + d) 0 l;
      there = λ j _ ne. get_or-set_other xs k j (word xs k + d) 0 ne;
    }

lowered : (n : Net) (xs : List ℕ) (k d : ℕ) → k < length xs → d ≤ word xs k
    → Raised n (word (set xs k (word xs k - d))) (word xs) k d
lowered n xs k d l m =
    record {
      here = omega (arith, get_or-set_same xs k (word xs k - d) 0 l);
      there = λ j _ ne. sym (get_or-set_other xs k j (word xs k - d) 0 ne);
    }

-- room after a push, as the code tests it, is room in any flow that agrees
room_agrees : (n : Net) (g : ℕ → ℕ) (k x : ℕ) → g k ≡ x → has_room (capacity_at n k) x ≡ true → room n g k ≡ true
room_agrees n g k x e h = sym (has_room_is n g k) ∙ (ap (has_room (capacity_at n k)) e ∙ h)

module _ (n : Net) (f rank link : ℕ → ℕ) (w d : ℕ) (small : NoneAbove n f w) (flow : List ℕ)
    (len : length flow ≡ n.arcs)
    (node stop : ℕ) (ne : node ≡ 1 → ⊥) (x : Pushing n f rank link w d flow node stop) (a : Arc)
    (s : Seen n (link node) a) where
  pub now_over : a.tail ≡ node → word flow (link node) ≡ f (link node)
  now_over e =
      let y = goes_over n f rank link node ne a s d x.way e in
      let t = ap rank y.0.from_is in
      let h = ap rank y.0.to_is in
      x.same (link node) s.exists (omega arith) (omega (arith, y.0.less))

  pub now_against : (a.tail ≡ node → ⊥) → (word flow (link node) ≡ f (link node)) × (d ≤ f (link node))
  now_against nt =
      let y = goes_against n f rank link node ne a s d x.way nt in
      let t = ap rank y.0.from_is in
      let h = ap rank y.0.to_is in
      (x.same (link node) s.exists (omega (arith, y.0.less)) (omega arith), y.1)

  -- the arc is full after the push, or the way still goes over it
  pub pushing_over : (stop' : ℕ) → a.tail ≡ node
      → (stop' ≡ a.head) ⊎ ((stop' ≡ stop) × (has_room a.capacity (word flow (link node) + d) ≡ true))
      → Pushing n f rank link w d (set flow (link node) (word flow (link node) + d)) a.head stop'
      × (rank 1 - rank a.head < rank 1 - rank node)
  pushing_over stop' e full =
      let y = goes_over n f rank link node ne a s d x.way e in
      let t = ap rank y.0.from_is in
      let h = ap rank y.0.to_is in
      let now = now_over e in
      let g : List ℕ = set flow (link node) (word flow (link node) + d) in
      let within : link node < length flow = omega (arith, s.exists) in
      let up = raised n flow (link node) d within in (
        record {
          inside = s.head_in;
          midway = subst (Midway n (word g) w d) y.0.to_is
              (push_along n (word flow) (word g) w d (link node) s.exists up
              (λ q. omega (arith, y.1 q)) (omega (arith, small (link node) s.exists))
              (subst (Midway n (word flow) w d) (sym y.0.from_is) x.midway));
          way = y.2;
          same = λ j l p q.
              get_or-set_other flow (link node) j _ 0 (λ z. let u = ap (λ i. rank (n.tail i)) z in omega
              (arith, y.0.less))
              ∙ x.same j l (omega (arith, y.0.less)) (omega (arith, y.0.less));
          stop_in = ⊎_elim (λ q. omega (arith, s.head_in)) (λ q. omega (arith, q.0, x.stop_in)) full;
          resumes = λ v agrees r.
              ⊎_elim
              (λ q. subst (Way n v rank link 0) (sym q) r)
              (λ q.
              let there = agrees (link node) s.exists (omega (arith, y.0.less)) (omega arith) ∙ up.here in
              let still = room_agrees n v (link node) _ there
              (ap (λ c. has_room c (word flow (link node) + d)) (sym s.capacity_is) ∙ q.1) in
              subst (Way n v rank link 0) (sym q.0)
              (x.resumes v
              (λ j l p b.
              agrees j l (omega (arith, y.0.less)) (omega (arith, y.0.less))
              ∙ get_or-set_other flow (link node) j _ 0
              (λ z. let u = ap (λ i. rank (n.head i)) z in omega (arith, y.0.less)))
              (over node a.head s.head_in
              (record {
                exists = s.exists;
                from_is = y.0.from_is;
                to_is = y.0.to_is;
                left = still;
                some = y.0.some;
                less = y.0.less;
              })
              (left_fits n v (link node) 0 still (omega arith)) r)))
              full;
        },
        omega (arith, y.0.less, way_below y.2),
      )

  pub pushing_against : (stop' : ℕ) → (a.tail ≡ node → ⊥)
      → (stop' ≡ a.tail) ⊎ ((stop' ≡ stop) × (0 < word flow (link node) - d))
      → Pushing n f rank link w d (set flow (link node) (word flow (link node) - d)) a.tail stop'
      × (rank 1 - rank a.tail < rank 1 - rank node)
  pushing_against stop' nt full =
      let y = goes_against n f rank link node ne a s d x.way nt in
      let t = ap rank y.0.from_is in
      let h = ap rank y.0.to_is in
      let now = now_against nt in
      let g : List ℕ = set flow (link node) (word flow (link node) - d) in
      let within : link node < length flow = omega (arith, s.exists) in
      let down = lowered n flow (link node) d within (omega (arith, y.1)) in (
        record {
          inside = s.tail_in;
          midway = subst (Midway n (word g) w d) y.0.to_is
              (push_against n (word flow) (word g) w d (link node) s.exists down
              (subst (Midway n (word flow) w d) (sym y.0.from_is) x.midway));
          way = y.2;
          same = λ j l p q.
              get_or-set_other flow (link node) j _ 0 (λ z. let u = ap (λ i. rank (n.head i)) z in omega
              (arith, y.0.less))
              ∙ x.same j l (omega (arith, y.0.less)) (omega (arith, y.0.less));
          stop_in = ⊎_elim (λ q. omega (arith, s.tail_in)) (λ q. omega (arith, q.0, x.stop_in)) full;
          resumes = λ v agrees r.
              ⊎_elim
              (λ q. subst (Way n v rank link 0) (sym q) r)
              (λ q.
              let there = agrees (link node) s.exists (omega arith) (omega (arith, y.0.less)) in
              subst (Way n v rank link 0) (sym q.0)
              (x.resumes v
              (λ j l p b.
              agrees j l (omega (arith, y.0.less)) (omega (arith, y.0.less))
              ∙ get_or-set_other flow (link node) j _ 0
              (λ z. let u = ap (λ i. rank (n.tail i)) z in omega (arith, y.0.less)))
              (against node a.tail s.tail_in
              (record {
                exists = s.exists;
                from_is = y.0.from_is;
                to_is = y.0.to_is;
                left = omega
                    (arith, down.here, q.1);
                some = y.0.some;
                less = y.0.less;
              })
              (omega arith) r)))
              full;
        },
        omega (arith, y.0.less, way_below y.2),
      )

-- at the sink the push is done, and the way still stands from `stop` on
pub pushing_ends : (n : Net) → Bounds n → (f rank link : ℕ → ℕ) (w d : ℕ) (flow : List ℕ) (stop : ℕ)
    → Pushing n f rank link w d flow 1 stop
    → IsFlow n (word flow) (w + d) × NoneAbove n (word flow) (w + d) × (stop < n.nodes) × Way n (word flow)
    rank link 0 stop
pushing_ends n b f rank link w d flow stop x =
    let e = push_ends n b.sound (word flow) w d x.midway in
    (e.0, e.1, x.stop_in, x.resumes (word flow) (λ k l p q. refl) arrived)

pub leads_less : {n : Net} {f rank : ℕ → ℕ} {k u v : ℕ} → Leads n f rank k u v → rank u < rank v
leads_less (inl x) = x.less
leads_less (inr x) = x.less

-- the link of a node of smaller rank is of no account to a way
pub way_keep : {n : Net} {f rank link : ℕ → ℕ} (link' : ℕ → ℕ) (u k : ℕ) → Put n.nodes link link' u k
    → {x : ℕ} → x < n.nodes → rank u < rank x → Way n f rank link 0 x → Way n f rank link' 0 x
way_keep link' u k p l h arrived = arrived
way_keep {n} {f} {rank} {link} link' u k p l h (over x v b a fits w) =
    let e : link' x ≡ link x = p.there x l (λ z. let y = ap rank z in omega arith) in
    let c = subst (λ (j : ℕ). Over n f rank j x v) (sym e) a in
    over x v b c (left_fits n f (link' x) 0 c.left (omega arith))
    (way_keep link' u k p b (omega (arith, a.less)) w)
way_keep {n} {f} {rank} {link} link' u k p l h (against x v b a fits w) =
    let e : link' x ≡ link x = p.there x l (λ z. let y = ap rank z in omega arith) in
    against x v b (subst (λ (j : ℕ). Against n f rank j x v) (sym e) a) (omega arith)
    (way_keep link' u k p b (omega (arith, a.less)) w)

-- a way is laid one node further back, to u, over arc k
pub way_more : {n : Net} {f rank link : ℕ → ℕ} (link' : ℕ → ℕ) (u v k : ℕ) → v < n.nodes → Put n.nodes link
    link' u k
    → Leads n f rank k u v → Way n f rank link 0 v → Way n f rank link' 0 u
way_more {n} {f} {rank} {link} link' u v k l p (inl a) w =
    let c = subst (λ (j : ℕ). Over n f rank j u v) (sym p.here) a in
    over u v l c (left_fits n f (link' u) 0 c.left (omega arith)) (way_keep link' u k p l a.less w)
way_more {n} {f} {rank} {link} link' u v k l p (inr a) w =
    against u v l (subst (λ (j : ℕ). Against n f rank j u v) (sym p.here) a) (omega arith)
    (way_keep link' u k p l a.less w)

-- a node that loses its rank changes no way above its rank
way_without : {n : Net} {f rank link : ℕ → ℕ} (rank' : ℕ → ℕ) (u : ℕ) → Put n.nodes rank rank' u 0
    → {x : ℕ} → x < n.nodes → rank u < rank x → Way n f rank link 0 x → Way n f rank' link 0 x
way_without rank' u p l h arrived = arrived
way_without {n} {f} {rank} {link} rank' u p l h (over x v b a fits w) =
    let e : rank' x ≡ rank x = p.there x l (λ z. let y = ap rank z in omega arith) in
    let g : rank' v ≡ rank v = p.there v b (λ z. let y = ap rank z in omega (arith, a.less)) in
    over x v b
    (record {
      exists = a.exists;
      from_is = a.from_is;
      to_is = a.to_is;
      left = a.left;
      some = omega
          (arith, a.some);
      less = omega (arith, a.less);
    })
    fits (way_without rank' u p b (omega (arith, a.less)) w)
way_without {n} {f} {rank} {link} rank' u p l h (against x v b a fits w) =
    let e : rank' x ≡ rank x = p.there x l (λ z. let y = ap rank z in omega arith) in
    let g : rank' v ≡ rank v = p.there v b (λ z. let y = ap rank z in omega (arith, a.less)) in
    against x v b
    (record {
      exists = a.exists;
      from_is = a.from_is;
      to_is = a.to_is;
      left = a.left;
      some = omega
          (arith, a.some);
      less = omega (arith, a.less);
    })
    fits (way_without rank' u p b (omega (arith, a.less)) w)

-- from a node that is done with, its way goes on to the next; `a` is the link there
pub way_back : (n : Net) (f rank rank' link : ℕ → ℕ) (u : ℕ) → (u ≡ 1 → ⊥) → (a : Arc) → Seen n (link u) a
    → Put n.nodes rank rank' u 0 → Way n f rank link 0 u
    → (a.tail ≡ u → Way n f rank' link 0 a.head) × ((a.tail ≡ u → ⊥) → Way n f rank' link 0 a.tail)
way_back n f rank rank' link u ne a s p w = (
  λ e. let y = goes_over n f rank link u ne a s 0 w e in way_without rank' u p s.head_in y.0.less y.2,
  λ nt. let y = goes_against n f rank link u ne a s 0 w nt in way_without rank' u p s.tail_in y.0.less y.2,
)

-- ways and finds depend on ranks and links of nodes alone
pub leads_views : {n : Net} {f rank : ℕ → ℕ} {k : ℕ} (rank' : ℕ → ℕ) → ((v : ℕ) → v < n.nodes → rank' v ≡ rank v)
    → {u v : ℕ} → u < n.nodes → v < n.nodes → Leads n f rank k u v → Leads n f rank' k u v
leads_views rank' same {u} {v} lu lv (inl a) =
    let x = same u lu in
    let y = same v lv in
    inl (record {
      exists = a.exists;
      from_is = a.from_is;
      to_is = a.to_is;
      left = a.left;
      some = omega
          (arith, a.some);
      less = omega (arith, a.less);
    })
leads_views rank' same {u} {v} lu lv (inr a) =
    let x = same u lu in
    let y = same v lv in
    inr (record {
      exists = a.exists;
      from_is = a.from_is;
      to_is = a.to_is;
      left = a.left;
      some = omega
          (arith, a.some);
      less = omega (arith, a.less);
    })

pub way_views : {n : Net} {f rank link : ℕ → ℕ} (rank' link' : ℕ → ℕ) → ((v : ℕ) → v < n.nodes → rank' v ≡ rank v)
    → ((v : ℕ) → v < n.nodes → link' v ≡ link v) → {u : ℕ} → u < n.nodes → Way n f rank link 0 u → Way n f
    rank' link' 0 u
way_views rank' link' ranks links l arrived = arrived
way_views {n} {f} {rank} {link} rank' link' ranks links l (over u v b a fits w) =
    let x = ranks u l in
    let y = ranks v b in
    let c : Over n f rank' (link u) u v =
    record {
      exists = a.exists;
      from_is = a.from_is;
      to_is = a.to_is;
      left = a.left;
      some = omega
          (arith, a.some);
      less = omega (arith, a.less);
    } in
    let d = subst (λ (j : ℕ). Over n f rank' j u v) (sym (links u l)) c in
    over u v b d (left_fits n f (link' u) 0 d.left (omega arith)) (way_views rank' link' ranks links b w)
way_views {n} {f} {rank} {link} rank' link' ranks links l (against u v b a fits w) =
    let x = ranks u l in
    let y = ranks v b in
    let c : Against n f rank' (link u) u v =
    record {
      exists = a.exists;
      from_is = a.from_is;
      to_is = a.to_is;
      left = a.left;
      some = omega
          (arith, a.some);
      less = omega (arith, a.less);
    } in
    against u v b (subst (λ (j : ℕ). Against n f rank' j u v) (sym (links u l)) c) (omega arith)
    (way_views rank' link' ranks links b w)

-- the way is laid back from the sink over the arcs by which nodes were found: it stands from `node` on, k
-- is the arc by which `node` was found, and the nodes of smaller rank still have theirs
pub record Laying (n : Net) (f rank link : ℕ → ℕ) (node k : ℕ) : Type 0 where
  pub inside : node < n.nodes
  pub way : Way n f rank link 0 node
  pub finds : (node ≡ 0 → ⊥) → Finds n f rank k node
  pub below : (v : ℕ) → v < n.nodes → rank v < rank node → 0 < rank v → (v ≡ 0 → ⊥) → Finds n f rank (link v) v

pub laying_begins : (n : Net) → Sound n → (f rank link : ℕ → ℕ) → Found n f rank link → 0 < rank 1 → Laying n f
    rank link 1 (link 1)
laying_begins n s f rank link t h =
    let l : 1 < n.nodes = omega (arith, s.two) in
    record {
      inside = l;
      way = arrived;
      finds = λ nz. t 1 l h nz;
      below = λ v b less some nz. t v b some nz;
    }

-- the node that arc k comes from, as the code has it
module _ (n : Net) (f rank link : ℕ → ℕ) (node k : ℕ) (nz : node ≡ 0 → ⊥) (x : Laying n f rank link node k)
    (a : Arc) (s : Seen n k a) where
  pub found_over : a.head ≡ node → Leads n f rank k a.tail node
  found_over e =
      let t = x.finds nz in
      ⊎_elim
      (λ y. inl (subst (λ (u : ℕ). Over n f rank k u node) (sym y.from_is ∙ sym s.tail_is) y))
      (λ y. absurd (let q = ap rank (sym y.from_is ∙ (sym s.head_is ∙ e)) in omega (arith, y.less)))
      t.2

  pub found_against : (a.head ≡ node → ⊥) → Leads n f rank k a.head node
  found_against ne =
      let t = x.finds nz in
      ⊎_elim
      (λ y. absurd (ne (s.head_is ∙ y.to_is)))
      (λ y. inr (subst (λ (u : ℕ). Against n f rank k u node) (sym y.from_is ∙ sym s.head_is) y))
      t.2

  -- the step back to u; the ranks are as they were
  pub laying_more : (u : ℕ) → u < n.nodes → Leads n f rank k u node → (rank' link' : ℕ → ℕ)
      → ((v : ℕ) → v < n.nodes → rank' v ≡ rank v) → Put n.nodes link link' u k
      → Laying n f rank' link' u (link u) × (rank' u < rank node)
  laying_more u lu leads rank' link' ranks p =
      let up = leads_less leads in (
        record {
          inside = lu;
          way = way_more link' u node k x.inside p (leads_views rank' ranks lu x.inside leads)
              (way_views rank' link ranks (λ v l. refl) x.inside x.way);
          finds = λ nu. seen u lu (x.below u lu up (leads_some leads) nu);
          below = λ v l less some nv.
              let same = ranks v l in
              let here = ranks u lu in
              subst (λ (j : ℕ). Finds n f rank' j v) (sym (p.there v l (λ q. let z = ap rank' q in omega arith)))
              (seen v l (x.below v l (omega arith) (omega arith) nv));
        },
        omega (arith, ranks u lu),
      )
    where
      leads_some : {j y z : ℕ} → Leads n f rank j y z → 0 < rank y
      leads_some (inl b) = b.some
      leads_some (inr b) = b.some

      seen : {j : ℕ} (v : ℕ) → v < n.nodes → Finds n f rank j v → Finds n f rank' j v
      seen v l t = (t.0, t.1, leads_views rank' ranks t.1 l t.2)
