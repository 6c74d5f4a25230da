-- What a search keeps, and what its ranks say once it has ended.
use Rattle.std.proofs.Common.{◌≡◌, ℕ, zero, suc, ◌+◌, ◌*◌, ◌<◌, ◌≤◌, Bool, true, false, not, ◌&&◌, eqb, ltb, ◌⊎◌, sym, refl, ap, ◌∙◌, subst, inl, inr, ⊎_elim, arith}
use Rattle.std.proofs.lemmas.Bool.{eq-eqb, ne_eqb, cases_eq, ltb-true, lt-ltb, le-ltb, or_left, or_cases}
use Rattle.flow.specs.Sums.{sum_to, pick}
use Rattle.flow.specs.Nets.{Net, Sound, Bounds, room, IsFlow, Reached, source, along, back, Unhindered}
use Rattle.flow.specs.Cuts.{Finite, Marks, Closed}
use Rattle.flow.specs.Ways.{Put, Leads}
use Rattle.flow.specs.Searches.{unranked, Finds, Found, Searching, Opens, Searched}
use Rattle.flow.specs.Unhindering.{unbounded_only}
use Rattle.flow.proofs.Sums.{sum_to_but, sum_to_le}
use Rattle.flow.proofs.Duals.{no_flow_exceeds_a_cut, reached_in}

ones : (m : ℕ) → sum_to (λ v. 1) m ≡ m
ones zero = refl
ones (suc m) = omega (arith, ones m)

-- a node that gets a rank is one less without
unranked_less : (m : ℕ) (rank rank' : ℕ → ℕ) (v x : ℕ) → v < m → rank v ≡ 0 → 0 < x → Put m rank rank' v x
    → unranked m rank' + 1 ≡ unranked m rank
unranked_less m rank rank' v x l new pos p =
    let but = sum_to_but (λ y. pick (eqb (rank' y) 0) 1) (λ y. pick (eqb (rank y) 0) 1) v m l
    (λ y b ne. ap (λ z. pick (eqb z 0) 1) (p.there y b ne)) in
    let a = ap (λ b. pick b 1) (eq-eqb (rank v) 0 new) in
    let b = ap (λ b. pick b 1) (ne_eqb (rank' v) 0 (λ e. omega (arith, p.here))) in
    omega arith

-- node v, found from u over arc k, gets rank x
module _ (n : Net) (s : Sound n) (f rank rank' arc arc' queue queue' : ℕ → ℕ) (waiting waiting' u v k x : ℕ) where
  pub found : Searching n f rank arc queue waiting → u < n.nodes → (u ≡ 1 → ⊥) → 0 < rank u
      → v < n.nodes → rank v ≡ 0 → Opens n f k u v → Put n.nodes rank rank' v x → Put n.nodes arc arc' v k
      → waiting < x → waiting ≤ waiting' → waiting' ≤ waiting + 1 → ((v ≡ 1 → ⊥) → x ≤ waiting')
      → ((i : ℕ) → i < waiting' → ((i < waiting) × (queue' i ≡ queue i)) ⊎ ((queue' i ≡ v) × (v ≡ 1 → ⊥)))
      → Searching n f rank' arc' queue' waiting' × (unranked n.nodes rank' + 1 ≡ unranked n.nodes rank)
  found t lu nu ru lv new opens pr pp up more most top queues = (
    record {
      root = omega (arith, keeps 0 (omega (arith, s.two)) t.root, t.root);
      steps = steps;
      low = low;
      queued = queued;
      count = omega (arith, fewer, t.count);
    },
    fewer,
  )
    where
      keeps : (y : ℕ) → y < n.nodes → 0 < rank y → rank' y ≡ rank y
      keeps y b h = pr.there y b (λ e. let a = ap rank e in omega arith)

      fewer : unranked n.nodes rank' + 1 ≡ unranked n.nodes rank
      fewer = unranked_less n.nodes rank rank' v x lv new (omega arith) pr

      low : (y : ℕ) → y < n.nodes → (y ≡ 1 → ⊥) → rank' y ≤ waiting'
      low y b ne =
          ⊎_elim
          (λ e. let a = ap rank' e in omega (arith, pr.here, top (λ q. ne (e ∙ q))))
          (λ nv. omega (arith, pr.there y b nv, t.low y b ne))
          (cases_eq y v)

      below_u : rank' u ≡ rank u
      below_u = keeps u lu ru

      low_u : rank u ≤ waiting
      low_u = t.low u lu nu

      new_step : Finds n f rank' k v
      new_step = (
        u,
        lu,
        ⊎_elim
            (λ (a : (room n f k ≡ true) × (n.tail k ≡ u) × (n.head k ≡ v)).
            inl (record {
              exists = opens.0;
              from_is = a.1;
              to_is = a.2;
              left = a.0;
              some = omega
                  (arith, below_u);
              less = omega (arith, below_u, low_u, pr.here);
            }))
            (λ (a : (0 < f k) × (n.head k ≡ u) × (n.tail k ≡ v)).
            inr (record {
              exists = opens.0;
              from_is = a.1;
              to_is = a.2;
              left = a.0;
              some = omega
                  (arith, below_u);
              less = omega (arith, below_u, low_u, pr.here);
            }))
            opens.1,
      )

      same_leads : (y z j : ℕ) → z < n.nodes → y < n.nodes → 0 < rank y → Leads n f rank j z y → Leads n f
          rank' j z y
      same_leads y z j c b h (inl a) =
          let p = keeps z c a.some in
          inl (record {
            exists = a.exists;
            from_is = a.from_is;
            to_is = a.to_is;
            left = a.left;
            some = omega
                (arith, a.some);
            less = omega (arith, keeps y b h, a.less);
          })
      same_leads y z j c b h (inr a) =
          let p = keeps z c a.some in
          inr (record {
            exists = a.exists;
            from_is = a.from_is;
            to_is = a.to_is;
            left = a.left;
            some = omega
                (arith, a.some);
            less = omega (arith, keeps y b h, a.less);
          })

      steps : Found n f rank' arc'
      steps y b h nz =
          ⊎_elim
          (λ e. subst (λ (z : ℕ). Finds n f rank' (arc' z) z) (sym e)
          (subst (λ (j : ℕ). Finds n f rank' j v) (sym pp.here) new_step))
          (λ ne.
          let p : 0 < rank y = omega (arith, pr.there y b ne) in
          let old = t.steps y b p nz in
          subst (λ (j : ℕ). Finds n f rank' j y) (sym (pp.there y b ne))
          (old.0, old.1, same_leads y old.0 (arc y) old.1 b p old.2))
          (cases_eq y v)

      queued : (i : ℕ) → i < waiting' → (queue' i < n.nodes) × (0 < rank' (queue' i)) × (queue' i ≡ 1 → ⊥)
      queued i l =
          ⊎_elim
          (λ (a : (i < waiting) × (queue' i ≡ queue i)).
          let q = t.queued i a.0 in
          let e = ap rank' a.1 in
          (omega (arith, a.1, q.0), omega (arith, keeps (queue i) q.0 q.1, q.1), λ z. q.2 (sym a.1 ∙ z)))
          (λ (a : (queue' i ≡ v) × (v ≡ 1 → ⊥)).
          let e = ap rank' a.0 in
          (omega (arith, a.0), omega (arith, pr.here), λ z. a.1 (sym a.0 ∙ z)))
          (queues i l)

-- the source alone
pub search_begins : (n : Net) → Sound n → (f rank arc queue : ℕ → ℕ) → rank 0 ≡ 1
    → ((v : ℕ) → v < n.nodes → (v ≡ 0 → ⊥) → rank v ≡ 0) → queue 0 ≡ 0 → Searching n f rank arc queue 1
search_begins n s f rank arc queue one none first =
    record {
      root = omega arith;
      steps = λ v l h nz. absurd (omega (arith, none v l nz));
      low = λ v l ne. ⊎_elim (λ e. let a = ap rank e in omega arith) (λ nz. omega (arith, none v l nz))
          (cases_eq v 0);
      queued = λ i l.
          let z : i ≡ 0 = omega arith in
          let e = ap queue z in
          let r = ap rank (e ∙ first) in
          (omega (arith, s.two), omega arith, λ q. omega arith);
      count = count;
    }
  where
    count : 1 + unranked n.nodes rank ≤ n.nodes
    count =
        let l : 0 < n.nodes = omega (arith, s.two) in
        let but = sum_to_but (λ v. pick (eqb (rank v) 0) 1) (λ v. 1) 0 n.nodes l
        (λ v b ne. ap (λ t. pick t 1) (eq-eqb (rank v) 0 (none v b ne))) in
        let z = ap (λ t. pick t 1) (ne_eqb (rank 0) 0 (λ e. omega arith)) in
        omega (arith, ones n.nodes)

-- a ranked node is reached
pub ranked_reached : {n : Net} {f rank arc : ℕ → ℕ} → Found n f rank arc
    → (m v : ℕ) → rank v ≤ m → v < n.nodes → 0 < rank v → Reached n f v
ranked_reached t zero v l i p = absurd (omega arith)
ranked_reached {n} {f} {rank} {arc} t (suc m) v l i p =
    ⊎_elim
    (λ e. subst (Reached n f) (sym e) source)
    (λ nz.
    let old = t v i p nz in
    ⊎_elim
    (λ x. subst (Reached n f) x.to_is (along (arc v) x.exists x.left
    (subst (Reached n f) (sym x.from_is)
    (ranked_reached t m old.0 (omega (arith, x.less)) old.1 x.some))))
    (λ x. subst (Reached n f) x.to_is (back (arc v) x.exists x.left
    (subst (Reached n f) (sym x.from_is)
    (ranked_reached t m old.0 (omega (arith, x.less)) old.1 x.some))))
    old.2)
    (cases_eq v 0)

-- once nothing leads on, the ranked nodes are the marks
pub ranked_marks : {n : Net} {f rank arc : ℕ → ℕ} → Searched n f rank arc → rank 1 ≡ 0
    → Marks n f (λ v. ltb 0 (rank v))
ranked_marks {n} {f} {rank} {arc} t z =
    record {
      marked = λ v l h. ranked_reached t.steps (rank v) v (omega arith) l (ltb-true 0 (rank v) h);
      reached = λ v r. reached_in (λ v. ltb 0 (rank v)) closed (lt-ltb 0 (rank 0) t.root) r;
    }
  where
    closed : Closed n f (λ v. ltb 0 (rank v))
    closed =
        record {
          on = λ k l h r. lt-ltb 0 _ ((t.shut z k l).on (ltb-true 0 _ h) r);
          off = λ k l h r. lt-ltb 0 _ ((t.shut z k l).off (ltb-true 0 _ h) r);
        }

-- a search over unbounded arcs alone: without a rank at the sink there is a finite cut
pub unhindered_none : (n : Net) (f rank arc : ℕ → ℕ) → Searched (unbounded_only n) f rank arc → rank 1 ≡ 0 → Finite n
unhindered_none n f rank arc t z = (
  λ v. ltb 0 (rank v),
  record {
    has_source = lt-ltb 0 _ t.root;
    lacks_sink = le-ltb 0 _ (omega arith);
    none_unbounded = λ k l h u. lt-ltb 0 _ ((t.shut z k l).on (ltb-true 0 _ h) (or_left _ _ u));
  },
)

reached_unhindered : (n : Net) {v : ℕ} → Reached (unbounded_only n) (λ k. 0) v → Unhindered n v
reached_unhindered n source = Unhindered.source
reached_unhindered n (along k l r p) =
    ⊎_elim
    (λ u. Unhindered.along k l u (reached_unhindered n p))
    (λ b. absurd (omega (arith, ltb-true 0 0 b)))
    (or_cases (n.unbounded k) (ltb 0 0) r)
reached_unhindered n (back k l r p) = absurd (omega arith)

-- and with one, unbounded arcs lead there
pub unhindered_some : (n : Net) → Sound n → (rank arc : ℕ → ℕ) → Searched (unbounded_only n) (λ k. 0) rank arc
    → (rank 1 ≡ 0 → ⊥) → Unhindered n 1
unhindered_some n s rank arc t z =
    reached_unhindered n
    (ranked_reached t.steps (rank 1) 1 (omega arith) (omega (arith, s.two)) (omega arith))

many : (m : ℕ) → sum_to (λ k. 2000000000) m ≡ 2000000000 * m
many zero = refl
many (suc m) = omega (arith, many m)

-- where some cut is finite, every value is at most 50,000 times the largest capacity
pub value_limit : (n : Net) → Bounds n → Finite n → (f : ℕ → ℕ) (w : ℕ) → IsFlow n f w → w ≤ 100000000000000
value_limit n b (S, c) f w i =
    omega (
      arith,
      b.arcs_limit,
      no_flow_exceeds_a_cut n b.sound f w i S c,
      many n.arcs,
      sum_to_le (λ k. pick (S (n.tail k) && not (S (n.head k))) (n.capacity k)) (λ k. 2000000000) n.arcs
          (λ k l. at (S (n.tail k) && not (S (n.head k))) k l),
    )
  where
    at : (t : Bool) (k : ℕ) → k < n.arcs → pick t (n.capacity k) ≤ 2000000000
    at true k l = b.capacity_limit k l
    at false k l = omega arith
