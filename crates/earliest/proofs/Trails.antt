-- The walk back, as a loop: entries written so far, and the node that it stands at.
use Rattle.std.proofs.Common.{◌≡◌, ℕ, ◌+◌, ◌-◌, ◌*◌, ◌<◌, ◌≤◌, List, [], ◌∷◌, ◌++◌, reverse, length, take, drop, set, sym, ap, ◌∙◌, subst, mul-le-mul, mul-add, arith, length-set}
use Rattle.std.proofs.lemmas.List.{reverse-append, take_more_set, drop-set-lt, drop-drop, take_at, drop_at, length-reverse, length-take-le, length-append}
use Rattle.model.specs.Meaning.{Meaning, Bounds}
use Rattle.earliest.specs.declared.chain.Entry.{Entry}
use Rattle.earliest.specs.declared.nodes.Node.{Node}
use Rattle.earliest.specs.Outcome.{entries_needed, Explained}
use Rattle.earliest.specs.Pushing.{State, Reaches, origin}
use Rattle.earliest.proofs.Steps.{nodes_few}
use Rattle.earliest.proofs.Tracing.{Trail, trail_start, trail_more, trail_end, start_entry}

-- k entries are written, back to front, and the walk stands at node v
pub record Walk (m : Meaning) (nd : ℕ → Node) (c : ℕ) (before after : List Entry) (k : ℕ) (v : Node) : Type 0 where
  pub trail : Trail m nd c v (reverse (take k after))
  pub few : k + v.parent ≤ c + 1
  pub room : k + 1 ≤ entries_needed m
  pub small : k + 1 ≤ 8193
  pub long : entries_needed m ≤ length after
  pub rest : drop k after ≡ drop k before

pub reverse_put : {A : Type 0} (xs : List A) (k : ℕ) (x : A) → k < length xs → reverse (take (k + 1) (set xs k x)) ≡ x ∷ reverse (take k xs)
reverse_put xs k x lt = ap reverse (take_more_set xs k x lt) ∙ reverse-append (take k xs) (x ∷ [])

pub drop_put : {A : Type 0} (xs ys : List A) (k : ℕ) (x : A) → drop k xs ≡ drop k ys → drop (k + 1) (set xs k x) ≡ drop (k + 1) ys
drop_put xs ys k x e = drop-set-lt (k + 1) xs k x (omega arith) ∙ sym (drop-drop 1 k xs) ∙ ap (drop 1) e ∙ drop-drop 1 k ys

-- the entries needed are one more for each node, and one
pub enough : (m : Meaning) → Bounds m → m.n * (m.horizon - 1) + 2 ≤ entries_needed m
enough m b =
    let e : m.n * (m.horizon - 1 + 1) ≡ m.n * (m.horizon - 1) + m.n * 1 = mul-add m.n (m.horizon - 1) 1 in
    let h : m.horizon - 1 + 1 ≡ m.horizon = omega (arith, b.h_low) in
    omega (arith, e, ap (λ (x : ℕ). m.n * x) h, b.n_low)

pub entries_fit : (m : Meaning) → Bounds m → entries_needed m ≤ 8193
entries_fit m b =
    let p : m.n * m.horizon ≤ 64 * 128 = mul-le-mul b.n_high b.h_high in
    omega (arith, p)

module _ (m : Meaning) (nd : ℕ → Node) (la : ℕ → ℕ) (c : ℕ) (b : Bounds m) (s : State m nd la c) where
  room_for : (k p : ℕ) → k + p ≤ c + 1 → k + 1 ≤ entries_needed m
  room_for k p few = omega (arith, nodes_few m nd la c s, enough m b)

  pub walk_start : (v : Node) (es : List Entry) → Reaches m nd la v → entries_needed m ≤ length es → Walk m nd c es (set es 0 v.entry) 1 v
  walk_start v es d long =
      let t = trail_start m nd la c v s d.0 d.1 in
      let few : 1 + v.parent ≤ c + 1 = omega (arith, t.known) in
      let room = room_for 1 v.parent few in
      record {
        trail = subst (λ (rs : List Entry). Trail m nd c v rs) (sym (reverse_put es 0 v.entry (omega (arith, room)))) t;
        few = few;
        room = room;
        small = omega (arith, room, entries_fit m b);
        long = simp length-set long;
        rest = drop-set-lt 1 es 0 v.entry (omega arith);
      }

  pub walk_more : (before after : List Entry) (k : ℕ) (v : Node) → Walk m nd c before after k v → 0 < v.parent → Walk m nd c before (set after k (nd v.parent).entry) (k + 1) (nd v.parent)
  walk_more before after k v w some =
      let p = nd v.parent in
      let few : k + 1 + p.parent ≤ c + 1 = omega (arith, w.few, (s.sound v.parent some w.trail.known).earlier) in
      let room = room_for (k + 1) p.parent few in
      record {
        trail = subst (λ (rs : List Entry). Trail m nd c p rs) (sym (reverse_put after k p.entry (omega (arith, w.room, w.long)))) (trail_more m nd la c v (reverse (take k after)) s w.trail some);
        few = few;
        room = room;
        small = omega (arith, room, entries_fit m b);
        long = simp length-set w.long;
        rest = drop_put after before k p.entry w.rest;
      }

  -- with the first entry written, and then turned round, it is the chain
  pub walk_end : (before after turned : List Entry) (k : ℕ) (v : Node) (a : ℕ) → Walk m nd c before after k v → v.parent ≡ 0 → a ≡ origin m v.entry.how v.entry.activity
      → turned ≡ reverse (take (k + 1) (set after k (start_entry a))) ++ drop (k + 1) (set after k (start_entry a)) → Explained m before turned (k + 1)
  walk_end before after turned k v a w none from is =
      let xs = set after k (start_entry a) in
      let front = reverse (take (k + 1) xs) in
      let within : k < length after = omega (arith, w.room, w.long) in
      let long : length front ≡ k + 1 = length-reverse (take (k + 1) xs) ∙ length-take-le (k + 1) xs (simp length-set (omega arith)) in
      rw is
      record {
        chain = rw (take_at front (drop (k + 1) xs) (k + 1) long, reverse_put after k (start_entry a) within, from)
            (trail_end m nd la c v (reverse (take k after)) s (omega (arith, b.h_low)) w.trail none);
        within = omega (arith, length-append front (drop (k + 1) xs), long);
        rest = drop_at front (drop (k + 1) xs) (k + 1) long ∙ drop_put after before k (start_entry a) w.rest;
      }
