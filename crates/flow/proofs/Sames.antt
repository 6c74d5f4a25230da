-- Flows, reach and cuts depend on the words of the arcs and the marks of the nodes alone.
use Rattle.std.proofs.Common.{◌≡◌, ℕ, ◌<◌, Bool, not, ◌&&◌, ◌||◌, eqb, ltb, sym, ap, ◌∙◌, arith}
use Rattle.flow.specs.Sums.{sum_to, pick}
use Rattle.flow.specs.Nets.{Net, Sound, IsFlow, NoneAbove, Reached, source, along, back}
use Rattle.flow.specs.Cuts.{across, FiniteCut}
use Rattle.flow.proofs.Sums.{sum_to_same}

module _ (n : Net) (f g : ℕ → ℕ) (same : (k : ℕ) → k < n.arcs → g k ≡ f k) where
  at_ends : (e : ℕ → ℕ) (v : ℕ)
      → sum_to (λ k. pick (eqb (e k) v) (g k)) n.arcs ≡ sum_to (λ k. pick (eqb (e k) v) (f k)) n.arcs
  at_ends e v = sum_to_same _ _ n.arcs (λ k l. ap (pick (eqb (e k) v)) (same k l))

  pub flow_same : (w : ℕ) → IsFlow n f w → IsFlow n g w
  flow_same w i =
      record {
        below = λ k l e. omega (arith, same k l, i.below k l e);
        balanced = λ v a l. at_ends n.tail v ∙ (i.balanced v a l ∙ sym (at_ends n.head v));
        worth = omega (arith, at_ends n.tail 0, at_ends n.head 0, i.worth);
      }

  pub none_above_same : (w : ℕ) → NoneAbove n f w → NoneAbove n g w
  none_above_same w h k l = omega (arith, same k l, h k l)

  pub reached_same : {v : ℕ} → Reached n f v → Reached n g v
  reached_same source = source
  reached_same (along k l r p) =
      along k l (ap (λ x. n.unbounded k || ltb x (n.capacity k)) (same k l) ∙ r) (reached_same p)
  reached_same (back k l r p) = back k l (omega (arith, same k l)) (reached_same p)

module _ (n : Net) (s : Sound n) (S T : ℕ → Bool) (same : (v : ℕ) → v < n.nodes → T v ≡ S v) where
  pub finite_cut_same : FiniteCut n S → FiniteCut n T
  finite_cut_same c =
      record {
        has_source = same 0 (omega (arith, s.two)) ∙ c.has_source;
        lacks_sink = same 1 (omega (arith, s.two)) ∙ c.lacks_sink;
        none_unbounded = λ k l t u.
            same (n.head k) (s.heads k l) ∙ c.none_unbounded k l (sym (same (n.tail k) (s.tails k l)) ∙ t) u;
      }

  pub across_same : (f : ℕ → ℕ) → across n T f ≡ across n S f
  across_same f =
      sum_to_same _ _ n.arcs (λ k l.
      ap (λ b. pick (b && not (T (n.head k))) (f k)) (same (n.tail k) (s.tails k l))
      ∙ ap (λ b. pick (S (n.tail k) && not b) (f k)) (same (n.head k) (s.heads k l)))
