-- What keeping a node leaves, and what a step that was taken tells of all before it.
use Rattle.std.proofs.Common.{◌≡◌, ℕ, ◌+◌, ◌-◌, ◌*◌, ◌<◌, ◌≤◌, List, [], length, set, None, Option, replicate, refl, sym, ap, ◌∙◌, subst, mul-le-mul, arith, below_more}
use Rattle.std.proofs.lemmas.List.{get_or-set_same, get_or-set_other, get_or-replicate}
use Rattle.model.specs.Meaning.{Meaning, Bounds}
use Rattle.earliest.specs.declared.nodes.Node.{Node}
use Rattle.earliest.specs.Nodes.{of_words, node_of}
use Rattle.earliest.specs.Outcome.{node_count}
use Rattle.earliest.specs.Pushing.{latest_of, Pushes, State, Taken, Kept}
use Rattle.earliest.proofs.Steps.{fresh, pushed, nodes_few}

pub few_fit : (m : Meaning) (nd : ℕ → Node) (la : ℕ → ℕ) (c : ℕ) → Bounds m → State m nd la c → c ≤ 8128
few_fit m nd la c b s =
    let h : m.horizon - 1 ≤ 127 = omega (arith, b.h_high) in
    let p : m.n * (m.horizon - 1) ≤ 64 * 127 = mul-le-mul b.n_high h in
    omega (arith, nodes_few m nd la c s, p)

-- node 0 is written, and no activity has a node yet
pub begun : (m : Meaning) (ns : List (List ℕ)) (ws : List ℕ) → Bounds m → 0 < length ns → (of_words ws).entry.slot.0 ≡ 0
    → State m (node_of (set ns 0 ws)) (latest_of (replicate 64 0)) 0
begun m ns ws b room root =
    fresh m (node_of (set ns 0 ws)) (latest_of (replicate 64 0)) b
    (ap (λ (w : List ℕ). (of_words w).entry.slot.0) (get_or-set_same ns 0 ws [] room) ∙ root)
    (λ a lt. get_or-replicate 64 a 0 0 (omega (arith, b.n_high)))

-- a node was kept
pub kept : (m : Meaning) (ns : List (List ℕ)) (ls : List ℕ) (c : ℕ) (ws : List ℕ) (v : Node)
    → State m (node_of ns) (latest_of ls) c → Pushes m (node_of ns) (latest_of ls) v → v.entry.slot.0 < m.horizon
    → m.n ≤ length ls → node_count m ≤ length ns → of_words ws ≡ v
    → State m (node_of (set ns (c + 1) ws)) (latest_of (set ls v.entry.activity (c + 1))) (c + 1)
kept m ns ls c ws v s p low long room is =
    pushed m (node_of ns) (node_of (set ns (c + 1) ws)) (latest_of ls) (latest_of (set ls v.entry.activity (c + 1))) c v s p low
    (ap of_words (get_or-set_same ns (c + 1) ws [] (omega (arith, room, nodes_few m (node_of ns) (latest_of ls) c s))) ∙ is)
    (λ f ne. ap of_words (get_or-set_other ns (c + 1) f ws [] ne))
    (get_or-set_same ls v.entry.activity (c + 1) 0 (omega (arith, p.real)))
    (λ b ne. get_or-set_other ls v.entry.activity b (c + 1) 0 ne)

-- and what it changed
pub kept_one : (ns : List (List ℕ)) (ls : List ℕ) (c : ℕ) (ws : List ℕ) (v : Node) → c + 1 < length ns → of_words ws ≡ v
    → Kept ns ls c (set ns (c + 1) ws) (set ls v.entry.activity (c + 1)) (c + 1) v
kept_one ns ls c ws v room is =
    record {
      counted = refl;
      written = record {
        here = ap of_words (get_or-set_same ns (c + 1) ws [] room) ∙ is;
        elsewhere = λ f ne. ap of_words (get_or-set_other ns (c + 1) f ws [] ne);
      };
      newest = refl;
    }

-- as long as nothing is pushed, no step before found a node
pub still_none : (f : List (List ℕ) → List ℕ → ℕ → Option Node) (i c0 c c' : ℕ) (ns ns' : List (List ℕ)) (ls ls' : List ℕ) (s r : Option Node)
    → c0 ≤ c → (c ≡ c0 → (a : ℕ) → a < i → f ns ls a ≡ None) → Taken ns ls c ns' ls' c' s r
    → c' ≡ c0 → (a : ℕ) → a < i → f ns' ls' a ≡ None
still_none f i c0 c c' ns ns' ls ls' s r le before t same =
    let t' = t.idle (omega (arith, t.onward)) in
    subst (λ (xs : List (List ℕ)). (a : ℕ) → a < i → f xs ls' a ≡ None) (sym t'.0)
    (subst (λ (ks : List ℕ). (a : ℕ) → a < i → f ns ks a ≡ None) (sym t'.1) (before (omega (arith, t.onward))))

pub none_more : (f : List (List ℕ) → List ℕ → ℕ → Option Node) (i c0 c c' : ℕ) (ns ns' : List (List ℕ)) (ls ls' : List ℕ) (s r : Option Node)
    → c0 ≤ c → (c ≡ c0 → (a : ℕ) → a < i → f ns ls a ≡ None) → Taken ns ls c ns' ls' c' s r → s ≡ f ns ls i → r ≡ None
    → c' ≡ c0 → (a : ℕ) → a < i + 1 → f ns' ls' a ≡ None
none_more f i c0 c c' ns ns' ls ls' s r le before t asked none same =
    still_none f (i + 1) c0 c c' ns ns' ls ls' s r le
    (λ e. below_more (λ a. f ns ls a ≡ None) i (before e) (sym asked ∙ t.none none (omega (arith, t.onward)))) t same
