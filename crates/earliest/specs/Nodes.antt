-- How nodes stand in lent words; callers need none of this. Four words each. A node is an entry that some
-- chain may have, and the number of the node before it, 0 if that is the chain's first entry.
use Rattle.std.specs.Prelude.{◌≡◌, ℕ, ◌-◌, min, cond, List, [], ◌==◌, ◌≢◌, nat_lt, slice_index, slice_index_or}
use Rattle.earliest.specs.declared.chain.How.{How}
use Rattle.earliest.specs.declared.chain.How.TheVariants.{Start, PastClosed, ByLag}
use Rattle.earliest.specs.declared.nodes.Node.{Node}

-- 0, then the heights, then the lags
abbrev pub how_of : ℕ → How
how_of w = cond (w == 0) Start (cond (nat_lt w 257) (PastClosed (w - 1)) (ByLag (min (w - 257) 65535)))

-- a word that no node wrote is cut to what an entry can hold
abbrev pub of_words : List ℕ → Node
of_words ws = record {
  entry = record {
    activity = min (slice_index ws 0) 65535;
    slot = record { 0 = min (slice_index ws 1) 65535 };
    how = how_of (slice_index ws 2);
  };
  parent = slice_index ws 3;
}

abbrev pub node_of : List (List ℕ) → ℕ → Node
node_of ns e = of_words (slice_index_or ns e [])

-- `after` is `before` with node e written
pub record Put (before after : List (List ℕ)) (e : ℕ) (v : Node) : Type 0 where
  pub here : node_of after e ≡ v
  pub elsewhere : (f : ℕ) → (f ≢ e) → node_of after f ≡ node_of before f
