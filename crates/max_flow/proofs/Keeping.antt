-- What stays the same while the node words change.
use Rattle.std.proofs.Common.{◌≡◌, ℕ, ◌<◌, ◌≤◌, List, length, get_or, set, sym, ap, ◌∙◌, subst}
use Rattle.std.proofs.Math.Logic.{∥∥₁_elim}
use Rattle.std.specs.Coded.{le_prop}
use Rattle.std.proofs.lemmas.List.{get_or-set_same, get_or-set_other}
use Rattle.flow.specs.Nets.{Net, word}
use Rattle.flow.specs.Ways.{Put}
use Rattle.flow.proofs.Searches.{value_limit}
use Rattle.max_flow.specs.declared.nodes.Nodes.{Nodes}
use Rattle.max_flow.specs.Raised.{Raised}
use Rattle.max_flow.specs.Layout.{net_of, Kept}

pub same_net : {N : _} {A : _} {b : _} {s s' : Nodes N A b} → Kept s s' → net_of s' ≡ net_of s
same_net {N} {A} {b} k = ap (λ x. b.net x.now) k.same_network

pub kept_more : {N : _} {A : _} {b : _} {s s' s'' : Nodes N A b} → Kept s s' → Kept s' s'' → Kept s s''
kept_more p q = record {
  same_network = q.same_network ∙ p.same_network;
  same_ranks = q.same_ranks ∙ p.same_ranks;
}

-- one word written
pub put_set : (m : ℕ) (xs ys : List ℕ) (t x : ℕ) → t < length xs → ys ≡ set xs t x → Put m (word xs) (word ys) t x
put_set m xs ys t x l e =
    record {
      here = ap (λ (y : List ℕ). get_or y t 0) e ∙ get_or-set_same xs t x 0 l;
      there = λ j b ne. ap (λ (y : List ℕ). get_or y j 0) e ∙ get_or-set_other xs t j x 0 ne;
    }

pub raised_kept : {N : _} {A : _} {b : _} {s s' : Nodes N A b} (flow : List ℕ) (w : ℕ) → Kept s s'
    → Raised (net_of s) flow w → Raised (net_of s') flow w
raised_kept flow w k = subst (λ (n : Net). Raised n flow w) (sym (same_net k))

-- no value is above the capacity of the finite cut that there is
pub value_low : {N : _} {A : _} {b : _} (s : Nodes N A b) (flow : List ℕ) (w : ℕ) → Raised (net_of s) flow w
    → w ≤ 100000000000000
value_low {N} {A} {b} s flow w r =
    ∥∥₁_elim r.finite le_prop (λ fin.
    value_limit (net_of s) (b.bounded s.network.now) fin (word flow) w r.is_flow)
