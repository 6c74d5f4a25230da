-- Writing the values of a function in front of a list.
use Rattle.std.proofs.Common.{◌≡◌, ℕ, ◌+◌, ◌<◌, List, [], ◌∷◌, ◌++◌, map, length, take, drop, set, sym, ap, ◌∙◌, arith}
use Rattle.std.specs.List.{range_with_len}
use Rattle.std.proofs.lemmas.List.{take_more_set, take-append-drop}
use Rattle.std.proofs.lemmas.List.FromFn.{map-range_with_len_more}

pub front_more : (f : ℕ → ℕ) (xs : List ℕ) (i x : ℕ) → i < length xs → take i xs ≡ map f (range_with_len 0 i) → x ≡ f i → take (i + 1) (set xs i x) ≡ map f (range_with_len 0 (i + 1))
front_more f xs i x lt front is =
    take_more_set xs i x lt
    ∙ ap (λ (ys : List ℕ). ys ++ x ∷ []) front
    ∙ ap (λ (y : ℕ). map f (range_with_len 0 i) ++ y ∷ []) is
    ∙ sym (map-range_with_len_more f 0 i i (omega arith))

pub front_whole : (f : ℕ → ℕ) (xs ys : List ℕ) (i n : ℕ) → i ≡ n → take i xs ≡ map f (range_with_len 0 i) → drop i xs ≡ drop i ys → xs ≡ map f (range_with_len 0 n) ++ drop n ys
front_whole f xs ys i n is front rest =
    sym (take-append-drop i xs)
    ∙ ap (λ (zs : List ℕ). zs ++ drop i xs) front
    ∙ ap (λ (zs : List ℕ). map f (range_with_len 0 i) ++ zs) rest
    ∙ ap (λ (k : ℕ). map f (range_with_len 0 k) ++ drop k ys) is
