-- What the search by trying every list defines, and the relations of the subject.
use Rattle.std.proofs.Common.{◌≡◌, ℕ, Bool, true, false, not, ◌&&◌, ◌⊎◌, List, [], ◌∷◌, ◌≤ℤ◌, sym, refl, ap, ◌∙◌, inl, inr, ⊎_elim, arith}
use lib.Signed.{le_z, ≤ℤ_refl}
use Rattle.std.proofs.lemmas.Int.{ints}
use Rattle.std.proofs.lemmas.Bool.{and_parts, and_from, or_cases, or_left, or_right, cases_Bool, not-true, both_ways, true≢false}
use Rattle.model.specs.Meaning.{Meaning}
use Rattle.model.specs.Starts.{meets, cost, lists, all_of, no_dearer, of_least_cost}
use Rattle.model.specs.Chosen.{Meets, NoneMeets, NoneCheaper, EarliestIsTheFirst, CheapestIsTheFirst, LatestIsTheLast, DefinedOnesMeet, NoneDefinedExactly}
use Rattle.model.proofs.Meeting.{meets_test, le_int_true, true_le_int}
use Rattle.model.proofs.Firsts.{In, in_from, false_from, all_in, of_in, first_none, none_passes, first_passes, first_least}
use Rattle.model.proofs.Lasts.{last_none, none_lasts, last_passes, last_greatest}

in_lists : (m : Meaning) (s : List ℕ) → Meets m s → In m.n m.horizon s
in_lists m s c = in_from m.n m.horizon s c.one_each c.below_horizon

no_dearer_from : (m : Meaning) (s r : List ℕ) → (Meets m r → cost m s ≤ℤ cost m r) → no_dearer m s r ≡ true
no_dearer_from m s r f =
    ⊎_elim (λ e. or_right (not (meets m r)) _ (true_le_int _ _ (f ((meets_test m r).0 e)))) (λ e. or_left (not (meets m r)) _ (ap not e)) (cases_Bool (meets m r))

no_dearer_of : (m : Meaning) (s r : List ℕ) → no_dearer m s r ≡ true → Meets m r → cost m s ≤ℤ cost m r
no_dearer_of m s r e met =
    ⊎_elim (λ no. absurd (both_ways (meets m r) (not-true (meets m r) no) ((meets_test m r).1 met))) (le_int_true _ _) (or_cases (not (meets m r)) (le_z (cost m s) (cost m r)) e)

least_from : (m : Meaning) (s : List ℕ) → NoneCheaper m s → of_least_cost m s ≡ true
least_from m s c =
    and_from (meets m s) _ ((meets_test m s).1 c.meeting) (all_in m.n m.horizon (no_dearer m s) (λ r i. no_dearer_from m s r (c.none_cheaper r)))

least_of : (m : Meaning) (s : List ℕ) → of_least_cost m s ≡ true → NoneCheaper m s
least_of m s e =
    let h = and_parts (meets m s) (all_of (no_dearer m s) (lists m.n m.horizon)) e in
    record {
      meeting = (meets_test m s).0 h.0;
      none_cheaper = λ r met. no_dearer_of m s r (of_in m.n m.horizon (no_dearer m s) h.1 r (in_lists m r met)) met;
    }

equal_cost : (m : Meaning) (s r : List ℕ) → NoneCheaper m s → NoneCheaper m r → cost m r ≡ cost m s
equal_cost m s r c d =
    let below = c.none_cheaper r d.meeting in
    let above = d.none_cheaper s c.meeting in
    omega (arith, ints)

pub earliest_first : EarliestIsTheFirst
earliest_first m s c =
    first_least m.n m.horizon (meets m) s (in_lists m s c.meeting) ((meets_test m s).1 c.meeting) (λ r i e. c.none_earlier r ((meets_test m r).0 e))

pub cheapest_first : CheapestIsTheFirst
cheapest_first m s c =
    first_least m.n m.horizon (of_least_cost m) s (in_lists m s c.least.meeting) (least_from m s c.least)
    (λ r i e. let d = least_of m r e in c.none_earlier r d.meeting (equal_cost m s r c.least d))

pub latest_last : LatestIsTheLast
latest_last m s c =
    last_greatest m.n m.horizon (of_least_cost m) s (in_lists m s c.least.meeting) (least_from m s c.least)
    (λ r i e. let d = least_of m r e in c.none_later r d.meeting (equal_cost m s r c.least d))

pub defined_ones_meet : DefinedOnesMeet
defined_ones_meet = record {
  earliest_meets = λ m s e. (meets_test m s).0 (first_passes (meets m) _ s e);
  cheapest_is_least = λ m s e. least_of m s (first_passes (of_least_cost m) _ s e);
  latest_is_least = λ m s e. least_of m s (last_passes (of_least_cost m) (lists m.n m.horizon) s e);
}

-- among lists of which one meets the project, some list costs least
record Best (m : Meaning) (xs : List (List ℕ)) : Type 0 where
  the : List ℕ
  among : (q : List ℕ → Bool) → all_of q xs ≡ true → q the ≡ true
  met : meets m the ≡ true
  best : all_of (no_dearer m the) xs ≡ true

no_dearer_by : (m : Meaning) (s r t : List ℕ) → cost m s ≤ℤ cost m r → no_dearer m r t ≡ true → no_dearer m s t ≡ true
no_dearer_by m s r t le e = no_dearer_from m s t (λ met. let next = no_dearer_of m r t e met in omega (arith, ints))

all_by : (m : Meaning) (s r : List ℕ) → cost m s ≤ℤ cost m r → (xs : List (List ℕ)) → all_of (no_dearer m r) xs ≡ true → all_of (no_dearer m s) xs ≡ true
all_by m s r le [] e = refl
all_by m s r le (x ∷ xs) e =
    let h = and_parts (no_dearer m r x) (all_of (no_dearer m r) xs) e in
    and_from (no_dearer m s x) (all_of (no_dearer m s) xs) (no_dearer_by m s r x le h.0) (all_by m s r le xs h.1)

all_idle : (m : Meaning) (s : List ℕ) (xs : List (List ℕ)) → all_of (λ r. not (meets m r)) xs ≡ true → all_of (no_dearer m s) xs ≡ true
all_idle m s [] e = refl
all_idle m s (x ∷ xs) e =
    let h = and_parts (not (meets m x)) (all_of (λ r. not (meets m r)) xs) e in
    and_from (no_dearer m s x) (all_of (no_dearer m s) xs) (or_left (not (meets m x)) (le_z (cost m s) (cost m x)) h.0) (all_idle m s xs h.1)

itself : (m : Meaning) (s : List ℕ) → no_dearer m s s ≡ true
itself m s = no_dearer_from m s s (λ _. ≤ℤ_refl (cost m s))

best_of : (m : Meaning) (xs : List (List ℕ)) → (all_of (λ r. not (meets m r)) xs ≡ true) ⊎ Best m xs
best_of m [] = inl refl
best_of m (x ∷ xs) =
    ⊎_elim
    (λ (idle : all_of (λ r. not (meets m r)) xs ≡ true).
    ⊎_elim
    (λ (yes : meets m x ≡ true). inr (record { the = x; among = λ q e. (and_parts (q x) (all_of q xs) e).0; met = yes; best = and_from (no_dearer m x x) _ (itself m x) (all_idle m x xs idle) }))
    (λ (no : meets m x ≡ false). inl (and_from (not (meets m x)) _ (ap not no) idle))
    (cases_Bool (meets m x)))
    (λ (b : Best m xs).
    ⊎_elim
    (λ (yes : (meets m x && le_z (cost m x) (cost m b.the)) ≡ true).
    let h = and_parts (meets m x) (le_z (cost m x) (cost m b.the)) yes in
    inr (record {
      the = x;
      among = λ q e. (and_parts (q x) (all_of q xs) e).0;
      met = h.0;
      best = and_from (no_dearer m x x) _ (itself m x) (all_by m x b.the (le_int_true _ _ h.1) xs b.best);
    }))
    (λ (no : (meets m x && le_z (cost m x) (cost m b.the)) ≡ false).
    inr (record {
      the = b.the;
      among = λ q e. b.among q (and_parts (q x) (all_of q xs) e).1;
      met = b.met;
      best = and_from (no_dearer m b.the x) _ (no_dearer_from m b.the x (λ met. cheaper m x b.the ((meets_test m x).1 met) no)) b.best;
    }))
    (cases_Bool (meets m x && le_z (cost m x) (cost m b.the))))
    (best_of m xs)
  where
    cheaper : (m : Meaning) (x y : List ℕ) → meets m x ≡ true → (meets m x && le_z (cost m x) (cost m y)) ≡ false → cost m y ≤ℤ cost m x
    cheaper m x y met other =
        let dearer : le_z (cost m x) (cost m y) ≡ false = sym (ap (λ v. v && le_z (cost m x) (cost m y)) met) ∙ other in
        grind (arith, ints)

-- where one list meets the project, the search by least cost cannot come to nothing
some_least : (m : Meaning) → all_of (λ s. not (of_least_cost m s)) (lists m.n m.horizon) ≡ true → NoneMeets m
some_least m none r met =
    ⊎_elim
    (λ idle. true≢false (sym ((meets_test m r).1 met) ∙ not-true (meets m r) (of_in m.n m.horizon (λ s. not (meets m s)) idle r (in_lists m r met))))
    (λ (b : Best m (lists m.n m.horizon)).
    both_ways (of_least_cost m b.the) (not-true (of_least_cost m b.the) (b.among (λ s. not (of_least_cost m s)) none)) (and_from (meets m b.the) _ b.met b.best))
    (best_of m (lists m.n m.horizon))

idle_lists : (m : Meaning) (q : List ℕ → Bool) → ((s : List ℕ) → q s ≡ true → Meets m s) → NoneMeets m → all_of (λ s. not (q s)) (lists m.n m.horizon) ≡ true
idle_lists m q met none = all_in m.n m.horizon (λ s. not (q s)) (λ s i. ap not (false_from (q s) (λ e. none s (met s e))))

pub none_defined_exactly : NoneDefinedExactly
none_defined_exactly = record {
  no_earliest = λ m. record {
    none_found = λ none. first_none (meets m) _ (idle_lists m (meets m) (λ s. (meets_test m s).0) none);
    none_meets = λ e s met. true≢false (sym ((meets_test m s).1 met) ∙ not-true (meets m s) (of_in m.n m.horizon (λ s. not (meets m s)) (none_passes (meets m) _ e) s (in_lists m s met)));
  };
  no_cheapest = λ m. record {
    none_found = λ none. first_none (of_least_cost m) _ (idle_lists m (of_least_cost m) (λ s e. (least_of m s e).meeting) none);
    none_meets = λ e. some_least m (none_passes (of_least_cost m) _ e);
  };
  no_latest = λ m. record {
    none_found = λ none. last_none (of_least_cost m) _ (idle_lists m (of_least_cost m) (λ s e. (least_of m s e).meeting) none);
    none_meets = λ e. some_least m (none_lasts (of_least_cost m) (lists m.n m.horizon) e);
  };
}
