-- Small projects that no start list meets, with the chains that show it.
use Rattle.std.specs.Prelude.{ℕ, zero, suc, cond, List, [], ◌∷◌, ℤ, pos, nat_lt, slice_index, slice_index_or}
use Rattle.model.specs.declared.price.Price.TheVariants.{Open, Closed}
use Rattle.model.specs.Meaning.{Meaning}
use Rattle.earliest.specs.declared.chain.How.{How}
use Rattle.earliest.specs.declared.chain.How.TheVariants.{Start, PastClosed, ByLag}
use Rattle.earliest.specs.declared.chain.Entry.{Entry}

abbrev pub entry : How → ℕ → ℕ → Entry
entry how a t = record { activity = a; slot = record { 0 = t }; how = how }

-- prices of activity 0, and of all others
abbrev prices : ℕ → List ℤ
prices zero = pos 5 ∷ pos 3 ∷ pos 4 ∷ pos 6 ∷ []
prices (suc a) = pos 9 ∷ pos 7 ∷ pos 2 ∷ pos 6 ∷ []

-- four slots, two activities of durations 2 and 1; activity 1 starts at least 2 slots after activity 0
abbrev pub two_in_four : Meaning
two_in_four = record {
  n = 2;
  horizon = 4;
  duration = λ a. slice_index (2 ∷ 1 ∷ []) a;
  price = λ a t. Open (slice_index_or (prices a) t (pos 0));
  lags = 1;
  lag = λ k. record { from = 0; to = 1; gap = pos 2 };
  height = 0;
}

-- slots before t closed at height h for every activity
abbrev pub closed_before : ℕ → ℕ → Meaning → Meaning
closed_before t h m = record {
  n = m.n;
  horizon = m.horizon;
  duration = m.duration;
  price = λ a u. cond (nat_lt u t) (Closed h) (m.price a u);
  lags = m.lags;
  lag = m.lag;
  height = m.height;
}

abbrev pub too_late : ℕ → List Entry
too_late h = entry Start 0 0 ∷ entry (PastClosed h) 0 1 ∷ entry (PastClosed h) 0 2 ∷ entry (ByLag 0) 1 4 ∷ []

-- two open slots and one activity that is to start after itself
abbrev pub after_itself : Meaning
after_itself = record {
  n = 1;
  horizon = 2;
  duration = λ a. 0;
  price = λ a t. Open (pos 4);
  lags = 1;
  lag = λ k. record { from = 0; to = 0; gap = pos 1 };
  height = 0;
}

abbrev pub round_and_round : List Entry
round_and_round = entry Start 0 0 ∷ entry (ByLag 0) 0 1 ∷ entry (ByLag 0) 0 2 ∷ []
