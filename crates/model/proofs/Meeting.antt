-- The test of a start list, and the relation that it decides.
use Rattle.std.proofs.Common.{◌≡◌, ℕ, ◌<◌, Bool, true, ◌&&◌, eqb, ltb, List, length, ℤ, pos, ◌+ℤ◌, ◌≤ℤ◌, Decides, refl, arith}
use lib.Signed.{le_z}
use Rattle.std.proofs.lemmas.Int.{ints}
use Rattle.std.proofs.lemmas.Bool.Decides.{Decides-below_and, Decides-and, Decides-ltb, Decides-eqb, Decides-like}
use Rattle.model.specs.declared.lag.Lag.{Lag}
use Rattle.model.specs.Meaning.{Meaning}
use Rattle.model.specs.Starts.{start, is_open, every, holds, meets}
use Rattle.model.specs.Chosen.{Meets, TestIsMeeting}

pub le_int_true : (x y : ℤ) → le_z x y ≡ true → x ≤ℤ y
le_int_true x y e = grind (arith, ints)

pub true_le_int : (x y : ℤ) → x ≤ℤ y → le_z x y ≡ true
true_le_int x y e = grind (arith, ints)

-- a start in an open slot below the horizon
abbrev Placed : Meaning → List ℕ → ℕ → Type 0
Placed m s a = (start s a < m.horizon) × (is_open (m.price a (start s a)) ≡ true)

abbrev Kept : List ℕ → Lag → Type 0
Kept s l = (pos (start s l.from) +ℤ l.gap) ≤ℤ pos (start s l.to)

pub every_decides : (f : ℕ → Bool) (P : ℕ → Type 0) → ((k : ℕ) → Decides (f k) (P k)) → (n : ℕ) → Decides (every n f) ((k : ℕ) → k < n → P k)
every_decides f P d n = Decides-below_and f P (λ k. every k f) d refl (λ _. refl) n

placed : (m : Meaning) (s : List ℕ) (a : ℕ) → Decides (ltb (start s a) m.horizon && is_open (m.price a (start s a))) (Placed m s a)
placed m s a = Decides-and (ltb (start s a) m.horizon) (is_open (m.price a (start s a))) (Decides-ltb (start s a) m.horizon) ((λ e. e), (λ e. e))

parts_meet : (m : Meaning) (s : List ℕ) → (length s ≡ m.n) × (((a : ℕ) → a < m.n → Placed m s a) × ((k : ℕ) → k < m.lags → Kept s (m.lag k))) → Meets m s
parts_meet m s p = record {
  one_each = p.0;
  below_horizon = λ a h. (p.1.0 a h).0;
  in_open_slots = λ a h. (p.1.0 a h).1;
  lags_hold = p.1.1;
}

meets_parts : (m : Meaning) (s : List ℕ) → Meets m s → (length s ≡ m.n) × (((a : ℕ) → a < m.n → Placed m s a) × ((k : ℕ) → k < m.lags → Kept s (m.lag k)))
meets_parts m s p = (p.one_each, ((λ a h. (p.below_horizon a h, p.in_open_slots a h)), p.lags_hold))

pub meets_test : TestIsMeeting
meets_test m s =
    let slot : ℕ → Bool = λ a. ltb (start s a) m.horizon && is_open (m.price a (start s a)) in
    let lag : ℕ → Bool = λ k. holds (m.lag k) s in
    Decides-like (meets m s) (parts_meet m s) (meets_parts m s)
    (Decides-and (eqb (length s) m.n) (every m.n slot && every m.lags lag) (Decides-eqb (length s) m.n)
    (Decides-and (every m.n slot) (every m.lags lag)
    (every_decides slot (Placed m s) (placed m s) m.n)
    (every_decides lag (λ k. Kept s (m.lag k)) (λ k. (le_int_true _ _, true_le_int _ _)) m.lags)))
