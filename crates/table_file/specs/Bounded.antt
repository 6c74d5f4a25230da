-- The project that a faultless file states keeps the bounds of a project.
use Rattle.std.specs.Prelude.{◌≡◌, ℕ, ◌+◌, ◌*◌, ◌<◌, true, false, cond, ◌&&◌, ◌||◌, T, List, ℤ, pos, negsuc, ◌≤ℤ◌, Some, None, Option, refl}
use Rattle.std.proofs.Common.{sym, subst, mul_comm, arith}
use Rattle.std.specs.Int.Signed.{le_z, le_z_yes}
use Rattle.std.proofs.lemmas.Nat.{mul-add-lt}
use Rattle.std.proofs.lemmas.Bool.{leb-true, and_parts}
use Rattle.model.specs.declared.price.Price.TheVariants.{Open, Closed}
use Rattle.model.specs.declared.refusal.Fault.TheVariants.{Range}
use Rattle.model.specs.declared.refusal.Refusal.{Refusal}
use Rattle.model.specs.Meaning.{Bounds, LagWithin, price_fits}
use Rattle.relations.specs.declared.relation.Sense.{Sense}
use Rattle.relations.specs.declared.relation.Sense.TheVariants.{Least, Greatest}
use Rattle.relations.specs.Lags.{gap_fits, turned_by}
use Rattle.table_file.specs.Format.{file_fault, is_none, faultless, head_fault, durations_fault, duration_fault, duration_in, price_count_fault, prices_fault, price_fault, price_in, prices_place, price_ok, is_closed, relation_count_fault, relations_fault, relation_fault, ends_fault, interval_fault, record_place, end_fault, horizon_in, activities_in, cells_in, relations_in, relation_at, gap_at}
use Rattle.table_file.specs.Clear.{both_clear, each_clear, field_clear, head_clear, HeadClear, ends_clear, relations_few}
use Rattle.table_file.specs.Stated.{stated, price_stated}
use Rattle.table_file.specs.Numbers.{byte}

is_none_none : (o : Option Refusal) → is_none o ≡ true → o ≡ None
is_none_none None e = refl
is_none_none (Some r) e = absurd (let z : ◌≡◌ {A = ℕ} 0 1 = cc in omega arith)

-- the parts of a faultless file
pub record Faultless (file : List ℕ) : Type 0 where
  pub head : HeadClear file
  pub durations : durations_fault file ≡ None
  pub price_count : price_count_fault file ≡ None
  pub prices : prices_fault file ≡ None
  pub relation_count : relation_count_fault file ≡ None
  pub relations : relations_fault file ≡ None
  pub the_end : end_fault file ≡ None

pub faultless_parts : (file : List ℕ) → faultless file ≡ true → Faultless file
faultless_parts file e =
    let a = both_clear (head_fault file) _ (is_none_none (file_fault file) e) in
    let b = both_clear (durations_fault file) _ a.1 in
    let c = both_clear (price_count_fault file) _ b.1 in
    let d = both_clear (prices_fault file) _ c.1 in
    let f = both_clear (relation_count_fault file) _ d.1 in
    let g = both_clear (relations_fault file) (end_fault file) f.1 in
    record { head = head_clear file a.0; durations = b.0; price_count = c.0; prices = d.0; relation_count = f.0; relations = g.0; the_end = g.1 }

price_stated_fits : (p : ℤ) → price_ok p ≡ true → price_fits (price_stated p) ≡ true
price_stated_fits p e =
    elim (is_closed p) as (λ c. (c || (le_z (negsuc 999999999) p && le_z p (pos 1000000000))) ≡ true → price_fits (cond c (Closed 0) (Open p)) ≡ true) [ true ↦ λ _. refl | false ↦ λ z. z ] e

le_of : (x y : ℤ) → le_z x y ≡ true → x ≤ℤ y
le_of x y e = le_z_yes (subst T (sym e) tt)

lag_within : (n f t : ℕ) (s : Sense) (g : ℤ) → f < n → t < n → gap_fits g ≡ true → LagWithin n (turned_by s f t g)
lag_within n f t Least g a b e = let p = and_parts (le_z (negsuc 255) g) (le_z g (pos 256)) e in record { from_ok = a; to_ok = b; low = le_of _ _ p.0; high = le_of _ _ p.1 }
lag_within n f t Greatest g a b e = let p = and_parts (le_z (negsuc 255) g) (le_z g (pos 256)) e in record { from_ok = b; to_ok = a; low = le_of _ _ p.0; high = le_of _ _ p.1 }

pub stated_bounds : (file : List ℕ) → faultless file ≡ true → Bounds (stated file)
stated_bounds file e =
    let w = faultless_parts file e in
    record {
      n_low = w.head.n_low;
      n_high = w.head.n_high;
      h_low = w.head.h_low;
      h_high = w.head.h_high;
      duration_ok = λ a l. leb-true (duration_in file a) 128 (field_clear file (3 + a) 1 _ Range (each_clear (activities_in file) a (duration_fault file) l w.durations)).fits;
      price_ok = λ a t l m.
          let i = a * horizon_in file + t in
          price_stated_fits (price_in file i) (field_clear file (prices_place file + 4 * i) 4 _ Range (each_clear (cells_in file) i (price_fault file) (omega (arith, mul-add-lt a (horizon_in file) t (activities_in file) l m, mul_comm (activities_in file) (horizon_in file))) w.prices)).fits;
      lags_ok = relations_few file w.relation_count;
      lag_ok = λ k l.
          let at = record_place file k in
          let clean = both_clear (ends_fault file at) (interval_fault file at) (each_clear (relations_in file) k (λ k. relation_fault file (record_place file k)) l w.relations) in
          let ends = ends_clear file at clean.0 in
          lag_within (activities_in file) (byte file (at + 3)) (byte file (at + 4)) (relation_at file at).sense (gap_at file at) ends.from_there ends.to_there (field_clear file (at + 5) 2 _ Range clean.1).fits;
      height_ok = omega arith;
    }
