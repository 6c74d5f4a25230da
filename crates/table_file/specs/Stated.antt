-- The project that the bytes of a table file state. Relation k gives lag k; nothing lies below.
use Rattle.std.specs.Prelude.{ℕ, ◌+◌, ◌*◌, cond, List, ℤ, Option, nat_lt}
use Rattle.model.specs.declared.lag.Lag.{Lag}
use Rattle.model.specs.declared.price.Price.{Price}
use Rattle.model.specs.declared.price.Price.TheVariants.{Open, Closed}
use Rattle.model.specs.Meaning.{Meaning, within}
use Rattle.relations.specs.declared.relation.Relation.{Relation}
use Rattle.relations.specs.Lags.{lag_of}
use Rattle.table_file.specs.Numbers.{byte}
use Rattle.table_file.specs.Format.{horizon_in, activities_in, duration_in, price_in, relations_in, record_place, relation_at, is_closed}

abbrev pub price_stated : ℤ → Price
price_stated p = cond (is_closed p) (Closed 0) (Open p)

abbrev pub lag_stated : List ℕ → ℕ → Lag
lag_stated file at = lag_of (relation_at file at) (duration_in file (byte file (at + 3))) (duration_in file (byte file (at + 4)))

abbrev pub relation_of : List ℕ → ℕ → Option Relation
relation_of file k = within (nat_lt k (relations_in file)) (relation_at file (record_place file k))

abbrev pub stated : List ℕ → Meaning
stated file = record {
  n = activities_in file;
  horizon = horizon_in file;
  duration = duration_in file;
  price = λ a t. price_stated (price_in file (a * horizon_in file + t));
  lags = relations_in file;
  lag = λ k. lag_stated file (record_place file k);
  height = 0;
}
