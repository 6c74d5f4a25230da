-- A small project to try a calendar on.
use Rattle.std.specs.Prelude.{pos}
use Rattle.model.specs.declared.price.Price.TheVariants.{Open}
use Rattle.model.specs.Meaning.{Meaning}

-- one activity of duration 0, three slots, price 4 in each, no lags
abbrev pub one_of_three : Meaning
one_of_three = record {
  n = 1;
  horizon = 3;
  duration = λ a. 0;
  price = λ a t. Open (pos 4);
  lags = 0;
  lag = λ k. record { from = 0; to = 0; gap = pos 0 };
  height = 0;
}
