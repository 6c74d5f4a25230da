-- What a project answers, as total functions, with absence put on top; and the limits of a project.
use Rattle.std.specs.Prelude.{◌≡◌, ℕ, ◌<◌, ◌≤◌, Bool, true, cond, ◌&&◌, pos, negsuc, ◌≤ℤ◌, Some, None, Option, int_le, nat_le, nat_lt}
use Rattle.model.specs.declared.price.Price.{Price}
use Rattle.model.specs.declared.price.Price.TheVariants.{Open, Closed}
use Rattle.model.specs.declared.lag.Lag.{Lag}

-- n activities, `lags` lags; what lies past them is of no account
pub record Meaning : Type 0 where
  pub n : ℕ
  pub horizon : ℕ
  pub duration : ℕ → ℕ
  pub price : ℕ → ℕ → Price
  pub lags : ℕ
  pub lag : ℕ → Lag
  pub height : ℕ

-- absent where the test fails
abbrev pub within : {T : Type 0} → Bool → T → Option T
within b x = cond b (Some x) None

abbrev pub duration_of : Meaning → ℕ → Option ℕ
duration_of m a = within (nat_lt a m.n) (m.duration a)

abbrev pub price_of : Meaning → ℕ → ℕ → Option Price
price_of m a t = within (nat_lt a m.n && nat_lt t m.horizon) (m.price a t)

abbrev pub lag_of : Meaning → ℕ → Option Lag
lag_of m k = within (nat_lt k m.lags) (m.lag k)

-- −1,000,000,000 to 1,000,000,000, or a height
abbrev pub price_fits : Price → Bool
price_fits (Open p) = int_le (negsuc 999999999) p && int_le p (pos 1000000000)
price_fits (Closed h) = nat_le h 255

-- between two of n activities, −256 to 256
pub record LagWithin (n : ℕ) (l : Lag) : Type 0 where
  pub from_ok : l.from < n
  pub to_ok : l.to < n
  pub low : negsuc 255 ≤ℤ l.gap
  pub high : l.gap ≤ℤ pos 256

pub record Bounds (m : Meaning) : Type 0 where
  pub n_low : 1 ≤ m.n
  pub n_high : m.n ≤ 64
  pub h_low : 1 ≤ m.horizon
  pub h_high : m.horizon ≤ 128
  pub duration_ok : (a : ℕ) → a < m.n → m.duration a ≤ 128
  pub price_ok : (a t : ℕ) → a < m.n → t < m.horizon → price_fits (m.price a t) ≡ true
  pub lags_ok : m.lags ≤ 256
  pub lag_ok : (k : ℕ) → k < m.lags → LagWithin m.n (m.lag k)
  pub height_ok : m.height ≤ 255
