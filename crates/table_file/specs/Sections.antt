-- What a section shows, and which part of a file each one is.
use Rattle.std.specs.Prelude.{ℕ, ◌*◌, List, take, drop}
use Rattle.table_file.specs.declared.section.Section.{Section}
use Rattle.table_file.specs.declared.section.Section.TheVariants.{Durations, Prices, Relations}
use Rattle.table_file.specs.declared.section.Placed.{Placed}
use Rattle.table_file.specs.Format.{activities_in, cells_in, prices_place, relations_place, relations_in}

abbrev pub bytes_in : Section → List ℕ
bytes_in (Durations b) = b.now
bytes_in (Prices b) = b.now
bytes_in (Relations b) = b.now

-- a section by its kind, its place and its bytes
pub data Shown : Type 0 where
  durations : ℕ → List ℕ → Shown
  prices : ℕ → List ℕ → Shown
  relations : ℕ → List ℕ → Shown

abbrev pub shown_at : ℕ → Section → Shown
shown_at place (Durations b) = durations place b.now
shown_at place (Prices b) = prices place b.now
shown_at place (Relations b) = relations place b.now

abbrev pub shown : Placed → Shown
shown p = shown_at p.place p.section

-- so many bytes from a place on
abbrev pub part : List ℕ → ℕ → ℕ → List ℕ
part file place bytes = take bytes (drop place file)

abbrev pub durations_of : List ℕ → Shown
durations_of file = durations 3 (part file 3 (activities_in file))

abbrev pub prices_of : List ℕ → Shown
prices_of file = prices (prices_place file) (part file (prices_place file) (4 * cells_in file))

abbrev pub relations_of : List ℕ → Shown
relations_of file = relations (relations_place file) (part file (relations_place file) (7 * relations_in file))
