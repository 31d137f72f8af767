-- A block memory as a list of cells, and what the calls make of it.
use Rattle.std.specs.Prelude.{◌≡◌, ℕ, List, length, slice_set}
use Rattle.memory.specs.declared.cell.Cell.{Cell}
use Rattle.memory.specs.declared.cell.Cell.TheVariants as cell
use Rattle.memory.specs.declared.cell.Outcome.{Outcome}
use Rattle.memory.specs.declared.cell.Outcome.TheVariants as outcome

-- After a write: the cell n is good with the bytes given, the others as before. `slice_set` changes nothing at or above
-- the count.
abbrev pub cells_written : List Cell → ℕ → List ℕ → List Cell
cells_written cells n bytes = slice_set cells n (cell.Good bytes)

-- After a write during which power fails: the cell n is as before, as written, or torn.
abbrev pub cells_cut : List Cell → ℕ → List ℕ → Outcome → List Cell
cells_cut cells n bytes outcome.Old = cells
cells_cut cells n bytes outcome.New = cells_written cells n bytes
cells_cut cells n bytes outcome.Torn = slice_set cells n cell.Torn

-- A good cell has sixteen bytes.
abbrev pub SixteenBytes : Cell → Type 0
SixteenBytes (cell.Good bytes) = length bytes ≡ 16
SixteenBytes cell.Torn = Unit {0}
