-- How a kind of memory lays its cells out in bytes, and what a call leaves of those bytes.
use Rattle.std.specs.Prelude.{◌≡◌, ℕ, ◌+◌, ◌*◌, ◌/◌, ◌%◌, cond, List, [], ◌∷◌, ◌++◌, map, length, take, ◌==◌, slice_index}
use Rattle.crc.specs.Crc.{crc_of}
use Rattle.memory.specs.declared.cell.Cell.{Cell}
use Rattle.memory.specs.declared.cell.Cell.TheVariants as cell
use Rattle.memory.specs.declared.cell.Outcome.{Outcome}
use Rattle.memory.specs.declared.cell.Outcome.TheVariants as outcome
use Rattle.memory.specs.Parts.{parts, part_put}

pub record Layout : Type 0 where
  -- how many bytes a cell takes
  pub size : ℕ
  -- what so many bytes hold
  pub cell_in : List ℕ → Cell
  -- the bytes of a good cell
  pub good_cell : List ℕ → List ℕ

-- the cells that bytes hold
abbrev pub cells_in : Layout → List ℕ → List Cell
cells_in layout bytes = map layout.cell_in (parts layout.size bytes)

-- The plain kind: sixteen bytes and a state byte, 00h for good, anything else for torn.
abbrev pub plain : Layout
plain = record {
  size = 17;
  cell_in = λ p. cond (slice_index p 16 == 0) (cell.Good (take 16 p)) cell.Torn;
  good_cell = λ bytes. bytes ++ (0 ∷ []);
}

-- The checked kind: sixteen bytes and their CRC, high byte first; torn exactly if the CRC differs.
abbrev pub checked : Layout
checked = record {
  size = 18;
  cell_in = λ p. cond (slice_index p 16 * 256 + slice_index p 17 == crc_of (take 16 p)) (cell.Good (take 16 p)) cell.Torn;
  good_cell = λ bytes. bytes ++ (crc_of bytes / 256 ∷ crc_of bytes % 256 ∷ []);
}

-- After a write: the bytes of the cell n are those of a good cell, all others as before.
abbrev pub bytes_written : Layout → List ℕ → ℕ → List ℕ → List ℕ
bytes_written layout old n bytes = part_put layout.size old n (layout.good_cell bytes)

-- After power left the cell n torn. Which bytes a torn cell has is open: `open_bytes` are whichever they are. Known of
-- them is that they fill the cell, that they hold a torn one, and that all bytes outside of the cell are as before.
-- Where there is no cell n, no byte changes.
pub record LeftTorn (layout : Layout) (old new : List ℕ) (n : ℕ) : Type 0 where
  pub open_bytes : List ℕ
  pub fill : length open_bytes ≡ layout.size
  pub hold_torn : layout.cell_in open_bytes ≡ cell.Torn
  pub stand_there : new ≡ part_put layout.size old n open_bytes

-- After a write during which power fails.
abbrev pub BytesCut : Layout → List ℕ → List ℕ → ℕ → List ℕ → Outcome → Type 0
BytesCut layout old new n bytes outcome.Old = new ≡ old
BytesCut layout old new n bytes outcome.New = new ≡ bytes_written layout old n bytes
BytesCut layout old new n bytes outcome.Torn = LeftTorn layout old new n
