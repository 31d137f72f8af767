-- Bytes of FFh that are put in the place of a cell leave it torn, where they hold a torn one.
use Rattle.std.specs.Prelude.{◌≡◌, ℕ, List, replicate, slice_set}
use Rattle.std.proofs.lemmas.List.{length-replicate}
use Rattle.memory.specs.declared.cell.Cell.TheVariants as cell
use Rattle.memory.specs.Layouts.{Layout, cells_in, LeftTorn}
use Rattle.memory.specs.Parts.{part_put}
use Rattle.memory.specs.CellLaws.{tear_cell, left_torn}

pub ff_tears : (layout : Layout) → layout.cell_in (replicate layout.size 255) ≡ cell.Torn → (bytes : List ℕ) (n : ℕ)
    → cells_in layout (part_put layout.size bytes n (replicate layout.size 255)) ≡ slice_set (cells_in layout bytes) n cell.Torn
ff_tears layout holds bytes n = tear_cell layout (replicate layout.size 255) (length-replicate layout.size 255) holds bytes n

pub ff_left : (layout : Layout) → layout.cell_in (replicate layout.size 255) ≡ cell.Torn → (bytes : List ℕ) (n : ℕ)
    → LeftTorn layout bytes (part_put layout.size bytes n (replicate layout.size 255)) n
ff_left layout holds bytes n = left_torn layout (replicate layout.size 255) (length-replicate layout.size 255) holds bytes n
