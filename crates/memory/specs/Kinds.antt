-- What a memory that owns its bytes holds: the bytes, and by a layout their cells; and the two kinds of such a memory.
use Rattle.std.specs.Prelude.{ℕ, List, vec_items}
use Rattle.std.specs.List.{AllByRecursion}
use Rattle.memory.specs.declared.cell.Cell.{Cell}
use Rattle.memory.specs.declared.byte_memory.ByteMemory.{ByteMemory}
use Rattle.memory.specs.Cells.{SixteenBytes}
use Rattle.memory.specs.Layouts.{Layout, cells_in, plain, checked}
use Rattle.memory.specs.CellLaws.{all_sixteen, plain_lawful, checked_lawful}

abbrev pub held_bytes : {size : ℕ} → ByteMemory size → List ℕ
held_bytes memory = vec_items memory.bytes

abbrev pub held_cells : {size : ℕ} → Layout → ByteMemory size → List Cell
held_cells layout memory = cells_in layout (held_bytes memory)

abbrev pub plain_bytes : ByteMemory 17 → List ℕ
plain_bytes memory = held_bytes memory

abbrev pub plain_cells : ByteMemory 17 → List Cell
plain_cells memory = held_cells plain memory

abbrev pub checked_bytes : ByteMemory 18 → List ℕ
checked_bytes memory = held_bytes memory

abbrev pub checked_cells : ByteMemory 18 → List Cell
checked_cells memory = held_cells checked memory

-- every good cell of either kind has sixteen bytes
pub plain_sixteen : (memory : ByteMemory 17) → AllByRecursion SixteenBytes (plain_cells memory)
plain_sixteen memory = all_sixteen plain plain_lawful (plain_bytes memory)

pub checked_sixteen : (memory : ByteMemory 18) → AllByRecursion SixteenBytes (checked_cells memory)
checked_sixteen memory = all_sixteen checked checked_lawful (checked_bytes memory)
