-- There are as many cells as whole parts.
use Rattle.std.proofs.Common.{arith}
use Rattle.memory.specs.CellLaws.{count_cells}
use Rattle.memory.proofs.byte_memory.ByteMemoryBlockMemory.count.Goals as goal

pub returns : goal.returns
returns g c = grind (arith, count_cells)
