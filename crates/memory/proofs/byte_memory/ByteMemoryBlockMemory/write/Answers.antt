-- A good cell that is put in the place of the part n changes the cell n and no other.
use Rattle.std.proofs.Common.{arith}
use Rattle.std.proofs.lemmas.List.{with_items_is}
use Rattle.memory.specs.CellLaws.{write_cell, number_same}
use Rattle.memory.proofs.byte_memory.ByteMemoryBlockMemory.write.Goals as goal

pub returns : goal.returns
returns g c = grind (arith, with_items_is, write_cell, number_same)
