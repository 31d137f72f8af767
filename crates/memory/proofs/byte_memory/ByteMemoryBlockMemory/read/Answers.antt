-- A cell is what its part holds.
use Rattle.std.proofs.Common.{arith}
use Rattle.std.proofs.lemmas.Grind.{common_steps}
use Rattle.std.proofs.lemmas.Option.{slice_get-map, slice_get_read, slice_get_past}
use Rattle.memory.specs.CellLaws.{chunk_cells, count_cells}
use Rattle.memory.proofs.byte_memory.ByteMemoryBlockMemory.read.Goals as goal

pub returns-in_err-part-clause-value : goal.returns-in_err-part-clause-value
returns-in_err-part-clause-value g c = grind (arith, common_steps, count_cells, slice_get_past)

pub returns-in_err-part-clause-number : goal.returns-in_err-part-clause-number
returns-in_err-part-clause-number g c = grind (arith, common_steps, count_cells)

pub returns-clause-value : goal.returns-clause-value
returns-clause-value g c = grind (arith, common_steps, chunk_cells, slice_get-map, slice_get_read)

pub returns-clause-number : goal.returns-clause-number
returns-clause-number g c = grind (arith, common_steps, count_cells)
