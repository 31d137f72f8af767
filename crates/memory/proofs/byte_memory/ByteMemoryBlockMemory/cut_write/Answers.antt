-- Bytes of FFh that are put in the place of the part n leave the cell n torn and change no other.
use Rattle.std.proofs.Common.{arith}
use Rattle.std.proofs.lemmas.List.{with_items_is}
use Rattle.memory.specs.CellLaws.{number_same}
use Rattle.memory.proofs.Torn.{ff_tears, ff_left}
use Rattle.memory.proofs.byte_memory.ByteMemoryBlockMemory.cut_write.Goals as goal

pub returns-in-Torn-clause-after : goal.returns-in-Torn-clause-after
returns-in-Torn-clause-after g c = grind (arith, with_items_is, ff_tears)

pub returns-in-Torn-clause-number : goal.returns-in-Torn-clause-number
returns-in-Torn-clause-number g c = grind (arith, number_same)

pub returns-in-Torn-clause-raw : goal.returns-in-Torn-clause-raw
returns-in-Torn-clause-raw g c = grind (arith, with_items_is, ff_left)
