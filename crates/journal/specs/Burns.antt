-- The burns of a write: each writes one cell.
use Rattle.std.specs.Prelude.{ℕ, cond, List, replicate, Some, None, Option}
use Rattle.blocks.specs.Cells.{hopper_cell}
use Rattle.blocks.specs.Counters.{counter_block}
use Rattle.memory.specs.declared.cell.Cell.{Cell}
use Rattle.memory.specs.declared.cell.Cell.TheVariants.{Good, Torn}
use Rattle.journal.specs.declared.entry.Entry.{Entry}
use Rattle.journal.specs.declared.burn.Burn.{Burn}
use Rattle.journal.specs.declared.burn.Phase.{Phase}
use Rattle.journal.specs.declared.burn.Phase.TheVariants.{Buffer, Mark, Home, Count, Clear}
use Rattle.journal.specs.Marks.{home_of, is_mark, mark_bytes, noted_by}

-- the two cells of the write buffer, behind those of the hoppers
abbrev pub buffer_cell : ℕ
buffer_cell = 88

abbrev pub mark_cell : ℕ
mark_cell = 89

-- which cell a burn writes
abbrev pub target : Phase → Entry → ℕ
target Buffer e = buffer_cell
target Mark e = mark_cell
target Home e = hopper_cell e.hopper (home_of e.write.block)
target Count e = hopper_cell e.hopper 21
target Clear e = mark_cell

-- and what it writes there
abbrev pub content : Phase → Entry → List ℕ
content Buffer e = e.write.bytes
content Mark e = mark_bytes e
content Home e = e.write.bytes
content Count e = counter_block e.write.counter
content Clear e = replicate 16 0

abbrev pub burn_at : Phase → Entry → Burn
burn_at phase e = record { phase = phase; entry = e }

-- the burn that follows
abbrev pub following : Phase → Entry → Option Burn
following Buffer e = Some (burn_at Mark e)
following Mark e = Some (burn_at Home e)
following Home e = Some (burn_at Count e)
following Count e = Some (burn_at Clear e)
following Clear e = None

-- how many burns are left with this one
abbrev pub left_from : Phase → ℕ
left_from Buffer = 5
left_from Mark = 4
left_from Home = 3
left_from Count = 2
left_from Clear = 1

abbrev pub burns_left : Option Burn → ℕ
burns_left None = 0
burns_left (Some b) = left_from b.phase

-- Recovery: if the buffer's data are good and a mark stands beside them, the write that it notes is owed from its home on.
abbrev pub recovered : Cell → Cell → Option Burn
recovered (Good bytes) (Good m) = cond (is_mark m) (Some (burn_at Home (noted_by m bytes))) None
recovered (Good bytes) Torn = None
recovered Torn mark = None
