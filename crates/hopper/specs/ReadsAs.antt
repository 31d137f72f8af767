-- What a block reads as, tags apart.
use Rattle.std.specs.Prelude.{ℕ, Bool, cond, List, ◌∷◌, replicate, Some, None, Option, ◌==◌}
use Rattle.memory.specs.declared.cell.Cell.{Cell}
use Rattle.blocks.specs.Cells.{cell_of}
use Rattle.blocks.specs.Counters.{counter_block}
use Rattle.decision.specs.declared.view.View.{View}
use Rattle.volatile.specs.declared.record.Session.{Session}
use Rattle.volatile.specs.Sessions.{state_block}
use Rattle.hopper.specs.Windows.{cell_held, zeros}

-- a block that lies in a cell reads as stored, any other as zeros
abbrev pub stored_as : List Cell → Option ℕ → List ℕ
stored_as ws None = zeros
stored_as ws (Some cell) = cell_held ws cell

-- CRC_CHECK
abbrev pub check_block : Bool → List ℕ
check_block sound = cond sound 0x00 0xFF ∷ replicate 15 0

-- But SYS_C is the system code, CK reads as zeros, WCNT as the counter, STATE as the session stands, and CRC_CHECK says
-- whether the hopper is sound. (RC, MAC and MAC_A lie in no cell.)
unfoldable pub reads_as : List Cell → View → Session → ℕ → List ℕ
reads_as ws x s b =
    cond (b == 0x85) (0x88 ∷ 0xB4 ∷ replicate 14 0)
    (cond (b == 0x87) zeros
    (cond (b == 0x90) (counter_block x.counter)
    (cond (b == 0x92) (state_block s)
    (cond (b == 0xA0) (check_block x.sound)
    (stored_as ws (cell_of b))))))
