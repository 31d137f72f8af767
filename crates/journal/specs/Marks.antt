-- The marks of the journal, and the write that a mark notes.
use Rattle.std.specs.Prelude.{ℕ, ◌%◌, Bool, ◌&&◌, ◌||◌, List, ◌∷◌, ◌++◌, drop, replicate, ◌==◌, nat_le, nat_lt, slice_index}
use Rattle.std.specs.Option.{unwrap_or}
use Rattle.blocks.specs.Cells.{cell_of}
use Rattle.blocks.specs.Counters.{three_byte_number, three_bytes}
use Rattle.journal.specs.declared.entry.Entry.{Entry}

-- the blocks that a mark may name: those that a write can reach, and WCNT for a write that moves the counter alone
abbrev pub may_mark : ℕ → Bool
may_mark b = nat_lt b 0x0F || (b == 0x82 || (b == 0x84 || ((nat_le 0x86 b && nat_le b 0x88) || b == 0x90)))

-- A mark: A5h, hopper, block number, counter (three bytes, low byte first), ten 00h.
abbrev pub mark_bytes : Entry → List ℕ
mark_bytes e = 0xA5 ∷ e.hopper ∷ (e.write.block % 256) ∷ (three_bytes e.write.counter ++ replicate 10 0x00)

-- bytes 6 to 15 are 00h
abbrev pub ends_clear : List ℕ → Bool
ends_clear m =
    (slice_index m 6 == 0) && (slice_index m 7 == 0 && (slice_index m 8 == 0 && (slice_index m 9 == 0 && (slice_index m 10 == 0
    && (slice_index m 11 == 0 && (slice_index m 12 == 0 && (slice_index m 13 == 0 && (slice_index m 14 == 0 && slice_index m 15 == 0))))))))

-- sixteen bytes are a mark: in its full form, of one of four hoppers and of a block that a mark may name
abbrev pub is_mark : List ℕ → Bool
is_mark m = slice_index m 0 == 0xA5 && (nat_lt (slice_index m 1) 4 && (may_mark (slice_index m 2) && ends_clear m))

-- the write that a mark notes, its bytes lying in the buffer
abbrev pub noted_by : List ℕ → List ℕ → Entry
noted_by m bytes = record {
  hopper = slice_index m 1;
  write = record { block = slice_index m 2; bytes = bytes; counter = three_byte_number (drop 3 m) };
}

-- the home of a block among its hopper's 22 cells. (A block without a cell is never written; the counter's cell stands for it.)
abbrev pub home_of : ℕ → ℕ
home_of b = unwrap_or (cell_of b) 21
