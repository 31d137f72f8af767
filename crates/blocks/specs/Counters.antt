-- The write counter.
use Rattle.std.specs.Prelude.{ℕ, ◌+◌, ◌*◌, ◌/◌, ◌%◌, Bool, cond, ◌&&◌, ◌||◌, List, [], ◌∷◌, ◌++◌, replicate, ◌==◌, nat_le, nat_lt, slice_index}
use Rattle.blocks.specs.declared.stage.Stage.{Stage}
use Rattle.blocks.specs.declared.stage.Stage.TheVariants.{Issuing, Issued}
use Rattle.blocks.specs.Configs.{state_signed}
use Rattle.blocks.specs.Stages.{is_issued}

-- the number of three bytes, the low byte first
unfoldable pub three_byte_number : List ℕ → ℕ
three_byte_number bytes = slice_index bytes 0 % 256 + 256 * (slice_index bytes 1 % 256) + 65536 * (slice_index bytes 2 % 256)

abbrev pub three_bytes : ℕ → List ℕ
three_bytes n = n % 256 ∷ n / 256 % 256 ∷ n / 65536 % 256 ∷ []

-- the block WCNT of a counter
unfoldable pub counter_block : ℕ → List ℕ
counter_block n = three_bytes n ++ replicate 13 0

-- the counter, by the value stored: 0 when issued with a stored value above FFFE00h
abbrev pub counter_now : Stage → ℕ → ℕ
counter_now Issuing stored = stored
counter_now Issued stored = cond (nat_lt 0xFFFE00 stored) 0 stored

-- where the counter stops
abbrev pub ceiling : Stage → ℕ
ceiling Issuing = 0xFFFFFF
ceiling Issued = 0xFFFE00

-- an accepted write to one of these blocks raises the counter
abbrev pub raising : ℕ → List ℕ → Bool
raising block mc =
    nat_lt block 0x0F || ((nat_le 0x86 block && nat_le block 0x88) || (block == 0x92 && state_signed mc))

-- and does raise it while it is below the ceiling
abbrev pub goes_up : Stage → ℕ → Bool
goes_up stage counter = nat_lt counter (ceiling stage)

-- the counter after an accepted write
abbrev pub counter_after : ℕ → Stage → List ℕ → ℕ → ℕ
counter_after block stage mc counter = cond (raising block mc && goes_up stage counter) (counter + 1) counter

-- the warning after which an owner should replace the card: such a write when issued, with the counter before it above 002710h
abbrev pub warned : ℕ → Stage → List ℕ → ℕ → Bool
warned block stage mc counter = is_issued stage && (raising block mc && nat_lt 0x2710 counter)
