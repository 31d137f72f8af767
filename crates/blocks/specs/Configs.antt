-- The configuration of a hopper: the sixteen bytes of its block MC, here `mc`.
use Rattle.std.specs.Prelude.{ℕ, ◌+◌, ◌/◌, ◌%◌, ◌^◌, Bool, cond, ◌&&◌, List, [], ◌∷◌, ◌==◌, bit_and, bit_or, nat_lt, slice_index}
use Rattle.blocks.specs.declared.stage.Stage.{Stage}
use Rattle.blocks.specs.declared.stage.Stage.TheVariants.{Issuing, Issued}

-- bit k of the two bytes from a place on, the low byte first
abbrev pub config_bit : List ℕ → ℕ → ℕ → Bool
config_bit mc at k = slice_index mc (at + k / 8) / 2 ^ (k % 8) % 2 == 1

-- bytes 0 and 1: a scratch block may be written
abbrev pub scratch_open : List ℕ → ℕ → Bool
scratch_open mc block = config_bit mc 0 block

-- bit 7 of byte 1: MC itself may be written when issued
abbrev pub config_open : List ℕ → Bool
config_open mc = config_bit mc 0 15

-- byte 5 is 01h: CKV and CK may be written when issued
abbrev pub keys_open : List ℕ → Bool
keys_open mc = slice_index mc 5 == 0x01

-- bytes 6 and 7, 8 and 9: a scratch block is read, written, only while the hopper is authenticated
abbrev pub read_restricted : List ℕ → ℕ → Bool
read_restricted mc block = nat_lt block 0x0F && config_bit mc 6 block

abbrev pub write_restricted : List ℕ → ℕ → Bool
write_restricted mc block = nat_lt block 0x0F && config_bit mc 8 block

-- bytes 10 and 11: a write to a scratch block needs a MAC
abbrev pub scratch_signed : List ℕ → ℕ → Bool
scratch_signed mc block = config_bit mc 10 block

-- byte 12 is 01h: a write to STATE needs a MAC, and raises the counter
abbrev pub state_signed : List ℕ → Bool
state_signed mc = slice_index mc 12 == 0x01

-- What a write to MC stores. When issued, a bit that opens a block can only be taken away, and one that restricts can only
-- be added; byte 12 becomes the sent one unless 01h is stored; all else stays.
abbrev pub merged : Stage → List ℕ → List ℕ → List ℕ
merged Issuing old sent = sent
merged Issued old sent =
    bit_and (slice_index old 0) (slice_index sent 0) ∷ bit_and (slice_index old 1) (slice_index sent 1)
    ∷ slice_index old 2 ∷ slice_index old 3 ∷ slice_index old 4 ∷ slice_index old 5
    ∷ bit_or (slice_index old 6) (slice_index sent 6) ∷ bit_or (slice_index old 7) (slice_index sent 7)
    ∷ bit_or (slice_index old 8) (slice_index sent 8) ∷ bit_or (slice_index old 9) (slice_index sent 9)
    ∷ bit_or (slice_index old 10) (slice_index sent 10) ∷ bit_or (slice_index old 11) (slice_index sent 11)
    ∷ cond (state_signed old) 0x01 (slice_index sent 12)
    ∷ slice_index old 13 ∷ slice_index old 14 ∷ slice_index old 15 ∷ []
