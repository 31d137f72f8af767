-- The CRC, step by step: over eight bits, over one byte more of a slice, over two runs, and its bound.
use Rattle.std.proofs.Common.{◌≡◌, ℕ, ◌*◌, ◌%◌, ◌^◌, ◌<◌, Bool, true, false, cond, ltb, List, [], ◌∷◌, ◌++◌, refl, arith, lit<, bit_xor}
use Rattle.std.proofs.lemmas.Nat.{xor_lt}
use Rattle.std.specs.List.{fold}
use Rattle.crc.specs.Crc.{crc_bit, crc_bits, crc_byte, crc_after, crc_of}

-- the CRC of bytes is the fold of its step over them
pub after_is_fold : (start : ℕ) (bytes : List ℕ) → crc_after start bytes ≡ fold crc_byte start bytes
unfolding crc_after
after_is_fold start [] = refl
after_is_fold start (byte ∷ bytes) = after_is_fold (crc_byte start byte) bytes

-- the CRC of two runs is that of the first, carried on over the second
pub after_append : (start : ℕ) (a b : List ℕ) → crc_after start (a ++ b) ≡ crc_after (crc_after start a) b
unfolding crc_after
after_append start [] b = refl
after_append start (byte ∷ a) b = after_append (crc_byte start byte) a b

-- each step leaves sixteen bits, whatever the register was before
bit_lt : (register : ℕ) → crc_bit register < 2 ^ 16
bit_lt register = by_top (ltb register 0x8000)
  where
    moved : register * 2 % 2 ^ 16 < 2 ^ 16
    moved = omega arith

    by_top : (top : Bool) → cond top (register * 2 % 2 ^ 16) (bit_xor (register * 2 % 2 ^ 16) 0x1021) < 2 ^ 16
    by_top true = moved
    by_top false = xor_lt 16 (register * 2 % 2 ^ 16) 0x1021 moved (lit< tt)

byte_lt : (register byte : ℕ) → crc_byte register byte < 2 ^ 16
unfolding crc_byte crc_bits
byte_lt register byte = bit_lt (crc_bits 7 (bit_xor register (byte * 2 ^ 8)))

pub after_lt : (start : ℕ) (bytes : List ℕ) → start < 2 ^ 16 → crc_after start bytes < 2 ^ 16
unfolding crc_after
after_lt start [] h = h
after_lt start (byte ∷ bytes) h = after_lt (crc_byte start byte) bytes (byte_lt start byte)

pub crc_lt : (bytes : List ℕ) → crc_of bytes < 2 ^ 16
crc_lt bytes = after_lt 0 bytes (lit< tt)
