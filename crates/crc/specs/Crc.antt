-- The frame CRC, bit by bit: sixteen bits, generator 1021h, start 0000h, highest bit first, no final xor.
use Rattle.std.specs.Prelude.{ℕ, zero, suc, ◌*◌, ◌%◌, ◌^◌, cond, List, [], ◌∷◌, bit_xor, nat_lt}

-- One step of the division by the generator: the register moves up by one bit, and where the bit that leaves at the
-- top is 1, the generator is subtracted, which is xor.
abbrev pub crc_bit : ℕ → ℕ
crc_bit register = cond (nat_lt register 0x8000) (register * 2 % 2 ^ 16) (bit_xor (register * 2 % 2 ^ 16) 0x1021)

-- a number of steps
unfoldable pub crc_bits : ℕ → ℕ → ℕ
crc_bits zero register = register
crc_bits (suc n) register = crc_bit (crc_bits n register)

-- One byte more: it is xored into the high byte, and eight steps follow.
unfoldable pub crc_byte : ℕ → ℕ → ℕ
crc_byte register byte = crc_bits 8 (bit_xor register (byte * 2 ^ 8))

-- Bytes that follow others whose CRC is the start.
unfoldable pub crc_after : ℕ → List ℕ → ℕ
crc_after start [] = start
crc_after start (byte ∷ bytes) = crc_after (crc_byte start byte) bytes

-- The CRC of bytes.
abbrev pub crc_of : List ℕ → ℕ
crc_of bytes = crc_after 0 bytes
