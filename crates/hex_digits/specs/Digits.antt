-- Bytes from capital hexadecimal digits.
use Rattle.std.specs.Prelude.{ℕ, ◌+◌, ◌-◌, ◌*◌, ◌&&◌, cond, List, [], ◌∷◌, nat_le}
use Rattle.hex_digits.specs.declared.reading.Bytes.{Bytes}

-- the number of a digit; 0 for what is no capital digit
abbrev pub value_of : ℕ → ℕ
value_of digit =
    cond (nat_le 0x30 digit && nat_le digit 0x39) (digit - 0x30)
    (cond (nat_le 0x41 digit && nat_le digit 0x46) (digit - 0x41 + 10)
    0)

-- the bytes that digits write, two digits each
abbrev pub bytes_written : List ℕ → List ℕ
bytes_written [] = []
bytes_written (high ∷ []) = []
bytes_written (high ∷ (low ∷ rest)) = (value_of high * 16 + value_of low) ∷ bytes_written rest

-- the bytes that a reader has not yet given
abbrev pub bytes_left : Bytes → List ℕ
bytes_left bytes = bytes_written bytes.digits.now
