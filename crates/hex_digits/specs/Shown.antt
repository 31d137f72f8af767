-- Bytes as capital hexadecimal digits.
use Rattle.std.specs.Prelude.{ℕ, ◌/◌, ◌%◌, true, List, [], ◌∷◌, flat_map}
use Rattle.std.specs.Fmt.{digit_glyph}

-- the two digits of a byte, the high one first
abbrev pub pair_of : ℕ → List ℕ
pair_of byte = digit_glyph true (byte / 16) ∷ digit_glyph true (byte % 16) ∷ []

-- those of each byte
abbrev pub shown : List ℕ → List ℕ
shown bytes = flat_map pair_of bytes
