-- Bytes as hexadecimal digits, two a byte, the high one first; characters are their ASCII codes.
use Rattle.std.specs.Prelude.{ℕ, ◌+◌, ◌-◌, ◌*◌, ◌/◌, ◌%◌, Bool, cond, ◌&&◌, ◌||◌, List, [], ◌∷◌, flat_map, map, nat_le, nat_lt, slice_index}
use Rattle.std.specs.List.{range_with_len}

abbrev pub between : ℕ → ℕ → ℕ → Bool
between low high c = nat_le low c && nat_le c high

-- 0 to 9, A to F, or a to f
abbrev pub is_digit : ℕ → Bool
is_digit c = between 0x30 0x39 c || (between 0x41 0x46 c || between 0x61 0x66 c)

-- what a digit stands for, and 0 for what is no digit
abbrev pub value_of : ℕ → ℕ
value_of c = cond (between 0x30 0x39 c) (c - 0x30) (cond (between 0x41 0x46 c) (c - 0x37) (cond (between 0x61 0x66 c) (c - 0x57) 0))

-- the byte that the two digits from place i on write
abbrev pub byte_at : List ℕ → ℕ → ℕ
byte_at text i = value_of (slice_index text i) * 16 + value_of (slice_index text (i + 1))

-- the n bytes that the digits from place i on write
unfoldable pub bytes_at : ℕ → List ℕ → ℕ → List ℕ
bytes_at n text i = map (λ k. byte_at text (i + 2 * k)) (range_with_len 0 n)

-- the digit of a number below sixteen
abbrev pub capital : ℕ → ℕ
capital n = cond (nat_lt n 10) (0x30 + n) (0x37 + n)

-- the two digits of a byte
abbrev pub capitals : ℕ → List ℕ
capitals b = capital (b / 16) ∷ capital (b % 16) ∷ []

-- bytes in capital digits
unfoldable pub hex_of : List ℕ → List ℕ
hex_of bytes = flat_map capitals bytes
