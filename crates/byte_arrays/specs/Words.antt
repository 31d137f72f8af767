-- Numbers as bytes, the high byte first.
use Rattle.std.specs.Prelude.{ℕ, ◌+◌, ◌*◌, ◌/◌, ◌%◌, ◌^◌, List, [], ◌∷◌, slice_index}

-- the number that the four bytes from place i on write
abbrev pub word32 : List ℕ → ℕ → ℕ
word32 b i = slice_index b i * 2 ^ 24 + slice_index b (i + 1) * 2 ^ 16 + slice_index b (i + 2) * 2 ^ 8 + slice_index b (i + 3)

-- the number that the eight bytes from place i on write
abbrev pub word64 : List ℕ → ℕ → ℕ
word64 b i =
    slice_index b i * 2 ^ 56 + slice_index b (i + 1) * 2 ^ 48 + slice_index b (i + 2) * 2 ^ 40 + slice_index b (i + 3) * 2 ^ 32
    + slice_index b (i + 4) * 2 ^ 24 + slice_index b (i + 5) * 2 ^ 16 + slice_index b (i + 6) * 2 ^ 8 + slice_index b (i + 7)

-- two words as one number
abbrev pub joined : ℕ → ℕ → ℕ
joined high low = high * 2 ^ 32 + low

-- the eight bytes that write a number
abbrev pub bytes64 : ℕ → List ℕ
bytes64 x =
    (x / 2 ^ 56 % 256) ∷ (x / 2 ^ 48 % 256) ∷ (x / 2 ^ 40 % 256) ∷ (x / 2 ^ 32 % 256)
    ∷ (x / 2 ^ 24 % 256) ∷ (x / 2 ^ 16 % 256) ∷ (x / 2 ^ 8 % 256) ∷ (x % 256) ∷ []
