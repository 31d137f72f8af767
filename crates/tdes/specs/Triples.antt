-- Triple DES on eight bytes, with two keys and with three.
use Rattle.std.specs.Prelude.{ℕ, List}
use Rattle.byte_arrays.specs.Words.{word64, bytes64}
use Rattle.des.specs.Des.{triple}

-- eight bytes under sixteen key bytes, the first eight used twice
abbrev pub two_key : List ℕ → List ℕ → List ℕ
two_key k b = bytes64 (triple (word64 k 0) (word64 k 8) (word64 k 0) (word64 b 0))

-- eight bytes under twenty-four key bytes
abbrev pub three_key : List ℕ → List ℕ → List ℕ
three_key k b = bytes64 (triple (word64 k 0) (word64 k 8) (word64 k 16) (word64 b 0))
