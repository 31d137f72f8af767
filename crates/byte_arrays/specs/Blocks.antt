-- Blocks of eight bytes.
use Rattle.std.specs.Prelude.{ℕ, List, take, drop, bit_xor}
use Rattle.std.specs.Simd.Lanes.{zip2}

-- the exclusive or of two byte strings
abbrev pub xored : List ℕ → List ℕ → List ℕ
xored a b = zip2 bit_xor a b

-- the halves of sixteen bytes
abbrev pub front_half : List ℕ → List ℕ
front_half b = take 8 b

abbrev pub back_half : List ℕ → List ℕ
back_half b = take 8 (drop 8 b)
