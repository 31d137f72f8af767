-- XTEA, by Needham and Wheeler: 64-bit blocks, 128-bit keys, 32 cycles, words of 32 bits.
use Rattle.std.specs.Prelude.{ℕ, zero, suc, ◌+◌, ◌*◌, ◌/◌, ◌%◌, ◌^◌, List, [], ◌∷◌, get_or}
use Rattle.std.specs.Int.Bits.{bit_xor}
use Rattle.byte_arrays.specs.Words.{word32, bytes64}

-- a sum of words
abbrev pub plus : ℕ → ℕ → ℕ
plus a b = (a + b) % 2 ^ 32

-- what half a cycle makes of the word v: w is the other word, k the key word and s the running sum
abbrev pub half_cycle : ℕ → ℕ → ℕ → ℕ → ℕ
half_cycle v w k s = plus v (bit_xor (plus (bit_xor ((w * 2 ^ 4) % 2 ^ 32) (w / 2 ^ 5)) w) (plus s k))

-- n cycles from the running sum s and the words a and b: both words as one number
unfoldable pub cycles : List ℕ → ℕ → ℕ → ℕ → ℕ → ℕ
cycles k zero s a b = a * 2 ^ 32 + b
cycles k (suc n) s a b =
    let t = plus s 0x9e3779b9 in
    let c = half_cycle a b (get_or k (s % 4) 0) s in
    cycles k n t c (half_cycle b c (get_or k (t / 2 ^ 11 % 4) 0) t)

abbrev pub key_words : List ℕ → List ℕ
key_words k = word32 k 0 ∷ word32 k 4 ∷ word32 k 8 ∷ word32 k 12 ∷ []

-- eight bytes under sixteen key bytes
abbrev pub xtea : List ℕ → List ℕ → List ℕ
xtea k b = bytes64 (cycles (key_words k) 32 0 (word32 b 0) (word32 b 4))
