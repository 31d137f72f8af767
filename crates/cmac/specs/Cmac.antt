-- CMAC by NIST SP 800-38B for blocks of eight bytes, and diversified keys; E is a block cipher under a fixed key.
use Rattle.std.specs.Prelude.{ℕ, ◌-◌, ◌*◌, ◌/◌, ◌%◌, ◌^◌, cond, List, ◌∷◌, ◌++◌, fold, length, drop, replicate, ◌==◌, bit_xor, nat_lt, slice_index, slice_set}
use Rattle.std.specs.Simd.{first_chunks}
use Rattle.byte_arrays.specs.Blocks.{xored}
use Rattle.byte_arrays.specs.Words.{word64, bytes64}

-- eight bytes shifted left by one bit, with the constant 1Bh added where the first bit was 1
abbrev pub doubled : List ℕ → List ℕ
doubled b = bytes64 (cond (nat_lt (word64 b 0) (2 ^ 63)) (word64 b 0 * 2) (bit_xor (word64 b 0 * 2 % 2 ^ 64) 0x1b))

abbrev pub subkey_1 : (List ℕ → List ℕ) → List ℕ
subkey_1 E = doubled (E (replicate 8 0))

abbrev pub subkey_2 : (List ℕ → List ℕ) → List ℕ
subkey_2 E = doubled (subkey_1 E)

-- the whole blocks before the last one; the last may be whole or part, and an empty message has an empty one
abbrev pub blocks_before_last : List ℕ → ℕ
blocks_before_last m = (length m - 1) / 8

-- a chain at c takes a block b to this
abbrev pub chain_step : (List ℕ → List ℕ) → List ℕ → List ℕ → List ℕ
chain_step E c b = E (xored c b)

-- cipher block chaining from c over blocks
abbrev pub chained : (List ℕ → List ℕ) → List ℕ → List (List ℕ) → List ℕ
chained E c blocks = fold (chain_step E) c blocks

-- cipher block chaining from c over the first n blocks of a message
abbrev pub cbc : (List ℕ → List ℕ) → ℕ → List ℕ → List ℕ → List ℕ
cbc E n c m = chained E c (first_chunks 8 n m)

-- a part block is filled up by one bit 1 and then bits 0
abbrev pub padded : List ℕ → List ℕ
padded m = m ++ (0x80 ∷ replicate (7 - length m) 0)

-- the last block, masked by the first subkey if whole and by the second if filled up
abbrev pub masked : List ℕ → List ℕ → List ℕ → List ℕ
masked k1 k2 m = cond (length m == 8) (xored m k1) (xored (padded m) k2)

abbrev pub cmac : (List ℕ → List ℕ) → List ℕ → List ℕ
cmac E m =
    let n = blocks_before_last m in
    E (xored (cbc E n (replicate 8 0) m) (masked (subkey_1 E) (subkey_2 E) (drop (8 * n) m)))

abbrev pub first_bit_flipped : List ℕ → List ℕ
first_bit_flipped m = slice_set m 0 (bit_xor (slice_index m 0) 0x80)

-- the diversified key of an ID: the tag of the ID, and then that of the ID with its first bit flipped
abbrev pub diversified : (List ℕ → List ℕ) → List ℕ → List ℕ
diversified E id = cmac E id ++ cmac E (first_bit_flipped id)
