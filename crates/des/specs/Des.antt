-- The Data Encryption Algorithm, once and three times over, on numbers read as strings of bits.
use Rattle.std.specs.Prelude.{ℕ, ◌+◌, ◌-◌, ◌*◌, ◌/◌, ◌%◌, ◌^◌, cond, List, [], ◌∷◌, reverse, ◌==◌, bit_xor, slice_index, slice_index_or}
use Rattle.des.specs.Tables.{initial_permutation, final_permutation, bit_selection, permutation_p, permuted_choice_1, permuted_choice_2, left_shifts, s_boxes}

-- bit p of a string of w bits, counted from 1 at the high end
abbrev pub bit_at : ℕ → ℕ → ℕ → ℕ
bit_at w x p = x / 2 ^ (w - p) % 2

-- the bits a, and then those that a table of places picks from a string of w bits
unfoldable pub picked_after : ℕ → ℕ → ℕ → List ℕ → ℕ
picked_after w x a [] = a
picked_after w x a (p ∷ ps) = picked_after w x (a * 2 + bit_at w x p) ps

abbrev pub picked : ℕ → ℕ → List ℕ → ℕ
picked w x ps = picked_after w x 0 ps

-- 28 bits shifted left by one place, the first bit coming last; and both halves of 56 bits so
abbrev pub shifted_half : ℕ → ℕ
shifted_half x = x * 2 % 2 ^ 28 + x / 2 ^ 27

abbrev pub shifted_once : ℕ → ℕ
shifted_once x = shifted_half (x / 2 ^ 28) * 2 ^ 28 + shifted_half (x % 2 ^ 28)

-- by one place or by two, as the table of shifts says
abbrev pub shifted : ℕ → ℕ → ℕ
shifted n x = cond (n == 1) (shifted_once x) (shifted_once (shifted_once x))

-- the round keys that 56 key bits give for a list of shifts
unfoldable pub scheduled : ℕ → List ℕ → List ℕ
scheduled x [] = []
scheduled x (n ∷ ns) = picked 56 (shifted n x) permuted_choice_2 ∷ scheduled (shifted n x) ns

-- the sixteen round keys of a key
abbrev pub round_keys : ℕ → List ℕ
round_keys k = scheduled (picked 64 k permuted_choice_1) left_shifts

-- box n, counted from 0, at six bits: the outer two name the row, the inner four the column
abbrev pub boxed : ℕ → ℕ → ℕ
boxed n b = slice_index (slice_index_or (slice_index_or s_boxes n []) (b / 32 * 2 + b % 2) []) (b / 2 % 16)

-- 48 bits through the eight boxes, six at a time
abbrev pub substituted : ℕ → ℕ
substituted x =
    boxed 0 (x / 2 ^ 42 % 64) * 2 ^ 28 + boxed 1 (x / 2 ^ 36 % 64) * 2 ^ 24 + boxed 2 (x / 2 ^ 30 % 64) * 2 ^ 20
    + boxed 3 (x / 2 ^ 24 % 64) * 2 ^ 16 + boxed 4 (x / 2 ^ 18 % 64) * 2 ^ 12 + boxed 5 (x / 2 ^ 12 % 64) * 2 ^ 8
    + boxed 6 (x / 2 ^ 6 % 64) * 2 ^ 4 + boxed 7 (x % 64)

-- the cipher function f of a half block and a round key
abbrev pub cipher_function : ℕ → ℕ → ℕ
cipher_function r k = picked 32 (substituted (bit_xor (picked 32 r bit_selection) k)) permutation_p

-- the rounds from the halves l and r; after the last the halves change places
unfoldable pub rounds : ℕ → ℕ → List ℕ → ℕ
rounds l r [] = r * 2 ^ 32 + l
rounds l r (k ∷ ks) = rounds r (bit_xor l (cipher_function r k)) ks

-- a block under a list of round keys
abbrev pub under_keys : List ℕ → ℕ → ℕ
under_keys ks x =
    let y = picked 64 x initial_permutation in
    picked 64 (rounds (y / 2 ^ 32) (y % 2 ^ 32) ks) final_permutation

abbrev pub des_forward : ℕ → ℕ → ℕ
des_forward k x = under_keys (round_keys k) x

-- decryption takes the round keys from the last to the first
abbrev pub des_inverse : ℕ → ℕ → ℕ
des_inverse k x = under_keys (reverse (round_keys k)) x

-- triple DES: forward with the first key, inverse with the second, forward with the third
unfoldable pub triple : ℕ → ℕ → ℕ → ℕ → ℕ
triple k1 k2 k3 x = des_forward k3 (des_inverse k2 (des_forward k1 x))
