-- Session keys: E is the cipher as a function of key bytes and a block.
use Rattle.std.specs.Prelude.{ℕ, List, ◌++◌, reverse}
use Rattle.byte_arrays.specs.Blocks.{xored, front_half, back_half}
use Rattle.mac.specs.declared.session.SessionKeys.{SessionKeys}

-- the halves of sixteen bytes, each turned round
abbrev pub turned_front : List ℕ → List ℕ
turned_front b = reverse (front_half b)

abbrev pub turned_back : List ℕ → List ℕ
turned_back b = reverse (back_half b)

abbrev pub turned_halves : List ℕ → List ℕ
turned_halves b = turned_front b ++ turned_back b

-- the two session keys of a card key ck and a challenge rc
abbrev pub session_key_1 : (List ℕ → List ℕ → List ℕ) → List ℕ → List ℕ → List ℕ
session_key_1 E ck rc = E (turned_halves ck) (turned_front rc)

abbrev pub session_key_2 : (List ℕ → List ℕ → List ℕ) → List ℕ → List ℕ → List ℕ
session_key_2 E ck rc = E (turned_halves ck) (xored (turned_back rc) (session_key_1 E ck rc))

abbrev pub session_keys : (List ℕ → List ℕ → List ℕ) → List ℕ → List ℕ → List ℕ × List ℕ
session_keys E ck rc = (session_key_1 E ck rc, session_key_2 E ck rc)

-- the values of the code's pair
abbrev pub both_keys : SessionKeys → List ℕ × List ℕ
both_keys k = (k.first, k.second)
