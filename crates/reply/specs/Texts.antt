-- The texts that the tags of a reply are taken over, in groups of eight bytes.
use Rattle.std.specs.Prelude.{ℕ, ◌%◌, cond, List, [], ◌∷◌, ◌++◌, length, drop, replicate, ◌==◌, nat_le, nat_lt, slice_index}
use Rattle.byte_arrays.specs.Blocks.{front_half, back_half}
use Rattle.reply.specs.declared.text.Text.{Text}

-- a block as two groups
abbrev pub halved : List ℕ → List (List ℕ)
halved block = front_half block ∷ back_half block ∷ []

-- a number of a list followed by 00h, or FFh FFh past its end. (A list that passes the tests has numbers of one byte.)
abbrev pub number_pair : List ℕ → ℕ → List ℕ
number_pair ns i = cond (nat_lt i (length ns)) (slice_index ns i % 256 ∷ 0x00 ∷ []) (0xFF ∷ 0xFF ∷ [])

-- the group that leads the text of MAC_A: every number of the whole list, filled to eight bytes with FFh
abbrev pub lead_of : List ℕ → List ℕ
lead_of ns = number_pair ns 0 ++ number_pair ns 1 ++ number_pair ns 2 ++ number_pair ns 3

-- the text that is held: the numbers of the list, then the blocks sent so far
abbrev pub text_in : Text → List (List ℕ)
text_in t = t.held.items

-- one block more: there is room for four
abbrev pub text_grown : Text → List ℕ → List (List ℕ)
text_grown t block = cond (nat_le (length (text_in t)) 7) (text_in t ++ halved block) (text_in t)

-- A tag of a text is given by T, what a block reads as by R.
abbrev pub Tagger : Type 0
Tagger = List (List ℕ) → List ℕ

-- a tag as a block: eight bytes, and zeros
abbrev pub tag_block : List ℕ → List ℕ
tag_block tag = tag ++ replicate 8 0x00

-- A block as it is sent after a text: MAC is the tag of the blocks before it, MAC_A that of the numbers and the blocks.
abbrev pub block_sent : (ℕ → List ℕ) → Tagger → List (List ℕ) → ℕ → List ℕ
block_sent R T text b =
    cond (b == 0x81) (tag_block (T (drop 1 text))) (cond (b == 0x91) (tag_block (T text)) (R b))

-- the text after more blocks: an earlier tag counts as a block, as it is sent
unfoldable pub text_after : (ℕ → List ℕ) → Tagger → List (List ℕ) → List ℕ → List (List ℕ)
text_after R T text [] = text
text_after R T text (b ∷ bs) = text_after R T (text ++ halved (block_sent R T text b)) bs

-- the text of a whole list
abbrev pub text_of : (ℕ → List ℕ) → Tagger → List ℕ → List (List ℕ)
text_of R T ns = text_after R T (lead_of ns ∷ []) ns
