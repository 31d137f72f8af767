-- The tags of a hopper, under the keys of its session. E is the cipher as a function of key bytes and a block.
use Rattle.std.specs.Prelude.{ℕ, ◌%◌, Bool, List, [], ◌∷◌, ◌++◌, Some, None, Option}
use Rattle.byte_arrays.specs.Equality.{same_bytes}
use Rattle.blocks.specs.Counters.{three_bytes}
use Rattle.hopper.specs.Windows.{zeros}
use Rattle.mac.specs.declared.session.SessionKeys.{SessionKeys}
use Rattle.mac.specs.Chain.{tagged}
use Rattle.mac.specs.Session.{turned_front}
use Rattle.reply.specs.Texts.{halved, Tagger}
use Rattle.volatile.specs.declared.record.Volatile.{Volatile}

abbrev pub CipherFunction : Type 0
CipherFunction = List ℕ → List ℕ → List ℕ

-- RC, or zeros while it is unwritten, where no tag is given and none accepted
abbrev pub challenge : Option (List ℕ) → List ℕ
challenge None = zeros
challenge (Some rc) = rc

-- every chain starts at the first half of RC, turned round
abbrev pub chain_start : Volatile → List ℕ
chain_start v = turned_front (challenge v.session.rc)

-- a read is tagged under SK1 SK2, a write under SK2 SK1
abbrev pub read_key : SessionKeys → List ℕ
read_key keys = keys.first ++ keys.second

abbrev pub write_key : SessionKeys → List ℕ
write_key keys = keys.second ++ keys.first

-- the tag of a text that is sent
abbrev pub tagger : CipherFunction → Volatile → Tagger
tagger E v text = tagged (E (read_key v.keys)) (chain_start v) text

-- the text of the MAC_A of a write: counter, 00h, block number, 00h, 91h, 00h, and the data
abbrev pub signed_text : ℕ → ℕ → List ℕ → List (List ℕ)
signed_text counter block sent =
    (three_bytes counter ++ 0x00 ∷ (block % 256) ∷ 0x00 ∷ 0x91 ∷ 0x00 ∷ []) ∷ halved sent

-- the tag that a write has to carry
abbrev pub signature : CipherFunction → Volatile → ℕ → ℕ → List ℕ → List ℕ
signature E v counter block sent = tagged (E (write_key v.keys)) (chain_start v) (signed_text counter block sent)

-- the verdict on a tag: it is that one
unfoldable pub is_right : CipherFunction → Volatile → ℕ → ℕ → List ℕ → List ℕ → Bool
is_right E v counter block sent tag = same_bytes tag (signature E v counter block sent)
