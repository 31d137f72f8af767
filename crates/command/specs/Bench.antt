-- Worked cases: time slots, and the blocks that elements name.
use Rattle.std.specs.Prelude.{◌≡◌, ℕ, List, [], ◌∷◌, Ok}
use Rattle.blocklist.specs.Elements.{named, element_of}
use Rattle.command.specs.Slots.{slot_of}

pub data Case : Type 0 where
  -- a random byte and the slots of a polling command give a slot
  draw_gives : (draw slots slot : ℕ) → Case
  -- the bytes of an element name a block
  element_names : (bytes : List ℕ) (block : ℕ) → Case

abbrev pub holds : Case → Type 0
holds (draw_gives draw slots slot) = slot_of draw slots ≡ slot
holds (element_names bytes block) = named 0 (element_of bytes) ≡ Ok block

abbrev pub bench : List Case
bench =
    draw_gives 13 0x03 1
    ∷ element_names (0x80 ∷ 0x05 ∷ []) 0x05
    ∷ element_names (0x00 ∷ 0x05 ∷ 0x00 ∷ []) 0x05
    ∷ []
