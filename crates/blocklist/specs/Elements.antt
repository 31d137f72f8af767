-- An element of a block list. Its first byte holds a form bit (1: two bytes, 0: three bytes), three access bits and
-- four order bits, the highest first; the block number follows, low byte first.
use Rattle.std.specs.Prelude.{ℕ, zero, suc, ◌+◌, ◌*◌, ◌/◌, ◌%◌, cond, not, List, [], ◌∷◌, map, length, drop, Some, None, Ok, Err, Option, Result, ◌==◌, nat_le, nat_lt, slice_index}
use Rattle.blocklist.specs.declared.fault.Fault.{Fault}
use Rattle.blocklist.specs.declared.element.Element.{Element}
use Rattle.blocklist.specs.declared.blocks.Blocks.{Blocks}
use Rattle.blocklist.specs.Faults.{at_element}

-- the bytes of the element that the bytes begin with, by its form bit
abbrev pub width : List ℕ → ℕ
width bytes = cond (nat_lt (slice_index bytes 0) 128) 3 2

-- the element of a first byte and the two bytes of a block number
abbrev pub element : ℕ → ℕ → ℕ → Element
element head low high = record { access = head / 16 % 8; order = head % 16; block = low + high * 256 }

-- the element that the bytes begin with; the number of a short one has one byte
abbrev pub element_of : List ℕ → Element
element_of bytes = element (slice_index bytes 0) (slice_index bytes 1) (cond (nat_lt (slice_index bytes 0) 128) (slice_index bytes 2) 0)

-- the element that the bytes begin with and its width, if it is whole
abbrev pub first_element : List ℕ → Option (Element × ℕ)
first_element bytes = cond (nat_le (width bytes) (length bytes)) (Some (element_of bytes, width bytes)) None

-- the bytes after that element; all of them, if it is not whole
abbrev pub after_first : List ℕ → List ℕ
after_first bytes = cond (nat_le (width bytes) (length bytes)) (drop (width bytes) bytes) bytes

-- the number that an element names; refused at place 3 are first access bits, and then order bits, that are not 0
abbrev pub named : ℕ → Element → Result ℕ Fault
named index e =
    cond (not (e.access == 0)) (Err (at_element 3 index 0xA7))
    (cond (not (e.order == 0)) (Err (at_element 3 index 0xA3))
    (Ok e.block))

-- the elements that the bytes begin with, at most so many
unfoldable pub elements : ℕ → List ℕ → List Element
elements zero bytes = []
elements (suc n) bytes =
    cond (nat_le (width bytes) (length bytes)) (element_of bytes ∷ elements n (drop (width bytes) bytes)) []

-- the block numbers of the elements that a list begins with, up to four, whatever their access and order bits
abbrev pub numbers_listed : List ℕ → List ℕ
numbers_listed list = map (λ (e : Element). e.block) (elements 4 list)

-- a number before those that follow it, or the first fault
abbrev pub before : Result ℕ Fault → Result (List ℕ) Fault → Result (List ℕ) Fault
before (Ok block) (Ok blocks) = Ok (block ∷ blocks)
before (Ok block) (Err fault) = Err fault
before (Err fault) rest = Err fault

-- the numbers that elements name, the first of them at an index, or the fault of the first that is refused
unfoldable pub all_named : ℕ → List Element → Result (List ℕ) Fault
all_named index [] = Ok []
all_named index (e ∷ es) = before (named index e) (all_named (index + 1) es)

-- the numbers that a list names: up to four, by the elements that are whole
abbrev pub blocks_named : List ℕ → Result (List ℕ) Fault
blocks_named list = all_named 0 (elements 4 list)

-- the numbers that are held
abbrev pub numbers_in : Blocks → List ℕ
numbers_in blocks = blocks.held.items

-- the answer, by its case
abbrev pub numbers_or_fault : Result Blocks Fault → Result (List ℕ) Fault
numbers_or_fault (Ok blocks) = Ok (numbers_in blocks)
numbers_or_fault (Err fault) = Err fault
