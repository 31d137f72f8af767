-- Block numbers in lists.
use Rattle.std.specs.Prelude.{ℕ, Bool, cond, ◌&&◌, ◌||◌, List, length, ◌==◌, nat_le, nat_lt, slice_index}
use Rattle.std.specs.List.{list_any}

-- a block of that number exists
abbrev pub exists : ℕ → Bool
exists b = nat_lt b 0x0F || ((nat_le 0x80 b && nat_le b 0x88) || ((nat_le 0x90 b && nat_le b 0x92) || b == 0xA0))

-- MAC and MAC_A, the two kinds of tag
abbrev pub is_tag : ℕ → Bool
is_tag b = b == 0x81 || b == 0x91

-- the other kind of tag
abbrev pub other_tag : ℕ → ℕ
other_tag b = cond (b == 0x81) 0x91 0x81

-- a number stands in a list
abbrev pub names : ℕ → List ℕ → Bool
names b ns = list_any (λ n. n == b) ns

-- the list is CRC_CHECK alone
abbrev pub check_alone : List ℕ → Bool
check_alone ns = length ns == 1 && slice_index ns 0 == 0xA0

-- the blocks that a write of one block may name, and one of two blocks first
abbrev pub written_alone : ℕ → Bool
written_alone b =
    nat_lt b 0x0F || (b == 0x80 || (b == 0x82 || (b == 0x84 || ((nat_le 0x86 b && nat_le b 0x88) || b == 0x92))))

abbrev pub written_signed : ℕ → Bool
written_signed b = nat_lt b 0x0F || (b == 0x86 || (b == 0x87 || b == 0x92))
