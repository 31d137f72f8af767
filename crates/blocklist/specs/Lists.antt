-- A block list read by the form bits alone.
use Rattle.std.specs.Prelude.{ℕ, zero, suc, ◌+◌, ◌*◌, Bool, cond, ◌&&◌, List, length, drop, ◌==◌, nat_le}
use Rattle.blocklist.specs.Elements.{width}

-- one element more, of so many bytes, before those already counted
abbrev pub led_by : ℕ → ℕ × ℕ → ℕ × ℕ
led_by bytes rest = (1 + rest.0, bytes + rest.1)

-- the elements that the bytes begin with, at most so many, and the bytes they take; reading stops where the bytes run out
unfoldable pub list_read : ℕ → List ℕ → ℕ × ℕ
list_read zero bytes = (0, 0)
list_read (suc n) bytes =
    cond (nat_le (width bytes) (length bytes)) (led_by (width bytes) (list_read n (drop (width bytes) bytes))) (0, 0)

-- a list of so many elements fills the bytes of a read
abbrev pub read_exact : ℕ → List ℕ → Bool
read_exact count bytes = (list_read count bytes).0 == count && (list_read count bytes).1 == length bytes

-- a list of so many elements, and sixteen bytes for each, fill the bytes of a write
abbrev pub write_exact : ℕ → List ℕ → Bool
write_exact count bytes =
    ((list_read count bytes).0 == count) && (list_read count bytes).1 + 16 * count == length bytes
