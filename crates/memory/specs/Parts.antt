-- Bytes as a row of parts of one size. Bytes past the last whole part belong to none.
use Rattle.std.specs.Prelude.{ℕ, ◌+◌, ◌*◌, ◌/◌, cond, List, ◌++◌, map, length, take, drop, nat_lt}
use Rattle.std.specs.List.{range_with_len}

-- the part n
abbrev pub part : ℕ → List ℕ → ℕ → List ℕ
part size bytes n = take size (drop (n * size) bytes)

-- the parts, in order
unfoldable pub parts : ℕ → List ℕ → List (List ℕ)
parts size bytes = map (part size bytes) (range_with_len 0 (length bytes / size))

-- The bytes with another part in the place of the part n; as before where there is no such part.
unfoldable pub part_put : ℕ → List ℕ → ℕ → List ℕ → List ℕ
part_put size bytes n new =
    cond (nat_lt n (length bytes / size)) (take (n * size) bytes ++ (new ++ drop (n * size + size) bytes)) bytes
