-- The laws of block lists.
use Rattle.std.specs.Prelude.{◌≡◌, ℕ, ◌*◌, ◌≤◌, true, List, ◌++◌, length, take, drop, Ok}
use Rattle.blocklist.specs.Elements.{blocks_named}
use Rattle.blocklist.specs.Lists.{list_read, read_exact, write_exact}

-- an exact list with sixteen bytes for each element after it is an exact write, whose list ends where that list does
abbrev pub ListsWithDataAreWrites : Type 0
ListsWithDataAreWrites =
    (count : ℕ) (list payload : List ℕ) → read_exact count list ≡ true → length payload ≡ 16 * count
    → (write_exact count (list ++ payload) ≡ true) × ((list_read count (list ++ payload)).1 ≡ length list)

-- an exact write is nothing else: parted where its list ends, it is an exact list and sixteen bytes for each element
abbrev pub WritesAreListsWithData : Type 0
WritesAreListsWithData =
    (count : ℕ) (bytes : List ℕ) → write_exact count bytes ≡ true
    → (read_exact count (take (list_read count bytes).1 bytes) ≡ true)
    × (length (drop (list_read count bytes).1 bytes) ≡ 16 * count)

-- an exact list of at most four elements, none of them refused, names one block for each element
abbrev pub ExactListsNameAll : Type 0
ExactListsNameAll =
    (count : ℕ) (list blocks : List ℕ) → count ≤ 4 → read_exact count list ≡ true → blocks_named list ≡ Ok blocks
    → length blocks ≡ count
