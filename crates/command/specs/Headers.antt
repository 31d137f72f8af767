-- The tests of the header of a read or a write, in their order.
use Rattle.std.specs.Prelude.{ℕ, ◌+◌, ◌*◌, Bool, cond, not, ◌&&◌, List, [], ◌∷◌, ◌++◌, length, take, drop, Some, None, Option, Result, ◌==◌, nat_le}
use Rattle.command.specs.declared.header.WriteBody.{WriteBody}
use Rattle.command.specs.Commands.{Carried}
use Rattle.blocklist.specs.Faults.{Told, fault_told, judged, of_command, silent}
use Rattle.blocklist.specs.Lists.{list_read, read_exact, write_exact}

abbrev pub one_service : Carried → Bool
one_service q = q.services == 1

abbrev pub blocks_up_to : ℕ → Carried → Bool
blocks_up_to most q = nat_le 1 q.blocks && nat_le q.blocks most

-- the tests of the two counts, at place 2
abbrev pub count_tests : ℕ → Carried → List (Bool × Told)
count_tests most q =
    (not (one_service q), fault_told (of_command 2 0xFF 0xA1))
    ∷ (not (blocks_up_to most q), fault_told (of_command 2 0xFF 0xA2))
    ∷ []

-- the test of the length: where it is not exact, nothing is sent
abbrev pub length_test : Bool → List (Bool × Told)
length_test exact = (not exact, silent 2) ∷ []

-- the counts first, and after them the length
abbrev pub header_tests : ℕ → Bool → Carried → List (Bool × Told)
header_tests most exact q = count_tests most q ++ length_test exact

-- the block list of a read: up to four blocks, and nothing after the list
abbrev pub read_header : Carried → Result (List ℕ) Told
read_header q = judged (header_tests 4 (read_exact q.blocks q.rest) q) q.rest

-- the bytes of a write's list, and those after it
abbrev pub parted : Carried → List ℕ × List ℕ
parted q = (take (list_read q.blocks q.rest).1 q.rest, drop (list_read q.blocks q.rest).1 q.rest)

-- the block list of a write and its data: up to two blocks, and sixteen bytes for each after the list
abbrev pub write_header : Carried → Result (List ℕ × List ℕ) Told
write_header q = judged (header_tests 2 (write_exact q.blocks q.rest) q) (parted q)

-- list and data of a write, as they are held
abbrev pub body : WriteBody → List ℕ × List ℕ
body w = (w.list.now, w.payload.now)

-- the sixteen bytes for the block at an index, if they are there
abbrev pub payload_block : ℕ → List ℕ → Option (List ℕ)
payload_block index payload =
    cond (nat_le (16 * index + 16) (length payload)) (Some (take 16 (drop (16 * index) payload))) None
