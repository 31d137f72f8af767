-- The decision on a read.
use Rattle.std.specs.Prelude.{ℕ, Bool, not, ◌&&◌, ◌||◌, List, [], ◌∷◌, ◌++◌, length, Ok, Err, Result, ◌==◌}
use Rattle.blocklist.specs.declared.fault.Fault.{Fault}
use Rattle.blocklist.specs.Elements.{blocks_named}
use Rattle.blocklist.specs.Faults.{at_element, judged, of_command}
use Rattle.blocks.specs.Configs.{read_restricted}
use Rattle.blocks.specs.Permissions.{may_write, permission}
use Rattle.decision.specs.declared.view.View.{View}
use Rattle.decision.specs.Numbers.{check_alone, exists, is_tag, names, other_tag}

-- what follows a result, unless it is a fault
abbrev pub bind : {A B E : Type 0} → Result A E → (A → Result B E) → Result B E
bind (Ok a) f = f a
bind (Err e) f = Err e

-- a block may be written in the hopper's state
abbrev pub open_in : View → ℕ → Bool
open_in x b = may_write (permission b x.stage x.config.bytes)

-- places 4 and 5 of a read: the service code (0009h, read and write; 000Bh, read only), then soundness, which only a read
-- of CRC_CHECK alone does without
abbrev pub read_tests : View → ℕ → List ℕ → List (Bool × Fault)
read_tests x service ns =
    (not (service == 0x0009 || service == 0x000B), of_command 4 0x01 0xA6)
    ∷ (not (x.sound || check_alone ns), of_command 5 0xFF 0x70)
    ∷ []

-- place 6 of a read, one element: its block, and the blocks listed before it
abbrev pub block_tests : View → Bool → List ℕ → ℕ → List (Bool × Fault)
block_tests x read_write before b =
    (not (exists b) || (read_write && not (open_in x b)), at_element 6 (length before) 0xA8)
    ∷ (is_tag b && (length before == 0 || names (other_tag b) before), at_element 6 (length before) 0xB0)
    ∷ (is_tag b && not x.seeded, at_element 6 (length before) 0xB1)
    ∷ (not x.authenticated && read_restricted x.config.bytes b, at_element 6 (length before) 0xB1)
    ∷ []

-- place 6 of a read, one element after the other
unfoldable pub blocks_tested : View → Bool → List ℕ → List ℕ → Result (Unit {0}) Fault
blocks_tested x read_write before [] = Ok (tt {0})
blocks_tested x read_write before (b ∷ bs) =
    bind (judged (block_tests x read_write before b) (tt {0})) (λ _. blocks_tested x read_write (before ++ b ∷ []) bs)

-- places 4 to 6 of a read of these blocks
abbrev pub numbers_decided : View → ℕ → List ℕ → Result (List ℕ) Fault
numbers_decided x service ns =
    bind (judged (read_tests x service ns) (tt {0}))
    (λ _. bind (blocks_tested x (service == 0x0009) [] ns)
    (λ _. Ok ns))

-- places 3 to 6 of a read: the blocks to show
abbrev pub read_decided : View → ℕ → List ℕ → Result (List ℕ) Fault
read_decided x service list = bind (blocks_named list) (numbers_decided x service)
