-- The decision on a write, up to the verdict on its MAC. It is not given the data, nor the tag.
use Rattle.std.specs.Prelude.{ℕ, Bool, true, false, not, ◌&&◌, ◌||◌, List, [], ◌∷◌, Err, Result, ◌==◌}
use Rattle.blocklist.specs.declared.fault.Fault.{Fault}
use Rattle.blocklist.specs.Elements.{blocks_named}
use Rattle.blocklist.specs.Faults.{at_element, judged, of_command}
use Rattle.blocks.specs.Configs.{write_restricted}
use Rattle.blocks.specs.Counters.{goes_up}
use Rattle.blocks.specs.Permissions.{asks_mac, permission}
use Rattle.decision.specs.declared.view.View.{View}
use Rattle.decision.specs.declared.write.WritePlan.{WritePlan}
use Rattle.decision.specs.Numbers.{written_alone, written_signed}
use Rattle.decision.specs.Reads.{bind, open_in}

-- a write to a block needs a MAC in the hopper's state
abbrev pub signed_in : View → ℕ → Bool
signed_in x b = asks_mac (permission b x.stage x.config.bytes)

-- a write to a block waits until the hopper is authenticated
abbrev pub barred_in : View → ℕ → Bool
barred_in x b = not x.authenticated && write_restricted x.config.bytes b

-- places 4 and 5 of a write: the service code (0009h alone), then soundness
abbrev pub write_tests : View → ℕ → List (Bool × Fault)
write_tests x service =
    (not (service == 0x0009), of_command 4 0x01 0xA6)
    ∷ (not x.sound, of_command 5 0xFF 0x70)
    ∷ []

-- place 6 of a write of one block
abbrev pub alone_tests : View → ℕ → List (Bool × Fault)
alone_tests x b =
    (not (open_in x b) || not (written_alone b), at_element 6 0 0xA8)
    ∷ (signed_in x b || barred_in x b, at_element 6 0 0xB1)
    ∷ []

-- place 6 of a write of two blocks, given the counter sent, up to the verdict on the MAC
abbrev pub signed_tests : View → ℕ → ℕ → ℕ → List (Bool × Fault)
signed_tests x b second counter =
    (not (open_in x b) || not (written_signed b), at_element 6 0 0xA8)
    ∷ (not (second == 0x91), at_element 6 1 0xA8)
    ∷ (barred_in x b, at_element 6 0 0xB1)
    ∷ (not x.seeded, at_element 6 1 0xB1)
    ∷ (not (counter == x.counter) || not (goes_up x.stage x.counter), at_element 6 1 0xB2)
    ∷ []

-- the plan: the block, and whether a verdict on a MAC is still to come
abbrev pub plan_of : Bool → ℕ → WritePlan
plan_of signed b = record { block = b; signed = signed }

-- place 6 of a write of these blocks. A write that passed its header has one or two; another number of them is refused as
-- the header refuses it.
abbrev pub blocks_planned : View → ℕ → List ℕ → Result WritePlan Fault
blocks_planned x counter [] = Err (of_command 2 0xFF 0xA2)
blocks_planned x counter (b ∷ []) = judged (alone_tests x b) (plan_of false b)
blocks_planned x counter (b ∷ c ∷ []) = judged (signed_tests x b c counter) (plan_of true b)
blocks_planned x counter (b ∷ c ∷ d ∷ ns) = Err (of_command 2 0xFF 0xA2)

-- places 3 to 6 of a write
abbrev pub write_planned : View → ℕ → List ℕ → ℕ → Result WritePlan Fault
write_planned x service list counter =
    bind (blocks_named list)
    (λ ns. bind (judged (write_tests x service) (tt {0}))
    (λ _. blocks_planned x counter ns))
