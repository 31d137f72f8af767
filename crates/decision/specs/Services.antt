-- The services: 0009h of reads and writes, 000Bh of reads alone.
use Rattle.std.specs.Prelude.{ℕ, Bool, true, false, cond, not, List, [], ◌∷◌, Ok, Err, Result, ◌==◌}
use Rattle.blocklist.specs.declared.fault.Fault.{Fault}
use Rattle.blocklist.specs.Faults.{of_command}
use Rattle.decision.specs.declared.service.Service.{Service}
use Rattle.decision.specs.declared.service.Service.TheVariants.{ReadWrite, ReadOnly}

-- the service that a code asks for
abbrev pub service_of : ℕ → Result Service Fault
service_of code =
    cond (code == 0x0009) (Ok ReadWrite)
    (cond (code == 0x000B) (Ok ReadOnly)
    (Err (of_command 4 0x01 0xA6)))

abbrev pub is_read_write : Service → Bool
is_read_write ReadWrite = true
is_read_write ReadOnly = false

-- place 4 of a write
abbrev pub write_service_tests : ℕ → List (Bool × Fault)
write_service_tests code = (not (code == 0x0009), of_command 4 0x01 0xA6) ∷ []

-- place 5: the memory is sound, or does not have to be
abbrev pub memory_tests : Bool → List (Bool × Fault)
memory_tests sound_enough = (not sound_enough, of_command 5 0xFF 0x70) ∷ []
