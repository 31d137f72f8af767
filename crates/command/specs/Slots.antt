-- The time slot of a reply to a polling command.
use Rattle.std.specs.Prelude.{ℕ, ◌+◌, ◌%◌}

-- a random byte, and the number of the last slot
abbrev pub slot_of : ℕ → ℕ → ℕ
slot_of draw slots = draw % (slots + 1)
