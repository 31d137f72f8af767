-- After some of the eight bits the register is as so many steps leave it.
use Rattle.std.proofs.Common.{◌≡◌}
use Rattle.crc.specs.Crc.{crc_bits}
use Rattle.crc.proofs.crc_byte.Given as goal

abbrev pub invariant-loop-bit : goal.invariant-loop-bit
invariant-loop-bit l = l.divided ≡ crc_bits l._bit l.initial.divided
