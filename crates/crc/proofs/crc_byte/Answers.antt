-- Each turn of the loop is one step more, and eight steps are a byte.
use Rattle.std.proofs.Common.{add-one, rules}
use Rattle.crc.specs.Crc.{crc_bits, crc_byte}
use Rattle.crc.proofs.crc_byte.Goals as goal

pub loop-bit-init : goal.loop-bit-init
unfolding crc_bits
loop-bit-init c = search rules

pub loop-bit-preserved : goal.loop-bit-preserved
unfolding crc_bits
loop-bit-preserved c = rw add-one (search rules)

pub returns : goal.returns
unfolding crc_byte
returns c = search rules
