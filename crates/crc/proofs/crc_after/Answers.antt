-- The CRC of bytes is the fold of its step over them.
use Rattle.std.proofs.Common.{arith}
use Rattle.crc.proofs.Steps.{after_is_fold}
use Rattle.crc.proofs.crc_after.Goals as goal

pub returns : goal.returns
returns c = grind (arith, after_is_fold)
