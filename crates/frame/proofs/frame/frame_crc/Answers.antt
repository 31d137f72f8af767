use Rattle.std.proofs.Common.{rules}
use Rattle.crc.specs.Crc.{crc_after}
use Rattle.frame.proofs.frame.frame_crc.Goals as goal

pub returns : goal.returns
unfolding crc_after
returns c = search rules
