-- The two laws, as lemmas have them.
use Rattle.crc.proofs.Steps.{after_append, crc_lt}
use Rattle.crc.proofs.crc_laws.Goals as goal

pub returns : goal.returns
returns c = record { joins = after_append 0; fits = crc_lt }
