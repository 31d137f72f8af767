-- What users of the CRC lean on.
use Rattle.std.specs.Prelude.{◌≡◌, ℕ, ◌^◌, ◌<◌, List, ◌++◌}
use Rattle.crc.specs.Crc.{crc_after, crc_of}

-- The CRC of two runs of bytes is that of the first, carried on over the second.
abbrev pub CrcJoins : Type 0
CrcJoins = (a b : List ℕ) → crc_of (a ++ b) ≡ crc_after (crc_of a) b

-- A CRC has sixteen bits.
abbrev pub CrcFits : Type 0
CrcFits = (bytes : List ℕ) → crc_of bytes < 2 ^ 16
