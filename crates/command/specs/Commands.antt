-- The commands, by the bytes of their packets.
use Rattle.std.specs.Prelude.{ℕ, ◌+◌, ◌*◌, Bool, cond, ◌&&◌, ◌||◌, List, length, take, drop, Some, None, Option, ◌==◌, nat_le, slice_index}
use Rattle.command.specs.declared.request.Request.{Request}
use Rattle.command.specs.declared.command.Command.{Command}
use Rattle.command.specs.declared.command.Command.TheVariants as command

-- what a read or a write carries: the identity, the service count and code, the block count, then the block list and,
-- in a write, the data
pub record Carried : Type 0 where
  pub identity : List ℕ
  pub services : ℕ
  pub service : ℕ
  pub blocks : ℕ
  pub rest : List ℕ

pub data Asked : Type 0 where
  polling : (request slots : ℕ) → Asked
  reading : Carried → Asked
  writing : Carried → Asked
  deafening : (identity : List ℕ) → Asked
  unknown : Asked

abbrev pub carried : Request → Carried
carried r = record {
  identity = r.identity;
  services = r.services;
  service = r.service;
  blocks = r.blocks;
  rest = r.rest.now;
}

-- the command, by its case
abbrev pub asked : Command → Asked
asked (command.Polling request slots) = polling request slots
asked (command.Read r) = reading (carried r)
asked (command.Write r) = writing (carried r)
asked (command.Deafen identity) = deafening identity
asked command.Unknown = unknown

-- the system code 88h B4h, FFh standing for either byte
abbrev pub system_fits : ℕ → ℕ → Bool
system_fits high low = (high == 0x88 || high == 0xFF) && (low == 0xB4 || low == 0xFF)

-- one, two, four, eight or sixteen slots, by the number of the last
abbrev pub slots_fit : ℕ → Bool
slots_fit n = n == 0x00 || (n == 0x01 || (n == 0x03 || (n == 0x07 || n == 0x0F)))

-- a code, and at least so many bytes
abbrev pub starts_as : ℕ → ℕ → List ℕ → Bool
starts_as code least packet = nat_le least (length packet) && slice_index packet 0 == code

-- code 00h, system code, request code, slots: five bytes
abbrev pub poll_fits : List ℕ → Bool
poll_fits packet =
    (length packet == 5)
    && (slice_index packet 0 == 0x00
    && (system_fits (slice_index packet 1) (slice_index packet 2) && slots_fit (slice_index packet 4)))

abbrev pub identity_in : List ℕ → List ℕ
identity_in packet = take 8 (drop 1 packet)

abbrev pub carried_in : List ℕ → Carried
carried_in packet = record {
  identity = identity_in packet;
  services = slice_index packet 9;
  service = slice_index packet 10 + slice_index packet 11 * 256;
  blocks = slice_index packet 12;
  rest = drop 13 packet;
}

abbrev pub parsed : List ℕ → Asked
parsed packet =
    cond (poll_fits packet) (polling (slice_index packet 3) (slice_index packet 4))
    (cond (starts_as 0x06 15 packet) (reading (carried_in packet))
    (cond (starts_as 0x08 31 packet) (writing (carried_in packet))
    (cond (starts_as 0x10 9 packet) (deafening (identity_in packet))
    unknown)))

-- what the packet of a frame asks, and what bytes ask that are no frame
abbrev pub asked_in : Option (List ℕ) → Asked
asked_in None = unknown
asked_in (Some packet) = parsed packet
