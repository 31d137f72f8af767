-- The packets of replies.
use Rattle.std.specs.Prelude.{ℕ, ◌/◌, Bool, cond, List, [], ◌∷◌, ◌++◌, length, drop}
use Rattle.std.specs.List.{flat_map}
use Rattle.blocklist.specs.declared.fault.Flags.{Flags}
use Rattle.reply.specs.declared.packet.Packet.{Packet}

-- the bytes of a packet
abbrev pub packet_in : Packet → List ℕ
packet_in p = p.held.items

-- code, identity and the two flags: what every reply to a read or a write begins with
abbrev pub status_packet : ℕ → List ℕ → Flags → List ℕ
status_packet code identity flags = code ∷ (identity ++ flags.sf1 ∷ flags.sf2 ∷ [])

-- the reply to polling: 01h, identity and PMm as they lie in D_ID, and the system code if it was asked for
abbrev pub polled_packet : List ℕ → Bool → List ℕ
polled_packet d_id with_system = 0x01 ∷ (d_id ++ cond with_system (0x88 ∷ 0xB4 ∷ []) [])

-- groups one after the other
abbrev pub joined : List (List ℕ) → List ℕ
joined groups = flat_map (λ group. group) groups

-- the reply to a good read: no fault, the number of blocks, and the blocks, which are all of the text but its numbers
abbrev pub shown_packet : List ℕ → List (List ℕ) → List ℕ
shown_packet identity text =
    status_packet 0x07 identity (record { sf1 = 0x00; sf2 = 0x00 }) ++ (length (drop 1 text) / 2 ∷ joined (drop 1 text))
