-- What a card gives back for a command.
use Rattle.std.specs.Prelude.{ℕ, cond, List, replicate, Some, None, Option, Result, ◌==◌}
use Rattle.blocklist.specs.Faults.{Told}
use Rattle.cipher.specs.declared.key_error.KeyError.{KeyError}
use Rattle.cipher.specs.Keys.{answered_as}
use Rattle.command.specs.Commands.{Asked, polling, reading, writing, deafening, unknown}
use Rattle.hopper.specs.declared.store.BlockWrite.{BlockWrite}
use Rattle.memory.specs.declared.cell.Cell.{Cell}
use Rattle.reply.specs.declared.packet.Packet.{Packet}
use Rattle.reply.specs.Packets.{packet_in, polled_packet}
use Rattle.volatile.specs.declared.record.Volatile.{Volatile}
use Rattle.volatile.specs.Radios.{hears}
use Rattle.card.specs.declared.outcome.Outcome.{Outcome}
use Rattle.card.specs.Reactions.{Reaction, reaction, refusal_packet}
use Rattle.card.specs.Signatures.{CipherFunction}

-- reply, place, element and write of a reaction
pub record Shown : Type 0 where
  pub reply : Option (List ℕ)
  pub place : ℕ
  pub element : ℕ
  pub write : Option BlockWrite

abbrev pub sent_bytes : Option Packet → Option (List ℕ)
sent_bytes None = None
sent_bytes (Some p) = Some (packet_in p)

-- as the code gives them
abbrev pub outcome : Outcome → Shown
outcome o = record { reply = sent_bytes o.reply; place = o.place; element = o.element; write = o.write }

-- as the reaction has them
abbrev pub shown_by : Reaction → Shown
shown_by r = record { reply = r.reply; place = r.place; element = r.element; write = r.write }

-- the outcome with the volatile record afterwards, as the code gives them and as the reaction has them
abbrev pub done : Outcome → Volatile → Shown × Volatile
done o v = (outcome o, v)

abbrev pub done_by : Reaction → Shown × Volatile
done_by r = (shown_by r, r.kept)

abbrev pub refused_outcome : ℕ → List ℕ → Told → Shown
refused_outcome code identity t = record {
  reply = refusal_packet code identity t.flags;
  place = t.place;
  element = t.element;
  write = None;
}

abbrev pub silent_outcome : ℕ → Shown
silent_outcome place = record { reply = None; place = place; element = 0; write = None }

abbrev pub served_outcome : List ℕ → Option BlockWrite → Shown
served_outcome packet write = record { reply = Some packet; place = 0; element = 0; write = write }

-- What the whole call comes to: number and value of its answer, the volatile record and the work sheet. A cipher whose keys
-- are not of 16 bytes is answered with 8, and nothing but the sheet changes.
pub record Reacted : Type 0 where
  pub number : ℕ
  pub answer : Option Shown
  pub kept : Volatile
  pub sheet : List ℕ

-- as the code gives it
abbrev pub reacted_as : Result Outcome KeyError → Volatile → List ℕ → Reacted
reacted_as r v sheet = record { number = (answered_as outcome r).0; answer = (answered_as outcome r).1; kept = v; sheet = sheet }

abbrev pub reacted : ℕ → CipherFunction → List Cell → Volatile → Asked → Reacted
reacted key_length E ws v a =
    cond (key_length == 16)
    (record { number = 0; answer = Some (shown_by (reaction E ws v a)); kept = (reaction E ws v a).kept; sheet = replicate 16 0 })
    (record { number = 8; answer = None; kept = v; sheet = replicate 16 0 })

-- the reply of a hopper to polling, given its block D_ID
abbrev pub polled : Volatile → List ℕ → Asked → Option (List ℕ)
polled v d_id (polling request slots) =
    cond (hears v.session.radio (polling request slots)) (Some (polled_packet d_id (request == 0x01))) None
polled v d_id (reading q) = None
polled v d_id (writing q) = None
polled v d_id (deafening identity) = None
polled v d_id unknown = None
