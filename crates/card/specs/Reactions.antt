-- What one hopper does with a command: decide, then carry out.
use Rattle.std.specs.Prelude.{ℕ, Bool, true, false, cond, List, [], ◌∷◌, ◌++◌, take, drop, Some, None, Ok, Err, Option, Result, ◌==◌}
use Rattle.blocklist.specs.declared.fault.Fault.{Fault}
use Rattle.blocklist.specs.declared.fault.Flags.{Flags}
use Rattle.blocklist.specs.Faults.{Told, at_element, fault_told, silent}
use Rattle.blocks.specs.Counters.{three_byte_number}
use Rattle.command.specs.Commands.{Asked, Carried, polling, reading, writing, deafening, unknown}
use Rattle.command.specs.Headers.{payload_block, read_header, write_header}
use Rattle.decision.specs.declared.view.View.{View}
use Rattle.decision.specs.declared.write.WritePlan.{WritePlan}
use Rattle.decision.specs.Numbers.{is_tag}
use Rattle.decision.specs.Reads.{read_decided}
use Rattle.decision.specs.Writes.{write_planned}
use Rattle.hopper.specs.declared.store.BlockWrite.{BlockWrite}
use Rattle.hopper.specs.ReadsAs.{reads_as}
use Rattle.hopper.specs.Stores.{accepted_flags, raises, stored}
use Rattle.hopper.specs.Windows.{card_key_in, view}
use Rattle.mac.specs.declared.session.SessionKeys.{SessionKeys}
use Rattle.mac.specs.Session.{session_keys}
use Rattle.memory.specs.declared.cell.Cell.{Cell}
use Rattle.reply.specs.Packets.{shown_packet, status_packet}
use Rattle.reply.specs.Texts.{Tagger, block_sent, halved, lead_of, text_of}
use Rattle.volatile.specs.declared.record.Session.{Session}
use Rattle.volatile.specs.declared.record.Volatile.{Volatile}
use Rattle.volatile.specs.Radios.{hears}
use Rattle.volatile.specs.Sessions.{in_session, now_deaf, with_rc, with_state}
use Rattle.card.specs.Signatures.{CipherFunction, is_right, tagger}

pub record Reaction : Type 0 where
  -- the packet that is sent, if any
  pub reply : Option (List ℕ)
  -- of a refusal, its place and element; 0 if there is none
  pub place : ℕ
  pub element : ℕ
  -- the volatile record afterwards
  pub kept : Volatile
  -- the write for the journal, if any, and whether it raises the counter
  pub write : Option BlockWrite
  pub raising : Bool
  -- the tags handed out, and the verdicts on a MAC
  pub tags : List (List ℕ)
  pub verdicts : List Bool

-- the packet of a refusal: code, identity and flags, unless it is silent
abbrev pub refusal_packet : ℕ → List ℕ → Option Flags → Option (List ℕ)
refusal_packet code identity None = None
refusal_packet code identity (Some flags) = Some (status_packet code identity flags)

abbrev pub refused : Volatile → ℕ → List ℕ → Told → Reaction
refused v code identity t = record {
  reply = refusal_packet code identity t.flags;
  place = t.place;
  element = t.element;
  kept = v;
  write = None;
  raising = false;
  tags = [];
  verdicts = [];
}

abbrev pub quiet : Volatile → ℕ → Reaction
quiet v place = refused v 0 [] (silent place)

-- A read

-- the tags among the blocks that are sent
unfoldable pub tags_sent : (ℕ → List ℕ) → Tagger → List (List ℕ) → List ℕ → List (List ℕ)
tags_sent R T text [] = []
tags_sent R T text (b ∷ bs) =
    cond (is_tag b)
    (take 8 (block_sent R T text b) ∷ tags_sent R T (text ++ halved (block_sent R T text b)) bs)
    (tags_sent R T (text ++ halved (block_sent R T text b)) bs)

abbrev pub shown_text : CipherFunction → List Cell → Volatile → List ℕ → List (List ℕ)
shown_text E ws v ns = text_of (reads_as ws (view ws v) v.session) (tagger E v) ns

abbrev pub shown : CipherFunction → List Cell → Volatile → List ℕ → List ℕ → Reaction
shown E ws v identity ns = record {
  reply = Some (shown_packet identity (shown_text E ws v ns));
  place = 0;
  element = 0;
  kept = v;
  write = None;
  raising = false;
  tags = tags_sent (reads_as ws (view ws v) v.session) (tagger E v) (lead_of ns ∷ []) ns;
  verdicts = [];
}

-- the blocks to show, by all tests of a read
abbrev pub faulted : {A : Type 0} → Result A Fault → Result A Told
faulted (Ok a) = Ok a
faulted (Err fault) = Err (fault_told fault)

abbrev pub bind_told : {A B : Type 0} → Result A Told → (A → Result B Told) → Result B Told
bind_told (Ok a) f = f a
bind_told (Err t) f = Err t

abbrev pub read_judged : View → Carried → Result (List ℕ) Told
read_judged x q = bind_told (read_header q) (λ list. faulted (read_decided x q.service list))

abbrev pub read_carried : CipherFunction → List Cell → Volatile → Carried → Result (List ℕ) Told → Reaction
read_carried E ws v q (Ok ns) = shown E ws v q.identity ns
read_carried E ws v q (Err t) = refused v 0x07 q.identity t

-- A write

-- what RC and STATE become, and the session keys, which a write of RC makes anew
abbrev pub session_after : Session → ℕ → List ℕ → Session
session_after s b sent = cond (b == 0x80) (with_rc s sent) (cond (b == 0x92) (with_state s sent) s)

abbrev pub made_keys : List ℕ × List ℕ → SessionKeys
made_keys keys = record { first = keys.0; second = keys.1 }

abbrev pub keys_after : CipherFunction → List Cell → Volatile → ℕ → List ℕ → SessionKeys
keys_after E ws v b sent = cond (b == 0x80) (made_keys (session_keys E (card_key_in ws) sent)) v.keys

abbrev pub kept_after : CipherFunction → List Cell → Volatile → ℕ → List ℕ → Volatile
kept_after E ws v b sent = record {
  stage = v.stage;
  sound = v.sound;
  session = session_after v.session b sent;
  keys = keys_after E ws v b sent;
}

-- an accepted write, with the verdicts that it met
abbrev pub accepted : CipherFunction → List Cell → Volatile → List ℕ → ℕ → List ℕ → List Bool → Reaction
accepted E ws v identity b sent verdicts = record {
  reply = Some (status_packet 0x09 identity (accepted_flags (view ws v) b));
  place = 0;
  element = 0;
  kept = kept_after E ws v b sent;
  write = stored (view ws v) b sent;
  raising = raises (view ws v) b;
  tags = [];
  verdicts = verdicts;
}

abbrev pub wrong_mac : Told
wrong_mac = fault_told (at_element 6 1 0xB2)

-- a write with a MAC, by the verdict on it
abbrev pub judged_write : CipherFunction → List Cell → Volatile → List ℕ → ℕ → List ℕ → Bool → Reaction
judged_write E ws v identity b sent true = accepted E ws v identity b sent (true ∷ [])
judged_write E ws v identity b sent false = record {
  reply = refusal_packet 0x09 identity wrong_mac.flags;
  place = wrong_mac.place;
  element = wrong_mac.element;
  kept = v;
  write = None;
  raising = false;
  tags = [];
  verdicts = false ∷ [];
}

-- the verdict on a write: the tag is the first half of its second block
abbrev pub verdict : CipherFunction → List Cell → Volatile → ℕ → List ℕ → List ℕ → Bool
verdict E ws v b sent mac = is_right E v (view ws v).counter b sent (take 8 mac)

-- The data of a write that passed its header are there: one block, or two; the cases without them only make this total.
abbrev pub signed_carried : CipherFunction → List Cell → Volatile → List ℕ → ℕ → List ℕ → Option (List ℕ) → Reaction
signed_carried E ws v identity b sent None = refused v 0x09 identity (silent 2)
signed_carried E ws v identity b sent (Some mac) = judged_write E ws v identity b sent (verdict E ws v b sent mac)

abbrev pub plan_carried : CipherFunction → List Cell → Volatile → List ℕ → Option (List ℕ) → Option (List ℕ) → WritePlan → Reaction
plan_carried E ws v identity None second p = refused v 0x09 identity (silent 2)
plan_carried E ws v identity (Some sent) second p =
    cond p.signed (signed_carried E ws v identity p.block sent second) (accepted E ws v identity p.block sent [])

-- the counter that a write carries with its MAC: three bytes after the tag
abbrev pub counter_sent : Option (List ℕ) → ℕ
counter_sent None = 0
counter_sent (Some mac) = three_byte_number (drop 8 mac)

-- the plan of a write, by all tests up to the verdict: its service, its list and the counter sent, but no data and no tag
abbrev pub planned : View → ℕ → List ℕ → Option (List ℕ) → Result WritePlan Told
planned x service list second = faulted (write_planned x service list (counter_sent second))

abbrev pub plan_done : CipherFunction → List Cell → Volatile → List ℕ → Option (List ℕ) → Option (List ℕ) → Result WritePlan Told → Reaction
plan_done E ws v identity first second (Ok p) = plan_carried E ws v identity first second p
plan_done E ws v identity first second (Err t) = refused v 0x09 identity t

abbrev pub body_carried : CipherFunction → List Cell → Volatile → Carried → List ℕ × List ℕ → Reaction
body_carried E ws v q body =
    plan_done E ws v q.identity (payload_block 0 body.1) (payload_block 1 body.1)
    (planned (view ws v) q.service body.0 (payload_block 1 body.1))

abbrev pub write_carried : CipherFunction → List Cell → Volatile → Carried → Result (List ℕ × List ℕ) Told → Reaction
write_carried E ws v q (Ok body) = body_carried E ws v q body
write_carried E ws v q (Err t) = refused v 0x09 q.identity t

-- Any command

abbrev pub deafened_by : Volatile → Reaction
deafened_by v = quiet (in_session v (now_deaf v.session)) 0

-- a command that is heard; polling is answered elsewhere, since all hoppers hear it
abbrev pub heard : CipherFunction → List Cell → Volatile → Asked → Reaction
heard E ws v (polling request slots) = quiet v 1
heard E ws v (reading q) = read_carried E ws v q (read_judged (view ws v) q)
heard E ws v (writing q) = write_carried E ws v q (write_header q)
heard E ws v (deafening identity) = deafened_by v
heard E ws v unknown = quiet v 1

-- the response of a hopper to a command that names it: silence where it does not hear
abbrev pub response : CipherFunction → List Cell → Volatile → Asked → Reaction
response E ws v a = cond (hears v.session.radio a) (heard E ws v a) (quiet v 1)

-- the same under a name that is opened only where its cases matter
unfoldable pub reaction : CipherFunction → List Cell → Volatile → Asked → Reaction
reaction E ws v a = response E ws v a
