-- The session of a hopper, and its block STATE.
use Rattle.std.specs.Prelude.{ℕ, Bool, true, false, cond, List, ◌∷◌, ◌++◌, replicate, Some, None, Option, ◌==◌, slice_index}
use Rattle.volatile.specs.declared.radio.Radio.TheVariants.{Open}
use Rattle.volatile.specs.declared.record.Session.{Session}
use Rattle.volatile.specs.declared.record.Volatile.{Volatile}
use Rattle.volatile.specs.Radios.{deafened, is_poll_shut, poll_set}

-- RC is written
abbrev pub is_seeded : Option (List ℕ) → Bool
is_seeded None = false
is_seeded (Some rc) = true

abbrev pub flag : Bool → ℕ
flag b = cond b 0x01 0x00

-- STATE: byte 0 says authenticated, byte 8 poll-shut
unfoldable pub state_block : Session → List ℕ
state_block s = flag s.authenticated ∷ (replicate 7 0 ++ flag (is_poll_shut s.radio) ∷ replicate 7 0)

-- after STATE is written: each byte counts as 01h only if 01h is sent
abbrev pub with_state : Session → List ℕ → Session
with_state s sent = record {
  rc = s.rc;
  authenticated = (slice_index sent 0 == 0x01);
  radio = poll_set s.radio (slice_index sent 8 == 0x01);
}

-- after RC is written
abbrev pub with_rc : Session → List ℕ → Session
with_rc s sent = record { rc = Some sent; authenticated = s.authenticated; radio = s.radio }

-- after the command that deafens
abbrev pub now_deaf : Session → Session
now_deaf s = record { rc = s.rc; authenticated = s.authenticated; radio = deafened s.radio }

-- when power comes
abbrev pub no_session : Session
no_session = record { rc = None; authenticated = false; radio = Open }

-- a record with another session
abbrev pub in_session : Volatile → Session → Volatile
in_session v s = record { stage = v.stage; sound = v.sound; session = s; keys = v.keys }
