-- Modes, owed replies, and the four volatile records.
use Rattle.std.specs.Prelude.{ℕ, Bool, true, false, List, [], ◌∷◌, replicate, None, Option, slice_index_or}
use Rattle.blocks.specs.declared.stage.Stage.TheVariants.{Issuing}
use Rattle.journal.specs.declared.burn.Burn.{Burn}
use Rattle.mac.specs.declared.session.SessionKeys.{SessionKeys}
use Rattle.volatile.specs.declared.record.Volatile.{Volatile}
use Rattle.volatile.specs.Sessions.{no_session}
use Rattle.table.specs.declared.mode.Cause.{Cause}
use Rattle.table.specs.declared.mode.Cause.TheVariants.{Up, Hear}
use Rattle.table.specs.declared.mode.Mode.{Mode}
use Rattle.table.specs.declared.mode.Mode.TheVariants.{Off, Listening, Working}
use Rattle.table.specs.declared.report.Report.{Report}
use Rattle.table.specs.declared.slip.Slip.{Slip}

-- a reply is owed while a heard frame is worked on
abbrev pub owed_by : Cause → Bool
owed_by Up = false
owed_by (Hear report) = true

abbrev pub owes_reply : Mode → Bool
owes_reply Off = false
owes_reply Listening = false
owes_reply (Working work) = owed_by work.cause

-- the next burn that is left
abbrev pub next_burn : Mode → Option Burn
next_burn Off = None
next_burn Listening = None
next_burn (Working work) = work.left

-- working on something
abbrev pub working_on : Cause → Option Burn → Mode
working_on cause left = Working (record { cause = cause; left = left })

-- a report of nothing, which finish gives after up
abbrev pub nothing_sent : Report
nothing_sent = record { frames = 0; bytes = 0; slots = replicate 4 0; place = 0; element = 0 }

-- slips: one that owes nothing, one for a reply, and one that is spent
abbrev pub blank_slip : Slip
blank_slip = record { frames = 0; bytes = 0; spent = true }

abbrev pub owed_slip : Report → Slip
owed_slip r = record { frames = r.frames; bytes = r.bytes; spent = false }

abbrev pub spent_slip : Slip → Slip
spent_slip s = record { frames = s.frames; bytes = s.bytes; spent = true }

-- no session keys
abbrev pub no_keys : SessionKeys
no_keys = record { first = replicate 8 0; second = replicate 8 0 }

-- a record when power first comes
abbrev pub blank : Volatile
blank = record { stage = Issuing; sound = false; session = no_session; keys = no_keys }

-- without power a hopper forgets RC, session keys, STATE and deafness. (The stage and the soundness are fixed anew before they
-- are looked at again.)
abbrev pub forgotten : Volatile → Volatile
forgotten v = record { stage = v.stage; sound = v.sound; session = no_session; keys = no_keys }

-- the record of a hopper
abbrev pub record_of : List Volatile → ℕ → Volatile
record_of records hopper = slice_index_or records hopper blank

-- the same done to all four
abbrev pub all_forgotten : List Volatile → List Volatile
all_forgotten rs =
    forgotten (record_of rs 0) ∷ forgotten (record_of rs 1) ∷ forgotten (record_of rs 2) ∷ forgotten (record_of rs 3) ∷ []
