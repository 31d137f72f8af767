-- Replies on their way into reply memory.
use Rattle.std.specs.Prelude.{ℕ, ◌+◌, Bool, ◌&&◌, List, length, replicate, nat_le, nat_lt, slice_set}
use Rattle.frame.specs.Frames.{frame_of}
use Rattle.frame.specs.Memory.{written}
use Rattle.table.specs.declared.report.Report.{Report}
use Rattle.table.specs.declared.sending.Sending.{Sending}

-- reply memory, with how many frames lie at its start, how many bytes they take, and the slot of each
pub record Sent : Type 0 where
  pub memory : List ℕ
  pub frames : ℕ
  pub bytes : ℕ
  pub slots : List ℕ

-- as the code holds it, beside the memory
abbrev pub sent_in : List ℕ → Sending → Sent
sent_in memory s = record { memory = memory; frames = s.frames; bytes = s.bytes; slots = s.slots }

abbrev pub nothing_in : List ℕ → Sent
nothing_in memory = record { memory = memory; frames = 0; bytes = 0; slots = replicate 4 0 }

-- a frame fits behind the others
abbrev pub fits : Sent → List ℕ → Bool
fits s packet = nat_lt s.frames 4 && (nat_le (length packet) 254 && nat_le (s.bytes + length packet + 11) (length s.memory))

-- one frame more, behind the others; every other byte is kept
abbrev pub sent_on : Sent → List ℕ → ℕ → Sent
sent_on s packet slot = record {
  memory = written s.memory s.bytes (frame_of packet);
  frames = s.frames + 1;
  bytes = s.bytes + length packet + 11;
  slots = slice_set s.slots s.frames slot;
}

-- what is reported of it
abbrev pub report_of : Sent → ℕ → ℕ → Report
report_of s place element = record {
  frames = s.frames;
  bytes = s.bytes;
  slots = s.slots;
  place = place;
  element = element;
}
