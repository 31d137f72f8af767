-- The laws of frames.
use Rattle.std.specs.Prelude.{◌≡◌, ℕ, ◌+◌, ◌≤◌, List, length, take, drop, Some}
use Rattle.frame.specs.Frames.{frame_of, unframed}
use Rattle.frame.specs.Memory.{written}

-- a packet of at most 254 bytes, written as a frame into memory with room for it, is taken out of that part of the memory
abbrev pub FramesAreTakenOut : Type 0
FramesAreTakenOut =
    (memory packet : List ℕ) (at : ℕ) → length packet ≤ 254 → at + length packet + 11 ≤ length memory
    → unframed (take (length packet + 11) (drop at (written memory at (frame_of packet)))) ≡ Some packet

-- bytes that a packet is taken out of are the frame of that packet
abbrev pub OnlyFramesAreTakenOut : Type 0
OnlyFramesAreTakenOut =
    (bytes packet : List ℕ) → unframed bytes ≡ Some packet → (length packet ≤ 254) × (bytes ≡ frame_of packet)
