-- A frame: six 00h, B2h 4Dh, LEN, LEN − 1 packet bytes, and the CRC of LEN and packet, high byte first.
use Rattle.std.specs.Prelude.{ℕ, ◌+◌, ◌-◌, ◌/◌, ◌%◌, Bool, cond, ◌&&◌, List, [], ◌∷◌, ◌++◌, length, Some, None, Ok, Err, Option, Result, ◌==◌, nat_le, nat_lt, slice_index}
use Rattle.std.specs.List.{between}
use Rattle.crc.specs.Crc.{crc_of}
use Rattle.frame.specs.declared.frame.FrameError.{FrameError}
use Rattle.frame.specs.declared.frame.FrameError.TheVariants.{PacketTooLong, NoRoom}
use Rattle.frame.specs.Memory.{written}

-- LEN and packet: what the CRC covers
abbrev pub covered : List ℕ → List ℕ
covered packet = (length packet + 1) ∷ packet

-- the frame around a packet
unfoldable pub frame_of : List ℕ → List ℕ
frame_of packet =
    0 ∷ 0 ∷ 0 ∷ 0 ∷ 0 ∷ 0 ∷ 0xB2 ∷ 0x4D
    ∷ (covered packet ++ (crc_of (covered packet) / 256) ∷ (crc_of (covered packet) % 256) ∷ [])

-- six 00h, B2h 4Dh
abbrev pub opens_frame : List ℕ → Bool
opens_frame bytes =
    nat_le 8 (length bytes)
    && slice_index bytes 0 == 0 && slice_index bytes 1 == 0 && slice_index bytes 2 == 0 && slice_index bytes 3 == 0
    && slice_index bytes 4 == 0 && slice_index bytes 5 == 0 && slice_index bytes 6 == 0xB2 && slice_index bytes 7 == 0x4D

-- LEN and packet, as they stand in a frame
abbrev pub covered_in : List ℕ → List ℕ
covered_in bytes = between 8 (length bytes - 2) bytes

-- the bytes are a frame: LEN, which is a byte, is right, and so is the CRC
abbrev pub framed : List ℕ → Bool
framed bytes =
    nat_le 11 (length bytes) && nat_le (length bytes) 265
    && opens_frame bytes
    && slice_index bytes 8 == length bytes - 10
    && slice_index bytes (length bytes - 2) == crc_of (covered_in bytes) / 256
    && slice_index bytes (length bytes - 1) == crc_of (covered_in bytes) % 256

-- the packet in a frame
abbrev pub unframed : List ℕ → Option (List ℕ)
unframed bytes = cond (framed bytes) (Some (between 9 (length bytes - 2) bytes)) None

-- the errors of a write by number: 1, the packet is too long; 2, there is no room
abbrev pub error_number : FrameError → ℕ
error_number PacketTooLong = 1
error_number NoRoom = 2

-- the answer of a write, by its case
abbrev pub answered : Result ℕ FrameError → Result ℕ ℕ
answered (Ok end) = Ok end
answered (Err error) = Err (error_number error)

-- memory and answer after the frame of a packet is written at an offset: the answer is the offset after the frame
abbrev pub frame_put : List ℕ → ℕ → List ℕ → List ℕ × Result ℕ ℕ
frame_put memory at packet =
    cond (nat_lt 254 (length packet)) (memory, Err (error_number PacketTooLong))
    (cond (nat_lt (length memory) (at + length packet + 11)) (memory, Err (error_number NoRoom))
    (written memory at (frame_of packet), Ok (at + length packet + 11)))
