-- Worked cases of one hopper's rules. Those of time slots and elements stand with the commands.
use Rattle.std.specs.Prelude.{◌≡◌, ℕ, Bool, true, false, List, [], ◌∷◌, replicate, Some, slice_index, slice_set}
use Rattle.blocks.specs.declared.stage.Stage.TheVariants.{Issuing, Issued}
use Rattle.blocks.specs.Cells.{cell_number}
use Rattle.blocks.specs.Configs.{merged}
use Rattle.blocks.specs.Counters.{counter_after, counter_now}
use Rattle.blocks.specs.Permissions.{may_write, permission}
use Rattle.decision.specs.declared.view.View.{View}
use Rattle.hopper.specs.Stores.{accepted_flags}

-- a configuration that opens everything and restricts nothing
abbrev pub open_config : List ℕ
open_config = 0xFF ∷ 0xFF ∷ 0xFF ∷ 0x00 ∷ 0x07 ∷ replicate 11 0

-- an issued hopper with that configuration and a counter
abbrev pub issued_with : ℕ → View
issued_with counter = record {
  stage = Issued;
  sound = true;
  seeded = false;
  authenticated = false;
  config = record { bytes = open_config };
  counter = counter;
}

pub data Case : Type 0 where
  -- a hopper's block lies in a cell of the memory
  lies_in : (hopper block cell : ℕ) → Case
  -- with a byte of the configuration changed, a scratch block may be written or not
  opens : (byte value block : ℕ) (writable : Bool) → Case
  -- an issued hopper's stored counter reads as a number
  issued_reads : (stored counter : ℕ) → Case
  -- a write to a scratch block of an issued hopper is answered with flags
  issued_answers : (counter sf1 sf2 : ℕ) → Case
  -- while issuing, a write to a scratch block takes the counter on
  issuing_counts : (counter after : ℕ) → Case
  -- when issued, a byte of the configuration and the one sent for it are merged
  merges : (byte old sent new : ℕ) → Case

abbrev pub holds : Case → Type 0
holds (lies_in hopper block cell) = cell_number hopper block ≡ Some cell
holds (opens byte value block writable) = may_write (permission block Issued (slice_set open_config byte value)) ≡ writable
holds (issued_reads stored counter) = counter_now Issued stored ≡ counter
holds (issued_answers counter sf1 sf2) = accepted_flags (issued_with counter) 0x00 ≡ record { sf1 = sf1; sf2 = sf2 }
holds (issuing_counts counter after) = counter_after 0x00 Issuing open_config counter ≡ after
holds (merges byte old sent new) =
    slice_index (merged Issued (slice_set (replicate 16 0) byte old) (slice_set (replicate 16 0) byte sent)) byte ≡ new

abbrev pub bench : List Case
bench =
    lies_in 2 0x86 62
    ∷ lies_in 3 0x90 87
    ∷ opens 0 0xFE 0x00 false
    ∷ opens 0 0xFE 0x01 true
    ∷ opens 1 0xBF 0x0E false
    ∷ issued_reads 0xFFFE01 0x000000
    ∷ issued_reads 0xFFFE00 0xFFFE00
    ∷ issued_answers 0x002710 0x00 0x00
    ∷ issued_answers 0x002711 0xFF 0x71
    ∷ issuing_counts 0xFFFE00 0xFFFE01
    ∷ issuing_counts 0xFFFFFF 0xFFFFFF
    ∷ merges 0 0xF0 0x3C 0x30
    ∷ merges 6 0x01 0x06 0x07
    ∷ []
