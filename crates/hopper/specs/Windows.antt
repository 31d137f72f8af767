-- The 22 cells of a hopper, and what follows from them.
use Rattle.std.specs.Prelude.{ℕ, Bool, true, false, List, replicate, slice_index_or}
use Rattle.std.specs.List.{list_all}
use Rattle.memory.specs.declared.cell.Cell.{Cell}
use Rattle.memory.specs.declared.cell.Cell.TheVariants.{Good, Torn}
use Rattle.blocks.specs.declared.stage.Stage.{Stage}
use Rattle.blocks.specs.declared.stage.Stage.TheVariants.{Issuing}
use Rattle.blocks.specs.Counters.{counter_now, three_byte_number}
use Rattle.blocks.specs.Stages.{stage_set}
use Rattle.decision.specs.declared.view.View.{View}
use Rattle.volatile.specs.declared.record.Volatile.{Volatile}
use Rattle.volatile.specs.Sessions.{is_seeded}

-- sixteen zeros
abbrev pub zeros : List ℕ
zeros = replicate 16 0

-- The bytes of a cell. A torn one stands for zeros, which nobody sees: a hopper with a torn cell is not sound.
abbrev pub held : Cell → List ℕ
held (Good bytes) = bytes
held Torn = zeros

abbrev pub cell_held : List Cell → ℕ → List ℕ
cell_held ws i = held (slice_index_or ws i Torn)

-- the blocks that the card itself looks at: CK, MC and WCNT
abbrev pub card_key_in : List Cell → List ℕ
card_key_in ws = cell_held ws 19

abbrev pub config_in : List Cell → List ℕ
config_in ws = cell_held ws 20

abbrev pub counter_in : Stage → List Cell → ℕ
counter_in stage ws = counter_now stage (three_byte_number (cell_held ws 21))

-- the stage: issued exactly if MC is good and sets it
abbrev pub stage_by : Cell → Stage
stage_by (Good mc) = stage_set mc
stage_by Torn = Issuing

abbrev pub stage_in : List Cell → Stage
stage_in ws = stage_by (slice_index_or ws 20 Torn)

abbrev pub is_good : Cell → Bool
is_good (Good bytes) = true
is_good Torn = false

-- a hopper is sound if all its cells are good
abbrev pub all_good : List Cell → Bool
all_good ws = list_all is_good ws

-- what decisions rest on
abbrev pub view : List Cell → Volatile → View
view ws v = record {
  stage = v.stage;
  sound = v.sound;
  seeded = is_seeded v.session.rc;
  authenticated = v.session.authenticated;
  config = record { bytes = config_in ws };
  counter = counter_in v.stage ws;
}
