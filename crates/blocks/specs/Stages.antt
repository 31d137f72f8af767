-- The stage of a hopper.
use Rattle.std.specs.Prelude.{ℕ, Bool, true, false, cond, List, ◌==◌, slice_index}
use Rattle.blocks.specs.declared.stage.Stage.{Stage}
use Rattle.blocks.specs.declared.stage.Stage.TheVariants.{Issuing, Issued}

abbrev pub is_issued : Stage → Bool
is_issued Issuing = false
is_issued Issued = true

-- the stage that a configuration sets: issued exactly if its byte 2 is 00h
abbrev pub stage_set : List ℕ → Stage
stage_set mc = cond (slice_index mc 2 == 0) Issued Issuing
