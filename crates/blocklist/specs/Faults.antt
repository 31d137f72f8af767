-- Refusals of a command.
use Rattle.std.specs.Prelude.{ℕ, ◌+◌, ◌^◌, Bool, cond, List, [], ◌∷◌, Some, None, Ok, Err, Option, Result, nat_lt}
use Rattle.blocklist.specs.declared.fault.Flags.{Flags}
use Rattle.blocklist.specs.declared.fault.Fault.{Fault}
use Rattle.blocklist.specs.declared.fault.Refusal.{Refusal}
use Rattle.blocklist.specs.declared.fault.Refusal.TheVariants.{Silence, Error}

-- a refusal of the command as a whole: no element
abbrev pub of_command : ℕ → ℕ → ℕ → Fault
of_command place sf1 sf2 = record { place = place; element = 0; flags = record { sf1 = sf1; sf2 = sf2 } }

-- a refusal at an element, its index counted from 0: SF1 is 01h, 02h, 04h or 08h.
-- A list has at most four elements; past them the refusal is of the command, with SF1 FFh.
abbrev pub at_element : ℕ → ℕ → ℕ → Fault
at_element place index code = cond (nat_lt index 4)
    (record { place = place; element = index + 1; flags = record { sf1 = 2 ^ index; sf2 = code } })
    (of_command place 0xFF code)

-- what is known of a refusal: its place, its element (0: none), and the flags that are sent (none: silence)
pub record Told : Type 0 where
  pub place : ℕ
  pub element : ℕ
  pub flags : Option Flags

abbrev pub silent : ℕ → Told
silent place = record { place = place; element = 0; flags = None }

abbrev pub fault_told : Fault → Told
fault_told fault = record { place = fault.place; element = fault.element; flags = Some fault.flags }

-- a refusal, by its case
abbrev pub told : Refusal → Told
told (Silence place) = silent place
told (Error fault) = fault_told fault

-- tests in order: the refusal of the first that holds, or the answer where none does
abbrev pub judged : {A E : Type 0} → List (Bool × E) → A → Result A E
judged [] answer = Ok answer
judged (t ∷ ts) answer = cond t.0 (Err t.1) (judged ts answer)
