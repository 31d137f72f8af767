-- What the calls of a block memory answer, case by case.
use Rattle.std.specs.Prelude.{ℕ, cond, Some, None, Ok, Err, Option, Result, nat_lt}
use Rattle.memory.specs.declared.cell.MemoryError.{MemoryError}
use Rattle.memory.specs.declared.cell.MemoryError.TheVariants.{NoSuchCell}

-- The value of a call that is carried out; none of one that is turned down.
abbrev pub answered : {X : Type 0} → Result X MemoryError → Option X
answered (Ok x) = Some x
answered (Err e) = None

-- The number of each reason to turn a call down.
abbrev pub error_number : MemoryError → ℕ
error_number NoSuchCell = 1

-- The number of an answer, 0 for a call that is carried out.
abbrev pub number_of : {X : Type 0} → Result X MemoryError → ℕ
number_of (Ok x) = 0
number_of (Err e) = error_number e

-- The number that a call on the cell n is answered with by a memory of so many cells.
abbrev pub number_at : ℕ → ℕ → ℕ
number_at count n = cond (nat_lt n count) 0 (error_number NoSuchCell)
