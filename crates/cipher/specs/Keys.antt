-- What the making of a key answers.
use Rattle.std.specs.Prelude.{ℕ, cond, List, length, Some, None, Ok, Err, Option, Result, ◌==◌}
use Rattle.cipher.specs.declared.key_error.KeyError.{KeyError}
use Rattle.cipher.specs.declared.key_error.KeyError.TheVariants.{WrongLength}

-- the number of a refusal
abbrev pub number_of : KeyError → ℕ
number_of WrongLength = 8

-- an answer by case: 0 and what was made, as f reads it, or the number of the refusal and nothing
abbrev pub answered_as : {X Y : Type 0} → (X → Y) → Result X KeyError → ℕ × Option Y
answered_as f (Ok x) = (0, Some (f x))
answered_as f (Err e) = (number_of e, None)

abbrev pub answered : {X : Type 0} → Result X KeyError → ℕ × Option X
answered (Ok x) = (0, Some x)
answered (Err e) = (number_of e, None)

-- what needs a key of n bytes answers, given these bytes for it: 0 and its value, or 8 and nothing
abbrev pub under_key : {X : Type 0} → ℕ → List ℕ → X → ℕ × Option X
under_key n bytes value = cond (length bytes == n) (0, Some value) (8, None)

-- a key of n bytes is made of just these bytes
abbrev pub key_made : ℕ → List ℕ → ℕ × Option (List ℕ)
key_made n bytes = under_key n bytes bytes
