-- A line of the key list: a master key of 48 digits, one space, an ID of 32 digits; and its answer.
use Rattle.std.specs.Prelude.{ℕ, ◌+◌, Bool, cond, not, List, [], ◌∷◌, ◌++◌, length, Some, None, Ok, Err, Option, Result, ◌==◌}
use Rattle.std.specs.List.{enumerate_from, position}
use Rattle.cmac.specs.Cmac.{diversified}
use Rattle.tdes.specs.Triples.{three_key}
use Rattle.keyline.specs.Hex.{is_digit, bytes_at, hex_of}
use Rattle.keyline.specs.declared.line.LineFault.{LineFault}
use Rattle.keyline.specs.declared.line.LineFault.TheVariants.{Length, Character}

-- which characters may stand at a place, counted from 0
abbrev pub fits : ℕ → ℕ → Bool
fits place c = cond (place == 48) (c == 0x20) (is_digit c)

-- the first place, counted from 0, whose character may not stand there
abbrev pub misfit : List ℕ → Option ℕ
misfit line = position (λ placed. not (fits placed.0 placed.1)) (enumerate_from 0 line)

-- a refusal by case: its number, and its value
abbrev pub refusal : LineFault → ℕ × List ℕ
refusal (Length n) = (1, n ∷ [])
refusal (Character column) = (2, column ∷ [])

-- an answer by case: 0 and the characters made, or a refusal's number and value
abbrev pub answered : Result (List ℕ) LineFault → ℕ × List ℕ
answered (Ok text) = (0, text)
answered (Err fault) = refusal fault

-- two fields and the space between them
abbrev pub text_of : List ℕ → List ℕ → List ℕ
text_of id key = id ++ (0x20 ∷ key)

-- the diversified key of an ID under a master key for three-key triple DES
unfoldable pub card_key : List ℕ → List ℕ → List ℕ
card_key master id = diversified (three_key master) id

-- the ID and its diversified key, both in capital digits
abbrev pub derived_text : List ℕ → List ℕ
derived_text line =
    let id = bytes_at 16 line 49 in
    text_of (hex_of id) (hex_of (card_key (bytes_at 24 line 0) id))

abbrev pub unless_misfit : Option ℕ → ℕ × List ℕ → ℕ × List ℕ
unless_misfit (Some place) answer = (2, (place + 1) ∷ [])
unless_misfit None answer = answer

-- the answer to a line: its length is judged first, then its characters from the front
abbrev pub derived_line : List ℕ → ℕ × List ℕ
derived_line line = cond (length line == 81) (unless_misfit (misfit line) (0, derived_text line)) (1, length line ∷ [])
