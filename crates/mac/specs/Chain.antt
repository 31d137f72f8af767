-- Chained tags, for any block cipher E under a fixed key.
use Rattle.std.specs.Prelude.{ℕ, List, fold, reverse}
use Rattle.byte_arrays.specs.Blocks.{xored}

-- a chain at v takes eight text bytes t, turned round, to this
abbrev pub chain_step : (List ℕ → List ℕ) → List ℕ → List ℕ → List ℕ
chain_step E v t = E (xored v (reverse t))

-- the end of a chain at v over a text of groups of eight bytes
abbrev pub chained : (List ℕ → List ℕ) → List ℕ → List (List ℕ) → List ℕ
chained E v text = fold (chain_step E) v text

-- the tag of a text: the end of its chain, turned round
abbrev pub tagged : (List ℕ → List ℕ) → List ℕ → List (List ℕ) → List ℕ
tagged E start text = reverse (chained E start text)
