-- Whether two byte strings are the same.
use Rattle.std.specs.Prelude.{ℕ, Bool, List}
use Rattle.std.specs.Str.{bytes_eq}

unfoldable pub same_bytes : List ℕ → List ℕ → Bool
same_bytes a b = bytes_eq a b
