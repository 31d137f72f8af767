-- Memory that frames are written into.
use Rattle.std.specs.Prelude.{ℕ, ◌+◌, List, ◌++◌, length, take, drop}

-- memory after a run of bytes is written at an offset: all other bytes are as they were
unfoldable pub written : List ℕ → ℕ → List ℕ → List ℕ
written memory at run = take at memory ++ (run ++ drop (at + length run) memory)
