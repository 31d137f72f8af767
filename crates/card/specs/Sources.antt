-- What the blocks of a hopper are read from, as the code holds it.
use Rattle.std.specs.Prelude.{ℕ, List}
use Rattle.hopper.specs.ReadsAs.{reads_as}
use Rattle.card.specs.declared.show.Source.{Source}

abbrev pub reads_from : Source → ℕ → List ℕ
reads_from s b = reads_as s.cells.now s.view.now s.session.now b
