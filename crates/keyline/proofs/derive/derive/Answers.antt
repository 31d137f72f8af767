use Rattle.std.proofs.Common.{arith}
use Rattle.std.proofs.lemmas.Grind.{common_steps}
use Rattle.keyline.specs.Lines.{card_key}
use Rattle.keyline.proofs.derive.derive.Goals as goal

pub returns : goal.returns
unfolding card_key
returns c = grind (arith, common_steps)
