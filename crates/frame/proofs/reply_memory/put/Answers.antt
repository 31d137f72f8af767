use Rattle.std.proofs.Common.{arith, rules}
use Rattle.std.proofs.lemmas.List.{same_lists, places}
use Rattle.frame.specs.Memory.{written}
use Rattle.frame.proofs.reply_memory.put.Goals as goal

pub returns : goal.returns
unfolding written
returns c = same_lists _ _ (search (rules, places)) (λ k d h. grind (arith, places))
