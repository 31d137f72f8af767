use Rattle.std.proofs.Common.{rules}
use Rattle.std.proofs.lemmas.List.{take_rest}
use Rattle.cmac.proofs.Chunks.{take-first_chunks}
use Rattle.cmac.proofs.message.cmac.Goals as goal

pub returns-clause-value : goal.returns-clause-value
returns-clause-value g c = search (rules, take_rest, take-first_chunks)
