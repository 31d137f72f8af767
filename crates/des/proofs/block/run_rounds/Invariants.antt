use Rattle.std.proofs.Common.{◌≡◌, drop}
use Rattle.des.specs.Des.{rounds}
use Rattle.des.proofs.block.run_rounds.Given as goal

abbrev pub invariant-loop-key : goal.invariant-loop-key
invariant-loop-key l = rounds l.l l.r (drop l.key-index l.keys) ≡ rounds l.initial.l l.initial.r l.keys
