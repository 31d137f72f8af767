use Rattle.std.proofs.Common.{◌≡◌, ◌-◌}
use Rattle.xtea.specs.Xtea.{cycles}
use Rattle.xtea.proofs.run.Given as goal

-- the cycles that are left give the result
abbrev pub invariant-loop : goal.invariant-loop
invariant-loop l = cycles l.keys (32 - l.counter) l.sum l.a l.b ≡ cycles l.keys 32 0 l.initial.a l.initial.b
