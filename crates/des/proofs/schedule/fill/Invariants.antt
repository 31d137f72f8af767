use Rattle.std.proofs.Common.{◌≡◌, ◌++◌, length, take, drop}
use Rattle.des.specs.Tables.{left_shifts}
use Rattle.des.specs.Des.{scheduled}
use Rattle.des.proofs.schedule.fill.Given as goal

-- the round keys so far, and those that are left from x on
abbrev pub invariant-loop-i : goal.invariant-loop-i
invariant-loop-i l = record {
  filled : take l.i l.sheet ++ scheduled l.x.bits (drop l.i left_shifts) ≡ scheduled l.initial.x.bits left_shifts;
  long : length l.sheet ≡ 16;
}
