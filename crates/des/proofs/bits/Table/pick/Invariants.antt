use Rattle.std.proofs.Common.{◌≡◌, ◌^◌, ◌<◌, drop}
use Rattle.des.specs.Des.{picked, picked_after}
use Rattle.des.proofs.bits.Table.pick.Given as goal

abbrev pub invariant-loop-p : goal.invariant-loop-p
invariant-loop-p g l = (picked_after l.self.width l.x l.out (drop l.p-index l.self.places.now) ≡ picked l.self.width l.x l.self.places.now) × (l.out < 2 ^ l.p-index)
