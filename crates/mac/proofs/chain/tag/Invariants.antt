use Rattle.std.proofs.Common.{◌≡◌, take, replicate}
use Rattle.mac.specs.Chain.{chained}
use Rattle.mac.proofs.chain.tag.Given as goal

-- the groups so far have brought the chain here, and the sheet is clear
abbrev pub invariant-loop-t : goal.invariant-loop-t
invariant-loop-t g l =
    let m = g.C.Cipher in
    let E = m.enciphered (m.key_bytes l.fn.key) in
    record { value : l.v ≡ chained E l.initial.v (take l.t-index l.text); wiped : l.sheet ≡ replicate 16 0 }
