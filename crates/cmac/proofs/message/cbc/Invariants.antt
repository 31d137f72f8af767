use Rattle.std.proofs.Common.{◌≡◌, take, replicate}
use Rattle.cmac.specs.Cmac.{chained}
use Rattle.cmac.proofs.message.cbc.Given as goal

-- the blocks so far have brought the chain here, and the sheet is clear
abbrev pub invariant-loop-block : goal.invariant-loop-block
invariant-loop-block g l =
    let m = g.C.Cipher in
    let E = m.enciphered (m.key_bytes l.fn.key) in
    record { value : l.c ≡ chained E l.initial.c (take l.block-index l.blocks); wiped : l.sheet ≡ replicate 16 0 }
