use Rattle.std.proofs.Common.{◌≡◌, ◌+◌, ◌*◌, length, drop, replicate}
use Rattle.mac.specs.Chain.{tagged}
use Rattle.reply.specs.Texts.{text_after, text_in}
use Rattle.card.specs.Sources.{reads_from}
use Rattle.card.proofs.show.text_shown.Given as goal

-- the blocks that are left give the whole text, and the sheet is clear
abbrev pub invariant-loop-number : goal.invariant-loop-number
invariant-loop-number g l =
    let m = g.C.Cipher in
    let R = reads_from l.source in
    let T = tagged (m.enciphered (m.key_bytes l.tagging.key)) l.tagging.start in
    (text_after R T (text_in l.text) (drop l.number-index l.numbers) ≡ text_after R T (text_in l.initial.text) l.numbers)
    × (length (text_in l.text) ≡ 1 + 2 * l.number-index)
    × (l.sheet ≡ replicate 16 0)
