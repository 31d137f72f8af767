use Rattle.std.proofs.Common.{ℕ, ◌≡◌, ◌+◌, ◌/◌, ◌%◌, ◌<◌, List, [], ◌∷◌, ◌++◌, length, refl, ap, ◌∙◌, mod-eq_of_lt, arith, length-append, rules}
use Rattle.frame.specs.Frames.{frame_of}
use Rattle.frame.proofs.Written.{written_more}
use Rattle.frame.proofs.frame.write_frame.Goals as goal

pub returns : goal.returns
unfolding frame_of
returns c =
    let n : ℕ = length c.args.packet.now in
    let head : List ℕ = 0 ∷ 0 ∷ 0 ∷ 0 ∷ 0 ∷ 0 ∷ 0xB2 ∷ 0x4D ∷ (n + 1) ∷ [] in
    let s : ℕ = c.frame_crc-crc.result in
    let f : s < 65536 = search rules in
    let crc : c.to_be_bytes.result ≡ s / 256 ∷ s % 256 ∷ [] = c.to_be_bytes.ensures ∙ ap (λ h. h ∷ s % 256 ∷ []) (mod-eq_of_lt (omega arith)) in
    let one = written_more c.args.memory.now c.args.at head c.args.packet.now (c.args.at + 9) refl (omega arith) in
    let two = written_more c.args.memory.now c.args.at (head ++ c.args.packet.now) (s / 256 ∷ s % 256 ∷ []) (c.args.at + 9 + n)
    (simp length-append (omega arith)) (simp length-append (omega arith)) in
    rw (c.put-3.ensures, crc, c.put-2.ensures, c.put.ensures, one, two, c.frame_crc-crc.ensures) refl
