use Rattle.std.proofs.Common.{rules, ◌∙◌, sym, bit_xor, arith}
use Rattle.std.proofs.lemmas.Grind.{same_number_lists}
use Rattle.std.proofs.lemmas.Simd.{length-zip2, get_or-zip2}
use Rattle.byte_arrays.proofs.blocks.xor8.Goals as goal

pub returns : goal.returns
returns c =
    let made = c.from_fn.ensures.items in
    same_number_lists _ _ (made.long ∙ sym (length-zip2 bit_xor c.args.a c.args.b.now (search rules) ∙ search rules)) (λ i h.
    let call = made.at i 0 (omega (arith, made.long)) in
    search (rules, get_or-zip2))
