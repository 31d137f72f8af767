use Rattle.std.proofs.Common.{ℕ, ◌≡◌, ◌+◌, ◌++◌, ◌<◌, List, [], ◌∷◌, take, get_or, true, Some, Ok, refl, rules, arith, ap, ◌∙◌, sym, subst, append-nil}
use Rattle.std.proofs.Output.{has_written_append, has_written_of_eq}
use Rattle.std.proofs.lemmas.Fmt.{hex_byte}
use Rattle.std.proofs.lemmas.Grind.{flat_map-append}
use Rattle.std.proofs.lemmas.List.{take_more}
use Rattle.std.specs.Fmt.{DisplaysOnOk, HasWritten, styled_digits_output}
use Rattle.hex_digits.specs.Shown.{pair_of, shown}
use Rattle.hex_digits.proofs.shown.HexDisplay.fmt.Goals as goal

pub loop-byte-preserved : goal.loop-byte-preserved
loop-byte-preserved g c = λ plain.
    let bytes : List ℕ = c.args.self.now.0.now in
    let i : ℕ = c.loop-byte.byte-index in
    let byte : ℕ = get_or bytes i 0 in
    let h = c.loop-byte.invariant plain in
    let f : byte < 256 = search rules in
    let o : styled_digits_output c.in_radix.result c.laid_out.result ≡ Some (pair_of byte) = rw (c.laid_out.ensures, c.in_radix.ensures) (ap Some (hex_byte true byte f)) in
    let w : HasWritten g.W.Write.write_str_gives c.loop-byte.f (pair_of byte) c.write.new.self =
    subst (λ t. DisplaysOnOk g.W.Write.write_str_gives c.loop-byte.f (Ok tt) t c.write.new.self) o c.in_ok-write.ensures.writes h.plain refl in
    let e : shown (take i bytes) ++ pair_of byte ≡ shown (take (i + 1) bytes) =
    sym (ap shown (take_more bytes i 0 (omega arith)) ∙ flat_map-append pair_of (take i bytes) (byte ∷ []) ∙ ap (λ xs. shown (take i bytes) ++ xs) (append-nil (pair_of byte))) in
    has_written_of_eq _ _ _ _ _ e (has_written_append _ _ _ _ _ _ h w)
