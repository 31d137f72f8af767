-- One block more of a text, and none left.
use Rattle.std.proofs.Common.{◌≡◌, ℕ, ◌+◌, ◌<◌, ◌≤◌, cond, nat_le, List, ◌++◌, length, get_or, drop, sym, ap, ◌∙◌}
use Rattle.std.proofs.lemmas.Bool.{cond-true, le-leb}
use Rattle.std.proofs.lemmas.List.{at_drop_more, at_drop_all, length-append}
use Rattle.reply.specs.Texts.{Tagger, block_sent, halved, text_after}

pub text_more : (R : ℕ → List ℕ) (T : Tagger) (text next whole : List (List ℕ)) (block ns : List ℕ) (i : ℕ) → i < length ns → length text ≤ 7
    → block ≡ block_sent R T text (get_or ns i 0)
    → next ≡ cond (nat_le (length text) 7) (text ++ halved block) text
    → text_after R T text (drop i ns) ≡ whole
    → (text_after R T next (drop (i + 1) ns) ≡ whole) × (length next ≡ length text + 2)
unfolding text_after
text_more R T text next whole block ns i inside room sent added left =
    let longer = added ∙ cond-true _ _ _ (le-leb (length text) 7 room) in
    (rw (longer, sent) (sym (at_drop_more (text_after R T text) ns i 0 inside) ∙ left), ap length longer ∙ length-append text (halved block))

pub text_all : (R : ℕ → List ℕ) (T : Tagger) (text : List (List ℕ)) (ns : List ℕ) (i : ℕ) → length ns ≤ i → text_after R T text (drop i ns) ≡ text
unfolding text_after
text_all R T text ns i h = at_drop_all (text_after R T text) ns i h
