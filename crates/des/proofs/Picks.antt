-- One bit more that a table picks.
use Rattle.std.proofs.Common.{◌≡◌, ℕ, ◌+◌, ◌*◌, ◌%◌, ◌^◌, ◌<◌, ◌≤◌, List, length, get_or, drop, sym, arith}
use Rattle.std.proofs.lemmas.List.{at_drop_more, at_drop_all}
use Rattle.std.proofs.lemmas.Grind.{common_steps}
use Rattle.std.proofs.lemmas.Nat.{pow-add}
use Rattle.des.specs.Des.{bit_at, picked_after}

pub picked_more : (w x a : ℕ) (ps : List ℕ) (i : ℕ) → i < length ps → picked_after w x (a * 2 + bit_at w x (get_or ps i 0)) (drop (i + 1) ps) ≡ picked_after w x a (drop i ps)
unfolding picked_after
picked_more w x a ps i h = sym (at_drop_more (picked_after w x a) ps i 0 h)

pub picked_all : (w x a : ℕ) (ps : List ℕ) (i : ℕ) → length ps ≤ i → picked_after w x a (drop i ps) ≡ a
unfolding picked_after
picked_all w x a ps i h = at_drop_all (picked_after w x a) ps i h

pub bit_more : (a y i : ℕ) → a < 2 ^ i → a * 2 + y % 2 < 2 ^ (i + 1)
bit_more a y i h = omega (arith, pow-add 2 i 1)

-- what the loop over a table's places needs
pub ruleset picking = (picked_more, picked_all, bit_more, common_steps)
