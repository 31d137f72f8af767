-- One round more, and one round key more.
use Rattle.std.proofs.Common.{◌≡◌, ℕ, ◌+◌, ◌*◌, ◌^◌, ◌<◌, ◌≤◌, List, [], ◌∷◌, length, get_or, drop, bit_xor}
use Rattle.std.proofs.lemmas.List.{at_drop_more, at_drop_all}
use Rattle.std.proofs.lemmas.Grind.{common_steps}
use Rattle.des.specs.Tables.{permuted_choice_2}
use Rattle.des.specs.Des.{picked, shifted, scheduled, cipher_function, rounds}

pub rounds_more : (l r : ℕ) (ks : List ℕ) (i : ℕ) → i < length ks → rounds l r (drop i ks) ≡ rounds r (bit_xor l (cipher_function r (get_or ks i 0))) (drop (i + 1) ks)
unfolding rounds
rounds_more l r ks i h = at_drop_more (rounds l r) ks i 0 h

pub rounds_all : (l r : ℕ) (ks : List ℕ) (i : ℕ) → length ks ≤ i → rounds l r (drop i ks) ≡ r * 2 ^ 32 + l
unfolding rounds
rounds_all l r ks i h = at_drop_all (rounds l r) ks i h

pub ruleset rounding = (rounds_more, rounds_all)

pub scheduled_more : (x : ℕ) (ss : List ℕ) (i : ℕ) → i < length ss → scheduled x (drop i ss) ≡ picked 56 (shifted (get_or ss i 0) x) permuted_choice_2 ∷ scheduled (shifted (get_or ss i 0) x) (drop (i + 1) ss)
unfolding scheduled
scheduled_more x ss i h = at_drop_more (scheduled x) ss i 0 h

pub scheduled_all : (x : ℕ) (ss : List ℕ) (i : ℕ) → length ss ≤ i → scheduled x (drop i ss) ≡ []
unfolding scheduled
scheduled_all x ss i h = at_drop_all (scheduled x) ss i h

pub ruleset scheduling = (scheduled_more, scheduled_all, common_steps)
