-- Runs of bytes written into memory.
use Rattle.std.proofs.Common.{◌≡◌, ℕ, ◌+◌, ◌≤◌, List, [], ◌++◌, length, take, drop, add-zero, arith, rules}
use Rattle.std.proofs.lemmas.List.{same_lists, places, take-append-drop, take_at, drop_at, length-take-le}
use Rattle.frame.specs.Memory.{written}

-- two writes, the second where the first ended, are one write of both runs
pub written_more : (m : List ℕ) (i : ℕ) (f g : List ℕ) (j : ℕ) → j ≡ i + length f → i + length f ≤ length m
    → written (written m i f) j g ≡ written m i (f ++ g)
unfolding written
written_more m i f g j e h = same_lists _ _ (search (rules, places)) (λ k d l. grind (arith, places))

-- nothing written keeps all
pub written_none : (m : List ℕ) (i : ℕ) → written m i [] ≡ m
unfolding written
written_none m i = simp add-zero (take-append-drop i m)

-- what was written is read at the same offset
pub written_back : (m : List ℕ) (i : ℕ) (f : List ℕ) (n : ℕ) → length f ≡ n → i ≤ length m → take n (drop i (written m i f)) ≡ f
unfolding written
written_back m i f n e h =
    let d = drop_at (take i m) (f ++ drop (i + length f) m) i (length-take-le i m h) in
    rw d (take_at f (drop (i + length f) m) n e)
