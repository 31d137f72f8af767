-- The first of a list's first chunks.
use Rattle.std.proofs.Common.{◌≡◌, ℕ, zero, suc, ◌≤◌, List, ◌∷◌, take, drop, refl, ap, arith}
use Rattle.std.specs.Simd.{first_chunks}

pub take-first_chunks : (size n k : ℕ) (xs : List ℕ) → n ≤ k → take n (first_chunks size k xs) ≡ first_chunks size n xs
take-first_chunks size zero k xs h = refl
take-first_chunks size (suc n) zero xs h = absurd (omega arith)
take-first_chunks size (suc n) (suc k) xs h = ap (λ rest. take size xs ∷ rest) (take-first_chunks size n k (drop size xs) (omega arith))
