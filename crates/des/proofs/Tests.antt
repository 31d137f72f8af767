-- What a computed test says at each number.
use Rattle.std.proofs.Common.{◌≡◌, ℕ, zero, suc, ◌<◌, Bool, true, false, ◌&&◌, T, eqb, List, sym, subst, inl, inr, le_of_suc-le-suc, eq-or-lt_of_le, arith, eqb→eq}
use Rattle.des.specs.Des.{boxed}
use Rattle.des.specs.Rows.{all_below, digit_at, hold_boxes}

both : (a b : Bool) → T (a && b) → T a × T b
both true b t = (tt, t)
both false b t = absurd t

pub all_at : (n : ℕ) (test : ℕ → Bool) → T (all_below n test) → (k : ℕ) → k < n → T (test k)
all_at zero test t k h = absurd (omega arith)
all_at (suc n) test t k h =
    let ts = both (test n) (all_below n test) t in
    elim (eq-or-lt_of_le (le_of_suc-le-suc h)) [
      | inl e ↦ subst (λ (m : ℕ). T (test m)) (sym e) ts.0
      | inr l ↦ all_at n test ts.1 k l
    ]

-- rows that pass the test give each box at each six bits
pub box_digit : (rows : List ℕ) → T (hold_boxes rows) → (n b : ℕ) → n < 8 → b < 64 → digit_at rows n b ≡ boxed n b
box_digit rows t n b hn hb =
    eqb→eq (digit_at rows n b) (boxed n b)
    (all_at 64 (λ c. eqb (digit_at rows n c) (boxed n c))
    (all_at 8 (λ m. all_below 64 (λ c. eqb (digit_at rows m c) (boxed m c))) t n hn) b hb)
