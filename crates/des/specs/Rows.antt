-- Tests that the code's tables pass: computed once, they make a table's rule hold at each entry.
use Rattle.std.specs.Prelude.{ℕ, zero, suc, ◌+◌, ◌-◌, ◌*◌, ◌/◌, ◌%◌, ◌^◌, Bool, true, ◌&&◌, List, nat_eq, nat_le, nat_lt, slice_index}
use Rattle.std.specs.List.{list_all}
use Rattle.des.specs.Des.{boxed}

-- each place is one of a string of w bits
abbrev pub within : ℕ → List ℕ → Bool
within w ps = list_all (λ p. nat_lt 0 p && nat_le p w) ps

-- the test passes at each number below n
abbrev pub all_below : ℕ → (ℕ → Bool) → Bool
all_below zero test = true
all_below (suc n) test = test n && all_below n test

-- box n at six bits, from rows whose sixteen numbers are the digits of one hexadecimal number
abbrev pub digit_at : List ℕ → ℕ → ℕ → ℕ
digit_at rows n b = slice_index rows (n * 4 + (b / 32 * 2 + b % 2)) / 2 ^ (60 - b / 2 % 16 * 4) % 16

-- such rows are those of the eight boxes
abbrev pub hold_boxes : List ℕ → Bool
hold_boxes rows = all_below 8 (λ n. all_below 64 (λ b. nat_eq (digit_at rows n b) (boxed n b)))
