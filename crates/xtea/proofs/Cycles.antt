-- One XTEA cycle more, and none left.
use Rattle.std.proofs.Common.{◌≡◌, ℕ, suc, ◌+◌, ◌-◌, ◌*◌, ◌/◌, ◌%◌, ◌^◌, ◌<◌, ◌≤◌, List, get_or, arith}
use Rattle.xtea.specs.Xtea.{plus, half_cycle, cycles}

pub cycles_more : (k : List ℕ) (i n s a b t x y : ℕ) → i < n → t ≡ plus s 0x9e3779b9 → x ≡ half_cycle a b (get_or k (s % 4) 0) s → y ≡ half_cycle b x (get_or k (t / 2 ^ 11 % 4) 0) t → cycles k (n - (i + 1)) t x y ≡ cycles k (n - i) s a b
unfolding cycles
cycles_more k i n s a b t x y h et ex ey = let e : n - i ≡ suc (n - (i + 1)) = omega arith in rw e (simp (ey, ex, et))

pub cycles_none : (k : List ℕ) (i n s a b : ℕ) → n ≤ i → cycles k (n - i) s a b ≡ a * 2 ^ 32 + b
unfolding cycles
cycles_none k i n s a b h = let e : n - i ≡ 0 = omega arith in rw e
