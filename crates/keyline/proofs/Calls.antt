-- What array::from_fn and an array's map made, where each call gives what a function gives.
use Rattle.std.proofs.Common.{◌≡◌, ℕ, zero, suc, ◌+◌, ◌<◌, ◌≤◌, List, length, get_or, map, subst, sym, ◌∙◌, inl, inr, arith}
use Rattle.std.proofs.lemmas.Bool.{cases_eq}
use Rattle.std.proofs.lemmas.List.{same_lists, get_or-map, length-map}
use Rattle.std.proofs.lemmas.List.FromFn.{fill_by_all}
use Rattle.std.specs.Array.{IsFromFnResult, IsFromFnResultFrom, IsMapOf}
use Rattle.std.specs.Fn.{Called, Mut}
use Rattle.std.specs.List.{range_with_len}

made_from : {F : Type 0} (g : Mut F (ℕ × Unit {0}) ℕ) (h : ℕ → ℕ) (f : F) → ((i y : ℕ) (q : F) → Called g f (i, tt) y q → (y ≡ h i) × (q ≡ f))
    → (n i : ℕ) (ys : List ℕ) → IsFromFnResultFrom g f ys i n → (k : ℕ) → i ≤ k → k < i + n → get_or ys k 0 ≡ h k
made_from g h f calls zero i ys made k l m = absurd (omega arith)
made_from g h f calls (suc n) i ys (q, y, at, call, rest) k l m =
    let one = calls i y q call in
    let later : IsFromFnResultFrom g f ys (i + 1) n = subst (λ p. IsFromFnResultFrom g p ys (i + 1) n) one.1 rest in
    elim (cases_eq i k) [ inl e ↦ subst (λ j. get_or ys j 0 ≡ h j) e (at.1 0 ∙ one.0) | inr e ↦ made_from g h f calls n (i + 1) ys later k (omega arith) (omega arith) ]

-- where each call leaves the closure as it is
pub from_fn_same : {F : Type 0} {g : Mut F (ℕ × Unit {0}) ℕ} {f : F} {ys : List ℕ} {n : ℕ} (h : ℕ → ℕ) → IsFromFnResult g f ys n
    → ((i y : ℕ) (q : F) → Called g f (i, tt) y q → (y ≡ h i) × (q ≡ f)) → ys ≡ map h (range_with_len 0 n)
from_fn_same {F} {g} {f} {ys} {n} h made calls = fill_by_all h ys n 0 made.long (λ k l. made_from g h f calls n 0 ys made.each k (omega arith) (omega arith))

-- where what each call gives follows from its argument alone
pub map_same : {F A B : Type 0} {g : Mut F (A × Unit {0}) B} {f : F} {xs : List A} {ys : List B} {n : ℕ} (h : A → B) (a : A) → IsMapOf g f xs ys n → length xs ≡ n
    → ((p : F) (x : A) (y : B) (q : F) → Called g p (x, tt) y q → y ≡ h x) → ys ≡ map h xs
map_same {F} {A} {B} {g} {f} {xs} {ys} {n} h a made long calls =
    same_lists ys (map h xs) (made.long ∙ sym long ∙ sym (length-map xs h)) (λ k b l.
    let below : k < n = omega (arith, made.long) in
    let called = made.at k a b below in
    calls called.0 _ _ called.1 called.2 ∙ sym (get_or-map h xs k a b (omega (arith, long))))
