-- The steps of the reader of a block list.
use Rattle.std.proofs.Common.{◌≡◌, ℕ, zero, suc, ◌+◌, ◌<◌, ◌≤◌, List, length, drop, Some, None, refl, ap, add-one, length-drop, arith}
use Rattle.std.proofs.lemmas.Bool.Decides.{nat_tests}
use Rattle.blocklist.specs.declared.element.Element.{Element}
use Rattle.blocklist.specs.Elements.{width, first_element, after_first}
use Rattle.blocklist.specs.Lists.{led_by, list_read}
use Rattle.blocklist.proofs.Firsts.{found, none_found}

pub read_none : (j : ℕ) (bytes : List ℕ) → j ≡ 0 → list_read j bytes ≡ (0, 0)
unfolding list_read
read_none j bytes e = rw e

pub read_stop : (j : ℕ) (bytes : List ℕ) → length bytes < width bytes → list_read j bytes ≡ (0, 0)
unfolding list_read
read_stop zero bytes h = refl
read_stop (suc j) bytes h = grind (arith, nat_tests)

pub read_more : (j m : ℕ) (bytes : List ℕ) → j ≡ m + 1 → width bytes ≤ length bytes
    → list_read j bytes ≡ led_by (width bytes) (list_read m (drop (width bytes) bytes))
unfolding list_read
read_more j m bytes e h = rw (e, add-one) (grind (arith, nat_tests))

-- the turn of a reader that finds an element: it takes some of the bytes, and the rest is read after it
pub record Turn (j m : ℕ) (bytes rest : List ℕ) (w : ℕ) : Type 0 where
  pub within : w + length rest ≡ length bytes
  pub count : (list_read j bytes).0 ≡ 1 + (list_read m rest).0
  pub taken : (list_read j bytes).1 ≡ w + (list_read m rest).1

pub turn : (j m : ℕ) (bytes rest : List ℕ) (e : Element) (w : ℕ) → j ≡ m + 1
    → Some (e, w) ≡ first_element bytes → rest ≡ after_first bytes → Turn j m bytes rest w
turn j m bytes rest e w n f r =
    let s = found bytes rest e w f r in
    let t : list_read j bytes ≡ led_by w (list_read m rest) = rw (read_more j m bytes n s.whole, s.leaves, s.its_width) in
    record {
      within = rw s.leaves (omega (arith, length-drop (width bytes) bytes, s.whole, s.its_width));
      count = ap (λ (p : ℕ × ℕ). p.0) t;
      taken = ap (λ (p : ℕ × ℕ). p.1) t;
    }

-- and of one that finds none, if it looks for one
pub read_ends : (j : ℕ) (bytes rest : List ℕ) → (0 < j → (None ≡ first_element bytes) × (rest ≡ after_first bytes))
    → list_read j bytes ≡ (0, 0)
read_ends zero bytes rest h = read_none zero bytes refl
read_ends (suc j) bytes rest h = read_stop (suc j) bytes (none_found bytes (h (omega arith)).0)
