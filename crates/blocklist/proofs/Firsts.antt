-- What the reader of elements says of the bytes left to it.
use Rattle.std.proofs.Common.{◌≡◌, ℕ, ◌<◌, ◌≤◌, List, length, drop, Some, None, arith}
use Rattle.std.proofs.lemmas.Bool.Decides.{nat_tests}
use Rattle.blocklist.specs.declared.element.Element.{Element}
use Rattle.blocklist.specs.Elements.{width, element_of, first_element, after_first}

-- an element is read: it is whole, and the rest is what lies after it
pub record Found (bytes rest : List ℕ) (e : Element) (w : ℕ) : Type 0 where
  pub whole : width bytes ≤ length bytes
  pub is_first : e ≡ element_of bytes
  pub its_width : w ≡ width bytes
  pub leaves : rest ≡ drop (width bytes) bytes

pub found : (bytes rest : List ℕ) (e : Element) (w : ℕ) → Some (e, w) ≡ first_element bytes → rest ≡ after_first bytes → Found bytes rest e w
found bytes rest e w f r = grind (arith, nat_tests)

-- none is read: the first is not whole
pub none_found : (bytes : List ℕ) → None ≡ first_element bytes → length bytes < width bytes
none_found bytes f = grind (arith, nat_tests)
