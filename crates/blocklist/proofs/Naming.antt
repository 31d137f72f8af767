-- The steps of the reader of block numbers.
use Rattle.std.proofs.Common.{◌≡◌, ℕ, zero, suc, ◌+◌, ◌<◌, ◌≤◌, List, [], ◌∷◌, ◌++◌, length, drop, Some, None, Ok, Err, Result, sym, refl, ap, append_assoc, append-nil, add-one, arith}
use Rattle.std.proofs.lemmas.Bool.Decides.{nat_tests}
use Rattle.blocklist.specs.declared.element.Element.{Element}
use Rattle.blocklist.specs.declared.fault.Fault.{Fault}
use Rattle.blocklist.specs.Elements.{width, element_of, first_element, after_first, named, elements, before, all_named}
use Rattle.blocklist.proofs.Firsts.{found, none_found}

-- known numbers before those of an answer
abbrev pub after_known : List ℕ → Result (List ℕ) Fault → Result (List ℕ) Fault
after_known known (Ok blocks) = Ok (known ++ blocks)
after_known known (Err fault) = Err fault

pub elements_none : (j : ℕ) (bytes : List ℕ) → j ≡ 0 → elements j bytes ≡ []
unfolding elements
elements_none j bytes e = rw e

pub elements_stop : (j : ℕ) (bytes : List ℕ) → length bytes < width bytes → elements j bytes ≡ []
unfolding elements
elements_stop zero bytes h = refl
elements_stop (suc j) bytes h = grind (arith, nat_tests)

pub elements_more : (j m : ℕ) (bytes : List ℕ) → j ≡ m + 1 → width bytes ≤ length bytes
    → elements j bytes ≡ element_of bytes ∷ elements m (drop (width bytes) bytes)
unfolding elements
elements_more j m bytes e h = rw (e, add-one) (grind (arith, nat_tests))

elements_found : (j m : ℕ) (bytes rest : List ℕ) (e : Element) (w : ℕ) → j ≡ m + 1
    → Some (e, w) ≡ first_element bytes → rest ≡ after_first bytes → elements j bytes ≡ e ∷ elements m rest
elements_found j m bytes rest e w n f r =
    let s = found bytes rest e w f r in
    rw (elements_more j m bytes n s.whole, s.is_first, s.leaves)

-- one number more is known
shifted : (known : List ℕ) (block : ℕ) (rest : Result (List ℕ) Fault)
    → after_known known (before (Ok block) rest) ≡ after_known (known ++ block ∷ []) rest
shifted known block (Ok blocks) = ap Ok (sym (append_assoc known (block ∷ []) blocks))
shifted known block (Err fault) = refl

end_known : (known : List ℕ) (index : ℕ) → after_known known (all_named index []) ≡ Ok known
unfolding all_named
end_known known index = ap Ok (append-nil known)

-- all that the list has is known
pub names_end : (known bytes : List ℕ) (index j : ℕ) → j ≡ 0 → after_known known (all_named index (elements j bytes)) ≡ Ok known
names_end known bytes index j e = rw (elements_none j bytes e) (end_known known index)

-- no element follows
pub names_stop : (known bytes : List ℕ) (index j : ℕ) → None ≡ first_element bytes
    → after_known known (all_named index (elements j bytes)) ≡ Ok known
names_stop known bytes index j f = rw (elements_stop j bytes (none_found bytes f)) (end_known known index)

-- an element that names a block
pub names_more : (known bytes rest : List ℕ) (index j m : ℕ) (e : Element) (w b : ℕ) → j ≡ m + 1
    → Some (e, w) ≡ first_element bytes → rest ≡ after_first bytes → Ok b ≡ named index e
    → after_known known (all_named index (elements j bytes)) ≡ after_known (known ++ b ∷ []) (all_named (index + 1) (elements m rest))
unfolding all_named
names_more known bytes rest index j m e w b n f r h =
    rw (elements_found j m bytes rest e w n f r, ← h) (shifted known b (all_named (index + 1) (elements m rest)))

-- an element that is refused
pub names_fault : (known bytes rest : List ℕ) (index j m : ℕ) (e : Element) (w : ℕ) (x : Fault) → j ≡ m + 1
    → Some (e, w) ≡ first_element bytes → rest ≡ after_first bytes → Err x ≡ named index e
    → after_known known (all_named index (elements j bytes)) ≡ Err x
unfolding all_named
names_fault known bytes rest index j m e w x n f r h = rw (elements_found j m bytes rest e w n f r, ← h)
