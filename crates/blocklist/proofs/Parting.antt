-- The laws of block lists: what is read of a list does not depend on the bytes after it.
use Rattle.std.proofs.Common.{◌≡◌, ℕ, zero, suc, ◌+◌, ◌-◌, ◌*◌, ◌<◌, ◌≤◌, true, cond, ltb, List, [], ◌∷◌, ◌++◌, length, take, drop, Ok, Err, Result, sym, refl, ap, ◌∙◌, ⊎_elim, arith}
use Rattle.std.proofs.lemmas.Bool.Decides.{nat_tests}
use Rattle.std.proofs.lemmas.Bool.{cases_lt, and_parts, and_from, eqb-true, eq-eqb}
use Rattle.std.proofs.lemmas.List.{length-append, length-take, length-drop, length-take-le, get_or_append_left, get_or-take, drop-append-le, drop-take}
use Rattle.blocklist.specs.declared.element.Element.{Element}
use Rattle.blocklist.specs.declared.fault.Fault.{Fault}
use Rattle.blocklist.specs.Elements.{width, named, elements, before, all_named, blocks_named}
use Rattle.blocklist.specs.Lists.{list_read, read_exact, write_exact}
use Rattle.blocklist.proofs.Reading.{read_none, read_stop, read_more}
use Rattle.blocklist.proofs.Naming.{elements_none, elements_stop, elements_more}

width_low : (bytes : List ℕ) → 2 ≤ width bytes
width_low bytes = grind (arith, nat_tests)

-- what is read, part by part
record Read (n : ℕ) (bytes : List ℕ) (count taken : ℕ) : Type 0 where
  count_is : (list_read n bytes).0 ≡ count
  taken_is : (list_read n bytes).1 ≡ taken

parts : (n : ℕ) (bytes : List ℕ) (c t : ℕ) → list_read n bytes ≡ (c, t) → Read n bytes c t
parts n bytes c t e = record { count_is = ap (λ (p : ℕ × ℕ). p.0) e; taken_is = ap (λ (p : ℕ × ℕ). p.1) e }

zero_read : (bytes : List ℕ) → Read zero bytes 0 0
zero_read bytes = parts zero bytes 0 0 (read_none zero bytes refl)

stop_read : (n : ℕ) (bytes : List ℕ) → length bytes < width bytes → Read n bytes 0 0
stop_read n bytes h = parts n bytes 0 0 (read_stop n bytes h)

more_read : (n : ℕ) (bytes : List ℕ) → width bytes ≤ length bytes
    → Read (suc n) bytes (1 + (list_read n (drop (width bytes) bytes)).0) (width bytes + (list_read n (drop (width bytes) bytes)).1)
more_read n bytes h = parts (suc n) bytes _ _ (read_more (suc n) n bytes (omega arith) h)

-- a reader takes no more than there is
read_within : (n : ℕ) (bytes : List ℕ) → (list_read n bytes).1 ≤ length bytes
read_within zero bytes = let z = zero_read bytes in omega arith
read_within (suc n) bytes = ⊎_elim
    (λ h. let z = stop_read (suc n) bytes h in omega arith)
    (λ h. let z = more_read n bytes h in
    let i = read_within n (drop (width bytes) bytes) in
    omega (arith, length-drop (width bytes) bytes))
    (cases_lt (length bytes) (width bytes))

-- the first element of a list is that of the list and what follows it
width-append : (list more : List ℕ) → width list ≤ length list → width (list ++ more) ≡ width list
width-append list more h =
    let l = width_low list in
    ap (λ x. cond (ltb x 128) 3 2) (get_or_append_left list more 0 0 (omega arith))

width-take : (n : ℕ) (bytes : List ℕ) → 0 < n → width (take n bytes) ≡ width bytes
width-take n bytes h = ap (λ x. cond (ltb x 128) 3 2) (get_or-take n bytes 0 0 h)

-- a list that is read whole is read so before other bytes
read_before : (n : ℕ) (list more : List ℕ) → Read n list n (length list) → Read n (list ++ more) n (length list)
read_before zero list more r =
    let a = zero_read list in
    let z = zero_read (list ++ more) in
    record { count_is = z.count_is; taken_is = omega arith }
read_before (suc n) list more r = ⊎_elim
    (λ h. let z = stop_read (suc n) list h in absurd (omega arith))
    (λ h.
    let z = more_read n list h in
    let d = length-drop (width list) list in
    let i = read_before n (drop (width list) list) more (record { count_is = omega arith; taken_is = omega arith }) in
    let w = width-append list more h in
    let e : drop (width (list ++ more)) (list ++ more) ≡ drop (width list) list ++ more =
    ap (λ k. drop k (list ++ more)) w ∙ drop-append-le (width list) list more h in
    let y = more_read n (list ++ more) (omega (arith, length-append list more)) in
    let p = ap (λ (bs : List ℕ). (list_read n bs).0) e in
    let q = ap (λ (bs : List ℕ). (list_read n bs).1) e in
    record { count_is = omega arith; taken_is = omega arith })
    (cases_lt (length list) (width list))

-- and so are the bytes that a reader took
read_taken : (n : ℕ) (bytes : List ℕ)
    → Read n (take (list_read n bytes).1 bytes) (list_read n bytes).0 (list_read n bytes).1
read_taken zero bytes =
    let a = zero_read bytes in
    let z = zero_read (take (list_read zero bytes).1 bytes) in
    record { count_is = omega arith; taken_is = omega arith }
read_taken (suc n) bytes = ⊎_elim
    (λ h.
    let a = stop_read (suc n) bytes h in
    let t = width_low (take (list_read (suc n) bytes).1 bytes) in
    let l = length-take (list_read (suc n) bytes).1 bytes in
    let z = stop_read (suc n) (take (list_read (suc n) bytes).1 bytes) (omega arith) in
    record { count_is = omega arith; taken_is = omega arith })
    (λ h.
    let a = more_read n bytes h in
    let rest : List ℕ = drop (width bytes) bytes in
    let k : ℕ = (list_read n rest).1 in
    let i = read_taken n rest in
    let b = read_within n rest in
    let lo = width_low bytes in
    let d = length-drop (width bytes) bytes in
    let w = width-take (width bytes + k) bytes (omega arith) in
    let l = length-take-le (width bytes + k) bytes (omega arith) in
    let e : drop (width (take (width bytes + k) bytes)) (take (width bytes + k) bytes) ≡ take k rest =
    ap (λ j. drop j (take (width bytes + k) bytes)) w ∙ drop-take (width bytes) k bytes in
    let y = more_read n (take (width bytes + k) bytes) (omega arith) in
    let p = ap (λ (bs : List ℕ). (list_read n bs).0) e in
    let q = ap (λ (bs : List ℕ). (list_read n bs).1) e in
    let same = ap (λ j. (list_read (suc n) (take j bytes)).0) a.taken_is in
    let same' = ap (λ j. (list_read (suc n) (take j bytes)).1) a.taken_is in
    record { count_is = omega arith; taken_is = omega arith })
    (cases_lt (length bytes) (width bytes))

-- tests of exact lengths, and what they say
exact_read : (count : ℕ) (list : List ℕ) → read_exact count list ≡ true → Read count list count (length list)
exact_read count list e =
    let p = and_parts _ _ e in
    record { count_is = eqb-true _ _ p.0; taken_is = eqb-true _ _ p.1 }

pub lists_with_data : (count : ℕ) (list payload : List ℕ) → read_exact count list ≡ true → length payload ≡ 16 * count
    → (write_exact count (list ++ payload) ≡ true) × ((list_read count (list ++ payload)).1 ≡ length list)
lists_with_data count list payload e l =
    let r = read_before count list payload (exact_read count list e) in
    let n = length-append list payload in
    (and_from _ _ (eq-eqb _ _ r.count_is) (eq-eqb _ _ (omega arith)), r.taken_is)

pub writes_parted : (count : ℕ) (bytes : List ℕ) → write_exact count bytes ≡ true
    → (read_exact count (take (list_read count bytes).1 bytes) ≡ true)
    × (length (drop (list_read count bytes).1 bytes) ≡ 16 * count)
writes_parted count bytes e =
    let p = and_parts _ _ e in
    let a = eqb-true _ _ p.0 in
    let b = eqb-true _ _ p.1 in
    let t = read_taken count bytes in
    let l = length-take-le (list_read count bytes).1 bytes (read_within count bytes) in
    let d = length-drop (list_read count bytes).1 bytes in
    (and_from _ _ (eq-eqb _ _ (t.count_is ∙ a)) (eq-eqb _ _ (t.taken_is ∙ sym l)), omega arith)

-- elements are as many as the reader counts
count_elements : (n : ℕ) (bytes : List ℕ) → length (elements n bytes) ≡ (list_read n bytes).0
count_elements zero bytes = let z = zero_read bytes in let e = ap length (elements_none zero bytes refl) in omega arith
count_elements (suc n) bytes = ⊎_elim
    (λ h. let z = stop_read (suc n) bytes h in let e = ap length (elements_stop (suc n) bytes h) in omega arith)
    (λ h.
    let z = more_read n bytes h in
    let e = ap length (elements_more (suc n) n bytes (omega arith) h) in
    let i = count_elements n (drop (width bytes) bytes) in
    omega arith)
    (cases_lt (length bytes) (width bytes))

-- nothing follows a list that is read whole
read_on : (n k : ℕ) (list : List ℕ) → Read n list n (length list) → (list_read (n + k) list).0 ≡ n
read_on zero k list r =
    let a = zero_read list in
    let t = width_low list in
    (stop_read (zero + k) list (omega arith)).count_is
read_on (suc n) k list r = ⊎_elim
    (λ h. let z = stop_read (suc n) list h in absurd (omega arith))
    (λ h.
    let z = more_read n list h in
    let d = length-drop (width list) list in
    let i = read_on n k (drop (width list) list) (record { count_is = omega arith; taken_is = omega arith }) in
    let y = ap (λ (p : ℕ × ℕ). p.0) (read_more (suc n + k) (n + k) list (omega arith) h) in
    omega arith)
    (cases_lt (length list) (width list))

-- elements that are not refused name one block each
one_more : (a : Result ℕ Fault) (r : Result (List ℕ) Fault) (bs : List ℕ) (n : ℕ)
    → ((cs : List ℕ) → r ≡ Ok cs → length cs ≡ n) → before a r ≡ Ok bs → length bs ≡ n + 1
one_more (Ok b) (Ok cs) bs n i e =
    let l = i cs refl in
    let m : b ∷ cs ≡ bs = cc in
    let q = ap length m in
    omega arith
one_more (Ok b) (Err f) bs n i e = absurd (let z : ◌≡◌ {A = ℕ} 0 1 = cc in omega arith)
one_more (Err f) r bs n i e = absurd (let z : ◌≡◌ {A = ℕ} 0 1 = cc in omega arith)

count_named : (index : ℕ) (es : List Element) (bs : List ℕ) → all_named index es ≡ Ok bs → length bs ≡ length es
unfolding all_named
count_named index [] bs e = let m : [] ≡ bs = cc in let q = ap length m in omega arith
count_named index (x ∷ es) bs e =
    let l = one_more (named index x) (all_named (index + 1) es) bs (length es) (count_named (index + 1) es) e in
    omega arith

pub names_all : (count : ℕ) (list blocks : List ℕ) → count ≤ 4 → read_exact count list ≡ true → blocks_named list ≡ Ok blocks
    → length blocks ≡ count
names_all count list blocks h e b =
    let l = count_named 0 (elements 4 list) blocks b in
    let c = count_elements 4 list in
    let r = read_on count (4 - count) list (exact_read count list e) in
    let four : count + (4 - count) ≡ 4 = omega arith in
    let s = ap (λ n. (list_read n list).0) four in
    omega arith
