-- Laws of bytes as a row of parts: how many there are, what each is, and that a put changes one of them.
use Rattle.std.specs.Prelude.{◌≡◌, ℕ, zero, suc, ◌+◌, ◌*◌, ◌/◌, ◌<◌, ◌≤◌, ◌≢◌, ◌⊎◌, List, [], ◌∷◌, ◌++◌, map, length, get_or, take, drop, Some, None, slice_index_or, slice_set, refl}
use Rattle.std.proofs.Common.{mul-le-mul_right, suc-mul, zero-mul, add-one, div-mul-le_self, arith, inl, inr, ⊎_elim, sym, ap, subst, ◌∙◌, rules}
use borrow.Rule.Slice.PartMut.{put_mid}
use Rattle.std.specs.List.{slice_get, range_with_len}
use Rattle.std.specs.Simd.{first_chunks}
use Rattle.std.proofs.lemmas.List.FromFn.{length-map-range_with_len, get_or-map-range_with_len}
use Rattle.std.proofs.lemmas.List.{ext_get_or, same_lists, places, set_past, length-set, length-take-le, length-drop, get_or-set_same, get_or-set_other, take_at, drop_at, drop-drop}
use Rattle.std.proofs.lemmas.Option.{slice_get-get_or, slice_get_past}
use Rattle.std.proofs.lemmas.Bool.{cases_eq, cases_lt, cases_order, le-ltb, lt-ltb, cond-true, cond-false}
use Rattle.memory.specs.Parts.{part, parts, part_put}

pub count_parts : (size : ℕ) (bytes : List ℕ) → length (parts size bytes) ≡ length bytes / size
unfolding parts
count_parts size bytes = length-map-range_with_len (part size bytes) 0 (length bytes / size)

pub part_at : (size : ℕ) (bytes : List ℕ) (n : ℕ) → n < length bytes / size → slice_index_or (parts size bytes) n [] ≡ part size bytes n
unfolding parts
part_at size bytes n h = get_or-map-range_with_len (part size bytes) 0 (length bytes / size) n n [] h (omega arith)

pub nth_part : (size : ℕ) (bytes : List ℕ) (n : ℕ) → n < length bytes / size → slice_get (parts size bytes) n ≡ Some (part size bytes n)
nth_part size bytes n h =
    slice_get-get_or (parts size bytes) n [] (rw count_parts h) ∙ ap Some (part_at size bytes n h)

pub nth_no_part : (size : ℕ) (bytes : List ℕ) (n : ℕ) → length bytes / size ≤ n → slice_get (parts size bytes) n ≡ None
nth_no_part size bytes n h = slice_get_past (parts size bytes) n (rw count_parts h)

-- the library's chunks of a slice are its parts
chunks_from : (size : ℕ) (bytes : List ℕ) (i k : ℕ) → first_chunks size k (drop (i * size) bytes) ≡ map (part size bytes) (range_with_len i k)
chunks_from size bytes i zero = refl
chunks_from size bytes i (suc k) =
    let next : drop size (drop (i * size) bytes) ≡ drop ((i + 1) * size) bytes = drop-drop size (i * size) bytes ∙ ap (λ j. drop j bytes) (rw (add-one, suc-mul) refl) in
    ap (λ rest. part size bytes i ∷ rest) (ap (first_chunks size k) next ∙ chunks_from size bytes (i + 1) k)

pub chunks_are_parts : (size : ℕ) (bytes : List ℕ) → first_chunks size (length bytes / size) bytes ≡ parts size bytes
unfolding parts
chunks_are_parts size bytes =
    ap (λ i. first_chunks size (length bytes / size) (drop i bytes)) (sym (zero-mul size)) ∙ chunks_from size bytes 0 (length bytes / size)

-- a part that counts ends within the bytes
pub part_ends : (size len n : ℕ) → n < len / size → n * size + size ≤ len
part_ends size len n h =
    omega (arith, mul-le-mul_right {m = suc n} {n = len / size} size h, suc-mul n size, div-mul-le_self len size)

pub length_part : (size : ℕ) (bytes : List ℕ) (n : ℕ) → n < length bytes / size → length (part size bytes n) ≡ size
length_part size bytes n h =
    length-take-le size (drop (n * size) bytes) (rw length-drop (omega (arith, part_ends size (length bytes) n h)))

-- what a put leaves, where there is such a part and where there is none
abbrev spliced : ℕ → List ℕ → ℕ → List ℕ → List ℕ
spliced size bytes n new = take (n * size) bytes ++ (new ++ drop (n * size + size) bytes)

pub put_within : (size : ℕ) (bytes : List ℕ) (n : ℕ) (new : List ℕ) → n < length bytes / size
    → part_put size bytes n new ≡ spliced size bytes n new
unfolding part_put
put_within size bytes n new h = cond-true _ _ _ (lt-ltb n (length bytes / size) h)

pub put_past : (size : ℕ) (bytes : List ℕ) (n : ℕ) (new : List ℕ) → length bytes / size ≤ n → part_put size bytes n new ≡ bytes
unfolding part_put
put_past size bytes n new h = cond-false _ _ _ (le-ltb n (length bytes / size) h)

-- two parts do not overlap
apart : (size k n : ℕ) → k ≢ n → (k * size + size ≤ n * size) ⊎ (n * size + size ≤ k * size)
apart size k n ne =
    ⊎_elim
    (λ e. absurd (ne e))
    (⊎_elim (λ l. inl (omega (arith, mul-le-mul_right {m = suc k} {n = n} size l, suc-mul k size))) (λ l. inr (omega (arith, mul-le-mul_right {m = suc n} {n = k} size l, suc-mul n size))))
    (cases_order k n)

length_spliced : (size : ℕ) (bytes : List ℕ) (n : ℕ) (new : List ℕ) → length new ≡ size → n * size + size ≤ length bytes
    → length (spliced size bytes n new) ≡ length bytes
length_spliced size bytes n new e h = search (rules, places)

same_part : (size : ℕ) (bytes : List ℕ) (n : ℕ) (new : List ℕ) (k : ℕ) → length new ≡ size
    → n * size + size ≤ length bytes → k * size + size ≤ length bytes → k ≢ n
    → part size (spliced size bytes n new) k ≡ part size bytes k
same_part size bytes n new k e h j ne =
    let far = apart size k n ne in
    same_lists _ _ (search (rules, places)) (λ i d l. grind (arith, places))

here : (size : ℕ) (bytes : List ℕ) (n : ℕ) (new : List ℕ) → length new ≡ size → n * size + size ≤ length bytes
    → part size (spliced size bytes n new) n ≡ new
here size bytes n new e h =
    ap (take size) (drop_at (take (n * size) bytes) (new ++ drop (n * size + size) bytes) (n * size) (length-take-le (n * size) bytes (omega arith)))
    ∙ take_at new (drop (n * size + size) bytes) size e

parts_put_within : (size : ℕ) (bytes : List ℕ) (n : ℕ) (new : List ℕ) → length new ≡ size → n < length bytes / size
    → parts size (spliced size bytes n new) ≡ slice_set (parts size bytes) n new
parts_put_within size bytes n new e h =
    let after : List ℕ = spliced size bytes n new in
    let fits = part_ends size (length bytes) n h in
    let len = length_spliced size bytes n new e fits in
    let count : length (parts size after) ≡ length (parts size bytes) = rw (count_parts size after, count_parts size bytes, len) refl in
    let Same : ℕ → Type 0 = λ k. slice_index_or (parts size after) k [] ≡ get_or (slice_set (parts size bytes) n new) k [] in
    ext_get_or [] (parts size after) (slice_set (parts size bytes) n new) (rw length-set count)
    (λ k j.
    let below : k < length bytes / size = omega (arith, count, count_parts size bytes) in
    let reads : get_or (parts size after) k [] ≡ part size after k = part_at size after k (rw len below) in
    ⊎_elim {C = Same k}
    (λ is. subst Same (sym is)
    (part_at size after n (rw len h) ∙ here size bytes n new e fits
    ∙ sym (get_or-set_same (parts size bytes) n new [] (rw count_parts h))))
    (λ ne. reads ∙ same_part size bytes n new k e fits (part_ends size (length bytes) k below) ne
    ∙ sym (part_at size bytes k below) ∙ sym (get_or-set_other (parts size bytes) n k new [] ne))
    (cases_eq k n))

-- a put changes one part and no other
pub parts_put : (size : ℕ) (bytes : List ℕ) (n : ℕ) (new : List ℕ) → length new ≡ size
    → parts size (part_put size bytes n new) ≡ slice_set (parts size bytes) n new
parts_put size bytes n new e =
    ⊎_elim {C = parts size (part_put size bytes n new) ≡ slice_set (parts size bytes) n new}
    (λ h. ap (parts size) (put_within size bytes n new h) ∙ parts_put_within size bytes n new e h)
    (λ h. ap (parts size) (put_past size bytes n new h) ∙ sym (set_past (parts size bytes) n new (rw count_parts h)))
    (cases_lt n (length bytes / size))

-- a part that is overwritten in a slice is a put
pub overwritten_is_put : (size : ℕ) (bytes : List ℕ) (n : ℕ) (new : List ℕ) (start k : ℕ) (part : List ℕ)
    → start ≡ n * size → k ≡ size → part ≡ new → n < length bytes / size → put_mid start k bytes part ≡ part_put size bytes n new
overwritten_is_put size bytes n new start k part at many same h =
    let rest = drop-drop size (n * size) bytes in let put = put_within size bytes n new h in cc
