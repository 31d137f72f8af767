-- The proofs of the laws of frames.
use Rattle.std.proofs.Common.{◌≡◌, ℕ, ◌+◌, ◌-◌, ◌/◌, ◌%◌, ◌<◌, ◌≤◌, Bool, true, false, cond, if◌then◌else◌, eqb, ap₂, length-drop, get_or-drop, List, [], ◌∷◌, ◌++◌, length, get_or, take, drop, Some, None, sym, refl, ap, ◌∙◌, add-one, mod-eq_of_lt, arith, length-append, rules}
use Rattle.std.proofs.lemmas.List.{places, take-append-drop, drop_more, drop_all, drop-drop, take_at, get_or_at, get_or-append-add}
use Rattle.std.proofs.lemmas.Bool.Decides.{nat_tests}
use Rattle.std.proofs.lemmas.Bool.{and_parts, eqb-true, leb-true}
use Rattle.std.specs.List.{between}
use Rattle.std.specs.Cmp.Lexicographic.{pointwise}
use Rattle.crc.specs.Crc.{crc_of}
use Rattle.frame.specs.Memory.{written}
use Rattle.frame.proofs.Written.{written_back}
use Rattle.frame.specs.Frames.{frame_of, covered, framed, opens_frame, unframed}

-- what a frame shows at its places
pub length-frame : (p : List ℕ) → length (frame_of p) ≡ length p + 11
unfolding frame_of
length-frame p = simp length-append (omega arith)

-- what bytes that are a frame show
pub record Shows (s : List ℕ) : Type 0 where
  pub low : 11 ≤ length s
  pub high : length s ≤ 265
  pub b0 : get_or s 0 0 ≡ 0
  pub b1 : get_or s 1 0 ≡ 0
  pub b2 : get_or s 2 0 ≡ 0
  pub b3 : get_or s 3 0 ≡ 0
  pub b4 : get_or s 4 0 ≡ 0
  pub b5 : get_or s 5 0 ≡ 0
  pub b6 : get_or s 6 0 ≡ 0xB2
  pub b7 : get_or s 7 0 ≡ 0x4D
  pub len : get_or s 8 0 ≡ length s - 10
  pub crc_high : get_or s (length s - 2) 0 ≡ crc_of (between 8 (length s - 2) s) / 256
  pub crc_low : get_or s (length s - 1) 0 ≡ crc_of (between 8 (length s - 2) s) % 256

pub shows : (s : List ℕ) → framed s ≡ true → Shows s
shows s e =
    let p0 = and_parts _ _ e in let p1 = and_parts _ _ p0.0 in let p2 = and_parts _ _ p1.0 in let p3 = and_parts _ _ p2.0 in
    let p4 = and_parts _ _ p3.0 in
    let q7 = and_parts _ _ p3.1 in let q6 = and_parts _ _ q7.0 in let q5 = and_parts _ _ q6.0 in let q4 = and_parts _ _ q5.0 in
    let q3 = and_parts _ _ q4.0 in let q2 = and_parts _ _ q3.0 in let q1 = and_parts _ _ q2.0 in let q0 = and_parts _ _ q1.0 in
    record {
      low = leb-true _ _ p4.0;
      high = leb-true _ _ p4.1;
      b0 = eqb-true _ _ q0.1;
      b1 = eqb-true _ _ q1.1;
      b2 = eqb-true _ _ q2.1;
      b3 = eqb-true _ _ q3.1;
      b4 = eqb-true _ _ q4.1;
      b5 = eqb-true _ _ q5.1;
      b6 = eqb-true _ _ q6.1;
      b7 = eqb-true _ _ q7.1;
      len = eqb-true _ _ p2.1;
      crc_high = eqb-true _ _ p1.1;
      crc_low = eqb-true _ _ p0.1;
    }

pub framed_from : (s : List ℕ) → Shows s → framed s ≡ true
framed_from s h = grind (arith, nat_tests)

-- the parts of a frame
taken : (p : List ℕ) → take (length p) (drop 9 (frame_of p)) ≡ p
unfolding frame_of
taken p = take_at p _ (length p) refl

taken_covered : (p : List ℕ) → take (length (covered p)) (drop 8 (frame_of p)) ≡ covered p
unfolding frame_of
taken_covered p = take_at (covered p) _ (length (covered p)) refl

pub middle_back : (p : List ℕ) → between 9 (length (frame_of p) - 2) (frame_of p) ≡ p
middle_back p = let n : length (frame_of p) - 2 - 9 ≡ length p = omega (arith, length-frame p) in simp n (taken p)

pub covered_back : (p : List ℕ) → between 8 (length (frame_of p) - 2) (frame_of p) ≡ covered p
covered_back p = let n : length (frame_of p) - 2 - 8 ≡ length (covered p) = omega (arith, length-frame p) in simp n (taken_covered p)

heads : (p : List ℕ) → (get_or (frame_of p) 0 0 ≡ 0) × (get_or (frame_of p) 1 0 ≡ 0) × (get_or (frame_of p) 2 0 ≡ 0) × (get_or (frame_of p) 3 0 ≡ 0)
    × (get_or (frame_of p) 4 0 ≡ 0) × (get_or (frame_of p) 5 0 ≡ 0) × (get_or (frame_of p) 6 0 ≡ 0xB2) × (get_or (frame_of p) 7 0 ≡ 0x4D) × (get_or (frame_of p) 8 0 ≡ length p + 1)
unfolding frame_of
heads p = (refl, refl, refl, refl, refl, refl, refl, refl, refl)

abbrev front : List ℕ → List ℕ
front p = 0 ∷ 0 ∷ 0 ∷ 0 ∷ 0 ∷ 0 ∷ 0xB2 ∷ 0x4D ∷ covered p

tail_high : (p : List ℕ) → get_or (frame_of p) (length p + 9) 0 ≡ crc_of (covered p) / 256
unfolding frame_of
tail_high p = get_or_at (front p) (crc_of (covered p) / 256) (crc_of (covered p) % 256 ∷ []) 0 (length p + 9) (omega arith)

tail_low : (p : List ℕ) → get_or (frame_of p) (length p + 10) 0 ≡ crc_of (covered p) % 256
unfolding frame_of
tail_low p = let e : length p + 10 ≡ length (front p) + 1 = omega arith in
    rw e (get_or-append-add (front p) (crc_of (covered p) / 256 ∷ crc_of (covered p) % 256 ∷ []) 1 0)

pub frame_shows : (p : List ℕ) → length p ≤ 254 → Shows (frame_of p)
frame_shows p h =
    let n = length-frame p in
    let k = heads p in
    let i : length (frame_of p) - 2 ≡ length p + 9 = omega (arith, n) in
    let j : length (frame_of p) - 1 ≡ length p + 10 = omega (arith, n) in
    let c = covered_back p in
    record {
      low = omega (arith, n);
      high = omega (arith, n);
      b0 = k.0;
      b1 = k.1;
      b2 = k.2;
      b3 = k.3;
      b4 = k.4;
      b5 = k.5;
      b6 = k.6;
      b7 = k.7;
      len = k.8 ∙ omega (arith, n);
      crc_high = ap (λ x. get_or (frame_of p) x 0) i ∙ tail_high p ∙ ap (λ xs. crc_of xs / 256) (sym c);
      crc_low = ap (λ x. get_or (frame_of p) x 0) j ∙ tail_low p ∙ ap (λ xs. crc_of xs % 256) (sym c);
    }

pub back : (p : List ℕ) → length p ≤ 254 → unframed (frame_of p) ≡ Some p
back p h = let t = framed_from (frame_of p) (frame_shows p h) in let m = middle_back p in simp (t, m)

-- bytes that show a frame's parts are the frame around their middle
pub ends : (s : List ℕ) → Shows s → drop 9 s ≡ between 9 (length s - 2) s ++ (get_or s (length s - 2) 0 ∷ get_or s (length s - 1) 0 ∷ [])
ends s h =
    let t = take-append-drop (length s - 2 - 9) (drop 9 s) in
    let u = drop-drop (length s - 2 - 9) 9 s in
    let v : 9 + (length s - 2 - 9) ≡ length s - 2 = omega arith in
    let w = drop_more s (length s - 2) 0 (omega arith) in
    let x : length s - 2 + 1 ≡ length s - 1 = omega arith in
    let y = drop_more s (length s - 1) 0 (omega arith) in
    let z = drop_all (length s - 1 + 1) s (omega arith) in
    cc

pub covers : (s : List ℕ) → 11 ≤ length s → get_or s 8 0 ≡ length s - 10
    → between 8 (length s - 2) s ≡ covered (between 9 (length s - 2) s)
covers s h b =
    let d = drop_more s 8 0 (omega arith) in
    let e : length s - 2 - 8 ≡ (length s - 2 - 9) + 1 = omega arith in
    let l : length (between 9 (length s - 2) s) ≡ length s - 11 = search (rules, places) in
    let k : get_or s 8 0 ≡ length (between 9 (length s - 2) s) + 1 = omega (arith, l) in
    rw (e, add-one, d) (ap (λ x. x ∷ between 9 (length s - 2) s) k)

whole : (s : List ℕ) → Shows s → s ≡ frame_of (between 9 (length s - 2) s)
unfolding frame_of
whole s h =
    let d0 = drop_more s 0 0 (omega arith) in let d1 = drop_more s 1 0 (omega arith) in let d2 = drop_more s 2 0 (omega arith) in
    let d3 = drop_more s 3 0 (omega arith) in let d4 = drop_more s 4 0 (omega arith) in let d5 = drop_more s 5 0 (omega arith) in
    let d6 = drop_more s 6 0 (omega arith) in let d7 = drop_more s 7 0 (omega arith) in let d8 = drop_more s 8 0 (omega arith) in
    let e = ends s h in
    let c = covers s h.low h.len in
    let l : length (between 9 (length s - 2) s) ≡ length s - 11 = search (rules, places) in
    let k : get_or s 8 0 ≡ length (between 9 (length s - 2) s) + 1 = omega (arith, l) in
    cc

-- the packet of bytes that show a frame's parts is short enough
short : (s : List ℕ) → Shows s → length (between 9 (length s - 2) s) ≤ 254
short s h =
    let l : length (between 9 (length s - 2) s) ≡ length s - 11 = search (rules, places) in
    omega (arith, l)

pub forth : (s p : List ℕ) → unframed s ≡ Some p → (length p ≤ 254) × (s ≡ frame_of p)
forth s p e = at (framed s) refl e
  where
    at : (b : Bool) → framed s ≡ b → cond b (Some (between 9 (length s - 2) s)) None ≡ Some p → (length p ≤ 254) × (s ≡ frame_of p)
    at true t e =
        let m : between 9 (length s - 2) s ≡ p = cc in
        (rw m at (short s (shows s t)), whole s (shows s t) ∙ ap frame_of m)
    at false t e = absurd (let z : ◌≡◌ {A = ℕ} 0 1 = cc in omega arith)

-- out of memory, too
pub back_written : (m p : List ℕ) (at : ℕ) → length p ≤ 254 → at + length p + 11 ≤ length m
    → unframed (take (length p + 11) (drop at (written m at (frame_of p)))) ≡ Some p
back_written m p at h l =
    let w = written_back m at (frame_of p) (length p + 11) (length-frame p) (omega arith) in
    ap unframed w ∙ back p h

-- the packet in the bytes after a frame's opening: they begin with the length, and end with two bytes of CRC
abbrev middle : List ℕ → List ℕ
middle rest = take (length rest - 2 - 1) (drop 1 rest)

-- whether these two are a CRC, high byte first
abbrev crc_right : ℕ → List ℕ → Bool
crc_right crc rest =
    pointwise eqb (crc / 256 % 256 ∷ crc % 256 ∷ []) (get_or rest (length rest - 2) 0 ∷ get_or rest (length rest - 1) 0 ∷ [])

opened : (s rest : List ℕ) → Some rest ≡ (if opens_frame s then Some (drop 8 s) else None) → (opens_frame s ≡ true) × (rest ≡ drop 8 s)
opened s rest e = grind (arith, nat_tests)

-- where opening and length are right, the CRC decides
pub crc_decides : (s rest : List ℕ) (crc : ℕ) → Some rest ≡ (if opens_frame s then Some (drop 8 s) else None) → 3 ≤ length rest
    → get_or rest 0 0 ≡ length (middle rest) + 1 → get_or rest 0 0 < 256 → crc ≡ crc_of (covered (middle rest)) → crc < 65536
    → unframed s ≡ cond (crc_right crc rest) (Some (middle rest)) None
crc_decides s rest crc o l n b c f =
    let p = opened s rest o in
    let r = p.1 in
    let len : length rest ≡ length s - 8 = ap length r ∙ length-drop 8 s in
    let size : length s ≡ length rest + 8 = omega arith in
    let m : middle rest ≡ between 9 (length s - 2) s =
    ap₂ (λ k (xs : List ℕ). take k xs) (omega arith) (ap (λ (xs : List ℕ). drop 1 xs) r ∙ drop-drop 1 8 s) in
    let lm : length (middle rest) ≡ length rest - 3 = search (rules, places) in
    let head : get_or s 8 0 ≡ get_or rest 0 0 = sym (ap (λ (xs : List ℕ). get_or xs 0 0) r ∙ get_or-drop 8 s 0 0) in
    let right : get_or s 8 0 ≡ length s - 10 = omega arith in
    let high : get_or s (length s - 2) 0 ≡ get_or rest (length rest - 2) 0 =
    ap (λ k. get_or s k 0) (omega arith) ∙ sym (ap (λ (xs : List ℕ). get_or xs (length rest - 2) 0) r ∙ get_or-drop 8 s (length rest - 2) 0) in
    let low : get_or s (length s - 1) 0 ≡ get_or rest (length rest - 1) 0 =
    ap (λ k. get_or s k 0) (omega arith) ∙ sym (ap (λ (xs : List ℕ). get_or xs (length rest - 1) 0) r ∙ get_or-drop 8 s (length rest - 1) 0) in
    let cov : crc ≡ crc_of (between 8 (length s - 2) s) = c ∙ ap (λ xs. crc_of (covered xs)) m ∙ ap crc_of (sym (covers s (omega arith) right)) in
    let t : opens_frame s ≡ true = p.0 in
    let x : crc / 256 % 256 ≡ crc / 256 = mod-eq_of_lt (omega arith) in
    let q : framed s ≡ crc_right crc rest = grind (arith, nat_tests) in
    rw (q, m) refl
