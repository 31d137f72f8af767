-- Laws of cells in bytes, for every layout that keeps to the rules below, and that the plain and the checked one do.
use Rattle.std.specs.Prelude.{◌≡◌, ℕ, ◌+◌, ◌*◌, ◌/◌, ◌%◌, ◌<◌, ◌≤◌, Bool, true, false, cond, List, [], ◌∷◌, ◌++◌, map, length, get_or, take, set, replicate, ◌==◌, slice_index, slice_index_or, slice_set, refl}
use Rattle.std.proofs.Common.{arith, sym, ap, ◌∙◌}
use Rattle.std.specs.Option.{option_map}
use Rattle.std.specs.List.{AllByRecursion, slice_get}
use Rattle.std.specs.Simd.{first_chunks}
use Rattle.std.proofs.ByRecursion.{All-map, All-from_get_or}
use Rattle.std.proofs.lemmas.List.{map-set, length-map, length-append, length-take-le, take_at, get_or_at, get_or-append-add}
use Rattle.std.proofs.lemmas.Bool.{cond-true, eq-eqb}
use Rattle.std.proofs.lemmas.Option.{slice_get-map}
use Rattle.crc.specs.Crc.{crc_of, crc_after, crc_byte, crc_bits}
use Rattle.memory.specs.declared.cell.Cell.TheVariants as cell
use Rattle.memory.specs.declared.cell.Outcome.{Outcome}
use Rattle.memory.specs.declared.cell.Outcome.TheVariants as outcome
use Rattle.memory.specs.Answers.{number_at}
use Rattle.memory.specs.Cells.{cells_written, cells_cut, SixteenBytes}
use Rattle.memory.specs.Layouts.{Layout, plain, checked, cells_in, bytes_written, BytesCut, LeftTorn}
use Rattle.memory.specs.Parts.{parts, part_put}
use Rattle.memory.specs.PartLaws.{count_parts, chunks_are_parts, part_at, length_part, parts_put}

-- the rules of a layout: a good cell fills a part and reads as what was written, and a good part has sixteen bytes
pub record Lawful (layout : Layout) : Type 0 where
  pub good_fills : (block : List ℕ) → length block ≡ 16 → length (layout.good_cell block) ≡ layout.size
  pub good_reads : (block : List ℕ) → length block ≡ 16 → layout.cell_in (layout.good_cell block) ≡ cell.Good block
  pub sixteen : (p : List ℕ) → length p ≡ layout.size → SixteenBytes (layout.cell_in p)

-- as many cells as whole parts
pub count_cells : (layout : Layout) (bytes : List ℕ) → length (cells_in layout bytes) ≡ length bytes / layout.size
count_cells layout bytes =
    length-map (parts layout.size bytes) layout.cell_in ∙ count_parts layout.size bytes

pub number_same : (layout : Layout) (bytes : List ℕ) (n : ℕ)
    → number_at (length bytes / layout.size) n ≡ number_at (length (cells_in layout bytes)) n
number_same layout bytes n = ap (λ k. number_at k n) (sym (count_cells layout bytes))

-- a cell is what its part holds
pub nth_cell : (layout : Layout) (bytes : List ℕ) (n : ℕ)
    → option_map layout.cell_in (slice_get (parts layout.size bytes) n) ≡ slice_get (cells_in layout bytes) n
nth_cell layout bytes n = sym (slice_get-map layout.cell_in (parts layout.size bytes) n)

-- the cells are what the library's chunks of the bytes hold
pub chunk_cells : (layout : Layout) (size : ℕ) → layout.size ≡ size → (bytes : List ℕ)
    → map layout.cell_in (first_chunks size (length bytes / size) bytes) ≡ cells_in layout bytes
chunk_cells layout size sized bytes = ap (map layout.cell_in) (rw (← sized) (chunks_are_parts layout.size bytes))

-- a put changes one cell and no other
put_cell : (layout : Layout) (bytes : List ℕ) (n : ℕ) (new : List ℕ) → length new ≡ layout.size
    → cells_in layout (part_put layout.size bytes n new) ≡ slice_set (cells_in layout bytes) n (layout.cell_in new)
put_cell layout bytes n new e =
    ap (map layout.cell_in) (parts_put layout.size bytes n new e)
    ∙ map-set layout.cell_in (parts layout.size bytes) n new

pub write_cell : (layout : Layout) → Lawful layout → (bytes : List ℕ) (n : ℕ) (block : List ℕ) → length block ≡ 16
    → cells_in layout (bytes_written layout bytes n block) ≡ cells_written (cells_in layout bytes) n block
write_cell layout laws bytes n block e =
    put_cell layout bytes n (layout.good_cell block) (laws.good_fills block e)
    ∙ ap (set (cells_in layout bytes) n) (laws.good_reads block e)

-- a write that failing power leaves torn, where the bytes that it leaves are some of those that hold a torn cell
pub tear_cell : (layout : Layout) (torn : List ℕ) → length torn ≡ layout.size → layout.cell_in torn ≡ cell.Torn → (bytes : List ℕ) (n : ℕ)
    → cells_in layout (part_put layout.size bytes n torn) ≡ slice_set (cells_in layout bytes) n cell.Torn
tear_cell layout torn fills holds bytes n = put_cell layout bytes n torn fills ∙ ap (set (cells_in layout bytes) n) holds

pub left_torn : (layout : Layout) (torn : List ℕ) → length torn ≡ layout.size → layout.cell_in torn ≡ cell.Torn → (bytes : List ℕ) (n : ℕ)
    → LeftTorn layout bytes (part_put layout.size bytes n torn) n
left_torn layout torn fills holds bytes n = record { open_bytes = torn; fill = fills; hold_torn = holds; stand_there = refl }

-- a write that failing power cuts, whichever bytes it leaves of a torn cell
pub cut_cells : (layout : Layout) → Lawful layout → (old new : List ℕ) (n : ℕ) (block : List ℕ) → length block ≡ 16 → (o : Outcome)
    → BytesCut layout old new n block o → cells_in layout new ≡ cells_cut (cells_in layout old) n block o
cut_cells layout laws old new n block e outcome.Old left = ap (cells_in layout) left
cut_cells layout laws old new n block e outcome.New left = ap (cells_in layout) left ∙ write_cell layout laws old n block e
cut_cells layout laws old new n block e outcome.Torn left =
    ap (cells_in layout) left.stand_there
    ∙ put_cell layout old n left.open_bytes left.fill
    ∙ ap (set (cells_in layout old) n) left.hold_torn

-- every good cell has sixteen bytes
pub all_sixteen : (layout : Layout) → Lawful layout → (bytes : List ℕ) → AllByRecursion SixteenBytes (cells_in layout bytes)
all_sixteen layout laws bytes =
    All-map SixteenBytes layout.cell_in (parts layout.size bytes)
    (All-from_get_or (λ p. SixteenBytes (layout.cell_in p)) (parts layout.size bytes) []
    (λ i h.
    let within : i < length bytes / layout.size = rw count_parts at h in
    laws.sixteen (slice_index_or (parts layout.size bytes) i [])
    (ap length (part_at layout.size bytes i within) ∙ length_part layout.size bytes i within)))

sixteen_by : (good : Bool) (p : List ℕ) → 16 ≤ length p → SixteenBytes (cond good (cell.Good (take 16 p)) cell.Torn)
sixteen_by true p h = length-take-le 16 p h
sixteen_by false p h = tt

-- bytes of FFh throughout hold a torn cell, in both layouts
pub plain_torn : plain.cell_in (replicate 17 255) ≡ cell.Torn
plain_torn = refl

pub plain_lawful : Lawful plain
plain_lawful = record {
  good_fills = λ block e. length-append block (0 ∷ []) ∙ omega arith;
  good_reads = λ block e. cond-true _ _ _ (eq-eqb _ 0 (get_or_at block 0 [] 0 16 e)) ∙ ap cell.Good (take_at block (0 ∷ []) 16 e);
  sixteen = λ p e. sixteen_by (slice_index p 16 == 0) p (omega arith);
}

checked_reads : (block : List ℕ) → length block ≡ 16 → checked.cell_in (checked.good_cell block) ≡ cell.Good block
checked_reads block e =
    let crc : ℕ = crc_of block in
    let two : List ℕ = crc / 256 ∷ crc % 256 ∷ [] in
    let front : take 16 (block ++ two) ≡ block = take_at block two 16 e in
    let high : get_or (block ++ two) 16 0 ≡ crc / 256 = get_or_at block (crc / 256) (crc % 256 ∷ []) 0 16 e in
    let low : get_or (block ++ two) 17 0 ≡ crc % 256 = ap (λ k. slice_index (block ++ two) (k + 1)) (sym e) ∙ get_or-append-add block two 1 0 in
    cond-true _ _ _ (eq-eqb _ _ (omega (arith, high, low) ∙ sym (ap crc_of front))) ∙ ap cell.Good front

pub checked_torn : checked.cell_in (replicate 18 255) ≡ cell.Torn
unfolding crc_after crc_byte crc_bits
checked_torn = refl

pub checked_lawful : Lawful checked
checked_lawful = record {
  good_fills = λ block e. length-append block (crc_of block / 256 ∷ crc_of block % 256 ∷ []) ∙ omega arith;
  good_reads = checked_reads;
  sixteen = λ p e. sixteen_by (slice_index p 16 * 256 + slice_index p 17 == crc_of (take 16 p)) p (omega arith);
}
