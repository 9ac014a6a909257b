-- The places of all buffers, and the rows that they hold with a lock, as loops collect them.
use Rattle.std.proofs.Common.{◌≡◌, ℕ, zero, suc, ◌+◌, ◌-◌, ◌<◌, ◌≤◌, List, [], ◌∷◌, ◌++◌, length, false, refl, sym, ap, ◌∙◌, arith, take, drop, map, reverse, slice_index_or, nat_lt, append-nil, append_assoc}
use Rattle.std.proofs.lemmas.Bool.{le-ltb, ne_eqb}
use Rattle.std.proofs.lemmas.List.{map-append, reverse-append}
use Rattle.abl_base.specs.declared.row.RowId.{RowId}
use Rattle.block_meaning.specs.State.{Buffer}
use Rattle.block_meaning.specs.Frames.{no_buffer, is_in, locked_row}
use Rattle.block_meaning.specs.Buffers.{Place, places_from, rows_from, all_rows, unless_in, with_row, with_row_of, placed}
use Rattle.client_memory.specs.declared.buffer.Place.{Place as PlaceRs}
use Rattle.client_memory.specs.Buffers.{denoted_place, places_in, rows_inward}
use Rattle.client_memory.proofs.BufferLists.{taken_more}

-- ---- what is left of a list

next_dropped : {A : Type 0} (xs : List A) (i : ℕ) (d : A) → i < length xs → drop i xs ≡ slice_index_or xs i d ∷ drop (suc i) xs
next_dropped [] i d lt = absurd (omega (arith, lt))
next_dropped (x ∷ xs) zero d lt = refl
next_dropped (x ∷ xs) (suc i) d lt = next_dropped xs i d (omega (arith, lt))

dropped : {A : Type 0} (xs : List A) (i : ℕ) (d : A) → i < length xs → drop i xs ≡ slice_index_or xs i d ∷ drop (i + 1) xs
dropped xs i d lt = next_dropped xs i d lt ∙ ap (λ n. slice_index_or xs i d ∷ drop n xs) (let e : suc i ≡ i + 1 = omega arith in e)

pub all_dropped : {A : Type 0} (xs : List A) (i : ℕ) → length xs ≤ i → drop i xs ≡ []
all_dropped [] zero le = refl
all_dropped [] (suc i) le = refl
all_dropped (x ∷ xs) zero le = absurd (omega (arith, le))
all_dropped (x ∷ xs) (suc i) le = all_dropped xs i (omega (arith, le))

length_dropped : {A : Type 0} (xs : List A) (i : ℕ) → length (drop i xs) ≡ length xs - i
length_dropped xs zero = omega arith
length_dropped [] (suc i) = omega arith
length_dropped (x ∷ xs) (suc i) = let h = length_dropped xs i in omega (arith, h)

-- ---- places

pub place_step : (out i : ℕ) (bs : List Buffer) (ps ps' : List PlaceRs) (end : List Place) → i < length bs → ps' ≡ ps ++ record { out = out; number = i } ∷ [] → map denoted_place ps ++ places_from out i (drop i bs) ≡ end → map denoted_place ps' ++ places_from out (i + 1) (drop (i + 1) bs) ≡ end
place_step out i bs ps ps' end lt is inv =
    let x : PlaceRs = record { out = out; number = i } in
    let rest = places_from out (i + 1) (drop (i + 1) bs) in
    ap (λ xs. map denoted_place xs ++ rest) is
    ∙ ap (λ xs. xs ++ rest) (map-append denoted_place ps (x ∷ []))
    ∙ append_assoc (map denoted_place ps) (denoted_place x ∷ []) rest
    ∙ ap (λ ys. map denoted_place ps ++ places_from out i ys) (sym (dropped bs i no_buffer lt)) ∙ inv

pub places_end : (out i : ℕ) (bs : List Buffer) (ps : List PlaceRs) (end : List Place) → length bs ≤ i → map denoted_place ps ++ places_from out i (drop i bs) ≡ end → map denoted_place ps ≡ end
places_end out i bs ps end le inv = sym (append-nil (map denoted_place ps)) ∙ ap (λ ys. map denoted_place ps ++ places_from out i ys) (sym (all_dropped bs i le)) ∙ inv

pub frame_step : (bss : List (List Buffer)) (i out : ℕ) (bs : List Buffer) (ps ps' end : List Place) → i < length bss → out ≡ length bss - i - 1 → bs ≡ slice_index_or bss i bs → ps' ≡ ps ++ places_from out 0 bs → ps ++ places_in (drop i bss) ≡ end → ps' ++ places_in (drop (i + 1) bss) ≡ end
frame_step bss i out bs ps ps' end lt o at is inv =
    let left = drop (i + 1) bss in
    let far : out ≡ length left = let l = length_dropped bss (i + 1) in omega (arith, l, o, lt) in
    let one : places_in (bs ∷ left) ≡ places_from (length left) 0 bs ++ places_in left = refl in
    let next : places_in (drop i bss) ≡ places_from out 0 bs ++ places_in left =
    ap places_in (dropped bss i bs lt) ∙ ap (λ (b : List Buffer). places_in (b ∷ left)) (sym at) ∙ one ∙ ap (λ (n : ℕ). places_from n 0 bs ++ places_in left) (sym far) in
    ap (λ (xs : List Place). xs ++ places_in left) is
    ∙ append_assoc ps (places_from out 0 bs) (places_in left)
    ∙ ap (λ (xs : List Place). ps ++ xs) (sym next) ∙ inv

-- ---- rows

-- the rows before this place are lower
pub row_step : (rows : List RowId) (row : RowId) (i : ℕ) (r : RowId) (end : List RowId) → i < length rows → r ≡ slice_index_or rows i r → r.0 < row.0 → take i rows ++ with_row row (drop i rows) ≡ end → take (i + 1) rows ++ with_row row (drop (i + 1) rows) ≡ end
row_step rows row i r end lt at low inv =
    let rest = drop (i + 1) rows in
    let later : with_row row (r ∷ rest) ≡ r ∷ with_row row rest =
    ap (λ b. placed b (nat_lt row.0 r.0) row r rest (with_row row rest)) (ne_eqb row.0 r.0 (λ e. omega (arith, e, low)))
    ∙ ap (λ b. placed false b row r rest (with_row row rest)) (le-ltb row.0 r.0 (omega (arith, low))) in
    ap (λ xs. xs ++ with_row row rest) (sym (taken_more rows i r lt at))
    ∙ append_assoc (take i rows) (r ∷ []) (with_row row rest)
    ∙ ap (λ xs. take i rows ++ xs) (sym later)
    ∙ ap (λ x. take i rows ++ with_row row (x ∷ rest)) at
    ∙ ap (λ xs. take i rows ++ with_row row xs) (sym (dropped rows i r lt)) ∙ inv

-- one buffer more
pub rows_step : (but : List ℕ) (bs : List Buffer) (n m : ℕ) (rows rows' : List RowId) → m ≡ suc n → m ≤ length bs → rows ≡ rows_from m but (drop m bs) → rows' ≡ with_row_of (unless_in (is_in n but) (locked_row (slice_index_or bs n no_buffer).content)) rows → rows' ≡ rows_from n but (drop n bs)
rows_step but bs n m rows rows' is le old new =
    let next : m ≡ n + 1 = omega (arith, is) in
    new ∙ ap (with_row_of (unless_in (is_in n but) (locked_row (slice_index_or bs n no_buffer).content))) (old ∙ ap (λ k. rows_from k but (drop k bs)) next)
    ∙ ap (rows_from n but) (sym (dropped bs n no_buffer (omega (arith, is, le))))

-- one row more
add_last : (rs : List RowId) (r : RowId) (kept : List RowId) → all_rows (rs ++ r ∷ []) kept ≡ all_rows rs (with_row r kept)
add_last [] r kept = refl
add_last (x ∷ rs) r kept = ap (with_row x) (add_last rs r kept)

pub add_step : (rs rs' : List RowId) (r : RowId) (kept kept' end : List RowId) → rs' ≡ rs ++ r ∷ [] → kept' ≡ with_row r kept → all_rows rs' kept ≡ end → all_rows rs kept' ≡ end
add_step rs rs' r kept kept' end is new inv = ap (all_rows rs) new ∙ sym (add_last rs r kept) ∙ ap (λ xs. all_rows xs kept) (sym is) ∙ inv

-- one procedure more
pub frame_rows_step : (bss : List (List Buffer)) (i : ℕ) (bs : List Buffer) (rows kept kept' : List RowId) → i < length bss → bs ≡ slice_index_or bss i bs → rows ≡ rows_from 0 [] bs → kept ≡ rows_inward [] (reverse (take i bss)) → kept' ≡ all_rows rows kept → kept' ≡ rows_inward [] (reverse (take (i + 1) bss))
frame_rows_step bss i bs rows kept kept' lt at own old new =
    new ∙ ap (λ xs. all_rows xs kept) own ∙ ap (all_rows (rows_from 0 [] bs)) old
    ∙ ap (rows_inward []) (sym (reverse-append (take i bss) (bs ∷ []))) ∙ ap (λ xss. rows_inward [] (reverse xss)) (taken_more bss i bs lt at)
