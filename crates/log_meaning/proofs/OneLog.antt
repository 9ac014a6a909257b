-- An area has one log.
use Rattle.std.proofs.Common.{◌≡◌, ◌≢◌, ℕ, ◌+◌, ◌<◌, ◌^◌, List, [], ◌∷◌, ◌++◌, length, get_or, take, drop, replicate, refl, sym, ◌∙◌, ap, subst, arith, append_assoc, length-append}
use Rattle.std.specs.Prelude.{All}
use Rattle.std.specs.List.{flat_map}
use Rattle.std.specs.Int.{w32, w64, from_be_bytes}
use Rattle.std.proofs.lemmas.List.{ext_get_or, take_at, drop_at}
use Rattle.std.proofs.lemmas.List.Elements.{All-head, All-tail}
use Rattle.std.proofs.lemmas.Nat.{from_be_bytes-to_be_bytes_4, from_be_bytes-to_be_bytes_8}
use Rattle.storage.specs.Disk.{Reads}
use Rattle.log_meaning.proofs.StepsLemmas.Writes.{reads-head, reads-tail}
use Rattle.log_meaning.specs.declared.note.Change.{Change}
use Rattle.log_meaning.specs.declared.note.Note.{Note}
use Rattle.log_meaning.specs.declared.note.Note.TheVariants.{Change as Changed, Commit}
use Rattle.log_meaning.specs.Bytes.{eight, four, note_bytes, batch_bytes, header_bytes, IsNote, IsBatch}
use Rattle.log_meaning.specs.Images.{IsOpened, HoldsLog}

-- ---- numbers

pub length-eight : (n : ℕ) → length (eight n) ≡ 8
unfolding eight
length-eight n = refl

pub length-four : (n : ℕ) → length (four n) ≡ 4
unfolding four
length-four n = refl

eight-one : (a b : ℕ) → a < 2 ^ 64 → b < 2 ^ 64 → eight a ≡ eight b → a ≡ b
unfolding eight
eight-one a b x y is = sym (from_be_bytes-to_be_bytes_8 a x) ∙ ap (from_be_bytes w64) is ∙ from_be_bytes-to_be_bytes_8 b y

pub four-one : (a b : ℕ) → a < 2 ^ 32 → b < 2 ^ 32 → four a ≡ four b → a ≡ b
unfolding four
four-one a b x y is = sym (from_be_bytes-to_be_bytes_4 a x) ∙ ap (from_be_bytes w32) is ∙ from_be_bytes-to_be_bytes_4 b y

-- ---- lists

fronts : (a b c d : List ℕ) → length a ≡ length b → a ++ c ≡ b ++ d → a ≡ b
fronts a b c d same is = sym (take_at a c (length b) same) ∙ ap (take (length b)) is ∙ take_at b d (length b) refl

backs : (a b c d : List ℕ) → length a ≡ length b → a ++ c ≡ b ++ d → c ≡ d
backs a b c d same is = sym (drop_at a c (length b) same) ∙ ap (drop (length b)) is ∙ drop_at b d (length b) refl

pub reads_two : (area : List ℕ) (at : ℕ) (xs ys : List ℕ) → length xs ≡ length ys → Reads area at xs → Reads area at ys → xs ≡ ys
reads_two area at xs ys same a b = ext_get_or 0 xs ys same (λ i lt. a i lt ∙ sym (b i (omega (arith, lt, same))))

-- ---- notes

-- the parts of a change
parts : ℕ → ℕ → List ℕ → List ℕ → List ℕ → List ℕ
parts tx slot old new rest = eight tx ++ (four slot ++ (old ++ (new ++ rest)))

change_parts : (c : Change) (rest : List ℕ) → note_bytes (Changed c) ++ rest ≡ 1 ∷ parts c.tx c.slot c.old c.new rest
unfolding note_bytes parts
change_parts c rest = ap (λ (l : List ℕ). 1 ∷ l) (
    append_assoc (eight c.tx ++ four c.slot ++ c.old) c.new rest
    ∙ append_assoc (eight c.tx ++ four c.slot) c.old (c.new ++ rest)
    ∙ append_assoc (eight c.tx) (four c.slot) (c.old ++ (c.new ++ rest)))

commit_parts : (tx : ℕ) (rest : List ℕ) → note_bytes (Commit tx) ++ rest ≡ 2 ∷ (eight tx ++ rest)
unfolding note_bytes
commit_parts tx rest = refl

abbrev with_parts : ℕ → ℕ → List ℕ → List ℕ → Change
with_parts tx slot old new = record { tx = tx; slot = slot; old = old; new = new }

same_change : (a b : Change) → a.tx ≡ b.tx → a.slot ≡ b.slot → a.old ≡ b.old → a.new ≡ b.new → a ≡ b
same_change a b t s o n =
    ap (λ (x : ℕ). with_parts x a.slot a.old a.new) t ∙ ap (λ (x : ℕ). with_parts b.tx x a.old a.new) s ∙ ap (λ (x : List ℕ). with_parts b.tx b.slot x a.new) o ∙ ap (λ (x : List ℕ). with_parts b.tx b.slot b.old x) n

one_change : (a b : Change) (xs ys : List ℕ) → IsNote (Changed a) → IsNote (Changed b) → parts a.tx a.slot a.old a.new xs ≡ parts b.tx b.slot b.old b.new ys → (a ≡ b) × (xs ≡ ys)
unfolding parts
one_change a b xs ys ia ib is =
    let tx = fronts (eight a.tx) (eight b.tx) _ _ (length-eight a.tx ∙ sym (length-eight b.tx)) is in
    let r1 = backs (eight a.tx) (eight b.tx) _ _ (length-eight a.tx ∙ sym (length-eight b.tx)) is in
    let slot = fronts (four a.slot) (four b.slot) _ _ (length-four a.slot ∙ sym (length-four b.slot)) r1 in
    let r2 = backs (four a.slot) (four b.slot) _ _ (length-four a.slot ∙ sym (length-four b.slot)) r1 in
    let old = fronts a.old b.old _ _ (ia.2 ∙ sym (ib.2)) r2 in
    let r3 = backs a.old b.old _ _ (ia.2 ∙ sym (ib.2)) r2 in
    let new = fronts a.new b.new xs ys (ia.3 ∙ sym (ib.3)) r3 in
    (same_change a b (eight-one a.tx b.tx (ia.0) (ib.0) tx) (four-one a.slot b.slot (small a.slot (ia.1)) (small b.slot (ib.1)) slot) old new, backs a.new b.new xs ys (ia.3 ∙ sym (ib.3)) r3)
  where
    small : (n : ℕ) → n < 2 ^ 20 → n < 2 ^ 32
    small n lt = omega (arith, lt)

abbrev first : List ℕ → ℕ
first [] = 0
first (x ∷ xs) = x

abbrev rest_of : List ℕ → List ℕ
rest_of [] = []
rest_of (x ∷ xs) = xs

pub one_note : (a b : Note) (xs ys : List ℕ) → IsNote a → IsNote b → note_bytes a ++ xs ≡ note_bytes b ++ ys → (a ≡ b) × (xs ≡ ys)
one_note (Changed a) (Changed b) xs ys ia ib is =
    let h = one_change a b xs ys ia ib (ap rest_of (sym (change_parts a xs) ∙ is ∙ change_parts b ys)) in (ap Changed (h.0), h.1)
one_note (Commit a) (Commit b) xs ys ia ib is =
    let e : eight a ++ xs ≡ eight b ++ ys = ap rest_of (sym (commit_parts a xs) ∙ is ∙ commit_parts b ys) in
    (ap Commit (eight-one a b ia ib (fronts (eight a) (eight b) xs ys (length-eight a ∙ sym (length-eight b)) e)), backs (eight a) (eight b) xs ys (length-eight a ∙ sym (length-eight b)) e)
one_note (Changed a) (Commit b) xs ys ia ib is = let e : 1 ≡ 2 = ap first (sym (change_parts a xs) ∙ is ∙ commit_parts b ys) in absurd (omega (arith, e))
one_note (Commit a) (Changed b) xs ys ia ib is = let e : 2 ≡ 1 = ap first (sym (commit_parts a xs) ∙ is ∙ change_parts b ys) in absurd (omega (arith, e))

pub no_bytes : (n : Note) (xs : List ℕ) → note_bytes n ++ xs ≡ [] → ⊥
no_bytes (Changed c) xs e = let f : 1 ≡ 0 = ap first (sym (change_parts c xs) ∙ e) in omega (arith, f)
no_bytes (Commit tx) xs e = let f : 2 ≡ 0 = ap first (sym (commit_parts tx xs) ∙ e) in omega (arith, f)

-- notes are read back from their bytes
pub one_list : (xs ys : List Note) → All IsNote xs → All IsNote ys → flat_map note_bytes xs ≡ flat_map note_bytes ys → xs ≡ ys
one_list [] [] ix iy is = refl
one_list [] (b ∷ ys) ix iy is = absurd (no_bytes b (flat_map note_bytes ys) (sym is))
one_list (a ∷ xs) [] ix iy is = absurd (no_bytes a (flat_map note_bytes xs) is)
one_list (a ∷ xs) (b ∷ ys) ix iy is =
    let h = one_note a b (flat_map note_bytes xs) (flat_map note_bytes ys) (All-head IsNote a xs ix) (All-head IsNote b ys iy) is in
    ap (λ (n : Note). n ∷ xs) (h.0) ∙ ap (λ (l : List Note). b ∷ l) (one_list xs ys (All-tail IsNote a xs ix) (All-tail IsNote b ys iy) (h.1))

-- ---- batches

-- open batches from there on, and then a closed gate
pub record Batches (area : List ℕ) (at : ℕ) (batches : List (List Note)) : Type 0 where
  pub reads : Reads area at (flat_map (batch_bytes 1) batches)
  pub closed : get_or area (at + length (flat_map (batch_bytes 1) batches)) 0 ≢ 1
  pub sound : All IsBatch batches

pub open_gate : (area : List ℕ) (at : ℕ) (b : List Note) (bs : List (List Note)) → Batches area at (b ∷ bs) → get_or area at 0 ≡ 1
open_gate area at b bs h = ap (λ (k : ℕ). get_or area k 0) (omega arith) ∙ sym (h.reads 0 (omega arith))

-- the parts of what a batch begins
pub batch_length : (area : List ℕ) (at : ℕ) (b : List Note) (bs : List (List Note)) → Batches area at (b ∷ bs) → Reads area (at + 1) (four (length (flat_map note_bytes b)))
batch_length area at b bs h = reads-head area (at + 1) _ (flat_map note_bytes b) (reads-tail area at (1 ∷ []) _ (reads-head area at (batch_bytes 1 b) (flat_map (batch_bytes 1) bs) h.reads))

pub batch_notes : (area : List ℕ) (at : ℕ) (b : List Note) (bs : List (List Note)) → Batches area at (b ∷ bs) → Reads area (at + 5) (flat_map note_bytes b)
batch_notes area at b bs h = subst (λ (k : ℕ). Reads area k (flat_map note_bytes b)) (omega (arith, length-four (length (flat_map note_bytes b))))
    (reads-tail area (at + 1) (four (length (flat_map note_bytes b))) (flat_map note_bytes b) (reads-tail area at (1 ∷ []) _ (reads-head area at (batch_bytes 1 b) (flat_map (batch_bytes 1) bs) h.reads)))

pub length-batch : (b : List Note) → length (batch_bytes 1 b) ≡ 5 + length (flat_map note_bytes b)
length-batch b = omega (arith, length-append (four (length (flat_map note_bytes b))) (flat_map note_bytes b), length-four (length (flat_map note_bytes b)))

pub batch_rest : (area : List ℕ) (at : ℕ) (b : List Note) (bs : List (List Note)) → Batches area at (b ∷ bs) → Batches area (at + (5 + length (flat_map note_bytes b))) bs
batch_rest area at b bs h = record {
  reads = subst (λ (k : ℕ). Reads area (at + k) (flat_map (batch_bytes 1) bs)) (length-batch b) (reads-tail area at (batch_bytes 1 b) (flat_map (batch_bytes 1) bs) h.reads);
  closed = subst (λ (k : ℕ). get_or area k 0 ≢ 1) (omega (arith, length-append (batch_bytes 1 b) (flat_map (batch_bytes 1) bs), length-batch b)) h.closed;
  sound = All-tail IsBatch b bs h.sound;
}

-- the batches from there on are one list
pub one_batches : (area : List ℕ) (at : ℕ) (xs ys : List (List Note)) → Batches area at xs → Batches area at ys → xs ≡ ys
one_batches area at [] [] hx hy = refl
one_batches area at [] (b ∷ ys) hx hy = absurd (hx.closed (ap (λ (k : ℕ). get_or area k 0) (omega arith) ∙ open_gate area at b ys hy))
one_batches area at (a ∷ xs) [] hx hy = absurd (hy.closed (ap (λ (k : ℕ). get_or area k 0) (omega arith) ∙ open_gate area at a xs hx))
one_batches area at (a ∷ xs) (b ∷ ys) hx hy =
    let ia = All-head IsBatch a xs hx.sound in
    let ib = All-head IsBatch b ys hy.sound in
    let long : length (flat_map note_bytes a) ≡ length (flat_map note_bytes b) = four-one _ _ (omega (arith, ia.few)) (omega (arith, ib.few))
    (reads_two area (at + 1) _ _ (length-four (length (flat_map note_bytes a)) ∙ sym (length-four (length (flat_map note_bytes b)))) (batch_length area at a xs hx) (batch_length area at b ys hy)) in
    let same : a ≡ b = one_list a b ia.each ib.each (reads_two area (at + 5) _ _ long (batch_notes area at a xs hx) (batch_notes area at b ys hy)) in
    ap (λ (n : List Note). n ∷ xs) same ∙ ap (λ (l : List (List Note)). b ∷ l) (one_batches area (at + (5 + length (flat_map note_bytes a))) xs ys (batch_rest area at a xs hx)
    (subst (λ (k : ℕ). Batches area (at + (5 + k)) ys) (sym long) (batch_rest area at b ys hy)))

-- ---- heads

pub length-head : (g : ℕ) → length (header_bytes g) ≡ 31
unfolding header_bytes
length-head g = omega (arith, length-append (eight g) (replicate {A = ℕ} 15 0), length-eight g)

one_head : (g h : ℕ) → g < 2 ^ 63 → h < 2 ^ 63 → header_bytes g ≡ header_bytes h → g ≡ h
unfolding header_bytes
one_head g h bg bh is = eight-one g h (omega (arith, bg)) (omega (arith, bh)) (fronts (eight g) (eight h) (replicate 15 0) (replicate 15 0) (length-eight g ∙ sym (length-eight h)) (ap (drop 8) is))

-- an area has one head
pub one_opened : (area : List ℕ) (g h : ℕ) → IsOpened area g → IsOpened area h → g ≡ h
one_opened area g h x y = one_head g h x.old_enough y.old_enough
    (backs (1 ∷ []) (1 ∷ []) (header_bytes g) (header_bytes h) refl (reads_two area 0 (1 ∷ header_bytes g) (1 ∷ header_bytes h) (omega (arith, length-head g, length-head h)) x.head y.head))

pub log_batches : (area : List ℕ) (g : ℕ) (bs : List (List Note)) → HoldsLog area g bs → Batches area 32 bs
log_batches area g bs h = record {
  reads = subst (λ (k : ℕ). Reads area k (flat_map (batch_bytes 1) bs)) (omega (arith, length-head g)) (reads-tail area 0 (1 ∷ header_bytes g) (flat_map (batch_bytes 1) bs) h.reads);
  closed = subst (λ (k : ℕ). get_or area k 0 ≢ 1) (omega (arith, length-append (1 ∷ header_bytes g) (flat_map (batch_bytes 1) bs), length-head g)) h.closed;
  sound = h.sound;
}

-- and one log
pub one_log : (area : List ℕ) (g h : ℕ) (xs ys : List (List Note)) → HoldsLog area g xs → HoldsLog area h ys → xs ≡ ys
one_log area g h xs ys a b = one_batches area 32 xs ys (log_batches area g xs a) (log_batches area h ys b)
