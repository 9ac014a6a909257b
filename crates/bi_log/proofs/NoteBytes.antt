-- A note in any bytes.
use Rattle.std.proofs.Common.{◌≡◌, ⊎_elim, ℕ, ◌+◌, ◌<◌, ◌≤◌, ◌^◌, List, [], ◌∷◌, ◌++◌, length, get_or, take, drop, refl, sym, ◌∙◌, ap, subst, arith, append_assoc, length-append, length-drop, take-append-drop}
use Rattle.std.specs.Int.{w32, w64, from_be_bytes}
use Rattle.std.proofs.lemmas.List.{length-take, get_or-take, get_or-drop, take_at, drop_at, drop-take, take-take, drop_more, take_all, drop-drop, get_or_past}
use Rattle.std.proofs.lemmas.Bool.{cases_lt}
use Rattle.std.proofs.lemmas.Nat.{be_bytes_4, be_bytes_8, from_be_bytes-to_be_bytes_4}
use Rattle.log_meaning.specs.declared.note.Change.{Change}
use Rattle.log_meaning.specs.declared.note.Note.TheVariants.{Change as Changed, Commit}
use Rattle.log_meaning.specs.Bytes.{eight, four, note_bytes, IsNote}
use Rattle.log_meaning.proofs.OneLog.{length-eight, length-four}
use Rattle.bi_log.specs.Reading.{BeginsWith}

-- ---- the bytes of a note

change_is : (c : Change) → note_bytes (Changed c) ≡ (1 ∷ []) ++ (eight c.tx ++ (four c.slot ++ (c.old ++ c.new)))
unfolding note_bytes
change_is c = ap (λ (l : List ℕ). 1 ∷ l) (append_assoc (eight c.tx ++ four c.slot) c.old c.new ∙ append_assoc (eight c.tx) (four c.slot) (c.old ++ c.new))

commit_is : (tx : ℕ) → note_bytes (Commit tx) ≡ (2 ∷ []) ++ eight tx
unfolding note_bytes
commit_is tx = refl

pub length-change : (c : Change) → IsNote (Changed c) → length (note_bytes (Changed c)) ≡ 525
length-change c is = ap (length {A = ℕ}) (change_is c) ∙ omega (arith, length-append (eight c.tx) (four c.slot ++ (c.old ++ c.new)), length-append (four c.slot) (c.old ++ c.new), length-append c.old c.new, length-eight c.tx, length-four c.slot, is.2, is.3)

pub length-commit : (tx : ℕ) → length (note_bytes (Commit tx)) ≡ 9
length-commit tx = ap (length {A = ℕ}) (commit_is tx) ∙ omega (arith, length-eight tx)

-- the kind
pub kind_of_change : (bytes : List ℕ) (left : ℕ) (c : Change) → BeginsWith bytes left (Changed c) → (get_or bytes 0 0 ≡ 1) × (525 ≤ left)
kind_of_change bytes left c b =
    let long = length-change c b.sound in
    (sym (get_or-take (length (note_bytes (Changed c))) bytes 0 0 (omega (arith, long))) ∙ ap (λ (l : List ℕ). get_or l 0 0) (b.is ∙ change_is c), (let w = b.within in omega (arith, long, w)))

pub kind_of_commit : (bytes : List ℕ) (left tx : ℕ) → BeginsWith bytes left (Commit tx) → (get_or bytes 0 0 ≡ 2) × (9 ≤ left)
kind_of_commit bytes left tx b =
    let long = length-commit tx in
    (sym (get_or-take (length (note_bytes (Commit tx))) bytes 0 0 (omega (arith, long))) ∙ ap (λ (l : List ℕ). get_or l 0 0) (b.is ∙ commit_is tx), (let w = b.within in omega (arith, long, w)))

-- the slot
pub slot_of_change : (bytes : List ℕ) (left : ℕ) (c : Change) → BeginsWith bytes left (Changed c) → from_be_bytes w32 (take 4 (drop 9 bytes)) ≡ c.slot
unfolding four
slot_of_change bytes left c b =
    ap (from_be_bytes w32) (
    sym (take-take 4 516 (drop 9 bytes) (omega arith))
    ∙ ap (take 4) (sym (drop-take 9 516 bytes))
    ∙ ap (λ (k : ℕ). take 4 (drop 9 (take k bytes))) (sym (length-change c b.sound))
    ∙ ap (λ (l : List ℕ). take 4 (drop 9 l)) (b.is ∙ change_is c ∙ sym (append_assoc (1 ∷ []) (eight c.tx) (four c.slot ++ (c.old ++ c.new))))
    ∙ ap (take 4) (drop_at ((1 ∷ []) ++ eight c.tx) (four c.slot ++ (c.old ++ c.new)) 9 (omega (arith, length-eight c.tx)))
    ∙ take_at (four c.slot) (c.old ++ c.new) 4 (length-four c.slot))
    ∙ from_be_bytes-to_be_bytes_4 c.slot (let s = b.sound.1 in omega (arith, s))

-- ---- the numbers in bytes

pub four_at : (bytes : List ℕ) (i : ℕ) → i + 4 ≤ length bytes → take 4 (drop i bytes) ≡ get_or bytes i 0 ∷ get_or bytes (i + 1) 0 ∷ get_or bytes (i + 2) 0 ∷ get_or bytes (i + 3) 0 ∷ []
four_at bytes i within = ap (take 4) (
    drop_more bytes i 0 (omega (arith, within))
    ∙ ap (λ (l : List ℕ). get_or bytes i 0 ∷ l) (drop_more bytes (i + 1) 0 (omega (arith, within))
    ∙ ap (λ (l : List ℕ). get_or bytes (i + 1) 0 ∷ l) (ap (λ (k : ℕ). drop k bytes) (omega arith) ∙ drop_more bytes (i + 2) 0 (omega (arith, within))
    ∙ ap (λ (l : List ℕ). get_or bytes (i + 2) 0 ∷ l) (ap (λ (k : ℕ). drop k bytes) (omega arith) ∙ drop_more bytes (i + 3) 0 (omega (arith, within))))))

pub eight_at : (bytes : List ℕ) (i : ℕ) → i + 8 ≤ length bytes → take 8 (drop i bytes) ≡ take 4 (drop i bytes) ++ take 4 (drop (i + 4) bytes)
eight_at bytes i within =
    sym (take-append-drop 4 (take 8 (drop i bytes)))
    ∙ ap (λ (l : List ℕ). l ++ drop 4 (take 8 (drop i bytes))) (take-take 4 8 (drop i bytes) (omega arith))
    ∙ ap (λ (l : List ℕ). take 4 (drop i bytes) ++ l) (drop-take 4 4 (drop i bytes) ∙ ap (take 4) (drop-drop 4 i bytes))

-- the bytes in a row
pub row_of_eight : (bytes : List ℕ) (i : ℕ) → i + 8 ≤ length bytes → take 8 (drop i bytes) ≡ get_or bytes i 0 ∷ get_or bytes (i + 1) 0 ∷ get_or bytes (i + 2) 0 ∷ get_or bytes (i + 3) 0 ∷ get_or bytes (i + 4) 0 ∷ get_or bytes (i + 4 + 1) 0 ∷ get_or bytes (i + 4 + 2) 0 ∷ get_or bytes (i + 4 + 3) 0 ∷ []
row_of_eight bytes i within =
    eight_at bytes i within
    ∙ ap (λ (l : List ℕ). l ++ take 4 (drop (i + 4) bytes)) (four_at bytes i (omega (arith, within)))
    ∙ ap (λ (l : List ℕ). (get_or bytes i 0 ∷ get_or bytes (i + 1) 0 ∷ get_or bytes (i + 2) 0 ∷ get_or bytes (i + 3) 0 ∷ []) ++ l) (four_at bytes (i + 4) (omega (arith, within)))

in_part : (bytes : List ℕ) (i n k : ℕ) → ((j : ℕ) → get_or bytes j 0 < 256) → get_or (take n (drop i bytes)) k 0 < 256
in_part bytes i n k small = ⊎_elim
    (λ (less : k < n). subst (λ (x : ℕ). x < 256) (sym (get_or-take n (drop i bytes) k 0 less ∙ get_or-drop i bytes k 0)) (small (i + k)))
    (λ (past : n ≤ k). subst (λ (x : ℕ). x < 256) (sym (get_or_past (take n (drop i bytes)) k 0 (omega (arith, past, length-take n (drop i bytes))))) (omega arith))
    (cases_lt k n)

pub number_eight : (bytes : List ℕ) (i n : ℕ) → i + 8 ≤ length bytes → ((j : ℕ) → get_or bytes j 0 < 256) → n ≡ from_be_bytes w64 (take 8 (drop i bytes)) → eight n ≡ take 8 (drop i bytes)
unfolding eight
number_eight bytes i n within small is = be_bytes_8 (take 8 (drop i bytes)) n (omega (arith, length-take 8 (drop i bytes), length-drop i bytes, within)) (λ k. in_part bytes i 8 k small) is

pub number_four : (bytes : List ℕ) (i n : ℕ) → i + 4 ≤ length bytes → ((j : ℕ) → get_or bytes j 0 < 256) → n ≡ from_be_bytes w32 (take 4 (drop i bytes)) → four n ≡ take 4 (drop i bytes)
unfolding four
number_four bytes i n within small is = be_bytes_4 (take 4 (drop i bytes)) n (omega (arith, length-take 4 (drop i bytes), length-drop i bytes, within)) (λ k. in_part bytes i 4 k small) is

-- ---- a note made of bytes

joins : (bytes : List ℕ) (i n m : ℕ) → take n (drop i bytes) ++ take m (drop (i + n) bytes) ≡ take (n + m) (drop i bytes)
joins bytes i n m =
    ap (λ (l : List ℕ). l ++ take m (drop (i + n) bytes)) (sym (take-take n (n + m) (drop i bytes) (omega arith)))
    ∙ ap (λ (l : List ℕ). take n (take (n + m) (drop i bytes)) ++ l) (ap (take m) (sym (drop-drop n i bytes)) ∙ sym (drop-take n m (drop i bytes)))
    ∙ take-append-drop n (take (n + m) (drop i bytes))

pub made_change : (bytes : List ℕ) (left : ℕ) (c : Change) → length bytes ≡ 525 → ((j : ℕ) → get_or bytes j 0 < 256) → get_or bytes 0 0 ≡ 1 → 525 ≤ left → c.tx < 2 ^ 64 → c.slot < 2 ^ 20
    → c.tx ≡ from_be_bytes w64 (take 8 (drop 1 bytes)) → c.slot ≡ from_be_bytes w32 (take 4 (drop 9 bytes)) → c.old ≡ take 256 (drop 13 bytes) → c.new ≡ take 256 (drop 269 bytes) → BeginsWith bytes left (Changed c)
made_change bytes left c long small kind room fits within tx slot old new = record {
  sound = sound;
  within = omega (arith, length-change c sound, room);
  is = ap (λ (k : ℕ). take k bytes) (length-change c sound) ∙ take_all 525 bytes (omega (arith, long)) ∙ sym whole;
}
  where
    sound : IsNote (Changed c)
    sound = (fits, within, ap (length {A = ℕ}) old ∙ omega (arith, length-take 256 (drop 13 bytes), length-drop 13 bytes, long), ap (length {A = ℕ}) new ∙ omega (arith, length-take 256 (drop 269 bytes), length-drop 269 bytes, long))

    whole : note_bytes (Changed c) ≡ bytes
    whole =
        change_is c
        ∙ ap (λ (l : List ℕ). (1 ∷ []) ++ (eight c.tx ++ (four c.slot ++ (c.old ++ l)))) new
        ∙ ap (λ (l : List ℕ). (1 ∷ []) ++ (eight c.tx ++ (four c.slot ++ (l ++ take 256 (drop 269 bytes))))) old
        ∙ ap (λ (l : List ℕ). (1 ∷ []) ++ (eight c.tx ++ (four c.slot ++ l))) (joins bytes 13 256 256)
        ∙ ap (λ (l : List ℕ). (1 ∷ []) ++ (eight c.tx ++ (l ++ take 512 (drop 13 bytes)))) (number_four bytes 9 c.slot (omega (arith, long)) small slot)
        ∙ ap (λ (l : List ℕ). (1 ∷ []) ++ (eight c.tx ++ l)) (joins bytes 9 4 512)
        ∙ ap (λ (l : List ℕ). (1 ∷ []) ++ (l ++ take 516 (drop 9 bytes))) (number_eight bytes 1 c.tx (omega (arith, long)) small tx)
        ∙ ap (λ (l : List ℕ). (1 ∷ []) ++ l) (joins bytes 1 8 516)
        ∙ ap (λ (k : ℕ). k ∷ take 524 (drop 1 bytes)) (sym kind)
        ∙ ap (λ (l : List ℕ). get_or bytes 0 0 ∷ l) (take_all 524 (drop 1 bytes) (omega (arith, length-drop 1 bytes, long)))
        ∙ sym (drop_more bytes 0 0 (omega (arith, long)))

pub made_commit : (bytes : List ℕ) (left tx : ℕ) → length bytes ≡ 525 → ((j : ℕ) → get_or bytes j 0 < 256) → get_or bytes 0 0 ≡ 2 → 9 ≤ left → tx < 2 ^ 64
    → tx ≡ from_be_bytes w64 (take 8 (drop 1 bytes)) → BeginsWith bytes left (Commit tx)
made_commit bytes left tx long small kind room fits is = record {
  sound = fits;
  within = omega (arith, length-commit tx, room);
  is = ap (λ (k : ℕ). take k bytes) (length-commit tx)
      ∙ ap (take 9) (drop_more bytes 0 0 (omega (arith, long)))
      ∙ ap (λ (k : ℕ). k ∷ take 8 (drop 1 bytes)) kind
      ∙ ap (λ (l : List ℕ). 2 ∷ l) (sym (number_eight bytes 1 tx (omega (arith, long)) small is))
      ∙ sym (commit_is tx);
}
