-- Slots read one after the other, and the slots of notes over them.
use Rattle.std.proofs.Common.{◌≡◌, ⊎_elim, ℕ, ◌+◌, ◌*◌, ◌<◌, ◌≤◌, List, [], ◌∷◌, ◌++◌, length, replicate, Result, Ok, Err, IfOk, IsErrOf, sym, ◌∙◌, ap, arith}
use Rattle.std.proofs.Math.Seq.{get_or-append_seam}
use Rattle.std.proofs.lemmas.Bool.{cases_lt}
use Rattle.std.proofs.lemmas.List.{ext_get_or, get_or_append_left, get_or_past}
use Rattle.storage.specs.Disk.{Reads}
use Rattle.storage.specs.declared.slots.Undo.{Undo}
use Rattle.storage.specs.Slots.{undone}
use Rattle.log_meaning.specs.steps.Steps.{Image}
use Rattle.log_meaning.specs.declared.note.Note.{Note}
use Rattle.log_meaning.specs.Images.{IsNewest, Recovers, slot_of}
use Rattle.log_meaning.specs.Recovered.{recovered}
use Rattle.log_meaning.proofs.LogStates.{length-slot_of, get_or-slot_of}
use Rattle.bi_recovery.specs.ReadNotes.{HoldsNotes}
use Rattle.bi_recovery.proofs.Creating.{zeros_past}
use Rattle.recovered_view.specs.View.{slot_in}

-- what an answer says, said otherwise
pub ok_map : {T E : Type 0} (r : Result T E) (P Q : T → Type 0) → IfOk r P → ((x : T) → P x → Q x) → IfOk r Q
ok_map (Ok x) P Q p f = f x p
ok_map (Err e) P Q p f = tt

abbrev error_or : {T E : Type 0} → E → Result T E → E
error_or d (Ok x) = d
error_or d (Err e) = e

-- the same error of another result
pub same_error : {T U E : Type 0} (e f : E) → IsErrOf {T = T} (Err e) f → IsErrOf {T = U} (Err e) f
same_error e f is = ap (λ x. Err x) (ap (error_or e) is)

-- bytes that were read there are the slot
pub bytes_read : (area : List ℕ) (s : ℕ) (bytes : List ℕ) → length bytes ≡ 256 → Reads area (256 * s) bytes → bytes ≡ slot_of area s
bytes_read area s bytes long r = ext_get_or 0 bytes (slot_of area s) (long ∙ sym (length-slot_of area s)) (λ i lt. r i lt ∙ sym (get_or-slot_of area s i (omega (arith, lt, long))))

-- one slot more is read
pub one_more : (items : List (List ℕ)) (b : List ℕ) (k : ℕ) (f : ℕ → List ℕ) → length items ≡ k → ((j : ℕ) → j < k → slot_in items j ≡ f j) → b ≡ f k → (j : ℕ) → j < k + 1 → slot_in (items ++ b ∷ []) j ≡ f j
one_more items b k f long before this j lt = ⊎_elim
    (λ (less : j < k). get_or_append_left items (b ∷ []) (replicate 256 0) j (omega (arith, less, long)) ∙ before j less)
    (λ (from : k ≤ j).
    let last : j ≡ length items = omega (arith, from, lt, long) in
    let here : k ≡ j = omega (arith, from, lt) in
    ap (λ (n : ℕ). slot_in (items ++ b ∷ []) n) last ∙ get_or-append_seam items b [] (replicate 256 0) ∙ this ∙ ap f here)
    (cases_lt j k)

-- the slots past the end of area 0 are zeros
pub all_read : (items : List (List ℕ)) (area : List ℕ) (n : ℕ) → length items ≡ n → length area ≤ 256 * n → ((k : ℕ) → k < n → slot_in items k ≡ slot_of area k) → (k : ℕ) → slot_in items k ≡ slot_of area k
all_read items area n long whole read k = ⊎_elim
    (λ (less : k < n). read k less)
    (λ (from : n ≤ k). get_or_past items k (replicate 256 0) (omega (arith, from, long)) ∙ sym (zeros_past area k (omega (arith, from, whole))))
    (cases_lt k n)

-- the slots of notes over slots that are these
pub over_these : (noted : List Undo) (items now : List (List ℕ)) (f : ℕ → List ℕ) → ((k : ℕ) → slot_in items k ≡ f k) → ((k : ℕ) → slot_in now k ≡ undone noted (slot_in items) k) → (k : ℕ) → slot_in now k ≡ undone noted f k
over_these noted items now f same is k = is k ∙ ap (λ (g : ℕ → List ℕ). undone noted g k) all_same
  where
    all_same : slot_in items ≡ f
    all_same = λ i s. same s i

-- the image recovers to what its notes give
pub recovers_to : (seen : Image) (a g : ℕ) (notes : List Note) (slots : ℕ → List ℕ) → IsNewest seen a g → HoldsNotes (seen a) g notes → ((k : ℕ) → slots k ≡ recovered notes (slot_of (seen 0)) k) → Recovers seen slots
recovers_to seen a g notes slots newest h is = record {
  area = a;
  generation = g;
  batches = h.batches;
  newest = newest;
  log = h.log;
  gives = λ s. is s ∙ ap (λ (l : List Note). recovered l (slot_of (seen 0)) s) h.are;
}
