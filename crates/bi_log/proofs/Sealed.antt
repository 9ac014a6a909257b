-- The bytes of a buffer as a batch.
use Rattle.std.proofs.Common.{ℕ, List, ◌≡◌, ◌≢◌, ◌≤◌, ◌∷◌, [], ◌++◌, length, refl, ◌∙◌, ap, arith}
use Rattle.std.specs.List.{flat_map}
use Rattle.log_meaning.specs.declared.note.Note.{Note}
use Rattle.log_meaning.specs.Bytes.{four, note_bytes, after_gate}
use Rattle.log_meaning.proofs.OneLog.{no_bytes}

longer : (xs : List ℕ) → (xs ≡ [] → ⊥) → 1 ≤ length xs
longer [] not = absurd (not refl)
longer (x ∷ xs) not = omega arith

pub some_bytes : (notes : List Note) → notes ≢ [] → 1 ≤ length (flat_map note_bytes notes)
some_bytes [] some = absurd (some refl)
some_bytes (n ∷ notes) some = longer (note_bytes n ++ flat_map note_bytes notes) (no_bytes n (flat_map note_bytes notes))

-- a note has bytes
pub some_note : (n : Note) → 1 ≤ length (note_bytes n)
some_note n = longer (note_bytes n) (λ none. no_bytes n [] (ap (λ (l : List ℕ). l ++ []) none))

pub is_after_gate : (bytes content : List ℕ) (notes : List Note) → bytes ≡ four (length content) ++ content ++ 0 ∷ [] → content ≡ flat_map note_bytes notes → bytes ≡ after_gate notes
is_after_gate bytes content notes is same = is ∙ ap (λ (l : List ℕ). four (length l) ++ l ++ 0 ∷ []) same

pub no_length : (xs : List ℕ) → length xs ≡ 0 → xs ≡ []
no_length [] is = refl
no_length (x ∷ xs) is = absurd (omega (arith, is))

pub no_notes : (notes : List Note) → flat_map note_bytes notes ≡ [] → notes ≡ []
no_notes [] is = refl
no_notes (n ∷ notes) is = absurd (no_bytes n (flat_map note_bytes notes) is)
