-- The notes of one write more, carried.
use Rattle.std.proofs.Common.{◌≡◌, ◌⊎◌, inl, inr, ⊎_elim, ℕ, ◌+◌, ◌<◌, ◌==◌, ◌||◌, Bool, true, false, List, [], ◌∷◌, ◌++◌, length, get_or, take, sym, ◌∙◌, ap, subst, append_assoc}
use Rattle.std.proofs.lemmas.List.{take_more, map-append, append-nil}
use Rattle.std.proofs.lemmas.List.Concat.{flat_map-append}
use Rattle.std.proofs.lemmas.List.Elements.{All-push}
use Rattle.std.proofs.lemmas.Bool.{cases_Bool, eqb-true, true≢false}
use Rattle.std.specs.List.{flat_map}
use Rattle.storage.specs.declared.slots.Undo.{Undo}
use Rattle.storage.specs.Slots.{wrote}
use Rattle.log_meaning.specs.steps.Steps.{Image, Run}
use Rattle.log_meaning.proofs.StepsLemmas.Runs.{joined, traced}
use Rattle.log_meaning.specs.declared.note.Note.{Note}
use Rattle.log_meaning.specs.declared.note.Note.TheVariants.{Change as Changed}
use Rattle.log_meaning.specs.Bytes.{note_bytes, IsNote}
use Rattle.log_meaning.specs.Logged.{carried_of}
use Rattle.log_meaning.specs.LogState.{notes_in}
use Rattle.bi_log.specs.declared.note_buffer.NoteBuffer.{NoteBuffer}
use Rattle.bi_log.specs.Buffer.{content}
use Rattle.bi_log.specs.Generations.{IsClosed, AfterGate}
use Rattle.bi_log.specs.Carrying.{Carries}
use Rattle.bi_log.proofs.Preparing.{after_none, after_twice}
use Rattle.bi_recovery.proofs.Carrying.{closed_step}

-- the note of a write that is carried
abbrev pub note_of : ℕ → (ℕ → List ℕ) → Undo → Note
note_of tx reads u = Changed (record { tx = tx; slot = u.slot; old = u.old; new = reads u.slot })

pub carried_more : (tx : ℕ) (reads : ℕ → List ℕ) (us : List Undo) (i : ℕ) (d : Undo) → i < length us → carried_of tx reads (take (i + 1) us) ≡ carried_of tx reads (take i us) ++ note_of tx reads (get_or us i d) ∷ []
carried_more tx reads us i d lt = ap (carried_of tx reads) (take_more us i d lt) ∙ map-append (note_of tx reads) (take i us) (get_or us i d ∷ [])

-- one note more in the buffer
pub carries_push : (left : Image → Type 0) (area gate : ℕ) (old new : NoteBuffer) (g : ℕ) (notes : List Note) (note : Note) → Carries left area gate old g notes → content new ≡ content old ++ note_bytes note → IsNote note → Carries left area gate new g (notes ++ note ∷ [])
carries_push left area gate old new g notes note k bytes sound = record {
  held = k.held;
  buffered = k.buffered ++ note ∷ [];
  is_generation = k.is_generation;
  has = record { bytes = bytes ∙ ap (λ (l : List ℕ). l ++ note_bytes note) k.has.bytes ∙ sym (more k.buffered); sound = All-push IsNote k.buffered note k.has.sound sound };
  prepared = k.prepared;
  are = ap (λ (l : List Note). l ++ note ∷ []) k.are ∙ append_assoc (notes_in k.held.batches) k.buffered (note ∷ []);
}
  where
    more : (l : List Note) → flat_map note_bytes (l ++ note ∷ []) ≡ flat_map note_bytes l ++ note_bytes note
    more l = flat_map-append note_bytes l (note ∷ []) ∙ ap (λ (b : List ℕ). flat_map note_bytes l ++ b) (append-nil (note_bytes note))

-- the write of this place is carried too
pub carries_write : (left : Image → Type 0) (area gate : ℕ) (old new : NoteBuffer) (g : ℕ) (notes : List Note) (tx : ℕ) (reads : ℕ → List ℕ) (us : List Undo) (i : ℕ) (u : Undo) → i < length us → u ≡ get_or us i u
    → Carries left area gate old g (notes ++ carried_of tx reads (take i us)) → content new ≡ content old ++ note_bytes (note_of tx reads u) → IsNote (note_of tx reads u) → Carries left area gate new g (notes ++ carried_of tx reads (take (i + 1) us))
carries_write left area gate old new g notes tx reads us i u lt is k bytes sound = subst (Carries left area gate new g) same (carries_push left area gate old new g (notes ++ carried_of tx reads (take i us)) (note_of tx reads u) k bytes sound)
  where
    same : (notes ++ carried_of tx reads (take i us)) ++ note_of tx reads u ∷ [] ≡ notes ++ carried_of tx reads (take (i + 1) us)
    same = append_assoc notes (carried_of tx reads (take i us)) (note_of tx reads u ∷ []) ∙ ap (λ (l : List Note). notes ++ l) (ap (λ (x : Undo). carried_of tx reads (take i us) ++ note_of tx reads x ∷ []) is ∙ sym (carried_more tx reads us i u lt))

-- no note more
pub carries_same : (left : Image → Type 0) (area gate : ℕ) (buffer : NoteBuffer) (g : ℕ) (notes more : List Note) → more ≡ [] → Carries left area gate buffer g notes → Carries left area gate buffer g (notes ++ more)
carries_same left area gate buffer g notes more none k = subst (Carries left area gate buffer g) (sym (append-nil notes) ∙ ap (λ (l : List Note). notes ++ l) (sym none)) k

-- ---- the writes of a list

-- a slot of the first writes is that of the last of them, or of one before
pub wrote_more : (us : List Undo) (i : ℕ) (u : Undo) (s : ℕ) → i < length us → u ≡ get_or us i u → wrote (take (i + 1) us) s ≡ true → (wrote (take i us) s ≡ true) ⊎ (s ≡ u.slot)
wrote_more us i u s lt is w = of_end (take i us) (sym (ap (λ (l : List Undo). wrote l s) (take_more us i u lt ∙ ap (λ (x : Undo). take i us ++ x ∷ []) (sym is))) ∙ w)
  where
    of_end : (l : List Undo) → wrote (l ++ u ∷ []) s ≡ true → (wrote l s ≡ true) ⊎ (s ≡ u.slot)
    of_end [] h = elim (cases_Bool (s == u.slot)) [
      | inl here ↦ inr (eqb-true s u.slot here)
      | inr far ↦ absurd (true≢false (sym h ∙ ap (λ (b : Bool). b || false) far))
    ]
    of_end (x ∷ l) h = elim (cases_Bool (s == x.slot)) [
      | inl here ↦ inl (ap (λ (b : Bool). b || wrote l s) here)
      | inr far ↦ ⊎_elim
          (λ (before : wrote l s ≡ true). inl (ap (λ (b : Bool). b || wrote l s) far ∙ before))
          (λ (last : s ≡ u.slot). inr last)
          (of_end l (sym (ap (λ (b : Bool). b || wrote (l ++ u ∷ []) s) far) ∙ h))
    ]

-- ---- runs

pub then_after : (was mid now : ℕ) (before between after : ℕ → Image → Type 0) (area : ℕ) → Run was mid before between (AfterGate area) → Run mid now between after (AfterGate area) → Run was now before after (AfterGate area)
then_after was mid now before between after area one two = joined _ _ _ _ _ _ (AfterGate area) (AfterGate area) (AfterGate area) one two (λ d image there s. s) (λ d image there m s. s) (λ d e image there x m y. after_twice area d e image x y)

pub closed_run : (was now : ℕ) (before after : ℕ → Image → Type 0) (area : ℕ) → Run was now before after (AfterGate area) → ((image : Image) → before was image → IsClosed (image area)) → (image : Image) → after now image → IsClosed (image area)
closed_run was now before after area run closed image left = let h = traced _ _ _ _ (AfterGate area) run (λ d. after_none area d) image left in closed_step area (h.0) image (h.2) (closed (h.0) (h.1))
