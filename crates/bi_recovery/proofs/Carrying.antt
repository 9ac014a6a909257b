-- Slots carried into a new generation.
use Rattle.std.proofs.Common.{◌≡◌, ◌≢◌, inl, inr, ⊎_elim, ℕ, zero, suc, ◌+◌, ◌*◌, ◌<◌, ◌≤◌, Bool, false, ◌==◌, List, [], ◌∷◌, ◌++◌, length, get_or, take, refl, sym, ◌∙◌, ap, subst, arith, append_assoc}
use Rattle.std.proofs.lemmas.List.{ext_get_or, append-nil}
use Rattle.std.proofs.lemmas.List.Concat.{flat_map-append}
use Rattle.std.proofs.lemmas.List.Elements.{All-nil, All-push}
use Rattle.std.proofs.lemmas.Bool.{cases_eq, cases_lt, or_parts, eq-eqb, true≢false}
use Rattle.std.specs.List.{flat_map}
use Rattle.storage.specs.Disk.{Reads, Stays}
use Rattle.storage.specs.declared.slots.Undo.{Undo}
use Rattle.storage.specs.Slots.{wrote, undone}
use Rattle.log_meaning.specs.steps.Steps.{Image}
use Rattle.log_meaning.specs.declared.note.Change.{Change}
use Rattle.log_meaning.specs.declared.note.Note.{Note}
use Rattle.log_meaning.specs.Bytes.{note_bytes, IsNote}
use Rattle.log_meaning.specs.Images.{slot_of}
use Rattle.log_meaning.specs.Recovered.{changes_of}
use Rattle.log_meaning.specs.LogState.{notes_in, IsFilled}
use Rattle.log_meaning.proofs.Notes.{changes_of-here, changes_of-other}
use Rattle.log_meaning.proofs.LoggedStarts.{Each}
use Rattle.log_meaning.proofs.LogStates.{length-slot_of, get_or-slot_of}
use Rattle.log_meaning.proofs.Undone.{put-here, put-other}
use Rattle.bi_log.specs.declared.note_buffer.NoteBuffer.{NoteBuffer}
use Rattle.bi_log.specs.Appending.{fresh}
use Rattle.bi_log.specs.Buffer.{content}
use Rattle.bi_log.specs.Generations.{IsClosed, AfterGate, IsPrepared}
use Rattle.bi_log.specs.Carrying.{Carries}
use Rattle.bi_log.proofs.Sealed.{no_notes}
use Rattle.bi_recovery.specs.Carried.{still, stills, IsCarried}
use Rattle.bi_recovery.proofs.Stilling.{IsStill}

-- the first entry of a slot counts
pub undone_first : (us : List Undo) (i : ℕ) (d : Undo) (below : ℕ → List ℕ) (s : ℕ) → i < length us → wrote (take i us) s ≡ false → s ≡ (get_or us i d).slot → undone us below s ≡ (get_or us i d).old
undone_first [] i d below s lt none is = absurd (omega (arith, lt))
undone_first (u ∷ us) zero d below s lt none is = put-here (undone us below) u.slot s u.old is
undone_first (u ∷ us) (suc i) d below s lt none is =
    let parts = or_parts (s == u.slot) (wrote (take i us) s) none in
    put-other (undone us below) u.slot s u.old (other (parts.0)) ∙ undone_first us i d below s (omega (arith, lt)) (parts.1) is
  where
    other : (s == u.slot) ≡ false → s ≢ u.slot
    other not same = true≢false (sym (eq-eqb s u.slot same) ∙ not)

-- bytes that were read there are the slot
pub bytes_read : (area : List ℕ) (s : ℕ) (bytes : List ℕ) → length bytes ≡ 256 → Reads area (256 * s) bytes → bytes ≡ slot_of area s
bytes_read area s bytes long r = ext_get_or 0 bytes (slot_of area s) (long ∙ sym (length-slot_of area s)) (λ i lt. r i lt ∙ sym (get_or-slot_of area s i (omega (arith, lt, long))))

-- ---- the notes

stills_each : (f : ℕ → List ℕ) (n s : ℕ) → Each (IsStill (f s)) (changes_of s (stills f n))
stills_each f zero s = tt
stills_each f (suc n) s = elim (cases_eq n s) [
  | inl here ↦ subst (Each (IsStill (f s))) (sym (changes_of-here s (stills f n) (record { tx = 0; slot = n; old = f n; new = f n }) here))
      (each_push (IsStill (f s)) (changes_of s (stills f n)) _ (stills_each f n s) (ap f here, ap f here))
  | inr other ↦ subst (Each (IsStill (f s))) (sym (changes_of-other s (stills f n) (record { tx = 0; slot = n; old = f n; new = f n }) other)) (stills_each f n s)
]
  where
    each_push : (P : Change → Type 0) (cs : List Change) (c : Change) → Each P cs → P c → Each P (cs ++ c ∷ [])
    each_push P [] c each it = (it, tt)
    each_push P (x ∷ cs) c each it = (each.0, each_push P cs c (each.1) it)

pub still_notes : (f : ℕ → List ℕ) (n s : ℕ) → Each (IsStill (f s)) (changes_of s (stills f n))
still_notes f n s = stills_each f n s

pub stills_below : (f : ℕ → List ℕ) (n s : ℕ) → s < n → changes_of s (stills f n) ≢ []
stills_below f zero s lt = absurd (omega (arith, lt))
stills_below f (suc n) s lt = elim (cases_eq n s) [
  | inl here ↦ λ none. some (changes_of s (stills f n)) _ (sym (changes_of-here s (stills f n) (record { tx = 0; slot = n; old = f n; new = f n }) here) ∙ none)
  | inr other ↦ λ none. stills_below f n s (less other) (sym (changes_of-other s (stills f n) (record { tx = 0; slot = n; old = f n; new = f n }) other) ∙ none)
]
  where
    some : (cs : List Change) (c : Change) → cs ++ c ∷ [] ≡ [] → ⊥
    some [] c is = cc
    some (x ∷ cs) c is = cc

    less : n ≢ s → s < n
    less other = ⊎_elim (λ (it : s < n). it) (λ (le : n ≤ s). absurd (other (omega (arith, le, lt)))) (cases_lt s n)

pub stills_past : (f : ℕ → List ℕ) (n s : ℕ) → n ≤ s → changes_of s (stills f n) ≡ []
stills_past f zero s le = refl
stills_past f (suc n) s le = changes_of-other s (stills f n) (record { tx = 0; slot = n; old = f n; new = f n }) (λ is. omega (arith, is, le)) ∙ stills_past f n s (omega (arith, le))

pub stills_filled : (e : ℕ) (f : ℕ → List ℕ) (n : ℕ) → IsFilled e (stills f n)
stills_filled e f n slot k has from lt = ⊎_elim (λ (within : slot < n). stills_below f n k (omega (arith, within, lt))) (λ (past : n ≤ slot). absurd (has (stills_past f n slot past))) (cases_lt slot n)

-- ---- steps of the loop

-- one note more in the buffer
pub carries_note : (left : Image → Type 0) (area gate : ℕ) (old new : NoteBuffer) (g : ℕ) (f : ℕ → List ℕ) (n : ℕ) (note : Note) → Carries left area gate old g (stills f n) → content new ≡ content old ++ note_bytes note → note ≡ still f n → IsNote note → Carries left area gate new g (stills f (n + 1))
carries_note left area gate old new g f n note k bytes is sound = record {
  held = k.held;
  buffered = k.buffered ++ note ∷ [];
  is_generation = k.is_generation;
  has = record { bytes = bytes ∙ ap (λ (l : List ℕ). l ++ note_bytes note) k.has.bytes ∙ sym (more k.buffered); sound = All-push IsNote k.buffered note k.has.sound sound };
  prepared = k.prepared;
  are = ap (stills f) next ∙ ap (λ (l : List Note). l ++ still f n ∷ []) k.are ∙ ap (λ (x : Note). (notes_in k.held.batches ++ k.buffered) ++ x ∷ []) (sym is) ∙ append_assoc (notes_in k.held.batches) k.buffered (note ∷ []);
}
  where
    next : n + 1 ≡ suc n
    next = omega arith

    more : (notes : List Note) → flat_map note_bytes (notes ++ note ∷ []) ≡ flat_map note_bytes notes ++ note_bytes note
    more notes = flat_map-append note_bytes notes (note ∷ []) ∙ ap (λ (l : List ℕ). flat_map note_bytes notes ++ l) (append-nil (note_bytes note))

-- a call that makes no moment
pub carries_stay : (a b : Bool) (x y : Image) (was now : ℕ) (before after : ℕ → Image → Type 0) (area gate : ℕ) (buffer : NoteBuffer) (g : ℕ) (notes : List Note) → Stays a b x y was now before after → Carries (before was) area gate buffer g notes → Carries (after now) area gate buffer g notes
carries_stay a b x y was now before after area gate buffer g notes s k = record {
  held = k.held;
  buffered = k.buffered;
  is_generation = k.is_generation;
  has = k.has;
  are = k.are;
  prepared = λ image left. k.prepared image (subst (λ (m : ℕ). before m image) s.moment (s.nothing_else now image left));
}

pub carries_start : (left : Image → Type 0) (area : ℕ) (buffer : NoteBuffer) (g : ℕ) (f : ℕ → List ℕ) → content buffer ≡ [] → ((image : Image) → left image → IsPrepared (image area) (fresh g) 32) → Carries left area 32 buffer g (stills f 0)
carries_start left area buffer g f empty prepared = record { held = fresh g; buffered = []; is_generation = refl; has = record { bytes = empty; sound = All-nil IsNote }; prepared = prepared; are = refl }

pub carries_end : (left : Image → Type 0) (area gate : ℕ) (buffer : NoteBuffer) (g : ℕ) (notes : List Note) → content buffer ≡ [] → Carries left area gate buffer g notes → IsCarried left area gate g notes
carries_end left area gate buffer g notes empty k = record {
  held = k.held;
  is_generation = k.is_generation;
  prepared = k.prepared;
  are = k.are ∙ ap (λ (l : List Note). notes_in k.held.batches ++ l) (no_notes k.buffered (sym k.has.bytes ∙ empty)) ∙ append-nil (notes_in k.held.batches);
}

pub closed_step : (area : ℕ) (d image : Image) → AfterGate area d image → IsClosed (d area) → IsClosed (image area)
closed_step area d image s closed = record {
  gate = λ one. closed.gate (sym (s.gate.same 0 (omega arith)) ∙ one);
  there = (let longer = s.gate.no_shorter in let had = closed.there in omega (arith, longer, had));
}
