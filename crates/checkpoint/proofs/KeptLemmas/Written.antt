-- The log after the note of one change more.
use Rattle.std.proofs.Common.{◌≡◌, ◌≢◌, ◌⊎◌, inl, inr, ⊎_elim, ℕ, ◌+◌, ◌*◌, ◌<◌, ◌≤◌, true, false, List, [], ◌∷◌, ◌++◌, Option, Some, None, sym, ◌∙◌, ap, subst, append_assoc}
use Rattle.std.proofs.lemmas.Bool.{cases_eq}
use Rattle.storage.specs.declared.slots.Undo.{Undo}
use Rattle.storage.specs.Slots.{put, wrote}
use Rattle.log_meaning.specs.steps.Steps.{Image}
use Rattle.log_meaning.specs.declared.note.Change.{Change}
use Rattle.log_meaning.specs.declared.note.Note.{Note}
use Rattle.log_meaning.specs.declared.note.Note.TheVariants.{Change as Changed}
use Rattle.log_meaning.specs.Recovered.{changes_of}
use Rattle.log_meaning.specs.LogState.{notes_in, LogState}
use Rattle.log_meaning.specs.Logged.{Logged}
use Rattle.log_meaning.proofs.LoggedSteps.{writes}
use Rattle.log_meaning.proofs.LoggedEnds.{takes_back}
use Rattle.log_meaning.proofs.Filling.{skips}
use Rattle.log_meaning.proofs.Undone.{wrote-other, wrote-before}
use Rattle.bi_log.specs.declared.log.Log.{Log}
use Rattle.bi_log.specs.Appending.{Held, RestsAt}
use Rattle.bi_log.specs.Logs.{HasNotes, Keeps}
use Rattle.checkpoint.specs.kept.Numbers.{is_live, undo_of, AreBelow}
use Rattle.checkpoint.specs.kept.KeptLog.{KeptLog, IsFilledTo, AreNoted}
use Rattle.checkpoint.proofs.KeptLemmas.Numbered.{number_live, undo_number, undo_others, alone_undo, below_more}
use Rattle.checkpoint.proofs.KeptLemmas.Noted.{filled_note, changes_more, still_noted, now_noted}

-- the log with other notes in its buffer
pub appended : (log log' : Log) (left : Image → Type 0) (held : Held) (notes notes' : List Note) → Keeps log left held notes → log'.area ≡ log.area → log'.gate ≡ log.gate → HasNotes log'.buffer notes' → Keeps log' left held notes'
appended log log' left held notes notes' k area gate has = record {
  each = λ image l. subst (λ (a : ℕ). RestsAt (image a) held log'.gate) (sym area) (subst (λ (x : ℕ). RestsAt (image log.area) held x) (sym gate) (k.each image l));
  notes = has;
}

module _ (committed reads : ℕ → List ℕ) (left : Image → Type 0) (log log' : Log) (un un' : ℕ → Option ℕ) (number : ℕ → Option ℕ) (list : ℕ → List Undo) (g e f f' n : ℕ)
    (k : KeptLog committed reads left log un number list g e f n) (ch : Change)
    (area : log'.area ≡ log.area) (gate : log'.gate ≡ log.gate) (counted : log'.settled ≡ log.settled) (has : HasNotes log'.buffer (k.buffered ++ Changed ch ∷ []))
    (up : ((f ≤ ch.slot) × (f' ≡ ch.slot + 1)) ⊎ ((ch.slot < f) × (f' ≡ f))) (le : ch.slot ≤ f) (lt : ch.tx < 16 * n)
    (stay : (s : ℕ) → s ≢ ch.slot → (un' s ≡ un s) ⊎ (un' s ≡ None)) (mine : (note : ℕ) → un' ch.slot ≡ Some note → log.settled < note) where
  assoc : (notes_in k.held.batches ++ k.buffered) ++ Changed ch ∷ [] ≡ notes_in k.held.batches ++ (k.buffered ++ Changed ch ∷ [])
  assoc = append_assoc (notes_in k.held.batches) k.buffered (Changed ch ∷ [])

  -- where the slots read so, and the clients have these writes
  more_log : (reads' : ℕ → List ℕ) (list' : ℕ → List Undo) → Logged ((notes_in k.held.batches ++ k.buffered) ++ Changed ch ∷ []) k.base committed reads' (is_live number) (undo_of number list')
      → ((c s : ℕ) → wrote (list' c) s ≡ true → (s ≡ ch.slot) ⊎ (wrote (list c) s ≡ true)) → KeptLog committed reads' left log' un' number list' g e f' n
  more_log reads' list' logged within = record {
    held = k.held;
    buffered = k.buffered ++ Changed ch ∷ [];
    base = k.base;
    generation_is = k.generation_is;
    keeps = appended log log' left k.held k.buffered (k.buffered ++ Changed ch ∷ []) k.keeps area gate has;
    agrees = λ image known. subst (λ (a : ℕ). LogState a k.held.generation e k.held.batches k.base image) (sym area) (k.agrees image known);
    logged = subst (λ (l : List Note). Logged l k.base committed reads' (is_live number) (undo_of number list')) assoc logged;
    settled = k.settled;
    numbered = k.numbered;
    below = subst (AreBelow (16 * n)) assoc (below_more (16 * n) (notes_in k.held.batches ++ k.buffered) (Changed ch ∷ []) k.below (lt, tt));
    settled_filled = k.settled_filled;
    filled_to = subst (IsFilledTo e f') assoc (filled_note e f f' (notes_in k.held.batches ++ k.buffered) ch k.filled_to le up);
    changes = subst (λ (l : List Note). AreNoted un' log'.settled (notes_in k.held.batches) l) assoc (subst (λ (x : ℕ). AreNoted un' x (notes_in k.held.batches) ((notes_in k.held.batches ++ k.buffered) ++ Changed ch ∷ [])) (sym counted)
        (changes_more un un' log.settled (notes_in k.held.batches) (notes_in k.held.batches ++ k.buffered) ch stay mine k.changes));
    noted = λ c s w. subst (λ (l : List Note). changes_of s l ≢ []) assoc (⊎_elim
        (λ (here : s ≡ ch.slot). now_noted s (notes_in k.held.batches ++ k.buffered) ch (sym here))
        (λ (before : wrote (list c) s ≡ true). still_noted s (notes_in k.held.batches ++ k.buffered) (Changed ch ∷ []) (k.noted c s before))
        (within c s w));
  }

  -- a client wrote the slot, which no other has written
  pub wrote_log : (list' : ℕ → List Undo) (c : ℕ) (u : Undo) → number c ≡ Some ch.tx → ch.old ≡ reads ch.slot → u.slot ≡ ch.slot → u.old ≡ reads ch.slot → ((d : ℕ) → d ≢ c → wrote (list d) ch.slot ≡ false)
      → list' c ≡ list c ++ u ∷ [] → ((d : ℕ) → d ≢ c → list' d ≡ list d) → KeptLog committed (put reads ch.slot ch.new) left log' un' number list' g e f' n
  wrote_log list' c u is olds at olds' alone more others =
      let modulo = (k.numbered c ch.tx is).0 in
      more_log (put reads ch.slot ch.new) list'
      (writes (notes_in k.held.batches ++ k.buffered) k.base committed reads (is_live number) (undo_of number list) (undo_of number list') ch u k.logged (number_live number c ch.tx is modulo) olds at olds'
      (alone_undo number list c ch.tx ch.slot is alone)
      (undo_number number list' c ch.tx is modulo ∙ more ∙ ap (λ (us : List Undo). us ++ u ∷ []) (sym (undo_number number list c ch.tx is modulo)))
      (undo_others number list list' c ch.tx is others))
      (λ d s w. elim (cases_eq d c) [
        | inl its ↦ elim (cases_eq s ch.slot) [
          | inl here ↦ inl here
          | inr far ↦ inr (ap (λ (x : ℕ). wrote (list x) s) its ∙ sym (wrote-other (list c) u s (λ e. far (e ∙ at))) ∙ sym (ap (λ (us : List Undo). wrote us s) more) ∙ sym (ap (λ (x : ℕ). wrote (list' x) s) its) ∙ w)
        ]
        | inr ne ↦ inr (ap (λ (us : List Undo). wrote us s) (sym (others d ne)) ∙ w)
      ])

  -- a client's last write was put back
  pub put_back_log : (list' : ℕ → List Undo) (c : ℕ) (u : Undo) → number c ≡ Some ch.tx → ch.old ≡ reads ch.slot → u.slot ≡ ch.slot → u.old ≡ ch.new
      → list c ≡ list' c ++ u ∷ [] → ((d : ℕ) → d ≢ c → list' d ≡ list d) → KeptLog committed (put reads ch.slot ch.new) left log' un' number list' g e f' n
  put_back_log list' c u is olds at news less others =
      let modulo = (k.numbered c ch.tx is).0 in
      more_log (put reads ch.slot ch.new) list'
      (takes_back (notes_in k.held.batches ++ k.buffered) k.base committed reads (is_live number) (undo_of number list) (undo_of number list') ch u k.logged (number_live number c ch.tx is modulo) olds at news
      (undo_number number list c ch.tx is modulo ∙ less ∙ ap (λ (us : List Undo). us ++ u ∷ []) (sym (undo_number number list' c ch.tx is modulo)))
      (undo_others number list list' c ch.tx is others))
      (λ d s w. elim (cases_eq d c) [
        | inl its ↦ inr (ap (λ (x : ℕ). wrote (list x) s) its ∙ ap (λ (us : List Undo). wrote us s) less ∙ wrote-before (list' c) u s (sym (ap (λ (x : ℕ). wrote (list' x) s) its) ∙ w))
        | inr ne ↦ inr (ap (λ (us : List Undo). wrote us s) (sym (others d ne)) ∙ w)
      ])

  -- a slot without a note was noted as it reads
  pub filled_log : ch.old ≡ reads ch.slot → ch.new ≡ ch.old → f ≤ ch.slot → KeptLog committed reads left log' un' number list g e f' n
  filled_log olds same past = more_log reads list (skips (notes_in k.held.batches ++ k.buffered) k.base committed reads (is_live number) (undo_of number list) ch k.logged (k.filled_to.uncovered ch.slot past) olds same) (λ c s w. inr w)
