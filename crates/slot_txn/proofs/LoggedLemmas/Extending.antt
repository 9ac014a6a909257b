-- Area 0 gets zeros up to the last slot that has a note.
use Rattle.std.proofs.Common.{◌≡◌, ◌≢◌, ℕ, ◌*◌, ◌<◌, ◌≤◌, List, [], ◌++◌, length, Option, sym, ◌∙◌, ap, subst, arith}
use Rattle.std.proofs.Math.Logic.{∥∥₁_prop, ∥∥₁_map, ∥∥₁_elim}
use Rattle.std.proofs.lemmas.List.{append-nil}
use Rattle.storage.specs.declared.slots.Undo.{Undo}
use Rattle.log_meaning.specs.steps.Steps.{Image, Run}
use Rattle.log_meaning.specs.declared.note.Note.{Note}
use Rattle.log_meaning.specs.Recovered.{changes_of}
use Rattle.log_meaning.specs.LogState.{notes_in, HasNotesTo, WritesNoted}
use Rattle.bi_log.specs.declared.log.Log.{Log}
use Rattle.bi_log.specs.Buffer.{content}
use Rattle.bi_log.proofs.Sealed.{no_length, no_notes}
use Rattle.slot_area.specs.declared.slot_area.SlotArea.{SlotArea}
use Rattle.slot_area.specs.Area.{unwritten}
use Rattle.checkpoint.specs.kept.KeptLog.{KeptLog, Leaves, Stay}
use Rattle.checkpoint.proofs.KeptLemmas.Framed.{there, frames_leave, framed_log}

module _ (committed reads : ℕ → List ℕ) (was now : ℕ) (left left' : ℕ → Image → Type 0) (log : Log) (area : SlotArea) (number : ℕ → Option ℕ) (list : ℕ → List Undo) (g e f n : ℕ)
    (kept : ∥ KeptLog committed reads (left was) log (unwritten area) number list g e f n ∥₁) (within : e ≤ area.end) (empty : length (content log.buffer) ≡ 0)
    (time : (extent : ℕ) (batches : List (List Note)) → ((image : Image) → left was image → 256 * extent ≤ length (image 0)) → ((k : ℕ) → area.end ≤ k → k < f → HasNotesTo extent batches k) → Run was now left left' (WritesNoted batches)) where
  -- each slot from the extent up to the last one that has a note has a settled note
  settled : (k : KeptLog committed reads (left was) log (unwritten area) number list g e f n) (s : ℕ) → e ≤ s → s < f → changes_of s (notes_in k.held.batches) ≢ []
  settled k s low lt =
      let none : k.buffered ≡ [] = no_notes k.buffered (sym k.keeps.notes.bytes ∙ no_length (content log.buffer) empty) in
      subst (λ (l : List Note). changes_of s l ≢ []) (ap (λ (b : List Note). notes_in k.held.batches ++ b) none ∙ append-nil (notes_in k.held.batches)) (k.filled_to.covered s low lt)

  run_of : (k : KeptLog committed reads (left was) log (unwritten area) number list g e f n) → Run was now left left' (WritesNoted k.held.batches)
  run_of k = time e k.held.batches (there committed reads was now left left' log (unwritten area) (unwritten area) number list g e f n k)
      (λ s from lt. record { own = settled k s (omega (arith, within, from)) lt; gap = λ j low before. settled k j low (omega (arith, before, lt)) })

  pub extend_leaves : Leaves was left' committed
  extend_leaves m image later known = ∥∥₁_elim kept ∥∥₁_prop (λ k. frames_leave committed reads was now left left' log (unwritten area) (unwritten area) number list g e f n k (run_of k) m image later known)

  pub extend_keeps : (un' : ℕ → Option ℕ) → Stay (unwritten area) un' → ∥ KeptLog committed reads (left' now) log un' number list g e f n ∥₁
  extend_keeps un' stay = ∥∥₁_map kept (λ k. framed_log committed reads was now left left' log (unwritten area) un' number list g e f n k (run_of k) stay)
