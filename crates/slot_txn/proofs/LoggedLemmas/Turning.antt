-- The next generation over an area 0 that has all slots as they read.
use Rattle.std.proofs.Common.{◌≡◌, ⊎_elim, ℕ, ◌+◌, ◌-◌, ◌<◌, ◌≤◌, true, List, [], ◌∷◌, length, Option, Some, None, refl, sym, ◌∙◌, ap, subst, arith}
use Rattle.std.proofs.Math.Logic.{∥∥₁_prop, ∥∥₁_map, ∥∥₁_elim}
use Rattle.std.proofs.lemmas.Bool.{cases_lt, true≢false}
use Rattle.std.proofs.lemmas.List.Elements.{All-nil}
use Rattle.storage.specs.declared.slots.Undo.{Undo}
use Rattle.storage.specs.Disk.{Others}
use Rattle.storage.specs.Slots.{undone, wrote}
use Rattle.log_meaning.specs.steps.Steps.{Image, Run}
use Rattle.log_meaning.specs.Bytes.{IsNote}
use Rattle.log_meaning.specs.Images.{slot_of}
use Rattle.bi_log.specs.declared.log.Log.{Log}
use Rattle.bi_log.specs.declared.note_buffer.NoteBuffer.{NoteBuffer}
use Rattle.bi_log.specs.Buffer.{content}
use Rattle.bi_log.specs.Logs.{HasNotes}
use Rattle.bi_recovery.specs.Carried.{IsOpenLog, CarriesTo}
use Rattle.checkpoint.specs.kept.KeptLog.{KeptLog, Leaves}
use Rattle.open_transactions.specs.declared.client.Client.{Client}
use Rattle.open_transactions.specs.Clients.{list_of, list_in, lists, number_in}
use Rattle.open_transactions.proofs.Parts.{part_past}
use Rattle.slot_area.specs.declared.slot_area.SlotArea.{SlotArea}
use Rattle.slot_area.specs.Area.{view, unwritten, IsKept, IsWhole}
use Rattle.slot_area.proofs.Laws.{all_written}
use Rattle.checkpoint.specs.next.Carrying.{notes_below}
use Rattle.checkpoint.proofs.NextLemmas.Opening.{turning_leaves, turned_log}
use Rattle.slot_txn.proofs.LoggedLemmas.Composing.{numbered_in}

pub none_long : (xs : List ℕ) → length xs ≡ 0 → xs ≡ []
none_long [] is = refl
none_long (x ∷ xs) is = cc

pub no_notes_left : (buffer : NoteBuffer) → content buffer ≡ [] → HasNotes buffer []
no_notes_left buffer empty = record { bytes = empty; sound = All-nil IsNote }

module _ (seen : List ℕ) (was now : ℕ) (left left' : ℕ → Image → Type 0) (log log' : Log) (area : SlotArea) (cs : List Client) (g e f n gate : ℕ)
    (kept : ∥ KeptLog (undone (lists cs) (view area seen)) (view area seen) (left was) log (unwritten area) (number_in cs) (list_in cs) g e f n ∥₁)
    (is_kept : IsKept area seen) (whole : IsWhole area.end seen) (written : (s : ℕ) → unwritten area s ≡ None)
    (same : (image : Image) → left was image → image 0 ≡ seen) (sixteen : length cs ≡ 16)
    (below : (c s : ℕ) → c < 16 → wrote (list_in cs c) s ≡ true → s < area.end) where
  reads_are : (s : ℕ) → slot_of seen s ≡ view area seen s
  reads_are = all_written area seen is_kept whole written

  reads_same : slot_of seen ≡ view area seen
  reads_same = λ i s. reads_are s i

  -- each image of the steps to it recovers to what is committed
  pub turn_leaves : Run was now left left' (CarriesTo (3 - log.area) (g + 1) (notes_below (number_in cs) (slot_of seen) (list_in cs) 16)) → Leaves was left' (undone (lists cs) (view area seen))
  turn_leaves run m image later known = ∥∥₁_elim kept ∥∥₁_prop (λ k. turning_leaves (undone (lists cs) (view area seen)) (view area seen) was now left left' log log' (unwritten area) (unwritten area) (number_in cs) (list_in cs) g e f n area.end gate seen k same reads_are is_kept.there
      (subst (λ (r : ℕ → List ℕ). Run was now left left' (CarriesTo (3 - log.area) (g + 1) (notes_below (number_in cs) r (list_in cs) 16))) reads_same run) m image later known)

  owned : (c s : ℕ) → wrote (list_in cs c) s ≡ true → (s < area.end) × (c < 16) × ((tx : ℕ) × (number_in cs c ≡ Some tx))
  owned c s w = (below c s within w, within, its (number_in cs c) refl)
    where
      empty : list_in cs c ≡ [] → ⊥
      empty none = true≢false (sym w ∙ ap (λ (us : List Undo). wrote us s) none)

      within : c < 16
      within = ⊎_elim (λ (lt : c < 16). lt) (λ (past : 16 ≤ c). absurd (empty (part_past [] list_of cs c (omega (arith, sixteen, past))))) (cases_lt c 16)

      its : (o : Option ℕ) → number_in cs c ≡ o → (tx : ℕ) × (number_in cs c ≡ Some tx)
      its None is = absurd (empty (numbered_in cs c is))
      its (Some tx) is = (tx, is)

  -- and the log is kept
  pub turn_keeps : Run was now left left' (Others (3 - log.area)) → IsOpenLog (left' now) (3 - log.area) gate (g + 1) (notes_below (number_in cs) (slot_of seen) (list_in cs) 16) → content log'.buffer ≡ [] → log'.area ≡ 3 - log.area → log'.gate ≡ gate
      → ∥ KeptLog (undone (lists cs) (view area seen)) (view area seen) (left' now) log' (unwritten area) (number_in cs) (list_in cs) (g + 1) area.end area.end n ∥₁
  turn_keeps run opened empty place at = ∥∥₁_map kept (λ k. turned_log (undone (lists cs) (view area seen)) (view area seen) was now left left' log log' (unwritten area) (unwritten area) (number_in cs) (list_in cs) g e f n area.end gate seen k same reads_are is_kept.there
      run (subst (λ (r : ℕ → List ℕ). IsOpenLog (left' now) (3 - log.area) gate (g + 1) (notes_below (number_in cs) r (list_in cs) 16)) reads_same opened) (no_notes_left log'.buffer empty) place at written owned)
