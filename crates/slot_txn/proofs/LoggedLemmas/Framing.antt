-- Slots are written to area 0 by their frames.
use Rattle.std.proofs.Common.{◌≡◌, ℕ, ◌*◌, ◌≤◌, List, length, Option, Some, ap, arith}
use Rattle.std.proofs.Math.Logic.{∥∥₁_prop, ∥∥₁_map, ∥∥₁_elim}
use Rattle.storage.specs.declared.slots.Undo.{Undo}
use Rattle.storage.specs.Disk.{Others}
use Rattle.log_meaning.specs.steps.Steps.{Image, Run, Any}
use Rattle.log_meaning.proofs.StepsLemmas.Runs.{wider}
use Rattle.log_meaning.specs.declared.note.Note.{Note}
use Rattle.log_meaning.specs.Images.{slot_of}
use Rattle.log_meaning.specs.LogState.{WritesNoted}
use Rattle.bi_log.specs.declared.log.Log.{Log}
use Rattle.slot_area.specs.declared.slot_area.SlotArea.{SlotArea}
use Rattle.slot_area.specs.Area.{unwritten, AreNoted}
use Rattle.checkpoint.specs.kept.KeptLog.{KeptLog, Leaves, Stay}
use Rattle.checkpoint.proofs.KeptLemmas.Framed.{may, there, frames_leave, framed_log}

module _ (committed reads : ℕ → List ℕ) (was now : ℕ) (left left' : ℕ → Image → Type 0) (log : Log) (area : SlotArea) (number : ℕ → Option ℕ) (list : ℕ → List Undo) (g e f n : ℕ)
    (kept : ∥ KeptLog committed reads (left was) log (unwritten area) number list g e f n ∥₁) (within : e ≤ area.end)
    (time : (extent : ℕ) (batches : List (List Note)) → extent ≤ area.end → ((image : Image) → left was image → 256 * extent ≤ length (image 0)) → AreNoted area log.settled extent batches → Run was now left left' (WritesNoted batches)) where
  run_of : (k : KeptLog committed reads (left was) log (unwritten area) number list g e f n) → Run was now left left' (WritesNoted k.held.batches)
  run_of k = time e k.held.batches within
      (there committed reads was now left left' log (unwritten area) (unwritten area) number list g e f n k)
      (may committed reads was now left left' log (unwritten area) (unwritten area) number list g e f n k)

  pub area_leaves : Leaves was left' committed
  area_leaves m image later known = ∥∥₁_elim kept ∥∥₁_prop (λ k. frames_leave committed reads was now left left' log (unwritten area) (unwritten area) number list g e f n k (run_of k) m image later known)

  pub area_keeps : (un' : ℕ → Option ℕ) → Stay (unwritten area) un' → ∥ KeptLog committed reads (left' now) log un' number list g e f n ∥₁
  area_keeps un' stay = ∥∥₁_map kept (λ k. framed_log committed reads was now left left' log (unwritten area) un' number list g e f n k (run_of k) stay)

-- any step
pub to_any : (was now : ℕ) (left left' : ℕ → Image → Type 0) → Run was now left left' (Others 0) → Run was now left left' Any
to_any was now left left' run = wider was now left left' (Others 0) Any run (λ d image there s. tt)

-- where all notes are settled each changed slot may be written
pub all_settled : (was now : ℕ) (left left' : ℕ → Image → Type 0) (area : SlotArea) (settled appended : ℕ) → settled ≡ appended → ((slot note : ℕ) → unwritten area slot ≡ Some note → note ≤ appended)
    → ((extent : ℕ) (batches : List (List Note)) → extent ≤ area.end → ((image : Image) → left was image → 256 * extent ≤ length (image 0)) → (all : ℕ) → ((k note : ℕ) → unwritten area k ≡ Some note → note ≤ all) → AreNoted area all extent batches → Run was now left left' (WritesNoted batches))
    → (extent : ℕ) (batches : List (List Note)) → extent ≤ area.end → ((image : Image) → left was image → 256 * extent ≤ length (image 0)) → AreNoted area settled extent batches → Run was now left left' (WritesNoted batches)
all_settled was now left left' area settled appended same few time extent batches within images noted = time extent batches within images settled (λ k note is. let le = few k note is in omega (arith, le, same)) noted

-- a call that changes no image writes no slot
pub unchanged_run : (was now : ℕ) (left left' : ℕ → Image → Type 0) → Run was now left left' (λ old new. new ≡ old) → (batches : List (List Note)) → Run was now left left' (WritesNoted batches)
unchanged_run was now left left' run batches = wider was now left left' (λ old new. new ≡ old) (WritesNoted batches) run (λ d image there is. record {
  others = λ k other. ap (λ (i : Image). i k) is;
  no_shorter = (let same = ap (λ (i : Image). length (i 0)) is in omega (arith, same));
  same = λ slot none. ap (λ (i : Image). slot_of (i 0) slot) is;
})

pub unchanged_any : (was now : ℕ) (left left' : ℕ → Image → Type 0) → Run was now left left' (λ old new. new ≡ old) → Run was now left left' Any
unchanged_any was now left left' run = wider was now left left' (λ old new. new ≡ old) Any run (λ d image there is. tt)
