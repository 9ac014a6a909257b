-- The log after slots were written to area 0, each with a settled note.
use Rattle.std.proofs.Common.{◌≡◌, ℕ, ◌*◌, ◌≤◌, List, ◌++◌, length, Option, Some, refl, sym, subst}
use Rattle.storage.specs.declared.slots.Undo.{Undo}
use Rattle.log_meaning.specs.steps.Steps.{Image, Run}
use Rattle.log_meaning.proofs.StepsLemmas.Runs.{traced}
use Rattle.log_meaning.specs.LogState.{notes_in, HasNotesTo, WritesNoted}
use Rattle.log_meaning.proofs.LogStates.{other_of}
use Rattle.log_meaning.proofs.Filling.{writes_none, writes_agree}
use Rattle.bi_log.specs.declared.log.Log.{Log}
use Rattle.bi_log.specs.Appending.{RestsAt}
use Rattle.checkpoint.specs.kept.KeptLog.{KeptLog, Leaves, Stay}
use Rattle.checkpoint.proofs.KeptLemmas.Flushed.{recovers_to}
use Rattle.checkpoint.proofs.KeptLemmas.Noted.{changes_stay}

module _ (committed reads : ℕ → List ℕ) (was now : ℕ) (left left' : ℕ → Image → Type 0) (log : Log) (un un' : ℕ → Option ℕ) (number : ℕ → Option ℕ) (list : ℕ → List Undo) (g e f n : ℕ)
    (k : KeptLog committed reads (left was) log un number list g e f n) where
  -- a changed slot may be written once its note is settled
  pub may : (slot note : ℕ) → un slot ≡ Some note → note ≤ log.settled → HasNotesTo e k.held.batches slot
  may slot note is le = let own = (k.changes slot note is).1 le in record { own = own; gap = λ j from lt. k.settled_filled slot j own from lt }

  pub there : (image : Image) → left was image → 256 * e ≤ length (image 0)
  there image known = (k.agrees image known).there

  pub frames_leave : Run was now left left' (WritesNoted k.held.batches) → Leaves was left' committed
  frames_leave run m image later known =
      let h = run.here m image later known in
      ∣ recovers_to log.area k.held.generation e k.held.batches k.base committed image (writes_agree log.area k.held.generation e k.held.batches k.base (h.0) image (h.2) (k.agrees (h.0) (h.1))) k.settled ∣₁

  pub framed_log : Run was now left left' (WritesNoted k.held.batches) → Stay un un' → KeptLog committed reads (left' now) log un' number list g e f n
  framed_log run stay = record {
    held = k.held;
    buffered = k.buffered;
    base = k.base;
    generation_is = k.generation_is;
    keeps = record {
      each = λ image known.
          let h = before image known in
          let st = k.agrees (h.0) (h.1) in
          subst (λ (l : List ℕ). RestsAt l k.held log.gate) (sym ((h.2).others log.area (λ is. (other_of log.area st.newest.log).1 (sym is)))) (k.keeps.each (h.0) (h.1));
      notes = k.keeps.notes;
    };
    agrees = λ image known. let h = before image known in writes_agree log.area k.held.generation e k.held.batches k.base (h.0) image (h.2) (k.agrees (h.0) (h.1));
    logged = k.logged;
    settled = k.settled;
    numbered = k.numbered;
    below = k.below;
    settled_filled = k.settled_filled;
    filled_to = k.filled_to;
    changes = changes_stay un un' log.settled (notes_in k.held.batches) (notes_in k.held.batches ++ k.buffered) stay k.changes;
    noted = k.noted;
  }
    where
      before : (image : Image) → left' now image → (d : Image) × left was d × WritesNoted k.held.batches d image
      before image known = traced was now left left' (WritesNoted k.held.batches) run (λ d. writes_none k.held.batches d d refl) image known
