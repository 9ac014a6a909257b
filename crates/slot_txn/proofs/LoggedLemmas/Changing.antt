-- A change is noted and put into a frame.
use Rattle.std.proofs.Common.{◌≡◌, ◌≢◌, ◌⊎◌, inl, inr, ⊎_elim, ℕ, ◌+◌, ◌*◌, ◌<◌, ◌≤◌, true, false, List, [], ◌∷◌, ◌++◌, length, Option, Some, None, sym, ◌∙◌, ap, subst, arith}
use Rattle.std.proofs.Math.Logic.{∥∥₁_map}
use Rattle.std.proofs.lemmas.Bool.{cases_eq, cases_lt}
use Rattle.storage.specs.declared.slots.Undo.{Undo}
use Rattle.storage.specs.Slots.{put, wrote}
use Rattle.log_meaning.specs.steps.Steps.{Image, Run}
use Rattle.log_meaning.specs.declared.note.Change.{Change}
use Rattle.log_meaning.specs.declared.note.Note.{Note}
use Rattle.log_meaning.specs.declared.note.Note.TheVariants.{Change as Changed}
use Rattle.log_meaning.specs.LogState.{WritesNoted}
use Rattle.log_meaning.proofs.Undone.{wrote-here}
use Rattle.bi_log.specs.declared.log.Log.{Log}
use Rattle.bi_log.specs.Logs.{HasNotes}
use Rattle.slot_area.specs.declared.slot_area.SlotArea.{SlotArea}
use Rattle.slot_area.specs.Area.{unwritten, AreNoted, StaysOrEnds}
use Rattle.checkpoint.specs.kept.KeptLog.{KeptLog, Leaves}
use Rattle.checkpoint.proofs.KeptLemmas.Written.{wrote_log, put_back_log}
use Rattle.slot_txn.proofs.LoggedLemmas.Commits.{but, but-here, but-other}
use Rattle.slot_txn.proofs.LoggedLemmas.Framing.{area_leaves, area_keeps}

module _ (committed reads : ℕ → List ℕ) (was now : ℕ) (left left' : ℕ → Image → Type 0) (log mid : Log) (area area' : SlotArea) (number : ℕ → Option ℕ) (list : ℕ → List Undo) (g e f f' n : ℕ)
    (kept : ∥ KeptLog committed reads (left was) log (unwritten area) number list g e f n ∥₁) (within : e ≤ area.end)
    (time : (extent : ℕ) (batches : List (List Note)) → extent ≤ area.end → ((image : Image) → left was image → 256 * extent ≤ length (image 0)) → AreNoted area mid.settled extent batches → Run was now left left' (WritesNoted batches))
    (counted : mid.settled ≡ log.settled) where
  time_before : (extent : ℕ) (batches : List (List Note)) → extent ≤ area.end → ((image : Image) → left was image → 256 * extent ≤ length (image 0)) → AreNoted area log.settled extent batches → Run was now left left' (WritesNoted batches)
  time_before extent batches within images noted = time extent batches within images (subst (λ (x : ℕ). AreNoted area x extent batches) (sym counted) noted)

  -- each image recovers to what is committed
  pub change_leaves : Leaves was left' committed
  change_leaves = area_leaves committed reads was now left left' log area number list g e f n kept within time_before

  module _ (ch : Change) (m : ℕ) (same : mid.area ≡ log.area) (gate : mid.gate ≡ log.gate) (has : (ns : List Note) → HasNotes log.buffer ns → HasNotes mid.buffer (ns ++ Changed ch ∷ []))
      (up : ((f ≤ ch.slot) × (f' ≡ ch.slot + 1)) ⊎ ((ch.slot < f) × (f' ≡ f)))
      (stay : (s : ℕ) → s ≢ ch.slot → StaysOrEnds (unwritten area) (unwritten area') s) (noted : unwritten area' ch.slot ≡ Some m) (late : log.settled < m) where
    framed : ∥ KeptLog committed reads (left' now) log (but None ch.slot (unwritten area')) number list g e f n ∥₁
    framed = area_keeps committed reads was now left left' log area number list g e f n kept within time_before (but None ch.slot (unwritten area')) (λ s. elim (cases_eq s ch.slot) [
      | inl here ↦ inr (ap (but None ch.slot (unwritten area')) here ∙ but-here None ch.slot (unwritten area'))
      | inr far ↦ ⊎_elim (λ (x : unwritten area' s ≡ unwritten area s). inl (but-other None ch.slot (unwritten area') s far ∙ x)) (λ (x : unwritten area' s ≡ None). inr (but-other None ch.slot (unwritten area') s far ∙ x)) (stay s far)
    ])

    some_one : (a b : ℕ) → Some a ≡ Some b → a ≡ b
    some_one a b is = ap (value_or 0) is
      where
        value_or : ℕ → Option ℕ → ℕ
        value_or d None = d
        value_or d (Some x) = x

    mine : (note : ℕ) → unwritten area' ch.slot ≡ Some note → log.settled < note
    mine note is = let same_note = some_one m note (sym noted ∙ is) in omega (arith, late, same_note)

    -- a client has written the slot
    pub wrote_keeps : (list' : ℕ → List Undo) (c : ℕ) (u : Undo) → number c ≡ Some ch.tx → ch.slot ≤ f → ch.old ≡ reads ch.slot → u.slot ≡ ch.slot → u.old ≡ reads ch.slot → ((d : ℕ) → d ≢ c → wrote (list d) ch.slot ≡ false)
        → list' c ≡ list c ++ u ∷ [] → ((d : ℕ) → d ≢ c → list' d ≡ list d) → ∥ KeptLog committed (put reads ch.slot ch.new) (left' now) mid (unwritten area') number list' g e f' n ∥₁
    wrote_keeps list' c u is le olds at olds' alone more others = ∥∥₁_map framed (λ k.
        wrote_log committed reads (left' now) log mid (but None ch.slot (unwritten area')) (unwritten area') number list g e f f' n k ch same gate counted (has k.buffered k.keeps.notes) up le ((k.numbered c ch.tx is).1)
        (λ s far. inl (sym (but-other None ch.slot (unwritten area') s far))) mine list' c u is olds at olds' alone more others)

    -- a client's last write was put back
    pub put_back_keeps : (list' : ℕ → List Undo) (c : ℕ) (u : Undo) → number c ≡ Some ch.tx → ch.old ≡ reads ch.slot → u.slot ≡ ch.slot → u.old ≡ ch.new
        → list c ≡ list' c ++ u ∷ [] → ((d : ℕ) → d ≢ c → list' d ≡ list d) → ∥ KeptLog committed (put reads ch.slot ch.new) (left' now) mid (unwritten area') number list' g e f' n ∥₁
    put_back_keeps list' c u is olds at news less others = ∥∥₁_map framed (λ k.
        let its : wrote (list c) ch.slot ≡ true = ap (λ (us : List Undo). wrote us ch.slot) less ∙ wrote-here (list' c) u ch.slot (sym at) in
        let le : ch.slot ≤ f = ⊎_elim (λ (lt : ch.slot < f). omega (arith, lt)) (λ (past : f ≤ ch.slot). absurd (k.noted c ch.slot its (k.filled_to.uncovered ch.slot past))) (cases_lt ch.slot f) in
        put_back_log committed reads (left' now) log mid (but None ch.slot (unwritten area')) (unwritten area') number list g e f f' n k ch same gate counted (has k.buffered k.keeps.notes) up le ((k.numbered c ch.tx is).1)
        (λ s far. inl (sym (but-other None ch.slot (unwritten area') s far))) mine list' c u is olds at news less others)
