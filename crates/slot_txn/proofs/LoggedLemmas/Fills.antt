-- The first slot without a note is noted as it reads.
use Rattle.std.proofs.Common.{◌≡◌, inl, ℕ, ◌+◌, ◌*◌, ◌<◌, List, [], ◌∷◌, ◌++◌, Option, Some, refl, arith}
use Rattle.std.proofs.Math.Logic.{∥∥₁_map}
use Rattle.storage.specs.declared.slots.Undo.{Undo}
use Rattle.log_meaning.specs.steps.Steps.{Image}
use Rattle.log_meaning.specs.declared.note.Change.{Change}
use Rattle.log_meaning.specs.declared.note.Note.{Note}
use Rattle.log_meaning.specs.declared.note.Note.TheVariants.{Change as Changed}
use Rattle.bi_log.specs.declared.log.Log.{Log}
use Rattle.bi_log.specs.Logs.{HasNotes}
use Rattle.checkpoint.specs.kept.KeptLog.{KeptLog}
use Rattle.checkpoint.proofs.KeptLemmas.Written.{filled_log}

pub filled_keeps : (committed reads : ℕ → List ℕ) (left : Image → Type 0) (log mid : Log) (un : ℕ → Option ℕ) (number : ℕ → Option ℕ) (list : ℕ → List Undo) (g e f n : ℕ) (ch : Change) → ∥ KeptLog committed reads left log un number list g e f n ∥₁
    → mid.area ≡ log.area → mid.gate ≡ log.gate → mid.settled ≡ log.settled → ((ns : List Note) → HasNotes log.buffer ns → HasNotes mid.buffer (ns ++ Changed ch ∷ [])) → ch.slot ≡ f → ch.old ≡ reads ch.slot → ch.new ≡ ch.old → ch.tx < 16 * n
    → ∥ KeptLog committed reads left mid un number list g e (f + 1) n ∥₁
filled_keeps committed reads left log mid un number list g e f n ch kept area gate counted has at olds same few = ∥∥₁_map kept (λ k.
    -- no change of the slot is left unwritten, since the slot has no note
    let none : (note : ℕ) → un ch.slot ≡ Some note → log.settled < note = (λ note is. absurd ((k.changes ch.slot note is).0 (k.filled_to.uncovered ch.slot (omega (arith, at))))) in
    filled_log committed reads left log mid un un number list g e f (f + 1) n k ch area gate counted (has k.buffered k.keeps.notes) (inl (omega (arith, at), omega (arith, at))) (omega (arith, at)) few
    (λ s far. inl refl) none olds same (omega (arith, at)))
