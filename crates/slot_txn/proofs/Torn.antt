-- A slot noted with its bytes in a log without notes.
use Rattle.std.proofs.Common.{◌≡◌, ◌≢◌, inl, inr, ⊎_elim, ℕ, ◌+◌, ◌≤◌, ◌<◌, ◌^◌, ◌⊎◌, Bool, IsTrue, None, List, [], ◌∷◌, ◌++◌, length, refl, sym, ◌∙◌, ap, subst, arith}
use Rattle.std.proofs.lemmas.Bool.{cases_eq}
use Rattle.std.proofs.lemmas.List.{append-nil}
use Rattle.storage.specs.Disk.{Stays}
use Rattle.log_meaning.specs.steps.Steps.{Image, Run, Any}
use Rattle.log_meaning.proofs.StepsLemmas.Runs.{wider}
use Rattle.log_meaning.specs.declared.note.Change.{Change}
use Rattle.log_meaning.specs.declared.note.Note.{Note}
use Rattle.log_meaning.specs.declared.note.Note.TheVariants.{Change as Changed}
use Rattle.log_meaning.specs.Bytes.{note_bytes, IsNote}
use Rattle.log_meaning.specs.Recovered.{is_committed, given, recovered}
use Rattle.log_meaning.specs.Images.{slot_of}
use Rattle.log_meaning.specs.LogState.{notes_in, LogState}
use Rattle.log_meaning.proofs.Notes.{changes_of-here, changes_of-other}
use Rattle.log_meaning.proofs.OneLog.{one_log}
use Rattle.log_meaning.proofs.LogStates.{relog, stands_for, length-slot_of, with_batch as batch_state}
use Rattle.bi_log.specs.declared.log.Log.{Log}
use Rattle.bi_log.specs.Appending.{Held, Holds, RestsAt, fresh, with_batch, Appends}
use Rattle.bi_log.specs.Buffer.{content}
use Rattle.bi_log.specs.Logs.{HasNotes, Keeps}
use Rattle.bi_log.proofs.NoteBytes.{length-change}
use Rattle.bi_recovery.specs.Carried.{still}
use Rattle.bi_recovery.specs.ReadNotes.{HoldsNotes}
use Rattle.bi_recovery.specs.Reopening.{SameRecovery, NewLog, Reopens}
use Rattle.bi_recovery.proofs.Reopening.{keeps_same, state_keeps}
use Rattle.bi_recovery.proofs.Recovery.{run_if, after_stay}
use Rattle.checkpoint.proofs.KeptLemmas.Noted.{notes-more}
use Rattle.checkpoint.proofs.NextLemmas.Opened.{rests_fresh}
use Rattle.slot_txn.proofs.Recovered.{fewer_left}

-- the note counts nowhere
still_counts : (f base : ℕ → List ℕ) (slot s : ℕ) → f slot ≡ base slot → recovered (still f slot ∷ []) base s ≡ base s
still_counts f base slot s is = elim (cases_eq slot s) [
  | inl here ↦ ap (λ (cs : List Change). given (is_committed (still f slot ∷ [])) (base s) cs) (changes_of-here s [] (record { tx = 0; slot = slot; old = f slot; new = f slot }) here) ∙ is ∙ ap base here
  | inr other ↦ ap (λ (cs : List Change). given (is_committed (still f slot ∷ [])) (base s) cs) (changes_of-other s [] (record { tx = 0; slot = slot; old = f slot; new = f slot }) other)
]

pub still_note : (area : List ℕ) (slot : ℕ) → slot < 2 ^ 20 → IsNote (still (slot_of area) slot)
still_note area slot small = (omega arith, small, length-slot_of area slot, length-slot_of area slot)

-- a batch of one note ends far below the most bytes of an area of the log
pub few_bytes : (log : Log) (c : Change) → HasNotes log.buffer (Changed c ∷ []) → IsNote (Changed c) → log.gate ≡ 32 → log.gate + 6 + length (content log.buffer) ≤ 167772160
few_bytes log c has sound at = omega (arith, at, long)
  where
    long : length (content log.buffer) ≡ 525
    long = ap (length {A = ℕ}) (has.bytes ∙ append-nil (note_bytes (Changed c))) ∙ length-change c sound

module _ (was now : ℕ) (before after : ℕ → Image → Type 0) (log : Log) (g e slot : ℕ) (slots : ℕ → List ℕ) (seen : Image) (note : Note)
    (new : NewLog (before was) log.area g e 32 slots) (there : before was seen) (note_is : note ≡ still (slot_of (seen 0)) slot)
    (at : log.gate ≡ 32) (has : HasNotes log.buffer (note ∷ [])) where
  rests : (image : Image) → before was image → RestsAt (image log.area) (fresh g) 32
  rests = rests_fresh slots (before was) log (λ s. None) (λ c. None) (λ c. []) g e seen new there

  empty : new.batches ≡ []
  empty = one_log (seen log.area) g g new.batches [] (new.agrees seen there).log (rests seen there).log

  state : (image : Image) → before was image → LogState log.area g e [] new.base image
  state image known = subst (λ (bs : List (List Note)). LogState log.area g e bs new.base image) empty (new.agrees image known)

  pub keeps : Keeps log (before was) (fresh g) (note ∷ [])
  keeps = record { each = λ image known. subst (λ (x : ℕ). RestsAt (image log.area) (fresh g) x) (sym at) (rests image known); notes = has }

  counts : (s : ℕ) → recovered (notes_in ([] ++ (note ∷ []) ∷ [])) new.base s ≡ new.base s
  counts s = ap (λ (l : List Note). recovered l new.base s) (notes-more [] (note ∷ []))
      ∙ ap (λ (n : Note). recovered (n ∷ []) new.base s) note_is
      ∙ still_counts (slot_of (seen 0)) new.base slot s ((state seen there).below slot refl)

  step : (d image : Image) → before was d → Appends log.area (fresh g) (note ∷ []) d image → SameRecovery d image
  step d image known s = ⊎_elim
      (λ (without : Holds (image log.area) (fresh g)). state_keeps log.area g e [] new.base d image (state d known) (relog log.area g e [] [] new.base d image s.others without (λ k none. none) (state d known)))
      (λ (with_it : Holds (image log.area) (with_batch (fresh g) (note ∷ []))).
      keeps_same d image _ _ (stands_for log.area g e [] new.base d (state d known)) (stands_for log.area g e ([] ++ (note ∷ []) ∷ []) new.base image (batch_state log.area g e [] (note ∷ []) new.base d image s.others with_it (state d known))) (λ k. sym (counts k)))
      s.log

  -- while the batch is appended each image recovers to what it did
  pub appended_run : Run was now before after (Appends log.area (fresh g) (note ∷ [])) → Run was now before after SameRecovery
  appended_run run = wider was now before after (Appends log.area (fresh g) (note ∷ [])) SameRecovery run (λ d image known s. step d image known s)

-- after it each image has the note
pub has_note : (log log' : Log) (left : Image → Type 0) (g : ℕ) (note : Note) → log'.area ≡ log.area → Keeps log' left (with_batch (fresh g) (note ∷ [])) [] → (image : Image) → left image → HoldsNotes (image log.area) g (note ∷ [])
has_note log log' left g note area k image known = record {
  batches = [] ++ (note ∷ []) ∷ [];
  log = (subst (λ (a : ℕ). RestsAt (image a) (with_batch (fresh g) (note ∷ [])) log'.gate) area (k.each image known)).log;
  are = sym (notes-more [] (note ∷ []));
}

-- the call: the slot is read, which makes no moment, and the batch is appended
module _ (a b : Bool) (x y : Image) (t0 t1 t2 : ℕ) (l0 l1 l2 : ℕ → Image → Type 0) (area g e gate slot : ℕ) (log log' : Log) (note : Note)
    (s : Stays a b x y t0 t1 l0 l1) (top : (m : ℕ) (image : Image) → l0 m image → m ≤ t0) (reads : IsTrue a → l0 t0 x)
    (opened : IsTrue a → Reopens x (l0 t0) area g e gate) (first : gate ≡ 32) (place : (area ≡ 1) ⊎ (area ≡ 2) → log.area ≡ area)
    (at : log.gate ≡ 32) (has : HasNotes log.buffer (note ∷ [])) (note_is : IsTrue a → note ≡ still (slot_of (x 0)) slot) where
  area_is : IsTrue a → log.area ≡ area
  area_is known = place ((opened known).log.agrees x (reads known)).newest.log

  here : (known : IsTrue a) → NewLog (l1 t1) log.area g e 32 (opened known).slots
  here known = fewer_left (l0 t0) (l1 t1) log.area g e 32 (opened known).slots (λ image left. subst (λ (m : ℕ). l0 m image) s.moment (s.nothing_else t1 image left))
      (subst (λ (t : ℕ). NewLog (l0 t0) log.area g e t (opened known).slots) first (subst (λ (k : ℕ). NewLog (l0 t0) k g e gate (opened known).slots) (sym (area_is known)) (opened known).log))

  there : IsTrue a → l1 t1 x
  there known = s.stays t1 x (subst (λ (m : ℕ). l0 m x) (sym s.moment) (reads known))

  kept : IsTrue a → Keeps log (l1 t1) (fresh g) (note ∷ [])
  kept known = keeps t1 t2 l1 l2 log g e slot (opened known).slots x note (here known) (there known) (note_is known) at has

  one_at_least : note ∷ [] ≢ []
  one_at_least is = cc

  -- each image recovers to what it did
  pub noted_run : ((m : ℕ) (image : Image) → l2 m image → IsTrue a) → Run t1 t2 l1 l2 Any
      → ((held : Held) (notes : List Note) → Keeps log (l1 t1) held notes → notes ≢ [] → Run t1 t2 l1 l2 (Appends log.area held notes)) → Run t0 t2 l0 l2 SameRecovery
  noted_run same past appends = after_stay a b x y t0 t1 t2 l0 l1 l2 s top (run_if t1 t2 l1 l2 SameRecovery (IsTrue a) past same
      (λ known. appended_run t1 t2 l1 l2 log g e slot (opened known).slots x note (here known) (there known) (note_is known) at has (appends (fresh g) (note ∷ []) (kept known) one_at_least)))

  -- and has the note in the end
  pub noted_slot : (known : IsTrue a) → ((held : Held) (notes : List Note) → Keeps log (l1 t1) held notes → notes ≢ [] → Keeps log' (l2 t2) (with_batch held notes) []) → log'.area ≡ log.area
      → (image : Image) → l2 t2 image → HoldsNotes (image area) g (still (slot_of (x 0)) slot ∷ [])
  noted_slot known ok same image left = subst (λ (n : Note). HoldsNotes (image area) g (n ∷ [])) (note_is known)
      (subst (λ (k : ℕ). HoldsNotes (image k) g (note ∷ [])) (area_is known) (has_note log log' (l2 t2) g note same (ok (fresh g) (note ∷ []) (kept known) one_at_least) image left))
