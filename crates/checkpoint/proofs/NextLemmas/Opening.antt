-- The next generation is opened over an area 0 that has all slots as they read.
use Rattle.std.proofs.Common.{◌≡◌, ◌≢◌, inl, inr, ⊎_elim, ℕ, ◌+◌, ◌-◌, ◌*◌, ◌%◌, ◌<◌, ◌≤◌, true, List, [], ◌++◌, length, Option, Some, None, refl, sym, ◌∙◌, ap, subst, arith}
use Rattle.std.proofs.lemmas.List.{append-nil}
use Rattle.std.proofs.lemmas.Bool.{cases_lt, cases_Bool}
use Rattle.storage.specs.declared.slots.Undo.{Undo}
use Rattle.storage.specs.Slots.{wrote}
use Rattle.storage.specs.Disk.{Others}
use Rattle.log_meaning.specs.steps.Steps.{Image, Run}
use Rattle.log_meaning.proofs.StepsLemmas.Runs.{traced}
use Rattle.log_meaning.specs.declared.note.Note.{Note}
use Rattle.log_meaning.specs.Recovered.{changes_of, recovered}
use Rattle.log_meaning.specs.Images.{IsOpened, HoldsLog, slot_of}
use Rattle.log_meaning.specs.LogState.{notes_in, LogState, IsFilled}
use Rattle.log_meaning.specs.Logged.{Logged}
use Rattle.log_meaning.proofs.LogStates.{committed_now, others_agree, other_opening}
use Rattle.log_meaning.proofs.LoggedStarts.{carries}
use Rattle.log_meaning.proofs.Filling.{filled_below}
use Rattle.bi_log.specs.declared.log.Log.{Log}
use Rattle.bi_log.specs.Appending.{RestsAt}
use Rattle.bi_log.specs.Logs.{HasNotes}
use Rattle.bi_recovery.specs.ReadNotes.{HoldsNotes}
use Rattle.bi_recovery.specs.Carried.{IsOpenLog, CarriesTo}
use Rattle.checkpoint.specs.kept.Numbers.{is_live, undo_of, AreBelow}
use Rattle.checkpoint.specs.kept.KeptLog.{KeptLog, Leaves, IsFilledTo}
use Rattle.checkpoint.proofs.KeptLemmas.Flushed.{recovers_to}
use Rattle.checkpoint.specs.next.Carrying.{notes_below, numbers_below}
use Rattle.checkpoint.proofs.NextLemmas.CarriedNotes.{by_numbers, each_live, all_listed, none_below, some_below, notes_under}

module _ (committed reads : ℕ → List ℕ) (was now : ℕ) (left left' : ℕ → Image → Type 0) (log log' : Log) (un un' : ℕ → Option ℕ) (number : ℕ → Option ℕ) (list : ℕ → List Undo) (g e f n e' gate : ℕ) (zero : List ℕ)
    (k : KeptLog committed reads (left was) log un number list g e f n)
    (same : (image : Image) → left was image → image 0 ≡ zero) (reads_are : (s : ℕ) → slot_of zero s ≡ reads s) (long : 256 * e' ≤ length zero) where
  modulo : (c m : ℕ) → number c ≡ Some m → m % 16 ≡ c
  modulo c m is = (k.numbered c m is).0

  logged : Logged (notes_below number reads list 16) reads committed reads (is_live number) (undo_of number list)
  logged = subst (λ (l : List Note). Logged l reads committed reads (is_live number) (undo_of number list)) (sym (by_numbers number reads list modulo 16))
      (carries (notes_in k.held.batches ++ k.buffered) k.base committed reads (is_live number) (undo_of number list) (numbers_below number 16) k.logged (each_live number reads list modulo 16) (all_listed number reads list modulo))

  recovers_all : (s : ℕ) → recovered (notes_below number reads list 16) reads s ≡ committed s
  recovers_all s = committed_now (notes_below number reads list 16) reads committed reads (is_live number) (undo_of number list) logged s

  -- an image in which the other area holds the new generation
  new_state : (d image : Image) (batches : List (List Note)) (h : ℕ) → left was d → Others (3 - log.area) d image → HoldsLog (image (3 - log.area)) h batches → h ≡ g + 1 → LogState (3 - log.area) h e' batches reads image
  new_state d image batches h known others holds is = other_opening log.area k.held.generation e k.held.batches k.base d image h e' batches reads others holds
      (let at = k.generation_is in omega (arith, at, is)) (omega (arith, long, ap (λ (l : List ℕ). length l) (same d known))) (λ s. ap (λ (l : List ℕ). slot_of l s) (same d known) ∙ reads_are s) (k.agrees d known)

  -- each image of the steps to it recovers to what is committed
  pub turning_leaves : Run was now left left' (CarriesTo (3 - log.area) (g + 1) (notes_below number reads list 16)) → Leaves was left' committed
  turning_leaves run m image later known =
      let h = run.here m image later known in
      ∣ ⊎_elim
      (λ (holds : HoldsNotes (image (3 - log.area)) (g + 1) (notes_below number reads list 16)). recovers_to (3 - log.area) (g + 1) e' holds.batches reads committed image
      (new_state (h.0) image holds.batches (g + 1) (h.1) (h.2).others holds.log refl)
      (λ s. ap (λ (l : List Note). recovered l reads s) (sym holds.are) ∙ recovers_all s))
      (λ (less : (x : ℕ) → IsOpened (image (3 - log.area)) x → IsOpened ((h.0) (3 - log.area)) x). recovers_to log.area k.held.generation e k.held.batches k.base committed image
      (others_agree log.area k.held.generation e k.held.batches k.base (h.0) image (h.2).others less (k.agrees (h.0) (h.1))) k.settled)
      (h.2).either ∣₁

  -- and the log is kept in the other area
  pub turned_log : Run was now left left' (Others (3 - log.area)) → IsOpenLog (left' now) (3 - log.area) gate (g + 1) (notes_below number reads list 16) → HasNotes log'.buffer [] → log'.area ≡ 3 - log.area → log'.gate ≡ gate
      → ((s : ℕ) → un' s ≡ None) → ((c s : ℕ) → wrote (list c) s ≡ true → (s < e') × (c < 16) × ((tx : ℕ) × (number c ≡ Some tx))) → KeptLog committed reads (left' now) log' un' number list (g + 1) e' e' n
  turned_log run opened empty area at written owned = record {
    held = opened.held;
    buffered = [];
    base = reads;
    generation_is = opened.is_generation;
    keeps = record {
      each = λ image known. subst (λ (a : ℕ). RestsAt (image a) opened.held log'.gate) (sym area) (subst (λ (x : ℕ). RestsAt (image (3 - log.area)) opened.held x) (sym at) (opened.rests image known));
      notes = empty;
    };
    agrees = λ image known.
        let h = traced was now left left' (Others (3 - log.area)) run (λ d j other. refl) image known in
        subst (λ (a : ℕ). LogState a opened.held.generation e' opened.held.batches reads image) (sym area)
        (new_state (h.0) image opened.held.batches opened.held.generation (h.1) (h.2) (opened.rests image known).log opened.is_generation);
    logged = subst (λ (l : List Note). Logged l reads committed reads (is_live number) (undo_of number list)) all_are logged;
    settled = λ s. ap (λ (l : List Note). recovered l reads s) (sym opened.are) ∙ recovers_all s;
    numbered = k.numbered;
    below = subst (AreBelow (16 * n)) all_are (notes_under number reads list modulo (16 * n) 16 (λ d m is. (k.numbered d m is).1));
    settled_filled = subst (IsFilled e') opened.are (filled_below e' (notes_below number reads list 16) within);
    filled_to = subst (IsFilledTo e' e') all_are (record { covered = λ j from lt. absurd (omega (arith, from, lt)); uncovered = λ j past. none_past j past });
    changes = λ slot note is. absurd (no_note note (sym (written slot) ∙ is));
    noted = λ c slot w. let h = owned c slot w in subst (λ (l : List Note). changes_of slot l ≢ []) all_are (some_below number reads list modulo slot 16 c ((h.2).0) ((h.2).1) (h.1) w);
  }
    where
      all_are : notes_below number reads list 16 ≡ notes_in opened.held.batches ++ []
      all_are = opened.are ∙ sym (append-nil (notes_in opened.held.batches))

      no_note : (m : ℕ) → None ≡ Some m → ⊥
      no_note m is = cc

      none_past : (j : ℕ) → e' ≤ j → changes_of j (notes_below number reads list 16) ≡ []
      none_past j past = none_below number reads list modulo j 16 (λ d. elim (cases_Bool (wrote (list d) j)) [
        | inl w ↦ absurd (let lt = (owned d j w).0 in omega (arith, lt, past))
        | inr not ↦ not
      ])

      within : (slot : ℕ) → changes_of slot (notes_below number reads list 16) ≢ [] → slot < e'
      within slot some = ⊎_elim (λ (lt : slot < e'). lt) (λ (past : e' ≤ slot). absurd (some (none_past slot past))) (cases_lt slot e')
