-- What a commit makes of the state and of the stops.
use Rattle.std.proofs.Common.{◌≡◌, ◌≢◌, ◌⊎◌, inl, inr, ⊎_elim, ℕ, ◌==◌, ◌<◌, ◌≤◌, if◌then◌else◌, Bool, List, [], ◌∷◌, ◌++◌, Option, Some, None, IsTrue, refl, sym, ◌∙◌, subst, arith}
use Rattle.std.proofs.Props.{props}
use Rattle.std.proofs.Math.Logic.{∥∥₁_map, ∥∥₁_elim}
use Rattle.std.proofs.lemmas.Bool.{cond-true, cond-false, eq-eqb, ne_eqb}
use Rattle.storage.specs.declared.slots.Undo.{Undo}
use Rattle.storage.specs.Slots.{SlotState, Goes, joined}
use Rattle.log_meaning.specs.steps.Steps.{Image, Run, Any}
use Rattle.log_meaning.specs.declared.note.Note.{Note}
use Rattle.log_meaning.specs.declared.note.Note.TheVariants.{Commit}
use Rattle.log_meaning.specs.Images.{Recovers}
use Rattle.log_meaning.proofs.LogStates.{one_recovery}
use Rattle.bi_log.specs.declared.log.Log.{Log}
use Rattle.bi_log.specs.Appending.{Held, with_batch, Appends}
use Rattle.bi_log.specs.Logs.{HasNotes, Keeps}
use Rattle.checkpoint.specs.kept.KeptLog.{KeptLog}
use Rattle.checkpoint.proofs.KeptLemmas.Flushed.{slots_of}
use Rattle.checkpoint.proofs.KeptLemmas.Written.{appended}
use Rattle.checkpoint.proofs.KeptLemmas.Committed.{commit_leaves, committed_log}
use Rattle.slot_txn.specs.logged.Stops.{Stops, IsRecoverable}
use Rattle.slot_txn.proofs.LoggedLemmas.Recoverable.{has_slots}

never_empty : (xs : List Note) (x : Note) → xs ++ x ∷ [] ≢ []
never_empty [] x is = cc
never_empty (y ∷ xs) x is = cc

-- a function but at one place
abbrev pub but : {A : Type 0} → A → ℕ → (ℕ → A) → ℕ → A
but none c f d = if d == c then none else f d

pub but-here : {A : Type 0} (none : A) (c : ℕ) (f : ℕ → A) → but none c f c ≡ none
but-here none c f = cond-true (c == c) none (f c) (eq-eqb c c refl)

pub but-other : {A : Type 0} (none : A) (c : ℕ) (f : ℕ → A) (d : ℕ) → d ≢ c → but none c f d ≡ f d
but-other none c f d ne = cond-false (d == c) none (f d) (ne_eqb d c ne)

same_slots : (x y : ℕ → List ℕ) → IsProp (x ≡ y)
same_slots x y = hlevel props

-- each image that a crash now may leave recovers to what is committed
pub kept_recovers : (committed reads : ℕ → List ℕ) (left : Image → Type 0) (log : Log) (un : ℕ → Option ℕ) (number : ℕ → Option ℕ) (list : ℕ → List Undo) (g e f n : ℕ) → ∥ KeptLog committed reads left log un number list g e f n ∥₁
    → (image : Image) (slots : ℕ → List ℕ) → left image → Recovers image slots → slots ≡ committed
kept_recovers committed reads left log un number list g e f n kept image slots there r = ∥∥₁_elim kept (same_slots slots committed) (λ k. slots_of log.area k.held.generation e k.held.batches k.base committed image slots (k.agrees image there) k.settled r)

module _ (committed reads : ℕ → List ℕ) (was now : ℕ) (left left' : ℕ → Image → Type 0) (log mid log' : Log) (un : ℕ → Option ℕ) (number : ℕ → Option ℕ) (list : ℕ → List Undo) (g e f n c tx : ℕ)
    (kept : ∥ KeptLog committed reads (left was) log un number list g e f n ∥₁) (is : number c ≡ Some tx)
    (area : mid.area ≡ log.area) (gate : mid.gate ≡ log.gate) (notes : (ns : List Note) → HasNotes log.buffer ns → HasNotes mid.buffer (ns ++ Commit tx ∷ []))
    (run : (held : Held) (ns : List Note) → Keeps mid (left was) held ns → ns ≢ [] → Run was now left left' (Appends mid.area held ns)) where
  with_commit : (k : KeptLog committed reads (left was) log un number list g e f n) → Keeps mid (left was) k.held (k.buffered ++ Commit tx ∷ [])
  with_commit k = appended log mid (left was) k.held k.buffered (k.buffered ++ Commit tx ∷ []) k.keeps area gate (notes k.buffered k.keeps.notes)

  the_run : (k : KeptLog committed reads (left was) log un number list g e f n) → Run was now left left' (Appends log.area k.held (k.buffered ++ Commit tx ∷ []))
  the_run k = subst (λ (a : ℕ). Run was now left left' (Appends a k.held (k.buffered ++ Commit tx ∷ []))) area (run k.held (k.buffered ++ Commit tx ∷ []) (with_commit k) (never_empty k.buffered (Commit tx)))

  committing : (k : KeptLog committed reads (left was) log un number list g e f n) (m : ℕ) (image : Image) → was < m → left' m image → Recovers image committed ⊎ Recovers image (joined (list c) reads committed)
  committing k m image later there = commit_leaves committed reads was now left left' log log' un number (but None c number) list (but [] c list) g e f n c tx k is
      (but-here None c number) (but-other None c number) (but-here [] c list) (but-other [] c list) (the_run k) m image later there

  -- each image of a later moment recovers to what was committed, or to that with this commit
  pub commit_stops : (m : ℕ) (image : Image) (slots : ℕ → List ℕ) → was < m → left' m image → Recovers image slots → ∥ (slots ≡ committed) ⊎ (slots ≡ joined (list c) reads committed) ∥₁
  commit_stops m image slots later there r = ∥∥₁_map kept (λ k. ⊎_elim
      (λ (x : Recovers image committed). inl (λ i s. one_recovery image slots committed r x s i))
      (λ (x : Recovers image (joined (list c) reads committed)). inr (λ i s. one_recovery image slots (joined (list c) reads committed) r x s i))
      (committing k m image later there))

  pub commit_recovers : (m : ℕ) (image : Image) → was < m → left' m image → IsRecoverable image
  commit_recovers m image later there = ∥∥₁_map kept (λ k. ⊎_elim (has_slots image committed) (has_slots image (joined (list c) reads committed)) (committing k m image later there))

  -- and the log is kept
  pub commit_keeps : (number' : ℕ → Option ℕ) (list' : ℕ → List Undo) → number' c ≡ None → ((d : ℕ) → d ≢ c → number' d ≡ number d) → list' c ≡ [] → ((d : ℕ) → d ≢ c → list' d ≡ list d)
      → ((held : Held) (ns : List Note) → Keeps mid (left was) held ns → ns ≢ [] → Keeps log' (left' now) (with_batch held ns) []) → log'.area ≡ mid.area
      → ∥ KeptLog (joined (list c) reads committed) reads (left' now) log' un number' list' g e f n ∥₁
  commit_keeps number' list' gone others none lists ok same = ∥∥₁_map kept (λ k.
      committed_log committed reads was now left left' log log' un number number' list list' g e f n c tx k is gone others none lists (the_run k)
      (ok k.held (k.buffered ++ Commit tx ∷ []) (with_commit k) (never_empty k.buffered (Commit tx))) (same ∙ area))

-- time goes on in the stops
pub goes_on : (old new : SlotState) (before after : ℕ → Image → Type 0) → Run old.moment new.moment before after Any → new.since ≡ old.since → new.short ≡ old.short → new.observable ≡ old.observable → old.since ≤ old.moment
    → ((m : ℕ) (slots : ℕ → List ℕ) → old.moment < m → Stops new.observable new.since new.moment after m slots → ∥ (slots ≡ old.committed) ⊎ (slots ≡ new.doubt) ∥₁)
    → Goes old new (Stops old.observable old.since old.moment before) (Stops new.observable new.since new.moment after)
goes_on old new before after run since short known past here = record {
  later = run.later;
  since = since;
  short = short;
  nothing_else = λ m slots le st. (subst (λ (b : Bool). IsTrue b) known (st.0), subst (λ (k : ℕ). k ≤ m) since (st.1), le, (st.3.0, run.nothing_else m (st.3.0) le (st.3.1), st.3.2));
  stays = λ m slots le st. (subst (λ (b : Bool). IsTrue b) (sym known) (st.0), subst (λ (k : ℕ). k ≤ m) (sym since) (st.1), omega (arith, le, run.later), (st.3.0, run.stays m (st.3.0) le (st.3.1), st.3.2));
  here = here;
}
