-- The log after a flush, and what the images recover to at each of its moments.
use Rattle.std.proofs.Common.{◌≡◌, ◌≢◌, ⊎_elim, ℕ, ◌*◌, ◌<◌, ◌≤◌, List, [], ◌∷◌, ◌++◌, Option, refl, sym, ◌∙◌, ap, subst, arith}
use Rattle.std.proofs.lemmas.List.{append-nil}
use Rattle.std.proofs.lemmas.Bool.{cases_lt}
use Rattle.storage.specs.declared.slots.Undo.{Undo}
use Rattle.log_meaning.specs.steps.Steps.{Image, Run}
use Rattle.log_meaning.specs.declared.note.Note.{Note}
use Rattle.log_meaning.specs.Recovered.{changes_of, recovered}
use Rattle.log_meaning.specs.Images.{Recovers}
use Rattle.log_meaning.specs.LogState.{notes_in, LogState, IsFilled}
use Rattle.log_meaning.specs.Logged.{Logged}
use Rattle.log_meaning.proofs.Notes.{changes_of-append}
use Rattle.log_meaning.proofs.LogStates.{one_recovery, stands_for, committed_now, relog}
use Rattle.bi_log.specs.declared.log.Log.{Log}
use Rattle.bi_log.specs.Appending.{Holds, with_batch, RestsAt, Appends}
use Rattle.bi_log.specs.Logs.{Keeps}
use Rattle.checkpoint.specs.kept.Numbers.{is_live, undo_of, AreBelow}
use Rattle.checkpoint.specs.kept.KeptLog.{KeptLog, Leaves, IsFilledTo}
use Rattle.checkpoint.proofs.KeptLemmas.Noted.{notes-more, filled_all}

-- the slots of an image of this log state
pub slots_of : (a g e : ℕ) (bs : List (List Note)) (base committed : ℕ → List ℕ) (image : Image) (slots : ℕ → List ℕ) → LogState a g e bs base image → ((s : ℕ) → recovered (notes_in bs) base s ≡ committed s) → Recovers image slots → slots ≡ committed
slots_of a g e bs base committed image slots st gives r = λ i s. (one_recovery image slots (recovered (notes_in bs) base) r (stands_for a g e bs base image st) s ∙ gives s) i

-- it recovers to them
pub recovers_to : (a g e : ℕ) (bs : List (List Note)) (base committed : ℕ → List ℕ) (image : Image) → LogState a g e bs base image → ((s : ℕ) → recovered (notes_in bs) base s ≡ committed s) → Recovers image committed
recovers_to a g e bs base committed image st gives =
    let r = stands_for a g e bs base image st in
    record { area = r.area; generation = r.generation; batches = r.batches; newest = r.newest; log = r.log; gives = λ s. sym (gives s) ∙ r.gives s }

no_note_before : (s : ℕ) (bs : List (List Note)) (b : List Note) → changes_of s (notes_in (bs ++ b ∷ [])) ≡ [] → changes_of s (notes_in bs) ≡ []
no_note_before s bs b none = first_empty (changes_of s (notes_in bs)) (changes_of s b) (sym (changes_of-append s (notes_in bs) b) ∙ ap (changes_of s) (sym (notes-more bs b)) ∙ none)
  where
    first_empty : {A : Type 0} (xs ys : List A) → xs ++ ys ≡ [] → xs ≡ []
    first_empty [] ys is = refl
    first_empty (x ∷ xs) ys is = cc

-- an image in which the area holds the log with one batch more
pub with_more : (a g e : ℕ) (bs : List (List Note)) (b : List Note) (base : ℕ → List ℕ) (d image : Image) → ((k : ℕ) → k ≢ a → image k ≡ d k) → Holds (image a) (record { generation = g; batches = bs ++ b ∷ [] }) → LogState a g e bs base d → LogState a g e (bs ++ b ∷ []) base image
with_more a g e bs b base d image others holds st = relog a g e bs (bs ++ b ∷ []) base d image others holds (λ s none. no_note_before s bs b none) st

-- the notes of the buffer are in a batch: whichever notes they are
module _ (committed reads : ℕ → List ℕ) (was now : ℕ) (left left' : ℕ → Image → Type 0) (log log' : Log) (un : ℕ → Option ℕ) (number : ℕ → Option ℕ) (list : ℕ → List Undo) (g e f n : ℕ)
    (k : KeptLog committed reads (left was) log un number list g e f n)
    (run : Run was now left left' (Appends log.area k.held k.buffered)) where
  abbrev all : List Note
  all = notes_in k.held.batches ++ k.buffered

  all_in : notes_in (k.held.batches ++ k.buffered ∷ []) ≡ all
  all_in = notes-more k.held.batches k.buffered

  recovers_all : (s : ℕ) → recovered (notes_in (k.held.batches ++ k.buffered ∷ [])) k.base s ≡ committed s
  recovers_all s = ap (λ (l : List Note). recovered l k.base s) all_in ∙ committed_now all k.base committed reads (is_live number) (undo_of number list) k.logged s

  -- each image recovers to what is committed
  pub settle_leaves : Leaves was left' committed
  settle_leaves m image later known =
      let h = run.here m image later known in
      ∣ ⊎_elim
      (λ (without : Holds (image log.area) k.held). recovers_to log.area k.held.generation e k.held.batches k.base committed image
      (relog log.area k.held.generation e k.held.batches k.held.batches k.base (h.0) image (h.2).others without (λ s none. none) (k.agrees (h.0) (h.1))) k.settled)
      (λ (with_it : Holds (image log.area) (with_batch k.held k.buffered)). recovers_to log.area k.held.generation e (k.held.batches ++ k.buffered ∷ []) k.base committed image
      (with_more log.area k.held.generation e k.held.batches k.buffered k.base (h.0) image (h.2).others with_it (k.agrees (h.0) (h.1))) recovers_all)
      (h.2).log ∣₁

  pub settled_log : Keeps log' (left' now) (with_batch k.held k.buffered) [] → log'.area ≡ log.area → KeptLog committed reads (left' now) log' un number list g e f n
  settled_log keeps area = record {
    held = with_batch k.held k.buffered;
    buffered = [];
    base = k.base;
    generation_is = k.generation_is;
    keeps = keeps;
    agrees = λ image known.
        let h = from_before image known in
        subst (λ (a : ℕ). LogState a k.held.generation e (k.held.batches ++ k.buffered ∷ []) k.base image) (sym area)
        (with_more log.area k.held.generation e k.held.batches k.buffered k.base (h.0) image (h.2) (subst (λ (a : ℕ). RestsAt (image a) (with_batch k.held k.buffered) log'.gate) area (keeps.each image known)).log (k.agrees (h.0) (h.1)));
    logged = subst (λ (l : List Note). Logged l k.base committed reads (is_live number) (undo_of number list)) (sym now_all) k.logged;
    settled = recovers_all;
    numbered = k.numbered;
    below = subst (AreBelow (16 * n)) (sym now_all) k.below;
    settled_filled = subst (IsFilled e) (sym all_in) (filled_all e f all k.filled_to);
    filled_to = subst (IsFilledTo e f) (sym now_all) k.filled_to;
    changes = λ slot note is. let some = (k.changes slot note is).0 in (subst (λ (l : List Note). changes_of slot l ≢ []) (sym now_all) some, λ le. subst (λ (l : List Note). changes_of slot l ≢ []) (sym all_in) some);
    noted = λ c slot w. subst (λ (l : List Note). changes_of slot l ≢ []) (sym now_all) (k.noted c slot w);
  }
    where
      now_all : notes_in (k.held.batches ++ k.buffered ∷ []) ++ [] ≡ all
      now_all = append-nil (notes_in (k.held.batches ++ k.buffered ∷ [])) ∙ all_in

      from_before : (image : Image) → left' now image → (d : Image) × left was d × ((j : ℕ) → j ≢ log.area → image j ≡ d j)
      from_before image known = ⊎_elim
          (λ (later : was < now). let h = run.here now image later known in (h.0, h.1, (h.2).others))
          (λ (same : now ≤ was). (image, subst (λ (x : ℕ). left x image) (let l = run.later in omega (arith, same, l)) (run.nothing_else now image same known), (λ j other. refl)))
          (cases_lt was now)
