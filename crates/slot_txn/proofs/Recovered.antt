-- What the calls of recovery say one after the other.
use Rattle.std.proofs.Common.{◌≡◌, ℕ, Bool, List, Result, Ok, Err, sym, ◌∙◌, ap, subst}
use Rattle.std.specs.Prelude.{IfErr, IfOk, IsErrOf, IsTrue}
use Rattle.storage.specs.Disk.{Stays}
use Rattle.log_meaning.specs.steps.Steps.{Image, Run}
use Rattle.log_meaning.proofs.StepsLemmas.Runs.{holds}
use Rattle.log_meaning.specs.Recovered.{is_committed}
use Rattle.log_meaning.specs.Images.{Recovers}
use Rattle.log_meaning.specs.LogState.{notes_in}
use Rattle.log_meaning.proofs.LogStates.{one_recovery, stands_for}
use Rattle.bi_recovery.specs.Reopening.{SameRecovery, NewLog, Reopens}
use Rattle.checkpoint.proofs.KeptLemmas.Flushed.{slots_of}

pub ok_map : {T E : Type 0} (r : Result T E) (P Q : T → Type 0) → IfOk r P → ((x : T) → P x → Q x) → IfOk r Q
ok_map (Ok x) P Q p f = f x p
ok_map (Err e) P Q p f = tt

pub err_map : {T E : Type 0} (r : Result T E) (P Q : E → Type 0) → IfErr r P → ((e : E) → P e → Q e) → IfErr r Q
err_map (Ok x) P Q p f = tt
err_map (Err e) P Q p f = f e p

-- the same refusal of a call with another answer
abbrev error_or : {T E : Type 0} → E → Result T E → E
error_or d (Ok x) = d
error_or d (Err e) = e

pub same_error : {T U E : Type 0} (e f : E) → IsErrOf {T = T} (Err e) f → IsErrOf {T = U} (Err e) f
same_error e f is = ap (λ x. Err x) (ap (error_or e) is)

-- ---- new logs

-- a new log gives each image these slots
pub given_slots : (left : Image → Type 0) (a g e t : ℕ) (slots : ℕ → List ℕ) (new : NewLog left a g e t slots) (image : Image) → left image → Recovers image slots
given_slots left a g e t slots new image known =
    let r = stands_for a g e new.batches new.base image (new.agrees image known) in
    record { area = r.area; generation = r.generation; batches = r.batches; newest = r.newest; log = r.log; gives = λ s. sym (new.recovers (is_committed (notes_in new.batches)) s) ∙ r.gives s }

-- and no others
pub only_slots : (left : Image → Type 0) (a g e t : ℕ) (slots : ℕ → List ℕ) (new : NewLog left a g e t slots) (image : Image) (other : ℕ → List ℕ) → left image → Recovers image other → other ≡ slots
only_slots left a g e t slots new image other known r = slots_of a g e new.batches new.base slots image other (new.agrees image known) (λ s. new.recovers (is_committed (notes_in new.batches)) s) r

-- the same log, where fewer images are known
pub fewer_left : (left left' : Image → Type 0) (a g e t : ℕ) (slots : ℕ → List ℕ) → ((image : Image) → left' image → left image) → NewLog left a g e t slots → NewLog left' a g e t slots
fewer_left left left' a g e t slots back new = record {
  batches = new.batches;
  base = new.base;
  agrees = λ image known. new.agrees image (back image known);
  rests = λ image known. new.rests image (back image known);
  recovers = new.recovers;
  filled = new.filled;
}

-- a recovery of an image that recovers to these slots gives them
pub same_slots : (seen mid : Image) (left : Image → Type 0) (slots : ℕ → List ℕ) (a g e t : ℕ) → Recovers seen slots → Recovers mid slots → Reopens mid left a g e t → Reopens seen left a g e t
same_slots seen mid left slots a g e t was known two =
    let new = two.log in
    let same : (s : ℕ) → two.slots s ≡ slots s = one_recovery mid two.slots slots two.was known in
    record {
      slots = slots;
      was = was;
      log = record { batches = new.batches; base = new.base; agrees = new.agrees; rests = new.rests; recovers = λ committed s. new.recovers committed s ∙ same s; filled = new.filled };
    }

-- a second recovery gives the same slots
pub again_slots : (seen mid : Image) (left left' : Image → Type 0) (a g e t a' g' e' t' : ℕ) → Reopens seen left a g e t → left mid → Reopens mid left' a' g' e' t' → Reopens seen left' a' g' e' t'
again_slots seen mid left left' a g e t a' g' e' t' one known two = same_slots seen mid left' one.slots a' g' e' t' one.was (given_slots left a g e t one.slots one.log mid known) two

-- after a run that keeps what is recovered, the disk recovers to the slots
pub run_recovers : (mid : Image) (was now : ℕ) (before between : ℕ → Image → Type 0) (a g e t : ℕ) (slots : ℕ → List ℕ) → Run was now before between SameRecovery → between now mid → NewLog (before was) a g e t slots → Recovers mid slots
run_recovers mid was now before between a g e t slots run there new = holds _ _ _ _ SameRecovery (λ i. Recovers i slots) run
    (λ d known. given_slots (before was) a g e t slots new d known)
    (λ d image known step. step.to slots (given_slots (before was) a g e t slots new d known))
    now mid run.later there

-- and a recovery then gives them
pub run_again : (seen mid : Image) (was now : ℕ) (before between : ℕ → Image → Type 0) (left : Image → Type 0) (a g e t a' g' e' t' : ℕ) → Run was now before between SameRecovery → between now mid
    → Reopens seen (before was) a g e t → Reopens mid left a' g' e' t' → Reopens seen left a' g' e' t'
run_again seen mid was now before between left a g e t a' g' e' t' run there one two =
    same_slots seen mid left one.slots a' g' e' t' one.was (run_recovers mid was now before between a g e t one.slots run there one.log) two

-- the same where a call made no moment, of the image as it was read before the call
pub later_left : (seen : Image) (a b : Bool) (x y : Image) (was now : ℕ) (before after : ℕ → Image → Type 0) (area g e t : ℕ) → Stays a b x y was now before after → Reopens seen (before was) area g e t → Reopens seen (after now) area g e t
later_left seen a b x y was now before after area g e t s r = record {
  slots = r.slots;
  was = r.was;
  log = fewer_left (before was) (after now) area g e t r.slots (λ image left. subst (λ (m : ℕ). before m image) s.moment (s.nothing_else now image left)) r.log;
}

-- and as it reads after the call
pub stays_reopened : (a b : Bool) (x y seen : Image) (was now : ℕ) (before after : ℕ → Image → Type 0) (area g e t : ℕ) → Stays a b x y was now before after → IsTrue a → before was x → Reopens seen (before was) area g e t → Reopens y (after now) area g e t
stays_reopened a b x y seen was now before after area g e t s known there r = subst (λ (i : Image). Reopens i (after now) area g e t) (sym (s.same known)) (record {
  slots = r.slots;
  was = given_slots (before was) area g e t r.slots r.log x there;
  log = fewer_left (before was) (after now) area g e t r.slots (λ image left. subst (λ (m : ℕ). before m image) s.moment (s.nothing_else now image left)) r.log;
})
