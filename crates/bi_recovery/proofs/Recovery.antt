-- What the parts of recovery do to the images.
use Rattle.std.proofs.Common.{◌≡◌, ◌≢◌, ⊎_elim, ℕ, ◌-◌, ◌*◌, ◌/◌, ◌<◌, ◌≤◌, true, List, [], length, Bool, IsTrue, sym, ◌∙◌, ap, subst, arith}
use Rattle.storage.specs.Disk.{Stays}
use Rattle.storage.specs.declared.slots.Undo.{Undo}
use Rattle.storage.specs.Slots.{wrote, undone}
use Rattle.log_meaning.specs.steps.Steps.{Image, Run, Any}
use Rattle.log_meaning.proofs.StepsLemmas.Runs.{stayed}
use Rattle.log_meaning.specs.declared.note.Note.{Note}
use Rattle.log_meaning.specs.Images.{HoldsLog, IsNewest, IsOpened, Recovers, slot_of}
use Rattle.log_meaning.specs.Recovered.{changes_of, recovered}
use Rattle.log_meaning.specs.LogState.{notes_in, LogState}
use Rattle.log_meaning.proofs.LogStates.{one_area, same_newest, may_write}
use Rattle.log_meaning.proofs.OneLog.{one_opened}
use Rattle.bi_recovery.specs.NoteSlots.{AreRecovered}
use Rattle.bi_recovery.specs.Reopening.{SameRecovery, Gives, SameAreas, LogIs}
use Rattle.bi_recovery.proofs.Reopening.{stage, keeps_none}

-- a run whose steps are known where the areas are observable, as they are where there is an image
pub run_if : (was now : ℕ) (before after : ℕ → Image → Type 0) (Step : Image → Image → Type 0) (known : Type 0) → Run was now before after Any → ((m : ℕ) (image : Image) → after m image → known) → (known → Run was now before after Step) → Run was now before after Step
run_if was now before after Step known past same_observable full = record {
  later = past.later;
  nothing_else = past.nothing_else;
  stays = past.stays;
  here = λ m image later left. (full (same_observable m image left)).here m image later left;
}

-- a call that makes no moment, and then a run
pub after_stay : (a b : Bool) (x y : Image) (was mid now : ℕ) (before between after : ℕ → Image → Type 0) → Stays a b x y was mid before between → ((m : ℕ) (image : Image) → before m image → m ≤ was) → Run mid now between after SameRecovery → Run was now before after SameRecovery
after_stay a b x y was mid now before between after s top two = stage _ _ _ _ _ _ SameRecovery (stayed _ _ _ _ _ _ _ _ SameRecovery s top) two (λ d image there step. step)

-- a run, and then a call that makes no moment
pub then_stay : (was mid now : ℕ) (before between after : ℕ → Image → Type 0) (a b : Bool) (x y : Image) → Run was mid before between SameRecovery → Stays a b x y mid now between after → ((m : ℕ) (image : Image) → between m image → m ≤ mid) → Run was now before after SameRecovery
then_stay was mid now before between after a b x y one s top = stage _ _ _ _ _ _ SameRecovery one (stayed _ _ _ _ _ _ _ _ SameRecovery s top) (λ d image there step. step)

-- a log without notes, where area 0 has this length
pub with_extent : (a g e n : ℕ) (base : ℕ → List ℕ) (image : Image) → n ≡ length (image 0) → LogState a g e [] base image → LogState a g (n / 256) [] base image
with_extent a g e n base image size st = record { newest = st.newest; log = st.log; there = omega (arith, size); below = st.below }

-- syncs, and then a run
pub after_same : (was mid now : ℕ) (before between after : ℕ → Image → Type 0) → Run was mid before between (λ old new. new ≡ old) → Run mid now between after SameRecovery → Run was now before after SameRecovery
after_same was mid now before between after one two = stage _ _ _ _ _ _ SameRecovery (same_keeps _ _ _ _ one) two (λ d image there step. step)
  where
    same_keeps : (w n : ℕ) (f g : ℕ → Image → Type 0) → Run w n f g (λ old new. new ≡ old) → Run w n f g SameRecovery
    same_keeps w n f g one = record { later = one.later; nothing_else = one.nothing_else; stays = one.stays; here = λ m image later left. let h = one.here m image later left in (h.0, h.1, keeps_none (h.0) image (h.2)) }

pub stay_synced : (a b : Bool) (x y : Image) (was now : ℕ) (before after : ℕ → Image → Type 0) → Stays a b x y was now before after → ((m : ℕ) (image : Image) → before m image → IsTrue a) → ((image : Image) → before was image → SameAreas x image) → (image : Image) → after now image → SameAreas y image
stay_synced a b x y was now before after s same_observable synced image left k lt =
    let was_left : before was image = subst (λ (m : ℕ). before m image) s.moment (s.nothing_else now image left) in
    synced image was_left k lt ∙ sym (ap (λ (i : Image). i k) (s.same (same_observable was image was_left)))

-- the log state of each image
pub log_agrees : (seen image : Image) (a g e : ℕ) (notes : List Note) (l : LogIs seen a g notes) → SameAreas seen image → 256 * e ≤ length (seen 0) → LogState a g e l.holds.batches (slot_of (seen 0)) image
log_agrees seen image a g e notes l same there = record {
  newest = same_newest seen image a g (same (3 - a) (⊎_elim (λ (one : a ≡ 1). omega (arith, one)) (λ (two : a ≡ 2). omega (arith, two)) l.newest.log)) l.newest;
  log = subst (λ (area : List ℕ). HoldsLog area g l.holds.batches) (sym (same a (⊎_elim (λ (one : a ≡ 1). omega (arith, one)) (λ (two : a ≡ 2). omega (arith, two)) l.newest.log))) l.holds.log;
  there = omega (arith, there, ap (length {A = ℕ}) (same 0 (omega arith)));
  below = λ s none. ap (λ (area : List ℕ). slot_of area s) (same 0 (omega arith));
}

-- the recovered slots of its notes may be written, where they have no gap
pub log_gives : (e : ℕ) (notes : List Note) (bs : List (List Note)) (us : List Undo) → notes ≡ notes_in bs → AreRecovered notes us → ((s k : ℕ) → wrote us s ≡ true → e ≤ k → k < s → wrote us k ≡ true) → Gives e bs us
log_gives e notes bs us are r filled = record {
  are = λ below s. r.are below s ∙ ap (λ (l : List Note). recovered l below s) are;
  may = λ s wrote_s. may_write e bs s (record { own = noted s wrote_s; gap = λ k from lt. noted k (filled s k wrote_s from lt) });
}
  where
    noted : (s : ℕ) → wrote us s ≡ true → changes_of s (notes_in bs) ≢ []
    noted s wrote_s none = r.noted s wrote_s (ap (changes_of s) are ∙ none)

-- what the image recovers to
pub log_recovers : (seen : Image) (a g e : ℕ) (notes : List Note) (us : List Undo) (l : LogIs seen a g notes) → Gives e l.holds.batches us → Recovers seen (undone us (slot_of (seen 0)))
log_recovers seen a g e notes us l gives = record { area = a; generation = g; batches = l.holds.batches; newest = l.newest; log = l.holds.log; gives = λ s. gives.are (slot_of (seen 0)) s }

pub stay_log : (a b : Bool) (x y : Image) (was now : ℕ) (before after : ℕ → Image → Type 0) (area g : ℕ) (notes : List Note) → Stays a b x y was now before after → IsTrue a → LogIs x area g notes → LogIs y area g notes
stay_log a b x y was now before after area g notes s known l = subst (λ (i : Image). LogIs i area g notes) (sym (s.same known)) l

-- what rebuilding requires of the images and of the slots
pub record Ready (seen : Image) (left : Image → Type 0) (a g e : ℕ) (us : List Undo) : Type 0 where
  pub batches : List (List Note)
  pub agrees : (image : Image) → left image → LogState a g e batches (slot_of (seen 0)) image
  pub gives : Gives e batches us
  pub was : Recovers seen (undone us (slot_of (seen 0)))

pub ready : (a b : Bool) (x y : Image) (was now : ℕ) (before after : ℕ → Image → Type 0) (area g n : ℕ) (notes : List Note) (us vs ws : List Undo) → Stays a b x y was now before after → ((m : ℕ) (image : Image) → before m image → IsTrue a) → IsTrue a
    → ((image : Image) → before was image → SameAreas x image) → LogIs x area g notes → n ≡ length (x 0) → AreRecovered notes ws → us ≡ ws → vs ≡ ws
    → ((s k : ℕ) → wrote vs s ≡ true → n / 256 ≤ k → k < s → wrote vs k ≡ true) → Ready y (after now) area g (n / 256) us
ready a b x y was now before after area g n notes us vs ws s same_observable known synced log size r us_is vs_is filled =
    let l = stay_log a b x y was now before after area g notes s known log in
    let gives = log_gives (n / 256) notes l.holds.batches us l.holds.are (subst (AreRecovered notes) (sym us_is) r) (λ t k w from lt. ap (λ (v : List Undo). wrote v k) (us_is ∙ sym vs_is) ∙ filled t k (ap (λ (v : List Undo). wrote v t) (vs_is ∙ sym us_is) ∙ w) from lt) in
    record {
      batches = l.holds.batches;
      agrees = λ image left. log_agrees y image area g (n / 256) notes l (stay_synced a b x y was now before after s same_observable synced image left) (whole n (size ∙ sym (ap (λ (i : Image). length (i 0)) (s.same known))));
      gives = gives;
      was = log_recovers y area g (n / 256) notes us l gives;
    }
  where
    whole : (k : ℕ) → k ≡ length (y 0) → 256 * (k / 256) ≤ length (y 0)
    whole k e = omega (arith, e)

-- the same where the slots may have a gap
pub record ReadyOver (seen : Image) (left : Image → Type 0) (a g e : ℕ) (us : List Undo) : Type 0 where
  pub batches : List (List Note)
  pub agrees : (image : Image) → left image → LogState a g e batches (slot_of (seen 0)) image
  pub are : (below : ℕ → List ℕ) (s : ℕ) → undone us below s ≡ recovered (notes_in batches) below s
  pub was : Recovers seen (undone us (slot_of (seen 0)))

pub ready_over : (a b : Bool) (x y : Image) (was now : ℕ) (before after : ℕ → Image → Type 0) (area g n : ℕ) (notes : List Note) (us ws : List Undo) → Stays a b x y was now before after → ((m : ℕ) (image : Image) → before m image → IsTrue a) → IsTrue a
    → ((image : Image) → before was image → SameAreas x image) → LogIs x area g notes → n ≡ length (x 0) → AreRecovered notes ws → us ≡ ws → ReadyOver y (after now) area g (n / 256) us
ready_over a b x y was now before after area g n notes us ws s same_observable known synced log size r us_is =
    let l = stay_log a b x y was now before after area g notes s known log in
    let are : (below : ℕ → List ℕ) (s : ℕ) → undone us below s ≡ recovered (notes_in l.holds.batches) below s = (λ below k. ap (λ (u : List Undo). undone u below k) us_is ∙ r.are below k ∙ ap (λ (m : List Note). recovered m below k) l.holds.are) in
    record {
      batches = l.holds.batches;
      agrees = λ image left. log_agrees y image area g (n / 256) notes l (stay_synced a b x y was now before after s same_observable synced image left) (whole n (size ∙ sym (ap (λ (i : Image). length (i 0)) (s.same known))));
      are = are;
      was = record { area = area; generation = g; batches = l.holds.batches; newest = l.newest; log = l.holds.log; gives = λ k. are (slot_of (y 0)) k };
    }
  where
    whole : (k : ℕ) → k ≡ length (y 0) → 256 * (k / 256) ≤ length (y 0)
    whole k e = omega (arith, e)

-- a disk whose newest area holds no log recovers to nothing
pub no_recovery : (seen : Image) (a g : ℕ) → IsNewest seen a g → IsOpened (seen a) g → ((batches : List (List Note)) → HoldsLog (seen a) g batches → ⊥) → (slots : ℕ → List ℕ) → Recovers seen slots → ⊥
no_recovery seen a g n o none slots r =
    let same = one_area seen r.area a r.generation g r.newest r.log.opened n o in
    let log : HoldsLog (seen a) r.generation r.batches = subst (λ (k : ℕ). HoldsLog (seen k) r.generation r.batches) same r.log in
    none r.batches (subst (λ (k : ℕ). HoldsLog (seen a) k r.batches) (one_opened (seen a) r.generation g log.opened o) log)

-- and so does one without an open area
pub none_opened : (seen : Image) → ((g : ℕ) → IsOpened (seen 1) g → ⊥) → ((g : ℕ) → IsOpened (seen 2) g → ⊥) → (slots : ℕ → List ℕ) → Recovers seen slots → ⊥
none_opened seen one two slots r = ⊎_elim
    (λ (is : r.area ≡ 1). one r.generation (subst (λ (k : ℕ). IsOpened (seen k) r.generation) is r.log.opened))
    (λ (is : r.area ≡ 2). two r.generation (subst (λ (k : ℕ). IsOpened (seen k) r.generation) is r.log.opened))
    r.newest.log
