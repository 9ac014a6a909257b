-- The steps of writing slots to area 0.
use Rattle.std.proofs.Common.{◌≡◌, ℕ, ◌+◌, ◌*◌, ◌<◌, ◌≤◌, ◌==◌, if◌then◌else◌, true, zero, suc, refl, List, [], ◌∷◌, length, get_or, drop, sym, ◌∙◌, ap, arith}
use Rattle.std.proofs.lemmas.List.{drop_more}
use Rattle.std.proofs.lemmas.Bool.{eq-eqb, or_left, or_right}
use Rattle.storage.specs.declared.slots.Undo.{Undo}
use Rattle.storage.specs.Disk.{Others}
use Rattle.storage.specs.Slots.{put, wrote, undone}
use Rattle.log_meaning.specs.steps.Steps.{Image, Run}
use Rattle.log_meaning.proofs.StepsLemmas.Runs.{joined, holds}
use Rattle.log_meaning.specs.declared.note.Note.{Note}
use Rattle.log_meaning.specs.LogState.{WritesNoted}
use Rattle.log_meaning.proofs.Filling.{writes_twice}
use Rattle.bi_recovery.specs.Reopening.{SameAreas}

pub wrote_at : (us : List Undo) (i : ℕ) (d : Undo) → i < length us → wrote us (get_or us i d).slot ≡ true
wrote_at [] i d lt = absurd (omega (arith, lt))
wrote_at (u ∷ us) zero d lt = or_left (u.slot == u.slot) (wrote us u.slot) (eq-eqb u.slot u.slot refl)
wrote_at (u ∷ us) (suc i) d lt = or_right ((get_or us i d).slot == u.slot) (wrote us (get_or us i d).slot) (wrote_at us i d (omega (arith, lt)))

-- one slot more
pub more_written : (was mid now : ℕ) (before between after : ℕ → Image → Type 0) (e : ℕ) (bs : List (List Note))
    → ((image : Image) → before was image → 256 * e ≤ length (image 0)) → Run was mid before between (WritesNoted bs)
    → (((image : Image) → between mid image → 256 * e ≤ length (image 0)) → Run mid now between after (WritesNoted bs)) → Run was now before after (WritesNoted bs)
more_written was mid now before between after e bs there one two =
    joined _ _ _ _ _ _ (WritesNoted bs) (WritesNoted bs) (WritesNoted bs) one
    (two (λ image left. holds _ _ _ _ (WritesNoted bs) (λ x. 256 * e ≤ length (x 0)) one there (λ d x was step. let had = there d was in let grew = step.no_shorter in omega (arith, had, grew)) mid image one.later left))
    (λ d image was step. step) (λ d image was mid step. step) (λ d x image was a mid b. writes_twice bs d x image a b)

pub more_past : (was mid now : ℕ) (before between after : ℕ → Image → Type 0) → Run was mid before between (Others 0) → Run mid now between after (Others 0) → Run was now before after (Others 0)
more_past was mid now before between after one two = joined _ _ _ _ _ _ (Others 0) (Others 0) (Others 0) one two (λ d image there step. step) (λ d image there m step. step) (λ d e image there a m b k other. b k other ∙ a k other)

-- what is read after it
pub reads_more : (us : List Undo) (i : ℕ) (d : Undo) (f g h : ℕ → List ℕ) → i < length us → ((s : ℕ) → g s ≡ undone (drop (i + 1) us) f s) → ((s : ℕ) → h s ≡ put g (get_or us i d).slot (get_or us i d).old s) → (s : ℕ) → h s ≡ undone (drop i us) f s
reads_more us i d f g h lt before this s =
    this s ∙ ap (λ (b : List ℕ). if s == (get_or us i d).slot then (get_or us i d).old else b) (before s) ∙ sym (ap (λ (l : List Undo). undone l f s) (drop_more us i d lt))

-- runs that leave each image as it was
pub same_twice : (was mid now : ℕ) (before between after : ℕ → Image → Type 0) → Run was mid before between (λ old new. new ≡ old) → Run mid now between after (λ old new. new ≡ old) → Run was now before after (λ old new. new ≡ old)
same_twice was mid now before between after one two = joined _ _ _ _ _ _ (λ old new. new ≡ old) (λ old new. new ≡ old) (λ old new. new ≡ old) one two (λ d image there s. s) (λ d image there m s. s) (λ d e image there x m y. y ∙ x)

pub three_areas : (seen image : Image) → image 0 ≡ seen 0 → image 1 ≡ seen 1 → image 2 ≡ seen 2 → SameAreas seen image
three_areas seen image zero_is one_is two_is zero lt = zero_is
three_areas seen image zero_is one_is two_is (suc zero) lt = one_is
three_areas seen image zero_is one_is two_is (suc (suc zero)) lt = two_is
three_areas seen image zero_is one_is two_is (suc (suc (suc k))) lt = absurd (omega (arith, lt))
