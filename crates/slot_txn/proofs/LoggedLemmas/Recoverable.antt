-- The images of each moment are recoverable.
use Rattle.std.proofs.Common.{◌≡◌, ⊎_elim, ℕ, ◌<◌, ◌≤◌, Bool, List, IsTrue}
use Rattle.std.proofs.Props.{props}
use Rattle.std.proofs.Math.Logic.{∥∥₁_map, ∥∥₁_elim}
use Rattle.std.proofs.lemmas.Bool.{cases_lt}
use Rattle.log_meaning.specs.steps.Steps.{Image, Run, Any}
use Rattle.log_meaning.specs.Images.{Recovers}
use Rattle.log_meaning.proofs.LogStates.{one_recovery}
use Rattle.checkpoint.specs.kept.KeptLog.{Leaves}
use Rattle.slot_txn.specs.logged.Stops.{HasSlots, IsRecoverable, StayRecoverable}

same_slots : (x y : ℕ → List ℕ) → IsProp (x ≡ y)
same_slots x y = hlevel props

-- an image that recovers to these slots recovers to no others
pub left_only : (image : Image) (slots other : ℕ → List ℕ) → ∥ Recovers image slots ∥₁ → Recovers image other → other ≡ slots
left_only image slots other left r = ∥∥₁_elim left (same_slots other slots) (λ (k : Recovers image slots). λ i s. one_recovery image other slots r k s i)

pub has_slots : (image : Image) (slots : ℕ → List ℕ) → Recovers image slots → HasSlots image
has_slots image slots r = record { slots = slots; recovers = r }

-- a part of a call of which each image is recoverable
pub recoverable_run : (known : Bool) (since was now : ℕ) (before after : ℕ → Image → Type 0) → Run was now before after Any → since ≤ was → ((m : ℕ) (image : Image) → after m image → IsTrue known)
    → (IsTrue known → (m : ℕ) (image : Image) → was < m → after m image → IsRecoverable image) → StayRecoverable before since → StayRecoverable after since
recoverable_run known since was now before after run past told fresh old start m image from there = ⊎_elim
    (λ (later : was < m). fresh (told m image there) m image later there)
    (λ (le : m ≤ was). old (λ i l. start i (run.stays since i past l)) m image from (run.nothing_else m image le there))
    (cases_lt was m)

-- a part of a call that leaves what is committed
pub recoverable_on : (known : Bool) (since was now : ℕ) (before after : ℕ → Image → Type 0) (committed : ℕ → List ℕ) → Run was now before after Any → since ≤ was → ((m : ℕ) (image : Image) → after m image → IsTrue known)
    → (IsTrue known → Leaves was after committed) → StayRecoverable before since → StayRecoverable after since
recoverable_on known since was now before after committed run past told leaves old = recoverable_run known since was now before after run past told (λ h m image later there. ∥∥₁_map (leaves h m image later there) (has_slots image committed)) old
