-- What guarded slots keep.
use Rattle.std.specs.Prelude.{◌≡◌, ℕ, max, Bool, false, ◌||◌, if◌then◌else◌, List, IsTrue}
use Rattle.std.specs.List.{AllByRecursion, AllByRecursion-prop}
use Rattle.std.proofs.Props.{props}
use Rattle.storage.specs.faults.Faults.{counted}
use Rattle.storage.specs.Slots.{IsReadable, SlotState}
use Rattle.storage.specs.declared.slots.Undo.{Undo}

-- each slot holds what it may hold
abbrev pub AllAllowed : (ℕ → List ℕ → Type 0) → (ℕ → List ℕ) → Type 0
AllAllowed allowed slots = (k : ℕ) → ∥ allowed k (slots k) ∥₁

-- undoing each of these writes puts back what its slot may hold
abbrev pub AllRestore : (ℕ → List ℕ → Type 0) → List Undo → Type 0
AllRestore allowed writes = AllByRecursion (λ (u : Undo). ∥ allowed u.slot u.old ∥₁) writes

pub AllRestore-prop : (allowed : ℕ → List ℕ → Type 0) (writes : List Undo) → IsProp (AllRestore allowed writes)
AllRestore-prop allowed writes = AllByRecursion-prop (λ (u : Undo). ∥ allowed u.slot u.old ∥₁) (λ u. squash₁) writes

-- What is committed or in doubt, and what a stop leaves, is in each slot what the guard allows. So is what reads give, and what undoing a
-- write gives, until a write is made that the guard does not allow
pub record IsGuarded (allowed : ℕ → List ℕ → Type 0) (tainted : Bool) (s : SlotState) (stop : ℕ → (ℕ → List ℕ) → Type 0) : Type 0 where
  pub committed : IsTrue s.observable → AllAllowed allowed s.committed
  pub doubt : IsTrue s.observable → AllAllowed allowed s.doubt
  pub reads : tainted ≡ false → IsReadable s → AllAllowed allowed s.reads
  pub undo : tainted ≡ false → IsReadable s → (c : ℕ) → AllRestore allowed (s.transaction c).undo
  pub stops : (m : ℕ) (left : ℕ → List ℕ) → stop m left → AllAllowed allowed left

pub IsGuarded-prop : (allowed : ℕ → List ℕ → Type 0) (tainted : Bool) (s : SlotState) (stop : ℕ → (ℕ → List ℕ) → Type 0) → IsProp (IsGuarded allowed tainted s stop)
IsGuarded-prop allowed tainted s stop = hlevel (props, AllRestore-prop)

-- the faults of the slots, and one more where a commit was refused
abbrev pub faults_with : Bool → ℕ → ℕ
faults_with refused faults = if refused then max faults (counted faults) else faults

-- the state of the slots; where a commit was refused, a call has answered Disk
abbrev pub guarded_state : Bool → SlotState → SlotState
guarded_state refused s = record {
  observable = s.observable;
  reads = s.reads;
  committed = s.committed;
  doubt = s.doubt;
  transaction = s.transaction;
  failed = s.failed || refused;
  faults = faults_with refused s.faults;
  moment = s.moment;
  since = s.since;
  short = s.short;
}
