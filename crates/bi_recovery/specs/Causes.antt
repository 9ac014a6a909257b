-- Why a database was not opened.
use Rattle.std.specs.Prelude.{ℕ, ◌≤◌, Result, IsErrOf}
use Rattle.storage.specs.faults.Faults.{Rose}
use Rattle.bi_recovery.specs.declared.open_fault.OpenFault.{OpenFault}
use Rattle.bi_recovery.specs.declared.open_fault.OpenFault.TheVariants.{Disk}

-- the disk's count never falls, and rose where the answer is Disk
pub record HasOpenCause {T : Type 0} (was now : ℕ) (result : Result T OpenFault) : Type 0 where
  pub later : was ≤ now
  pub rose : IsErrOf result Disk → Rose was now
