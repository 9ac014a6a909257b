-- The areas of the log through a history of commands.
use Rattle.std.specs.Prelude.{ℕ, ◌≤◌, List, [], ◌∷◌}
use Rattle.bi_log.specs.Lengths.{IsShort}
use Rattle.log_meaning.specs.steps.Steps.{Image}
use Rattle.crash_laws.specs.Disks.{DiskView}
use Rattle.crash_laws.specs.Calls.{IsLeftByKept, KeptCall}

-- no image that a crash may leave of this disk has an area of the log longer than 167,772,160 bytes
abbrev pub HasShortLog : DiskView → Type 0
HasShortLog disk = (image : Image) → disk.left disk.time image → IsShort image

-- nor has one of a moment from the beginning of the call to its return
abbrev pub IsShortThrough : {D : Type 0} → (D → DiskView) → KeptCall D → Type 0
IsShortThrough view call = (m : ℕ) (image : Image) → (view call.was).time ≤ m → (view call.now).left m image → IsShort image

-- the first command is over a disk that is left so, and each other one over what the command before it left, at a crash or at its end; of each it
-- is proved that it keeps the log short (`KeepsLogShort` of `run_works`)
abbrev pub AreCommands : {D : Type 0} → (D → DiskView) → (D → Type 0) → List (KeptCall D) → D → Type 0
AreCommands view left [] last = left last
AreCommands view left (call ∷ calls) last = left call.was × ((HasShortLog (view call.was) → IsShortThrough view call) × AreCommands view (IsLeftByKept view call) calls last)

-- THE LOG STAYS SHORT, at each moment of each command and on the disk that is left at last
abbrev pub LogStaysShort : {D : Type 0} → (D → DiskView) → List (KeptCall D) → D → Type 0
LogStaysShort view [] last = HasShortLog (view last)
LogStaysShort view (call ∷ calls) last = IsShortThrough view call × LogStaysShort view calls last
