-- In a history of commands the log stays short.
use Rattle.std.proofs.Common.{List, [], ◌∷◌, sym, subst}
use Rattle.bi_log.specs.Lengths.{IsShort}
use Rattle.crash_laws.specs.Calls.{IsLeftByKept, KeptCall, KeptCrashed, KeptEnded}
use Rattle.crash_laws.specs.Disks.{DiskView}
use Rattle.crash_laws.specs.Logs.{AreCommands, HasShortLog, IsShortThrough, LogStaysShort}

module _ {D : Type 0} (view : D → DiskView) where
  -- what such a command leaves has a short log
  short_left : (call : KeptCall D) → IsShortThrough view call → (disk : D) → IsLeftByKept view call disk → HasShortLog (view disk)
  short_left call through disk (KeptCrashed since crash) = λ image still. subst IsShort (sym (crash.again image still)) (through call.moment (view disk).seen since crash.there)
  short_left call through disk (KeptEnded later next) = λ image still. through (view call.now).time image later (next.images image still)

  pub all_short : (left : D → Type 0) → ((disk : D) → left disk → HasShortLog (view disk)) → (calls : List (KeptCall D)) (last : D) → AreCommands view left calls last → LogStaysShort view calls last
  all_short left short [] last are = short last are
  all_short left short (call ∷ calls) last are =
      let through : IsShortThrough view call = are.1.0 (short call.was are.0) in
      (through, all_short (IsLeftByKept view call) (short_left call through) calls last are.1.1)
