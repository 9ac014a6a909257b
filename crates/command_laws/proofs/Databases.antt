-- Each crash of a command over a database leaves a database, and so does a history of commands, in which nothing acknowledged is lost.
use Rattle.std.proofs.Common.{◌≡◌, inl, inr, ℕ, ◌+◌, List, [], ◌∷◌, ◌++◌, None, IsTrue, sym, subst, arith}
use Rattle.std.proofs.Math.Logic.{∥∥₁_elim, ∥∥₁_map, ∥∥₁_prop}
use Rattle.abl_cli.specs.Undisturbed.{HasDatabase}
use Rattle.schema_reader.proofs.ObservableSound.{files-sound}
use Rattle.schema_reader.specs.Rules.{violation_of}
use Rattle.storage.specs.Disk.{IsImage}
use Rattle.storage.specs.declared.disk.Disk.{Ghosts}
use Rattle.abl_values.specs.Schema.{SchemaData}
use Rattle.abl_values.specs.Sound.{IsSound}
use Rattle.database_protocol.specs.declared.event.Event.{Event}
use Rattle.crash_laws.proofs.Births.{born_with, crash_born, history_born}
use Rattle.crash_laws.proofs.Calls.{calls_kept}
use Rattle.crash_laws.specs.Births.{IsBornFrom, IsBornWith, LeavesBorn}
use Rattle.crash_laws.specs.Calls.{AreCalls, CallHistory, IsCallHistory, IsLeftByKept, KeptCall, KeptCrashed, KeptEnded, Keeping, NothingIsLostIn, PastCall, Running}
use Rattle.crash_laws.specs.Disks.{ComesNext, view_of}
use Rattle.crash_laws.specs.History.{AreKept, Crashed, Ended, IsLeftBy, PastRun, setting_of}
use Rattle.database_meaning.specs.Setting.{Setting}
use Rattle.database_meaning.specs.Traces.{IsLegal, acknowledged, after_commits}
use Rattle.database_meaning.specs.declared.contents.Contents.{Contents}
use Rattle.disk_database.specs.Images.{IsImageOf, created}
use Rattle.log_meaning.specs.steps.Steps.{Image}
use Rattle.run_works.specs.Disks.{state_of}
use Rattle.source_files.specs.Compiled.{schema_in}
use Rattle.command_laws.proofs.Histories.{has_clean, made_view}
use Rattle.command_laws.proofs.Results.{KeepsOrRuns, kept_or_run}
use Rattle.command_laws.specs.Databases.{AreCommandsOver, CommandCrashed, CommandEnded, IsDatabase, IsLeftByCommand, IsOver, LeaveDatabases, LeavesDatabases, LoseNothing, TimedCommand}
use Rattle.command_laws.specs.History.{HasCreated, HasResult, PastCommand}

module _ {D : Type 0} (d : Ghosts D) (known : (disk : D) (m : ℕ) (image : Image) → d.left disk m image → IsImage (d.observable disk) (d.time disk) m image) (reads : (disk : D) → IsTrue (d.observable disk) → d.left disk (d.time disk) (d.seen disk)) where
  -- ---- one command

  from_run : (schema : SchemaData) (run : PastRun D) (contents : Contents) (n : ℕ) (image : Image) → IsBornFrom (setting_of schema run) contents run.trace n image → IsDatabase schema image
  from_run schema run contents n image (inl born) = (after_commits (setting_of schema run) contents run.trace n, born)
  from_run schema run contents n image (inr more) = (after_commits (setting_of schema run) contents run.trace (n + 1), more.1)

  -- the run that a command is, where it is one of so many clients
  abbrev run_of : TimedCommand D → ℕ → PastRun D
  run_of c clients = record { clients = clients; was = c.command.disk; now = c.command.outcome.disk; trace = c.command.outcome.report.trace; moment = c.moment }

  abbrev call_of : TimedCommand D → KeptCall D
  call_of c = record { was = c.command.disk; now = c.command.outcome.disk; moment = c.moment }

  leaves_by : (schema : SchemaData) (command : PastCommand D) → IsSound schema → HasDatabase schema (state_of d command.disk) → KeepsOrRuns d known reads schema command → LeavesDatabases d schema command
  leaves_by schema command sound has (inl keeps) m image from there = ∥∥₁_elim (keeps.kept has.contents has.sound has.holds m image from there) ∥∥₁_prop (λ (is : IsImageOf schema has.contents image).
      ∥∥₁_map (born_with schema sound has.contents has.sound image is) (λ (born : IsBornWith schema has.contents image). (has.contents, born)))
  leaves_by schema command sound has (inr runs) m image from there =
      let run : PastRun D = run_of (record { command = command; moment = m }) runs.0 in
      let promised = runs.1 has.contents has.holds in
      ∥∥₁_map (crash_born (setting_of schema run) has.contents run.trace image sound promised.0 (d.time command.disk) (d.time command.outcome.disk) m (d.left command.outcome.disk) promised.1 from there)
      (from_run schema run has.contents (acknowledged m run.trace) image)

  pub command_leaves : (df : List ℕ) (command : PastCommand D) → HasResult d command → IsOver df command → violation_of df ≡ None → HasDatabase (schema_in df) (state_of d command.disk) → LeavesDatabases d (schema_in df) command
  command_leaves df command result over clean has = leaves_by (schema_in df) command (files-sound df clean) has (kept_or_run d known reads df clean command result over)

  -- ---- a history, as the laws of crashes see it

  abbrev past_call : (schema : SchemaData) (c : TimedCommand D) → KeepsOrRuns d known reads schema c.command → PastCall D
  past_call schema c (inl keeps) = Keeping (call_of c)
  past_call schema c (inr runs) = Running (run_of c runs.0)

  -- what a command over its database is: a call that keeps the contents, or a run
  abbrev kind_of : (df : List ℕ) → violation_of df ≡ None → (c : TimedCommand D) → HasResult d c.command → IsOver df c.command → KeepsOrRuns d known reads (schema_in df) c.command
  kind_of df clean c result over = kept_or_run d known reads df clean c.command result over

  abbrev past_calls : (df : List ℕ) → violation_of df ≡ None → (left : D → Type 0) (cs : List (TimedCommand D)) (last : D) → AreCommandsOver d df left cs last → List (PastCall D)
  past_calls df clean left [] last are = []
  past_calls df clean left (c ∷ cs) last are = past_call (schema_in df) c (kind_of df clean c are.1.0 are.1.1.0) ∷ past_calls df clean (IsLeftByCommand d c) cs last are.1.1.1

  left_by_kept : (c : TimedCommand D) (disk : D) → IsLeftByCommand d c disk → IsLeftByKept (view_of d) (call_of c) disk
  left_by_kept c disk (CommandCrashed since crash) = KeptCrashed since crash
  left_by_kept c disk (CommandEnded last since unclosed next) = KeptEnded (omega (arith, last, since)) next

  left_by_run : (c : TimedCommand D) (clients : ℕ) (disk : D) → IsLeftByCommand d c disk → IsLeftBy (view_of d) (run_of c clients) disk
  left_by_run c clients disk (CommandCrashed since crash) = Crashed since crash
  left_by_run c clients disk (CommandEnded last since unclosed next) = Ended last unclosed next

  -- how the first disk is left may be said in another way
  left_so : (schema : SchemaData) (left other : D → Type 0) → ((disk : D) → left disk → other disk) → (calls : List (PastCall D)) (last : D) → AreCalls (view_of d) schema left calls last → AreCalls (view_of d) schema other calls last
  left_so schema left other so [] last are = so last are
  left_so schema left other so (Running run ∷ calls) last are = (so run.was are.0, are.1)
  left_so schema left other so (Keeping call ∷ calls) last are = (so call.was are.0, are.1)

  one_call : (schema : SchemaData) (left : D → Type 0) (c : TimedCommand D) (k : KeepsOrRuns d known reads schema c.command) (calls : List (PastCall D)) (last : D) → left c.command.disk → AreCalls (view_of d) schema (IsLeftByCommand d c) calls last
      → AreCalls (view_of d) schema left (past_call schema c k ∷ calls) last
  one_call schema left c (inl keeps) calls last first rest = (first, (keeps.kept, left_so schema (IsLeftByCommand d c) (IsLeftByKept (view_of d) (call_of c)) (left_by_kept c) calls last rest))
  one_call schema left c (inr runs) calls last first rest = (first, (runs.1, left_so schema (IsLeftByCommand d c) (IsLeftBy (view_of d) (run_of c runs.0)) (left_by_run c runs.0) calls last rest))

  are_calls : (df : List ℕ) (clean : violation_of df ≡ None) (left : D → Type 0) (cs : List (TimedCommand D)) (last : D) (are : AreCommandsOver d df left cs last) → AreCalls (view_of d) (schema_in df) left (past_calls df clean left cs last are) last
  are_calls df clean left [] last are = are
  are_calls df clean left (c ∷ cs) last are =
      one_call (schema_in df) left c (kind_of df clean c are.1.0 are.1.1.0) (past_calls df clean (IsLeftByCommand d c) cs last are.1.1.1) last are.0 (are_calls df clean (IsLeftByCommand d c) cs last are.1.1.1)

  -- ---- the images

  one_leaves : (schema : SchemaData) (contents : Contents) (c : TimedCommand D) (k : KeepsOrRuns d known reads schema c.command) (calls : List (PastCall D)) (cs : List (TimedCommand D)) (last : D)
      → ((then : Contents) → LeavesBorn (view_of d) schema then calls last → LeaveDatabases d schema cs last) → LeavesBorn (view_of d) schema contents (past_call schema c k ∷ calls) last → LeaveDatabases d schema (c ∷ cs) last
  one_leaves schema contents c (inl keeps) calls cs last rest born =
      (λ m image from there. ∥∥₁_map (born.0 m image from there) (λ (is : IsBornWith schema contents image). (contents, is)), rest contents born.1)
  one_leaves schema contents c (inr runs) calls cs last rest born =
      let run : PastRun D = run_of c runs.0 in
      (λ m image from there. ∥∥₁_map (born.0 m image from there) (from_run schema run contents (acknowledged m run.trace) image), rest (after_commits (setting_of schema run) contents run.trace born.1.0) born.1.1.1)

  databases : (df : List ℕ) (clean : violation_of df ≡ None) (contents : Contents) (left : D → Type 0) (cs : List (TimedCommand D)) (last : D) (are : AreCommandsOver d df left cs last)
      → LeavesBorn (view_of d) (schema_in df) contents (past_calls df clean left cs last are) last → LeaveDatabases d (schema_in df) cs last
  databases df clean contents left [] last are born = λ image there. ∥∥₁_map (born image there) (λ (is : IsBornWith (schema_in df) contents image). (contents, is))
  databases df clean contents left (c ∷ cs) last are born =
      one_leaves (schema_in df) contents c (kind_of df clean c are.1.0 are.1.1.0) (past_calls df clean (IsLeftByCommand d c) cs last are.1.1.1) cs last
      (λ (then : Contents). databases df clean then (IsLeftByCommand d c) cs last are.1.1.1) born

  -- ---- the contents

  -- a command without events has no commit
  not_among : (before later : List Event) (e : Event) → [] ≡ before ++ e ∷ later → ⊥
  not_among [] later e is = cc is
  not_among (x ∷ before) later e is = cc is

  none_kept : (f : Setting) (contents : Contents) (moment : ℕ) → AreKept f contents [] moment 0
  none_kept f contents moment = record { all = λ before later e is acknowledges. absurd (not_among before later e is); least = omega arith; most = omega arith; there = omega arith }

  -- what a command says of its trace, where whoever comes next loses nothing
  abbrev Leaves : (schema : SchemaData) (contents : Contents) (moment : ℕ) (cs : List (TimedCommand D)) (last : D) → List Event → Type 0
  Leaves schema contents moment cs last trace =
      (clients : ℕ) × (IsLegal (record { schema = schema; clients = clients }) contents trace
      × ((done : ℕ) × (AreKept (record { schema = schema; clients = clients }) contents trace moment done
      × LoseNothing d schema (after_commits (record { schema = schema; clients = clients }) contents trace done) cs last)))

  one_loses : (schema : SchemaData) (contents : Contents) (c : TimedCommand D) (k : KeepsOrRuns d known reads schema c.command) (calls : List (PastCall D)) (cs : List (TimedCommand D)) (last : D)
      → ((then : Contents) → NothingIsLostIn (view_of d) schema then calls last → LoseNothing d schema then cs last) → NothingIsLostIn (view_of d) schema contents (past_call schema c k ∷ calls) last → LoseNothing d schema contents (c ∷ cs) last
  one_loses schema contents c (inl keeps) calls cs last rest lost = (
    lost.0,
    subst (Leaves schema contents c.moment cs last) (sym keeps.silent) (0, ((lost.0.sound, tt), (0, (none_kept (record { schema = schema; clients = 0 }) contents c.moment, rest contents lost.1)))),
  )
  one_loses schema contents c (inr runs) calls cs last rest lost =
      let done : ℕ = lost.1.1.0 in
      (lost.0, (runs.0, (lost.1.0, (done, (lost.1.1.1.0, rest (after_commits (setting_of schema (run_of c runs.0)) contents c.command.outcome.report.trace done) lost.1.1.1.1)))))

  lose_nothing : (df : List ℕ) (clean : violation_of df ≡ None) (contents : Contents) (left : D → Type 0) (cs : List (TimedCommand D)) (last : D) (are : AreCommandsOver d df left cs last)
      → NothingIsLostIn (view_of d) (schema_in df) contents (past_calls df clean left cs last are) last → LoseNothing d (schema_in df) contents cs last
  lose_nothing df clean contents left [] last are lost = lost
  lose_nothing df clean contents left (c ∷ cs) last are lost =
      one_loses (schema_in df) contents c (kind_of df clean c are.1.0 are.1.1.0) (past_calls df clean (IsLeftByCommand d c) cs last are.1.1.1) cs last
      (λ (then : Contents). lose_nothing df clean then (IsLeftByCommand d c) cs last are.1.1.1) lost

  -- ---- a creation, and what comes after it

  abbrev left_by_creation : PastCommand D → D → Type 0
  left_by_creation creation disk = ComesNext (view_of d creation.outcome.disk) (view_of d disk)

  module _ (df : List ℕ) (creation : PastCommand D) (cs : List (TimedCommand D)) (last : D) (has : HasCreated d df creation) (are : AreCommandsOver d df (left_by_creation creation) cs last) where
    clean : violation_of df ≡ None
    clean = has_clean d df creation has has.result

    abbrev history : CallHistory D
    history = record { schema = schema_in df; made = creation.outcome.disk; calls = past_calls df clean (left_by_creation creation) cs last are; last = last }

    is_history : IsCallHistory (view_of d) history
    is_history = record { made = made_view d df creation has; calls = are_calls df clean (left_by_creation creation) cs last are }

    pub commands_leave : ∥ LeaveDatabases d (schema_in df) cs last ∥₁
    commands_leave = ∥∥₁_map (history_born (view_of d) history is_history) (databases df clean (created (schema_in df)) (left_by_creation creation) cs last are)

    pub commands_lose_nothing : ∥ LoseNothing d (schema_in df) (created (schema_in df)) cs last ∥₁
    commands_lose_nothing = ∥∥₁_map (calls_kept (view_of d) history is_history) (lose_nothing df clean (created (schema_in df)) (left_by_creation creation) cs last are)
