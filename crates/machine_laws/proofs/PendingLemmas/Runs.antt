-- In every configuration that a client reaches no record is pending outside of a transaction.
use Rattle.std.proofs.Common.{◌≡◌, ◌<◌, arith, sym, subst, ℕ, Bool, List}
use Rattle.bound_tree.specs.Tree.{Body}
use Rattle.abl_values.specs.Schema.{SchemaData}
use Rattle.database_protocol.specs.declared.event.Event.{Event}
use Rattle.database_protocol.specs.declared.operation.Op.{Op}
use Rattle.database_protocol.specs.declared.operation.Op.TheVariants as op
use Rattle.block_meaning.specs.Program.{Program}
use Rattle.block_meaning.specs.State.{State}
use Rattle.flat_machine.specs.Code.{Code, IsCodeOf}
use Rattle.flat_machine.specs.Config.{Await, Config, CurrentGranted, Execute, Mode, OnAnswer, StackEntry, Unwind, WasBack, WasCounted, WasCurrent, WasDeleted, WasDropped, WasEntered, WasGot, WasGranted, WasInserted, WasLeft, WasNext, WasPut, WasRead, WasSecond, WasUpgraded}
use Rattle.flat_machine.specs.Machine.{answered, mode_step}
use Rattle.flat_machine.specs.Steps.{config}
use Rattle.client_runner.specs.Levels.{levels_left}
use Rattle.machine_laws.specs.locks.Exclusive.{holds}
use Rattle.machine_laws.specs.levels.Flagged.{IsFlaggedProgram}
use Rattle.machine_laws.specs.levels.Reached.{Reached, answers, begins, steps}
use Rattle.machine_laws.proofs.LevelsLemmas.Answers.{answer_sound}
use Rattle.machine_laws.proofs.LevelsLemmas.Kept.{HasLevel, ModeAt}
use Rattle.machine_laws.proofs.LevelsLemmas.Runs.{levels_last, reached_sound as level_sound}
use Rattle.machine_laws.proofs.OperationsLemmas.Kept.{Awaits, IsReading}
use Rattle.machine_laws.proofs.OperationsLemmas.Runs.{reached_sound as lock_sound}
use Rattle.machine_laws.specs.pending.Inserted.{IsInsertedInside}
use Rattle.machine_laws.proofs.PendingLemmas.Answers.{IsInsertOf, answer_fits}
use Rattle.machine_laws.proofs.PendingLemmas.Completions.{over_fits}
use Rattle.machine_laws.proofs.PendingLemmas.Kept.{AwaitFits, Kept, ModeFits}
use Rattle.machine_laws.proofs.PendingLemmas.Pends.{None_is, start_claims}
use Rattle.machine_laws.proofs.PendingLemmas.Parts.{Fits}
use Rattle.machine_laws.proofs.PendingLemmas.Tasks.{task_fits}

-- ---- what is asked

abbrev IsNone : Op → Type 0
IsNone (op.Insert table values) = ⊥
IsNone o = Unit {0}

none_is : (o q : Op) → o ≡ q → IsNone q → IsNone o
none_is o q e h = subst IsNone (sym e) h

reading_none : (o : Op) → IsReading o → IsNone o
reading_none (op.Next table index prefix cursor forward) is = tt
reading_none (op.Get table row) is = tt
reading_none (op.NextValue sequence) is = tt
reading_none (op.CurrentValue sequence) is = tt
reading_none o is = absurd is

none_inside : (k : ℕ) (o : Op) → IsNone o → IsInsertedInside k o
none_inside k (op.Insert table values) h = absurd h
none_inside k o h = tt

some_inside : (k : ℕ) (o : Op) → 0 < k → IsInsertedInside k o
some_inside k (op.Insert table values) h = h
some_inside k o h = tt

insert_of : (held : ℕ → Bool) (o : Op) (on : OnAnswer) (ks : List StackEntry) (s : State) → Awaits held o on ks s → IsInsertOf o on
insert_of held o (WasInserted place t values made) ks s w = w.0
insert_of held o on ks s w = tt

awaited_inside : (held : ℕ → Bool) (m k : ℕ) (o : Op) (on : OnAnswer) (ks : List StackEntry) (s : State) → Awaits held o on ks s → AwaitFits m k on ks s.frames → IsInsertedInside k o
awaited_inside held m k o (WasInserted place t values made) ks s w a = some_inside k o a.0
awaited_inside held m k o WasDropped ks s w a = none_inside k o (none_is o _ w.1 tt)
awaited_inside held m k o WasLeft ks s w a = none_inside k o (none_is o _ w.1 tt)
awaited_inside held m k o (WasBack copy but) ks s w a = none_inside k o (none_is o _ w.0 tt)
awaited_inside held m k o (WasGot place row lock made) ks s w a = none_inside k o (reading_none o w.0)
awaited_inside held m k o (WasSecond n q at values) ks s w a = none_inside k o (reading_none o w.0)
awaited_inside held m k o (WasNext n q) ks s w a = none_inside k o (reading_none o w.0)
awaited_inside held m k o (WasGranted r retry row) ks s w a = none_inside k o (none_is o _ w.2 tt)
awaited_inside held m k o (WasRead r retry row lock) ks s w a = none_inside k o (reading_none o w.0)
awaited_inside held m k o (CurrentGranted r row made) ks s w a = none_inside k o (none_is o _ w.2 tt)
awaited_inside held m k o (WasCurrent r row made) ks s w a = none_inside k o (reading_none o w.0)
awaited_inside held m k o (WasCounted t) ks s w a = none_inside k o (reading_none o w.0)
awaited_inside held m k o (WasUpgraded b row values made) ks s w a = none_inside k o (none_is o _ w.1 tt)
awaited_inside held m k o (WasPut b t) ks s w a = none_inside k o (none_is o _ w.2 tt)
awaited_inside held m k o (WasDeleted b) ks s w a = none_inside k o (none_is o _ w.2 tt)
awaited_inside held m k o (WasEntered b t retry body d) ks s w a = none_inside k o (none_is o _ w.0 tt)

-- ---- runs

module _ (code : Code) (p : Program) (tree : ℕ → Body) (denotes : IsCodeOf code p tree) (flagged : IsFlaggedProgram p) (schema : SchemaData) (units : ℕ) where
  mode_fits : (m k : ℕ) (mode : Mode) (ks : List StackEntry) (s : State) → HasLevel tree mode s k → ModeAt tree mode ks k → ModeFits m k mode ks s → Fits m k (mode_step code p mode ks s)
  mode_fits m k (Execute t) ks s e l a = task_fits m k tree code p t ks s e l a
  mode_fits m k (Unwind completion) ks s e l a = over_fits m k tree p ks completion s l a
  mode_fits m k (Await o on) ks s e l a = a

  pub reached_kept : (own : List Event) (c : Config) → Reached code p schema units own c → Kept (levels_left 0 own) c
  reached_kept _ _ begins = (0, ((((start_claims (λ made. 0 < made) p 0, tt), omega arith), λ z. (start_claims None_is p 0, tt), tt), tt))
  reached_kept _ _ (steps own c r) =
      let x = reached_kept own c r in
      let l = level_sound code p tree denotes flagged schema units own c r in
      (x.0, mode_fits x.0 (levels_left 0 own) c.mode c.stack c.state l.0 l.1 x.1)
  reached_kept _ _ (answers own e on ks s fits unrefused r) =
      let l = level_sound code p tree denotes flagged schema units own (config (Await e.op on) ks s) r in
      let w = (lock_sound code p tree denotes flagged schema units own (config (Await e.op on) ks s) r).1.1 in
      subst (λ k. Kept k (answered p e.answer e.op on ks s)) (sym (levels_last 0 own e))
      (answer_fits tree schema p (levels_left 0 own) e.op on ks s e.answer fits unrefused l (answer_sound tree schema p (levels_left 0 own) e.op on ks s e.answer fits unrefused l) (insert_of (holds own) e.op on ks s w) (reached_kept own (config (Await e.op on) ks s) r))

pub inserted_inside : (code : Code) (p : Program) (tree : ℕ → Body) (schema : SchemaData) (units : ℕ) (own : List Event) (o : Op) (on : OnAnswer) (ks : List StackEntry) (s : State) → IsCodeOf code p tree → IsFlaggedProgram p → Reached code p schema units own (config (Await o on) ks s) → IsInsertedInside (levels_left 0 own) o
inserted_inside code p tree schema units own o on ks s denotes flagged r =
    let x = reached_kept code p tree denotes flagged schema units own (config (Await o on) ks s) r in
    awaited_inside (holds own) x.0 (levels_left 0 own) o on ks s (lock_sound code p tree denotes flagged schema units own (config (Await o on) ks s) r).1.1 x.1.1
