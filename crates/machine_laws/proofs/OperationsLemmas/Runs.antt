-- Every configuration that a client reaches with its own events keeps what its buffers claim.
use Rattle.std.proofs.Common.{◌≡◌, refl, sym, subst, ℕ, Bool, false, cond, List, [], ◌∷◌, ◌++◌}
use Rattle.std.proofs.Math.Path.{fun_ext}
use Rattle.abl_values.specs.Schema.{SchemaData}
use Rattle.database_protocol.specs.declared.event.Event.{Event}
use Rattle.database_protocol.specs.declared.operation.Op.{Op}
use Rattle.database_protocol.specs.declared.operation.Op.TheVariants as op
use Rattle.database_meaning.specs.Steps.{is_success}
use Rattle.block_meaning.specs.Program.{Program}
use Rattle.block_meaning.specs.State.{State}
use Rattle.flat_machine.specs.Code.{Code, IsCodeOf}
use Rattle.bound_tree.specs.Tree.{Body}
use Rattle.flat_machine.specs.Config.{Await, Config, CurrentGranted, Execute, Mode, OnAnswer, StackEntry, Unwind, WasBack, WasCounted, WasCurrent, WasDeleted, WasDropped, WasEntered, WasGot, WasGranted, WasInserted, WasLeft, WasNext, WasPut, WasRead, WasSecond, WasUpgraded}
use Rattle.flat_machine.specs.Machine.{answered, mode_step}
use Rattle.flat_machine.specs.Steps.{config}
use Rattle.client_runner.specs.Levels.{levels_after, levels_left}
use Rattle.machine_laws.specs.locks.Exclusive.{holds, holds_after, holds_left}
use Rattle.machine_laws.specs.levels.Flagged.{IsFlaggedProgram}
use Rattle.machine_laws.specs.levels.Reached.{Reached, answers, begins, steps}
use Rattle.machine_laws.proofs.LevelsLemmas.Runs.{changes_inside}
use Rattle.machine_laws.specs.operations.HeldRows.{IsOfHeldRow}
use Rattle.machine_laws.proofs.OperationsLemmas.Answers.{answer_sound, holds_next, levels_next}
use Rattle.machine_laws.proofs.OperationsLemmas.Claims.{start_claims}
use Rattle.machine_laws.proofs.OperationsLemmas.Completions.{over_sound}
use Rattle.machine_laws.proofs.OperationsLemmas.Kept.{AtMode, Awaits, IsReading, IsShaped, Sound}
use Rattle.machine_laws.proofs.OperationsLemmas.Tasks.{task_sound}

-- ---- own events

levels_last : (k : ℕ) (own : List Event) (e : Event) → levels_left k (own ++ e ∷ []) ≡ levels_next (levels_left k own) e.op e.answer
levels_last k [] e = refl
levels_last k (x ∷ own) e = levels_last (cond (is_success x.answer) (levels_after k x.op) k) own e

holds_last : (row k : ℕ) (held : Bool) (own : List Event) (e : Event) →
    holds_left row k held (own ++ e ∷ []) ≡ cond (is_success e.answer) (holds_after row (levels_left k own) e.op e.answer (holds_left row k held own)) (holds_left row k held own)
holds_last row k held [] e = refl
holds_last row k held (x ∷ own) e = holds_last row (cond (is_success x.answer) (levels_after k x.op) k) (cond (is_success x.answer) (holds_after row k x.op x.answer held) held) own e

-- ---- runs

mode_sound : (code : Code) (p : Program) (held : ℕ → Bool) (k : ℕ) (m : Mode) (ks : List StackEntry) (s : State) → IsShaped ks → AtMode held k m ks s → Sound held k (mode_step code p m ks s)
mode_sound code p held k (Execute t) ks s h a = task_sound held k code p t ks s h a
mode_sound code p held k (Unwind completion) ks s h a = over_sound held k p ks completion s h a
mode_sound code p held k (Await o on) ks s h a = (h, a)

module _ (code : Code) (p : Program) (tree : ℕ → Body) (denotes : IsCodeOf code p tree) (flagged : IsFlaggedProgram p) (schema : SchemaData) (units : ℕ) where
  pub reached_sound : (own : List Event) (c : Config) → Reached code p schema units own c → Sound (holds own) (levels_left 0 own) c
  reached_sound _ _ begins = (tt, ((refl, (start_claims (λ row. false) p 0, tt)), tt))
  reached_sound _ _ (steps own c r) = let x = reached_sound own c r in mode_sound code p (holds own) (levels_left 0 own) c.mode c.stack c.state x.0 x.1
  reached_sound _ _ (answers own e on ks s fits unrefused r) =
      let x = answer_sound schema p (levels_left 0 own) (holds own) e.answer e.op on ks s fits unrefused (changes_inside code p tree schema units own e.op on ks s denotes flagged r) (reached_sound own (config (Await e.op on) ks s) r) in
      subst (λ held. Sound held (levels_left 0 (own ++ e ∷ [])) (answered p e.answer e.op on ks s)) (sym (fun_ext (λ row. holds_last row 0 false own e)))
      (subst (λ k. Sound (holds_next (levels_left 0 own) (holds own) e.op e.answer) k (answered p e.answer e.op on ks s)) (sym (levels_last 0 own e)) x)

  -- ---- what is asked

  of_held : (own : List Event) (o q : Op) → o ≡ q → IsOfHeldRow own q → IsOfHeldRow own o
  of_held own o q e h = subst (IsOfHeldRow own) (sym e) h

  reading_held : (own : List Event) (o : Op) → IsReading o → IsOfHeldRow own o
  reading_held own (op.Next table index prefix cursor forward) is = tt
  reading_held own (op.Get table row) is = tt
  reading_held own (op.NextValue sequence) is = tt
  reading_held own (op.CurrentValue sequence) is = tt
  reading_held own o is = absurd is

  awaited_held : (own : List Event) (o : Op) (on : OnAnswer) (ks : List StackEntry) (s : State) → Awaits (holds own) o on ks s → IsOfHeldRow own o
  awaited_held own o (WasInserted place t values made) ks s w = of_held own o _ w.0 tt
  awaited_held own o WasDropped ks s w = of_held own o _ w.1 tt
  awaited_held own o WasLeft ks s w = of_held own o _ w.1 tt
  awaited_held own o (WasBack copy but) ks s w = of_held own o _ w.0 tt
  awaited_held own o (WasGot place row lock made) ks s w = reading_held own o w.0
  awaited_held own o (WasSecond n q at values) ks s w = reading_held own o w.0
  awaited_held own o (WasNext n q) ks s w = reading_held own o w.0
  awaited_held own o (WasGranted r retry row) ks s w = of_held own o _ w.2 tt
  awaited_held own o (WasRead r retry row lock) ks s w = reading_held own o w.0
  awaited_held own o (CurrentGranted r row made) ks s w = of_held own o _ w.2 tt
  awaited_held own o (WasCurrent r row made) ks s w = reading_held own o w.0
  awaited_held own o (WasCounted t) ks s w = reading_held own o w.0
  awaited_held own o (WasUpgraded b row values made) ks s w = of_held own o _ w.1 tt
  awaited_held own o (WasPut b t) ks s w = of_held own o _ w.2 w.3
  awaited_held own o (WasDeleted b) ks s w = of_held own o _ w.2 w.3
  awaited_held own o (WasEntered b t retry body d) ks s w = of_held own o _ w.0 tt

pub changes_held : (code : Code) (p : Program) (tree : ℕ → Body) (schema : SchemaData) (units : ℕ) (own : List Event) (o : Op) (on : OnAnswer) (ks : List StackEntry) (s : State) → IsCodeOf code p tree → IsFlaggedProgram p → Reached code p schema units own (config (Await o on) ks s) → IsOfHeldRow own o
changes_held code p tree schema units own o on ks s denotes flagged r = awaited_held code p tree denotes flagged schema units own o on ks s (reached_sound code p tree denotes flagged schema units own (config (Await o on) ks s) r).1.1
