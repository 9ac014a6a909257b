-- Every configuration that a client reaches with its own events keeps the levels at which its stack is reached.
use Rattle.std.proofs.Common.{◌≡◌, arith, refl, sym, subst, ℕ, cond, List, [], ◌∷◌, ◌++◌}
use Rattle.bound_tree.specs.Tree.{Body}
use Rattle.abl_values.specs.Schema.{SchemaData}
use Rattle.database_protocol.specs.declared.event.Event.{Event}
use Rattle.database_protocol.specs.declared.operation.Op.{Op}
use Rattle.database_protocol.specs.declared.operation.Op.TheVariants as op
use Rattle.database_meaning.specs.Steps.{is_success}
use Rattle.block_meaning.specs.Program.{Program}
use Rattle.block_meaning.specs.State.{State}
use Rattle.flat_machine.specs.Code.{Code, IsCodeOf}
use Rattle.flat_machine.specs.Config.{Await, Config, CurrentGranted, Execute, Mode, OnAnswer, StackEntry, Unwind, WasBack, WasCounted, WasCurrent, WasDeleted, WasDropped, WasEntered, WasGot, WasGranted, WasInserted, WasLeft, WasNext, WasPut, WasRead, WasSecond, WasUpgraded}
use Rattle.flat_machine.specs.Machine.{answered, mode_step}
use Rattle.flat_machine.specs.Steps.{config}
use Rattle.client_runner.specs.Levels.{levels_after, levels_left}
use Rattle.machine_laws.specs.levels.Flagged.{IsFlaggedProgram}
use Rattle.machine_laws.specs.levels.Reached.{IsInside, Reached, answers, begins, steps}
use Rattle.machine_laws.proofs.LevelsLemmas.Answers.{answer_sound, levels_next}
use Rattle.machine_laws.proofs.LevelsLemmas.Completions.{over_sound}
use Rattle.machine_laws.proofs.LevelsLemmas.Kept.{AwaitAt, HasLevel, IsStill, ModeAt, Sound}
use Rattle.machine_laws.proofs.LevelsLemmas.Tasks.{procedure_block, task_sound}

pub levels_last : (k : ℕ) (own : List Event) (e : Event) → levels_left k (own ++ e ∷ []) ≡ levels_next (levels_left k own) e.op e.answer
levels_last k [] e = refl
levels_last k (x ∷ own) e = levels_last (cond (is_success x.answer) (levels_after k x.op) k) own e

module _ (code : Code) (p : Program) (tree : ℕ → Body) (denotes : IsCodeOf code p tree) (flagged : IsFlaggedProgram p) where
  mode_sound : (k : ℕ) (m : Mode) (ks : List StackEntry) (s : State) → HasLevel tree m s k → ModeAt tree m ks k → Sound tree k (mode_step code p m ks s)
  mode_sound k (Execute t) ks s e a = task_sound tree k code p denotes flagged t ks s e a
  mode_sound k (Unwind completion) ks s e a = over_sound tree p k s e ks completion a
  mode_sound k (Await o on) ks s e a = (e, a)

  module _ (schema : SchemaData) (units : ℕ) where
    pub reached_sound : (own : List Event) (c : Config) → Reached code p schema units own c → Sound tree (levels_left 0 own) c
    reached_sound _ _ begins = (refl, (tt, omega arith, procedure_block tree 0 code p denotes flagged 0))
    reached_sound _ _ (steps own c r) = let x = reached_sound own c r in mode_sound (levels_left 0 own) c.mode c.stack c.state x.0 x.1
    reached_sound _ _ (answers own e on ks s fits unrefused r) =
        subst (λ k. Sound tree k (answered p e.answer e.op on ks s)) (sym (levels_last 0 own e))
        (answer_sound tree schema p (levels_left 0 own) e.op on ks s e.answer fits unrefused (reached_sound own (config (Await e.op on) ks s) r))

-- ---- what is asked

inside_of : (k : ℕ) (o q : Op) → o ≡ q → IsInside k q → IsInside k o
inside_of k o q e h = subst (IsInside k) (sym e) h

still_inside : (tree : ℕ → Body) (k : ℕ) (o : Op) → IsStill tree o → IsInside k o
still_inside tree k op.Enter is = absurd is
still_inside tree k (op.Leave keep) is = absurd is
still_inside tree k (op.Back depth) is = absurd is
still_inside tree k op.End is = absurd is
still_inside tree k (op.Put table row values) is = absurd is
still_inside tree k (op.Delete table row) is = absurd is
still_inside tree k o is = tt

awaited_inside : (tree : ℕ → Body) (k : ℕ) (o : Op) (on : OnAnswer) (ks : List StackEntry) → AwaitAt tree ks o on k → IsInside k o
awaited_inside tree k o (WasInserted place t vs made) ks w = still_inside tree k o w.0
awaited_inside tree k o WasDropped ks w = still_inside tree k o w.0
awaited_inside tree k o WasLeft ks w = inside_of k o (op.Leave w.0) w.1 (let d = w.4 in omega (arith, d))
awaited_inside tree k o (WasBack copy but) ks w = inside_of k o (op.Back copy.depth) w.0 (let d = w.3 in let l = w.4 in (omega (arith, d), omega (arith, d, l)))
awaited_inside tree k o (WasGot place row lock made) ks w = still_inside tree k o w.0
awaited_inside tree k o (WasSecond n q at values) ks w = still_inside tree k o w.0
awaited_inside tree k o (WasNext n q) ks w = still_inside tree k o w.0
awaited_inside tree k o (WasGranted r retry row) ks w = still_inside tree k o w.0
awaited_inside tree k o (WasRead r retry row lock) ks w = still_inside tree k o w.0
awaited_inside tree k o (CurrentGranted r row made) ks w = still_inside tree k o w.0
awaited_inside tree k o (WasCurrent r row made) ks w = still_inside tree k o w.0
awaited_inside tree k o (WasCounted t) ks w = still_inside tree k o w.0
awaited_inside tree k o (WasUpgraded b row values made) ks w = still_inside tree k o w.0
awaited_inside tree k o (WasPut b t) ks w = inside_of k o (op.Put t w.0 w.1) w.2 w.3
awaited_inside tree k o (WasDeleted b) ks w = inside_of k o (op.Delete w.0 w.1) w.2 w.3
awaited_inside tree k o (WasEntered b t retry body d) ks w = inside_of k o op.Enter w.0 tt

pub changes_inside : (code : Code) (p : Program) (tree : ℕ → Body) (schema : SchemaData) (units : ℕ) (own : List Event) (o : Op) (on : OnAnswer) (ks : List StackEntry) (s : State) → IsCodeOf code p tree → IsFlaggedProgram p → Reached code p schema units own (config (Await o on) ks s) → IsInside (levels_left 0 own) o
changes_inside code p tree schema units own o on ks s denotes flagged r = awaited_inside tree (levels_left 0 own) o on ks (reached_sound code p tree denotes flagged schema units own (config (Await o on) ks s) r).1
