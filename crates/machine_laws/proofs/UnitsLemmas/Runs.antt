-- Steps and answers of the machine, and any number of steps.
use Rattle.std.proofs.Common.{ℕ, zero, suc, List}
use Rattle.block_meaning.specs.Program.{Program}
use Rattle.block_meaning.specs.State.{State}
use Rattle.flat_machine.specs.Code.{Code}
use Rattle.flat_machine.specs.Config.{Await, Config, Execute, Mode, StackEntry, Unwind}
use Rattle.flat_machine.specs.Machine.{mode_step, step}
use Rattle.flat_machine.specs.Works.{IsRunning}
use Rattle.machine_laws.specs.units.Spending.{LeavesIn, Spends, after_steps}
use Rattle.machine_laws.proofs.UnitsLemmas.Completions.{over_spends}
use Rattle.machine_laws.proofs.UnitsLemmas.Parts.{of_more, same}
use Rattle.machine_laws.proofs.UnitsLemmas.Tasks.{task_spends}

mode_spends : (code : Code) (p : Program) (m : Mode) (ks : List StackEntry) (s : State) → IsRunning m → Spends s.units (mode_step code p m ks s)
mode_spends code p (Execute t) ks s is = task_spends code p t ks s
mode_spends code p (Unwind completion) ks s is = over_spends p ks completion s
mode_spends code p (Await op k) ks s is = absurd is

pub step_spends : (code : Code) (p : Program) (c : Config) → IsRunning c.mode → Spends c.state.units (step code p c)
step_spends code p c is = mode_spends code p c.mode c.stack c.state is

-- a running machine that keeps its units leaves no more than before
stands : (m : Mode) (n : ℕ) → IsRunning m → LeavesIn m n n
stands (Execute t) n is = same n
stands (Unwind completion) n is = same n
stands (Await op k) n is = absurd is

-- a step spends only units that were there before
step_of : (code : Code) (p : Program) (before : ℕ) (m : Mode) (ks : List StackEntry) (s : State) → LeavesIn m before s.units → Spends before (mode_step code p m ks s)
step_of code p before (Execute t) ks s h = of_more s.units before (mode_step code p (Execute t) ks s) (task_spends code p t ks s) h
step_of code p before (Unwind completion) ks s h = of_more s.units before (mode_step code p (Unwind completion) ks s) (over_spends p ks completion s) h
step_of code p before (Await op k) ks s h = h

steps_of : (code : Code) (p : Program) (before n : ℕ) (c : Config) → Spends before c → Spends before (after_steps code p n c)
steps_of code p before zero c h = h
steps_of code p before (suc n) c h = steps_of code p before n (step code p c) (step_of code p before c.mode c.stack c.state h)

pub steps_spend : (code : Code) (p : Program) (n : ℕ) (c : Config) → IsRunning c.mode → Spends c.state.units (after_steps code p n c)
steps_spend code p n c is = steps_of code p c.state.units n c (stands c.mode c.state.units is)
