-- The units that a step, or an answer, leaves.
use Rattle.std.specs.Prelude.{◌≡◌, ◌<◌, ◌≤◌, ℕ, zero, suc}
use Rattle.database_protocol.specs.declared.answer.Answer.{Answer}
use Rattle.database_protocol.specs.declared.answer.Answer.TheVariants as answer
use Rattle.block_meaning.specs.Program.{Program}
use Rattle.flat_machine.specs.Code.{Code}
use Rattle.flat_machine.specs.Config.{Config, Mode, Execute, Unwind, Await}
use Rattle.flat_machine.specs.Machine.{step}

-- of the units before, no more are left; and fewer where an operation is asked
abbrev pub LeavesIn : Mode → ℕ → ℕ → Type 0
LeavesIn (Execute task) before after = after ≤ before
LeavesIn (Unwind completion) before after = after ≤ before
LeavesIn (Await op k) before after = after < before

abbrev pub Spends : ℕ → Config → Type 0
Spends before c = LeavesIn c.mode before c.state.units

-- after Blocked the units are the same, and the same operation is asked again
abbrev pub AfterAnswer : Answer → ℕ → Config → Type 0
AfterAnswer (answer.Blocked holders) before c = c.state.units ≡ before
AfterAnswer a before c = Spends before c

-- the machine after this number of steps, where one that awaits an answer stays as it is
abbrev pub after_steps : Code → Program → ℕ → Config → Config
after_steps code p zero c = c
after_steps code p (suc n) c = after_steps code p n (step code p c)
