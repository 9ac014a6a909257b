-- Parts of steps.
use Rattle.std.proofs.Common.{◌<◌, ◌≤◌, inl, inr, arith, ℕ, zero, suc, Bool, true, false, List}
use Rattle.abl_base.specs.declared.value.Value.{Value}
use Rattle.database_protocol.specs.declared.operation.Op.{Op}
use Rattle.block_meaning.specs.State.{Completion, State}
use Rattle.block_meaning.specs.Values.{Evaluated, Fails, Gives}
use Rattle.flat_machine.specs.Config.{Await, Config, Execute, Mode, OnAnswer, StackEntry, Unwind}
use Rattle.flat_machine.specs.Steps.{ask, asked_from, config, config_if, costing, given_step}
use Rattle.machine_laws.specs.units.Spending.{LeavesIn, Spends}
use Rattle.machine_laws.proofs.HaltsLemmas.Weights.{Falls, FallsIn, rounds_in, rounds_of, work_in, work_of}

pub falls_if : (b : Bool) (u r w : ℕ) (one other : Config) → Falls u r w one → Falls u r w other → Falls u r w (config_if b one other)
falls_if true u r w one other x y = x
falls_if false u r w one other x y = y

-- a completion
pub unwinds : (completion : Completion) (ks : List StackEntry) (s : State) (u r w : ℕ) → rounds_of ks ≤ r → work_of ks < w → Falls u r w (config (Unwind completion) ks s)
unwinds completion ks s u r w x y = inr (inr (x, y))

asked : (n : ℕ) (o : Op) (on : OnAnswer) (ks : List StackEntry) (s : State) (u r w : ℕ) → rounds_of ks ≤ r → work_of ks < w → Falls u r w (asked_from n o on ks s)
asked zero o on ks s u r w x y = inr (inr (x, y))
asked (suc n) o on ks s u r w x y = tt

-- an operation
pub asks : (o : Op) (on : OnAnswer) (ks : List StackEntry) (s : State) (u r w : ℕ) → rounds_of ks ≤ r → work_of ks < w → Falls u r w (ask o on ks s)
asks o on ks s u r w x y = asked s.units o on ks s u r w x y

left_less : (m : Mode) (n r w after r' w' : ℕ) → LeavesIn m n after → FallsIn m (suc n) r w after r' w'
left_less (Execute t) n r w after r' w' h = inl (omega (arith, h))
left_less (Unwind completion) n r w after r' w' h = inl (omega (arith, h))
left_less (Await op on) n r w after r' w' h = tt

charged : (n : ℕ) (go : State → Config) (ks : List StackEntry) (s : State) (r w : ℕ) → rounds_of ks ≤ r → work_of ks < w → ((t : State) → Spends t.units (go t)) → Falls n r w (costing n go ks s)
charged zero go ks s r w x y h = inr (inr (x, y))
charged (suc n) go ks s r w x y h =
    let c = go (record s { units = n }) in
    left_less c.mode n r w c.state.units (rounds_in c) (work_in c) (h (record s { units = n }))

-- what follows a charge
pub costs : (go : State → Config) (ks : List StackEntry) (s : State) (r w : ℕ) → rounds_of ks ≤ r → work_of ks < w → ((t : State) → Spends t.units (go t)) → Falls s.units r w (costing s.units go ks s)
costs go ks s r w x y h = charged s.units go ks s r w x y h

-- after an evaluation
pub given_falls : (v : Evaluated) (go : Value → State → Config) (ks : List StackEntry) (s : State) (u r w : ℕ) → rounds_of ks ≤ r → work_of ks < w → ((x : Value) → Falls u r w (go x s)) → Falls u r w (given_step v go ks s)
given_falls (Gives v) go ks s u r w x y h = h v
given_falls (Fails f) go ks s u r w x y h = inr (inr (x, y))
