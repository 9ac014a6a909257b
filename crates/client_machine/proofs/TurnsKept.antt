-- The header of an iteration.
use Rattle.std.proofs.Common.{◌≡◌, ℕ, List, Bool, true, false, length, Some, None, Ok, refl, sym, ap, ◌∙◌}
use Rattle.std.specs.Prelude.{reverse}
use Rattle.expression_meaning.specs.declared.fault.RunFault.{RunFault}
use Rattle.block_meaning.specs.Program.{Program}
use Rattle.block_meaning.specs.Lines.{complaint_of}
use Rattle.block_meaning.specs.State.{State, Turn}
use Rattle.block_meaning.specs.Blocks.{retry_in}
use Rattle.flat_machine.specs.Flat as flat
use Rattle.client_memory.specs.Memory.{Remembered}
use Rattle.client_values.specs.Ends.{Judges}
use Rattle.client_values.specs.Reads.{Reads}
use Rattle.client_values.specs.Variables.{HasSameShape, state_with}
use Rattle.client_machine.specs.declared.machine.Machine.{Machine}
use Rattle.client_machine.specs.declared.mode.Mode.TheVariants as mode
use Rattle.client_machine.specs.declared.mode.Completion.TheVariants as completion
use Rattle.client_machine.specs.declared.mode.LineFault.TheVariants as line_fault
use Rattle.client_machine.specs.declared.mode.Task.TheVariants as task
use Rattle.client_machine.specs.declared.mode.TurnData.{TurnData}
use Rattle.client_machine.specs.declared.mode.StackEntry.{StackEntry}
use Rattle.client_machine.specs.Config.{mode_of, header_at, body_at, turn_of}
use Rattle.client_machine.specs.Machine.{stack_in, state_in}
use Rattle.client_machine.specs.Order.{Nesting, nesting_of, Named, ModeInOrder}
use Rattle.client_machine.specs.KeepsFrom.{KeepsFrom, mode_if}
use Rattle.client_machine.proofs.MemoryKept.{memory_kept, reads_in, state_now}

-- an iteration begins so
abbrev pub begins_at : Machine → ℕ → ℕ → TurnData → Bool → List flat.StackEntry → State → flat.Config
begins_at old place left turn retry ks s = flat.config (flat.Execute (flat.EntersLevel (header_at old.code.instrs.items place) (record (turn_of turn) { start = None }) retry (body_at old.code.instrs.items place) left)) ks s

-- the tests of a header, with this value of RETRY
abbrev pub judged : Program → Machine → ℕ → Turn → Bool → (State → flat.Config) → State → flat.Config
judged p old place t retry go s = flat.loop_step p (header_at old.code.instrs.items place).to t retry (λ s. flat.while_step p (header_at old.code.instrs.items place).while_test retry go (stack_in old) s) (stack_in old) s

turn_is : (p : Program) (old : Machine) (place left : ℕ) (turn : TurnData) (outer retry : Bool) (s : State) → retry ≡ retry_in (header_at old.code.instrs.items place) (turn_of turn) outer →
    flat.turn_step p (header_at old.code.instrs.items place) outer (body_at old.code.instrs.items place) left (turn_of turn) (stack_in old) s ≡ judged p old place (turn_of turn) retry (begins_at old place left turn retry (stack_in old)) s
turn_is p old place left turn outer retry s e = sym (ap (λ r. judged p old place (turn_of turn) r (begins_at old place left turn r (stack_in old)) s) e)

mode_order : (b : Bool) (n : Nesting) (place left : ℕ) (turn : TurnData) (retry : Bool) (ks : List StackEntry) → Named n None ks → ModeInOrder n (mode_if b (mode.Execute (task.EntersLevel place turn retry left)) (mode.Unwind completion.Normal)) ks
mode_order true n place left turn retry ks o = o
mode_order false n place left turn retry ks o = o

judged_mode : (b : Bool) (old : Machine) (place left : ℕ) (turn : TurnData) (retry : Bool) (c : flat.Config) (ks : List flat.StackEntry) (s : State) → Judges (Ok b) c (begins_at old place left turn retry ks) ks s →
    c ≡ flat.config (mode_of old.code.instrs.items old.memory.copies (mode_if b (mode.Execute (task.EntersLevel place (record turn { start = None }) retry left)) (mode.Unwind completion.Normal))) ks s
judged_mode true old place left turn retry c ks s e = e
judged_mode false old place left turn retry c ks s e = e

pub turn_kept : (old : Machine) (mem : Remembered) (place left : ℕ) (turn : TurnData) (outer retry b : Bool) → HasSameShape old.memory mem → retry ≡ retry_in (header_at old.code.instrs.items place) (turn_of turn) outer →
    ((p : Program) (rest : State) (ns : List ℕ) (t : Turn) (go : State → flat.Config) (ks : List flat.StackEntry) → Reads p rest ns old.memory old.status old.returned → t.retry ≡ turn.retry → t.start ≡ turn.start → t.by ≡ turn.by →
    Judges (Ok b) (flat.loop_step p (header_at old.code.instrs.items place).to t retry (λ s. flat.while_step p (header_at old.code.instrs.items place).while_test retry go ks s) ks (state_with rest ns old.memory)) go ks (state_with rest ns mem)) →
    (let new : Machine = record old { mode = mode_if b (mode.Execute (task.EntersLevel place (record turn { start = None }) retry left)) (mode.Unwind completion.Normal); memory = mem } in
    KeepsFrom (λ p s. flat.turn_step p (header_at old.code.instrs.items place) outer (body_at old.code.instrs.items place) left (turn_of turn) (stack_in old) s) old new)
turn_kept old mem place left turn outer retry b shape e judges =
    memory_kept (λ p s. flat.turn_step p (header_at old.code.instrs.items place) outer (body_at old.code.instrs.items place) left (turn_of turn) (stack_in old) s) old
    (mode_if b (mode.Execute (task.EntersLevel place (record turn { start = None }) retry left)) (mode.Unwind completion.Normal)) old.stack mem shape
    (mode_order b (nesting_of old.memory) place left (record turn { start = None }) retry (reverse old.stack.items))
    (λ tree p rest is f ans. ap (λ c. flat.means tree p c ans)
    (turn_is p old place left turn outer retry (state_in rest old) e
    ∙ judged_mode b old place left turn retry _ (stack_in old) (state_now rest old mem)
    (judges p (record rest { level = length old.memory.copies; units = old.units }) old.procedures.items (turn_of turn) (begins_at old place left turn retry (stack_in old)) (stack_in old) (reads_in p rest old f) refl refl refl)))

pub turn_fails : (old : Machine) (mem : Remembered) (place left : ℕ) (turn : TurnData) (outer retry : Bool) (x : RunFault) → HasSameShape old.memory mem → retry ≡ retry_in (header_at old.code.instrs.items place) (turn_of turn) outer →
    ((p : Program) (rest : State) (ns : List ℕ) (t : Turn) (go : State → flat.Config) (ks : List flat.StackEntry) → Reads p rest ns old.memory old.status old.returned → t.retry ≡ turn.retry → t.start ≡ turn.start → t.by ≡ turn.by →
    flat.loop_step p (header_at old.code.instrs.items place).to t retry (λ s. flat.while_step p (header_at old.code.instrs.items place).while_test retry go ks s) ks (state_with rest ns old.memory) ≡ flat.fault (complaint_of x) ks (state_with rest ns mem)) →
    (let new : Machine = record old { mode = mode.Unwind (completion.Faults (Some (line_fault.Expression x))); memory = mem } in
    KeepsFrom (λ p s. flat.turn_step p (header_at old.code.instrs.items place) outer (body_at old.code.instrs.items place) left (turn_of turn) (stack_in old) s) old new)
turn_fails old mem place left turn outer retry x shape e fails =
    memory_kept (λ p s. flat.turn_step p (header_at old.code.instrs.items place) outer (body_at old.code.instrs.items place) left (turn_of turn) (stack_in old) s) old
    (mode.Unwind (completion.Faults (Some (line_fault.Expression x)))) old.stack mem shape (λ o. o)
    (λ tree p rest is f ans. ap (λ c. flat.means tree p c ans)
    (turn_is p old place left turn outer retry (state_in rest old) e
    ∙ fails p (record rest { level = length old.memory.copies; units = old.units }) old.procedures.items (turn_of turn) (begins_at old place left turn retry (stack_in old)) (stack_in old) (reads_in p rest old f) refl refl refl))
