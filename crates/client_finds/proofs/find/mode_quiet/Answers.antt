use Rattle.std.proofs.Common.{◌≡◌, List, ◌∷◌, sym, subst}
use Rattle.std.specs.Prelude.{IfSome}
use Rattle.block_code.specs.declared.code.Instr.{Instr}
use Rattle.flat_machine.specs.Flat as flat
use Rattle.block_meaning.specs.State.{Copy, State}
use Rattle.client_machine.specs.declared.mode.Completion.{Completion}
use Rattle.client_machine.specs.declared.mode.StackEntry.{StackEntry}
use Rattle.client_machine.specs.declared.mode.StackEntry.TheVariants as stack
use Rattle.client_machine.specs.declared.mode.reads.ReadEntry.TheVariants as read_entry
use Rattle.client_machine.specs.Config.{completion_of, mode_of}
use Rattle.client_machine.specs.Order.{CompletesInOrder, ModeInOrder, Nesting}
use Rattle.client_finds.proofs.find.mode_quiet.Goals as goal

pub returns-in-EndKeys-clause-order : goal.returns-in-EndKeys-clause-order
returns-in-EndKeys-clause-order c =
    subst (λ (w : Completion). IfSome c.mode_after_endkey.result (λ mode. (n : Nesting) (os : List StackEntry) → CompletesInOrder n w (stack.Read (read_entry.Quiet c.args.no_error) ∷ os) → ModeInOrder n mode os)) (sym c.in-EndKeys.is) c.mode_after_endkey.ensures.order

pub returns-in-EndKeys-clause-same : goal.returns-in-EndKeys-clause-same
returns-in-EndKeys-clause-same c =
    subst (λ (w : Completion). IfSome c.mode_after_endkey.result (λ mode. (code : List Instr) (cs : List Copy) (ks : List flat.StackEntry) (s : State) → flat.config (mode_of code cs mode) ks s ≡ flat.quiet_step (completion_of code cs w) c.args.no_error ks s)) (sym c.in-EndKeys.is) c.mode_after_endkey.ensures.same
