-- What a step leaves as it is.
use Rattle.std.proofs.Common.{◌≡◌, List, sym, ap, ◌∙◌, subst}
use Rattle.std.specs.Prelude.{reverse}
use Rattle.block_meaning.specs.State.{State}
use Rattle.block_meaning.specs.Program.{Program}
use Rattle.block_meaning.specs.declared.wants.Piece.{Piece}
use Rattle.client_output.specs.Written.{HasWritten}
use Rattle.client_output.proofs.Unchanged.{written_same}
use Rattle.client_memory.specs.Memory.{Remembered}
use Rattle.client_machine.specs.declared.machine.Machine.{Machine}
use Rattle.client_machine.specs.declared.mode.Mode.{Mode}
use Rattle.client_machine.specs.Config.{AreEven}
use Rattle.client_machine.specs.Inputs.{IsProgramOf, names_of}
use Rattle.client_machine.specs.Order.{nesting_of, HaveDepths, ModeInOrder}
use Rattle.client_machine.specs.Step.{RestFits, FitsIn}

-- the fields of a machine that only steps with an effect of their own change
abbrev pub moved_to : Machine → Machine → Machine
moved_to old new = record old { mode = new.mode; stack = new.stack; units = new.units; memory = new.memory }

-- the invariant, where no other field changed
pub refits : (p : Program) (rest : State) (x y : Mode) (old new : Machine) → new ≡ moved_to old new → FitsIn p rest x old →
    AreEven new.procedures.items new.memory → HaveDepths 0 new.memory.copies → ModeInOrder (nesting_of new.memory) y (reverse new.stack.items) → FitsIn p rest y new
refits p rest x y old new moved f even whole order = record {
  program = subst (λ (m : Machine). IsProgramOf p m.code m.inputs) (sym moved) f.program;
  state = subst (λ (m : Machine). RestFits rest m) (sym moved) f.state;
  even = even;
  whole = whole;
  order = order;
}

-- the field of the mode counts for nothing where the mode is given
pub refit : (p : Program) (rest : State) (m x : Mode) (old : Machine) → FitsIn p rest m old → FitsIn p rest m (record old { mode = x })
refit p rest m x old f = record { program = f.program; state = f.state; even = f.even; whole = f.whole; order = f.order }

-- the same code
pub same_code : (old new : Machine) → new ≡ moved_to old new → new.code ≡ old.code
same_code old new moved = ap (λ (m : Machine). m.code) moved

-- nothing more is written
pub has_same : (old new : Machine) (pieces : List Piece) → new ≡ moved_to old new → HasWritten old.output (names_of old.code) pieces → HasWritten new.output (names_of old.code) pieces
has_same old new pieces moved has = written_same old.output new.output (names_of old.code) pieces (ap (λ (m : Machine). m.output) moved) has

-- an answer changes the mode and the memory alone
pub moved_by : (old new : Machine) (m : Mode) (mem : Remembered) → (let x : Machine = record old { mode = m; memory = mem } in new ≡ x) → new ≡ moved_to old new
moved_by old new m mem moved = moved ∙ sym (ap (moved_to old) moved)
