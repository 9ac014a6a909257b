-- How an instruction is executed.
use Rattle.std.specs.Prelude.{◌≡◌}
use Rattle.bound_tree.specs.Tree.{UndoBlock, LeaveBlock, NextBlock, Return, ReturnError, Stop, Assign}
use Rattle.flat_machine.specs.Flat as flat
use Rattle.client_machine.specs.declared.statements.InstrClass.{InstrClass}
use Rattle.client_machine.specs.declared.statements.InstrClass.TheVariants as kind
use Rattle.client_machine.specs.Actions.{action_in, returned_in}
use Rattle.client_machine.specs.declared.mode.ReturnSource.TheVariants as source
use Rattle.block_code.specs.Code.{header_in, body_in}
use Rattle.client_machine.specs.KeepsFrom.{test_in, pairs_in}
use Rattle.client_machine.specs.Records.{stmt_of_kind}

abbrev pub IsOfClass : InstrClass → flat.Instr → Type 0
IsOfClass kind.End i = i ≡ flat.Ends
IsOfClass (kind.Block next) i = i ≡ flat.Opens (header_in i) (body_in i) next
IsOfClass (kind.Undo block next) i = i ≡ flat.Plain (UndoBlock block (action_in i)) next
IsOfClass (kind.Leave block next) i = i ≡ flat.Plain (LeaveBlock block) next
IsOfClass (kind.Next block next) i = i ≡ flat.Plain (NextBlock block) next
IsOfClass (kind.Return next) i = i ≡ flat.Plain (Return (returned_in source.Statement i)) next
IsOfClass (kind.ReturnError block next) i = i ≡ flat.Plain (ReturnError block (returned_in source.Statement i)) next
IsOfClass (kind.Stop next) i = i ≡ flat.Plain Stop next
IsOfClass (kind.Test one other) i = i ≡ flat.Tests (test_in i) one other
IsOfClass (kind.Assign no_error next) i = i ≡ flat.Plain (Assign (pairs_in i) no_error) next
IsOfClass (kind.Record stmt no_error next) i = i ≡ flat.Plain (stmt_of_kind stmt no_error i) next
IsOfClass kind.Other i = Unit {0}
