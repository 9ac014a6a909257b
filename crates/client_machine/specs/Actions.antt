-- The expressions of RETURN that stand in an instruction, and what ON ERROR and ON ENDKEY say.
use Rattle.std.specs.Prelude.{Option, Some, None, Bool, true, false}
use Rattle.bound_tree.specs.Tree.{Expr, Header, Action, ThenRetry, ThenLeave, ThenReturn, OnPhrase, Stmt, UndoBlock, Return, ReturnError}
use Rattle.block_meaning.specs.Blocks.{handles_endkey}
use Rattle.flat_machine.specs.Flat as flat
use Rattle.block_code.specs.Code.{header_in}
use Rattle.client_machine.specs.declared.mode.ReturnSource.{ReturnSource}
use Rattle.client_machine.specs.declared.mode.ReturnSource.TheVariants as source

-- the expression of RETURN in an action
abbrev pub value_in : Action → Option Expr
value_in (ThenReturn error e) = e
value_in action = None

-- in an ON phrase
abbrev pub value_on : Option OnPhrase → Option Expr
value_on None = None
value_on (Some on) = value_in on.action

-- in a statement RETURN or RETURN ERROR
abbrev pub value_of_stmt : Stmt → Option Expr
value_of_stmt (Return e) = e
value_of_stmt (ReturnError l e) = e
value_of_stmt t = None

-- the action of a statement UNDO
abbrev pub action_of_stmt : Stmt → Action
action_of_stmt (UndoBlock l action) = action
action_of_stmt t = ThenRetry

-- the statement of an instruction, if it has one
abbrev pub stmt_in : flat.Instr → Option Stmt
stmt_in (flat.Plain t next) = Some t
stmt_in i = None

-- the expression of a statement, if there is one
abbrev pub value_by : Option Stmt → Option Expr
value_by None = None
value_by (Some t) = value_of_stmt t

-- the action of a statement UNDO, if there is one
abbrev pub action_by : Option Stmt → Action
action_by None = ThenRetry
action_by (Some t) = action_of_stmt t

-- that in an instruction
abbrev pub action_in : flat.Instr → Action
action_in i = action_by (stmt_in i)

-- the expression of RETURN in an instruction, by where it stands there
abbrev pub returned_in : ReturnSource → flat.Instr → Option Expr
returned_in source.Statement i = value_by (stmt_in i)
returned_in source.Undo i = value_in (action_in i)
returned_in source.OnError i = value_on (header_in i).on_error
returned_in source.OnEndKey i = value_on (header_in i).on_endkey

-- what ERROR does at a block with the undo property
abbrev pub error_phrase : Header → Option OnPhrase → OnPhrase
error_phrase b None = record { target = b.number; action = ThenRetry }
error_phrase b (Some on) = on

-- what ENDKEY does at a block, unless it passes
abbrev pub leave_if : Bool → Header → Option OnPhrase
leave_if true b = Some (record { target = b.number; action = ThenLeave b.number })
leave_if false b = None

abbrev pub endkey_phrase : Header → Option OnPhrase → Option OnPhrase
endkey_phrase b None = leave_if (handles_endkey b) b
endkey_phrase b (Some on) = Some on
