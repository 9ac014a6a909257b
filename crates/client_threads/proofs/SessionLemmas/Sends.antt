-- A session may go to another thread, with its code.
use Rattle.std.proofs.Crossing.{crosses}
use denote.Param.Send.{IsSend, sendable}
use Rattle.abl_base.proofs.items.Items.TheSendSync as items
use Rattle.abl_base.proofs.value.Kind.TheSendSync as kind
use Rattle.abl_base.proofs.value.Value.TheSendSync as value
use Rattle.bound_tree.proofs.block.BlockKind.TheSendSync as block_kind
use Rattle.bound_tree.proofs.block.FetchWord.TheSendSync as fetch_word
use Rattle.bound_tree.proofs.block.Flags.TheSendSync as flags
use Rattle.bound_tree.proofs.block.LockWanted.TheSendSync as lock_wanted
use Rattle.bound_tree.proofs.expression.Variable.TheSendSync as variable
use Rattle.bound_tree.proofs.procedure.BufferDef.TheSendSync as buffer_def
use Rattle.bound_tree.proofs.expression.Expr.TheLaws.TheKnot.{crosses as expression}
use Rattle.bound_tree.proofs.statement.Stmt.TheLaws.TheKnot.{crosses as statement}
use Rattle.bound_tree.specs.contracts.expression.Expr as expr
use Rattle.bound_tree.specs.contracts.block.BracketValue as bracket_value
use Rattle.bound_tree.specs.contracts.block.Reading as reading
use Rattle.bound_tree.specs.contracts.block.Fetch as fetch
use Rattle.bound_tree.specs.contracts.block.ToPhrase as to_phrase
use Rattle.bound_tree.specs.contracts.block.Action as action
use Rattle.bound_tree.specs.contracts.block.OnPhrase as on_phrase
use Rattle.bound_tree.specs.contracts.block.Header as header
use Rattle.bound_tree.specs.contracts.statement.Stmt as stmt
use Rattle.block_code.proofs.code.ProcedureCode.TheSendSync as procedure_code
use Rattle.block_code.specs.contracts.code.Instr as instr
use Rattle.block_code.specs.contracts.code.Code as code
use Rattle.client_machine.proofs.mode.Mode.TheSendSync as mode
use Rattle.client_machine.proofs.mode.StackEntry.TheSendSync as entry
use Rattle.client_memory.proofs.memory.Memory.TheSendSync as memory
use Rattle.client_output.proofs.output.Output.TheSendSync as output
use Rattle.client_machine.proofs.inputs.Inputs.TheSendSync as inputs
use Rattle.client_machine.proofs.inputs.Stream.TheSendSync as stream
use Rattle.client_machine.specs.contracts.machine.Machine as machine
use Rattle.client_core.proofs.client.Phase.TheSendSync as phase
use Rattle.client_core.specs.contracts.client.Client as client
use Rattle.client_threads.specs.contracts.session.session.ClientSession.{the_row}

-- what refers to no expression
ruleset plain = (items.the_send, kind.the_field_send, value.the_field_send, variable.the_field_send, flags.the_field_send, block_kind.the_field_send, fetch_word.the_field_send, lock_wanted.the_field_send, buffer_def.the_field_send, buffer_def.the_send)

expr_send : IsSend (expr.the_field).row
expr_send = search (crosses, expression, sendable) depth 60 fits 20000

-- ---- the header of a block

bracket_send : IsSend (bracket_value.the_field).row
bracket_send = search (expr_send, plain, sendable) depth 60 fits 20000

reading_send : IsSend (reading.the_field).row
reading_send = search (expr_send, bracket_send, plain, crosses, sendable) depth 60 fits 20000

fetch_send : IsSend (fetch.the_field).row
fetch_send = search (reading_send, plain, sendable) depth 60 fits 20000

to_send : IsSend (to_phrase.the_field).row
to_send = search (expr_send, plain, sendable) depth 60 fits 20000

action_send : IsSend (action.the_field).row
action_send = search (expr_send, plain, sendable) depth 60 fits 20000

on_send : IsSend (on_phrase.the_field).row
on_send = search (action_send, plain, sendable) depth 60 fits 20000

header_send : IsSend (header.the_field).row
header_send = search (expr_send, fetch_send, to_send, on_send, plain, crosses, sendable) depth 60 fits 20000

header_row_send : IsSend header.the_row
header_row_send = search (expr_send, fetch_send, to_send, on_send, plain, crosses, sendable) depth 60 fits 20000

-- ---- code

stmt_send : IsSend (stmt.the_field).row
stmt_send = search (crosses, statement, expr_send, header_send, reading_send, sendable) depth 60 fits 100000

instr_row_send : IsSend instr.the_row
instr_row_send = search (stmt_send, expr_send, header_row_send, crosses, sendable) depth 60 fits 20000

code_send : IsSend (code.the_field).row
code_send = search (instr_row_send, procedure_code.the_send, plain, crosses, sendable) depth 60 fits 20000

-- ---- the client

machine_send : IsSend (machine.the_field).row
machine_send = search (code_send, mode.the_field_send, entry.the_send, memory.the_send, output.the_field_send, inputs.the_field_send, stream.the_send, plain, crosses, sendable) depth 60 fits 20000

client_send : IsSend (client.the_field).row
client_send = search (machine_send, phase.the_field_send, sendable) depth 60 fits 20000

pub session_send : IsSend the_row
session_send = search (client_send, sendable) depth 60 fits 20000
