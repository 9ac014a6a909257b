-- What a client does: the meaning of its bound tree, as a function of the answers that it gets.
use Rattle.std.specs.Prelude.{ℕ, zero, suc, ◌+◌, List, [], ◌∷◌, ◌++◌, Bool, true, false, Some, None, map, replicate}
use Rattle.abl_base.specs.declared.value.Value.{Value}
use Rattle.abl_base.specs.declared.value.Value.TheVariants.{Unknown}
use Rattle.abl_base.specs.declared.value.Kind.{Kind}
use Rattle.database_protocol.specs.declared.operation.Op.{Op}
use Rattle.database_protocol.specs.declared.operation.Op.TheVariants as op
use Rattle.database_protocol.specs.declared.answer.Answer.{Answer}
use Rattle.bound_tree.specs.declared.expression.Variable.{Variable}
use Rattle.bound_tree.specs.declared.procedure.BufferDef.{BufferDef}
use Rattle.bound_tree.specs.Tree.{Procedure, Argument, In, Out, InOut, ThenError, Stmt, Inner, Choose, Assign, Find, FindCurrent, Create, Remove, Release, UndoBlock, LeaveBlock, NextBlock, Return, ReturnError, Stop, Run, Import, Export, ExportRecord, PutItems, Message, OutputTo, OutputClose, InputFrom, InputClose, Body, Nothing, Then}
use Rattle.expression_meaning.specs.Operators.{holds}
use Rattle.database_protocol.specs.declared.ends.StopWhy.TheVariants as why
use Rattle.database_protocol.specs.declared.ends.ClientEnd.{ClientEnd}
use Rattle.database_protocol.specs.declared.ends.ClientEnd.TheVariants as client
use Rattle.database_protocol.specs.declared.next_step.NextStep.{NextStep}
use Rattle.database_protocol.specs.declared.next_step.NextStep.TheVariants.{Ask, Ended}
use Rattle.block_meaning.specs.Program.{Program, procedure_at}
use Rattle.block_meaning.specs.State.{State, CallFrame, Buffer, Empty, nothing_passed, Completion, Normal, Leaves, Nexts, Undoes, Faults, Raises, EndKeys, Returns, Stops, Progress, Outcome, Done, Suspended, Continuation, completes, if_else, update_then, costs_unit, and_then}
use Rattle.block_meaning.specs.Frames.{own_frame, value_of, assigned, value_in, set_in, content_of}
use Rattle.block_meaning.specs.Values.{Evaluated, Gives, Fails, value_now, all_values, EvaluatedAll, GivesAll, with_value, before_all, given_all, bind, fit, export_line, message_line, put_text, given_text}
use Rattle.block_meaning.specs.Buffers.{releases}
use Rattle.block_meaning.specs.Reads.{finds, finds_current}
use Rattle.block_meaning.specs.Changes.{assigns, creates, deletes}
use Rattle.block_meaning.specs.Blocks.{errs, returns_with, block}
use Rattle.block_meaning.specs.Streams.{no_stream, writes_to, exports_record, opens_output, closes_output, opens_input, imports}

-- ---- NO-ERROR

-- ERROR-STATUS:ERROR
abbrev pub with_status : Bool → State → State
with_status is s = record s { status = is }

-- a statement with NO-ERROR first sets ERROR-STATUS:ERROR to no
abbrev pub cleared : Bool → State → State
cleared true s = with_status false s
cleared false s = s

-- a fault becomes ERROR with its line, or under NO-ERROR sets ERROR-STATUS:ERROR
abbrev pub handled_completion : Program → Bool → Completion → Continuation
handled_completion p false (Faults c) = errs p c (completes (Raises nothing_passed))
handled_completion p true (Faults c) = update_then (with_status true) (completes Normal)
handled_completion p quiet completion = completes completion

-- handles the fault of a statement, if it has one
abbrev pub handled : Program → Bool → Outcome → Outcome
handled p quiet (Done completion s ans) = handled_completion p quiet completion s ans
handled p quiet (Suspended d) = Suspended d

-- a statement: it costs a unit, and its fault is handled
abbrev pub statement : Program → Bool → Continuation → Continuation
statement p quiet does = costs_unit (λ s ans. handled p quiet (does (cleared quiet s) ans))

-- IF: a fault of the condition is ERROR; a branch handles its own faults
abbrev pub chosen : Program → Evaluated → Continuation → Continuation → Continuation
chosen p (Gives v) one other = if_else (holds v) one other
chosen p (Fails c) one other = errs p (Some c) (completes (Raises nothing_passed))

-- on FIND, NO-ERROR suppresses ENDKEY too
abbrev pub quiet_completion : Bool → Completion → Continuation
quiet_completion true (EndKeys passed) = completes (Faults None)
quiet_completion quiet completion = completes completion

-- the same for an outcome
abbrev pub quiet_result : Bool → Outcome → Outcome
quiet_result quiet (Done completion s ans) = quiet_completion quiet completion s ans
quiet_result quiet (Suspended d) = Suspended d

-- a FIND
abbrev pub quiet_find : Bool → Continuation → Continuation
quiet_find quiet does s ans = quiet_result quiet (does s ans)

-- ---- RUN

-- the value that an argument passes in, converted to the kind of its parameter
abbrev pub argument_value : Program → Argument → Kind → Bool → State → Evaluated
argument_value p (In e) k retry s = bind (value_now p e retry s) (fit k)
argument_value p (InOut y) k retry s = fit k (value_of y s)
argument_value p (Out y) k retry s = Gives Unknown

-- those of all arguments, from left to right
abbrev pub argument_values : Program → List Argument → List Variable → Bool → State → EvaluatedAll
argument_values p [] params retry s = GivesAll []
argument_values p (a ∷ rest) [] retry s = GivesAll []
argument_values p (a ∷ rest) (x ∷ xs) retry s = with_value (argument_value p a x.kind retry s) (λ v. before_all v (argument_values p rest xs retry s))

-- gives the parameters of a new frame their values
abbrev pub params_set : List Argument → List Variable → List Value → CallFrame → CallFrame
params_set [] xs vs f = f
params_set (a ∷ rest) [] vs f = f
params_set (a ∷ rest) (x ∷ xs) [] f = f
params_set (In e ∷ rest) (x ∷ xs) (v ∷ vs) f = params_set rest xs vs (set_in x.undoable x.number v f)
params_set (InOut y ∷ rest) (x ∷ xs) (v ∷ vs) f = params_set rest xs vs (set_in x.undoable x.number v f)
params_set (Out y ∷ rest) (x ∷ xs) (v ∷ vs) f = params_set rest xs vs f

-- copies the output parameters from the procedure's frame
abbrev pub copied_out : List Argument → List Variable → CallFrame → State → State
copied_out [] xs f s = s
copied_out (a ∷ rest) [] f s = s
copied_out (In e ∷ rest) (x ∷ xs) f s = copied_out rest xs f s
copied_out (InOut y ∷ rest) (x ∷ xs) f s = copied_out rest xs f (assigned y (value_in x.undoable x.number f) s)
copied_out (Out y ∷ rest) (x ∷ xs) f s = copied_out rest xs f (assigned y (value_in x.undoable x.number f) s)

-- a buffer of a procedure that begins
abbrev pub new_buffer : BufferDef → Buffer
new_buffer b = record { table = b.table; content = Empty; spot = None; locked = false }

-- the frame of a procedure that begins: initial values, and empty buffers
abbrev pub new_frame : Program → ℕ → CallFrame
new_frame p n = record {
  procedure = n;
  undoable = (procedure_at p n).undoable;
  no_undo = (procedure_at p n).no_undo;
  buffers = map new_buffer (procedure_at p n).buffers;
}

-- all but the innermost frame
abbrev pub popped : List CallFrame → List CallFrame
popped [] = []
popped (f ∷ fs) = fs

-- drops the innermost frame
abbrev pub without_frame : State → State
without_frame s = record s { frames = popped s.frames }

-- the completion of a RUN, from that of the procedure's block: RETURN ERROR is a fault without a line
abbrev pub returned_completion : List Argument → Procedure → Completion → Continuation
returned_completion args q Normal s ans = Done Normal (copied_out args q.parameters (own_frame s.frames) (without_frame s)) ans
returned_completion args q (Returns false) s ans = Done Normal (copied_out args q.parameters (own_frame s.frames) (without_frame s)) ans
returned_completion args q (Returns true) s ans = Done (Faults None) (without_frame s) ans
returned_completion args q completion s ans = Done completion s ans

-- the same for the outcome of the block
abbrev pub returned : List Argument → Procedure → Outcome → Outcome
returned args q (Done completion s ans) = returned_completion args q completion s ans
returned args q (Suspended d) = Suspended d

-- ---- statements

-- the context of a statement: the program, what a RUN does (given the procedure, arguments and values), and RETRY
pub record Context : Type 0 where
  pub program : Program
  pub calls : ℕ → List Argument → List Value → Continuation
  pub retry : Bool

-- with another value of RETRY
abbrev pub retrying : Context → Bool → Context
retrying w retry = record { program = w.program; calls = w.calls; retry = retry }

-- RUN: evaluates the arguments, and runs the procedure
abbrev pub runs : Context → ℕ → List Argument → Continuation
runs w n args s ans = given_all (argument_values w.program args (procedure_at w.program n).parameters w.retry s) (w.calls n args) s ans

abbrev mutual
  pub meaning : Stmt → Context → Continuation
  meaning (Inner b body) w = statement w.program false (block w.program b w.retry (λ retry. meaning_all body (retrying w retry)))
  meaning (Choose test then_it else_it) w = costs_unit (λ s ans. chosen w.program (value_now w.program test w.retry s) (meaning_all then_it w) (meaning_all else_it w) s ans)
  meaning (Assign pairs quiet) w = statement w.program quiet (assigns w.program pairs w.retry)
  meaning (Find word reading wait quiet) w = statement w.program quiet (quiet_find quiet (finds w.program word reading wait w.retry))
  meaning (FindCurrent reading wait quiet) w = statement w.program quiet (finds_current reading wait)
  meaning (Create b quiet) w = statement w.program quiet (creates w.program b)
  meaning (Remove b quiet) w = statement w.program quiet (deletes b)
  meaning (Release b quiet) w = statement w.program quiet (releases w.program b)
  meaning (UndoBlock l action) w = statement w.program false (completes (Undoes l action w.retry nothing_passed))
  meaning (LeaveBlock l) w = statement w.program false (completes (Leaves l))
  meaning (NextBlock l) w = statement w.program false (completes (Nexts l))
  meaning (Return e) w = statement w.program false (update_then (returns_with w.program e w.retry) (completes (Returns false)))
  meaning (ReturnError l e) w = statement w.program false (update_then (returns_with w.program e w.retry) (completes (Undoes l ThenError w.retry nothing_passed)))
  meaning Stop w = statement w.program false (completes (Stops (client.Stop why.Statement)))
  meaning (Run n args quiet) w = statement w.program quiet (runs w n args)
  meaning (Import n targets quiet) w = statement w.program quiet (imports w.program n targets w.retry)
  meaning (Export n es) w = statement w.program false (all_values w.program es w.retry (λ vs. writes_to n (export_line vs)))
  meaning (ExportRecord n b) w = statement w.program false (λ s ans. exports_record n b (content_of b s) s ans)
  meaning (PutItems n items) w = statement w.program false (λ s ans. given_text (put_text w.program items w.retry s) (writes_to n) s ans)
  meaning (Message es) w = statement w.program false (all_values w.program es w.retry (λ vs. writes_to 0 (message_line vs)))
  meaning (OutputTo n output append) w = statement w.program false (opens_output n output append)
  meaning (OutputClose n) w = statement w.program false (update_then (closes_output n) (completes Normal))
  meaning (InputFrom n input) w = statement w.program false (update_then (opens_input n (Some input)) (completes Normal))
  meaning (InputClose n) w = statement w.program false (update_then (opens_input n None) (completes Normal))

  pub meaning_all : Body → Context → Continuation
  meaning_all Nothing w s ans = Done Normal s ans
  meaning_all (Then t rest) w s ans = and_then (meaning t w s ans) (meaning_all rest w)

-- ---- procedures

-- opens a procedure, with its parameters
abbrev pub opened_frame : Program → ℕ → List Argument → List Value → State → State
opened_frame p n args vs s = record s { frames = params_set args (procedure_at p n).parameters vs (new_frame p n) ∷ s.frames }

-- what a RUN does, where this many more may be open at once
abbrev pub calls_of : Program → ℕ → ℕ → List Argument → List Value → Continuation
calls_of p zero n args vs s ans = Done (Stops (client.Stop why.Depth)) s ans
calls_of p (suc d) n args vs s ans =
    returned args (procedure_at p n)
    (block p (procedure_at p n).header false
    (λ retry. meaning_all (procedure_at p n).body (record { program = p; calls = calls_of p d; retry = retry }))
    (opened_frame p n args vs s) ans)

-- the context in which `depth` more RUNs may be open at once
abbrev pub context_at : Program → ℕ → Bool → Context
context_at p depth retry = record { program = p; calls = calls_of p depth; retry = retry }

-- ---- the run

-- the client asks for End, and ends after any answer
abbrev pub ends_in : ClientEnd → State → List Answer → Progress
ends_in e s [] = record { written = s.written; wants = Ask op.End }
ends_in e s (a ∷ ans) = record { written = s.written; wants = Ended e }

-- how the client ends after this completion of the external procedure
abbrev pub end_of : Completion → State → ClientEnd
end_of (Returns false) s = client.Returned
end_of (Returns true) s = client.Error s.returned
end_of (Stops e) s = e
end_of completion s = client.Normal

-- the progress of a client, from the outcome of the external procedure
abbrev pub finished : Outcome → Progress
finished (Done completion s ans) = ends_in (end_of completion s) s ans
finished (Suspended d) = d

-- the state in which it begins
abbrev pub start : Program → ℕ → State
start p units = record {
  frames = new_frame p 0 ∷ [];
  level = 0;
  units = units;
  made = 0;
  status = false;
  returned = [];
  streams = replicate (p.source.streams + 1) no_stream;
  at = 0;
  written = [];
  size = 0;
}

-- the progress of a client after these answers, where it began with this number of units
abbrev pub run : Program → ℕ → List Answer → Progress
run p units ans =
    finished (block p (procedure_at p 0).header false
    (λ retry. meaning_all (procedure_at p 0).body (record { program = p; calls = calls_of p 32; retry = retry }))
    (start p units) ans)

-- the operation that is asked, if one is
abbrev pub op_of : NextStep → List Op
op_of (Ask o) = o ∷ []
op_of (Ended e) = []

-- the operations that these answers answered
abbrev pub asked : (List Answer → Progress) → List Answer → List Op
asked m [] = []
asked m (a ∷ ans) = op_of (m []).wants ++ asked (λ more. m (a ∷ more)) ans
