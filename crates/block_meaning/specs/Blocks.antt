-- Blocks: iterations, their ends, UNDO and RETRY.
use Rattle.std.specs.Prelude.{ℕ, zero, suc, ◌+◌, ◌==◌, List, [], ◌++◌, Bool, true, false, ◌||◌, Option, Some, None, pos}
use Rattle.std.specs.Int.{is_negative}
use Rattle.abl_base.specs.declared.value.Value.{Value}
use Rattle.abl_base.specs.declared.value.Value.TheVariants.{Text, Int, Int64, Dec, Logical, Date, Unknown}
use Rattle.abl_values.specs.Arithmetic.{sum_of}
use Rattle.abl_values.specs.Texts.{plain_text}
use Rattle.database_protocol.specs.declared.operation.Op.TheVariants as op
use Rattle.bound_tree.specs.declared.block.BlockKind.{BlockKind}
use Rattle.bound_tree.specs.declared.block.BlockKind.TheVariants as kind
use Rattle.bound_tree.specs.Tree.{Expr, Header, ToPhrase, Fetch, Action, ThenRetry, ThenLeave, ThenNext, ThenReturn, ThenError, OnPhrase}
use Rattle.expression_meaning.specs.Operators.{holds, at_most, at_least}
use Rattle.block_meaning.specs.declared.wants.Piece.{Piece}
use Rattle.block_meaning.specs.declared.wants.Piece.TheVariants.{Wrote}
use Rattle.block_meaning.specs.Program.{Program}
use Rattle.block_meaning.specs.Lines.{Complaint, line_of}
use Rattle.block_meaning.specs.State.{State, Copy, Passed, nothing_passed, Turn, Completion, Normal, Again, Leaves, Nexts, Undoes, Faults, Raises, EndKeys, Returns, Stops, Found, Outcome, Done, Suspended, Continuation, completes, Completed, completed, immediately, wrote, if_else, update_then, costs_unit, asks, and_then, out_of_units}
use Rattle.block_meaning.specs.Frames.{own_frame, emptied, all_emptied, put_back, copy_of, value_of, assigned}
use Rattle.block_meaning.specs.Values.{Evaluated, Gives, Fails, value_now, evaluates, given, fit, or_range}
use Rattle.block_meaning.specs.Buffers.{enters_all, enters_places, all_places, releases_all, updates_places, leaves}
use Rattle.block_meaning.specs.Reads.{fetches}

-- ---- faults and the lines about them

-- the piece with the line about a fault; it goes to the default section
abbrev pub line_piece : Program → Complaint → State → Piece
line_piece p c s = Wrote None (line_of p (own_frame s.frames).procedure c)

-- writes the line about a fault, if it has one
abbrev pub complained : Program → Option Complaint → State → Completed
complained p None s = completed Normal s
complained p (Some c) s = wrote (line_piece p c s) s

-- the same as a part of a run
abbrev pub complains : Program → Option Complaint → Continuation
complains p c = immediately (complained p c)

-- raises ERROR: writes the line, and continues
abbrev pub errs : Program → Option Complaint → Continuation → Continuation
errs p c go s ans = and_then (complains p c s ans) go

-- ---- kinds of blocks

-- REPEAT and FOR
abbrev pub is_repeat_or_for : BlockKind → Bool
is_repeat_or_for kind.Procedure = false
is_repeat_or_for kind.Do = false
is_repeat_or_for kind.Repeat = true
is_repeat_or_for kind.For = true

-- the header has the phrase
abbrev pub is_given : {A : Type 0} → Option A → Bool
is_given None = false
is_given (Some a) = true

-- REPEAT, FOR, and DO with TO or WHILE iterate
abbrev pub iterates : Header → Bool
iterates b = is_repeat_or_for b.kind || (is_given b.to || is_given b.while_test)

-- the block of a procedure, REPEAT and FOR
abbrev pub is_endkey_block : BlockKind → Bool
is_endkey_block kind.Procedure = true
is_endkey_block kind.Do = false
is_endkey_block kind.Repeat = true
is_endkey_block kind.For = true

-- blocks that undo and leave at ENDKEY where they have no ON ENDKEY
abbrev pub handles_endkey : Header → Bool
handles_endkey b = is_endkey_block b.kind

-- ---- an open iteration

-- an open iteration
pub record Iteration : Type 0 where
  -- the copy that was made with its Enter, if it asked for one
  pub copy : Option Copy
  -- the data with which it began
  pub turn : Turn

-- the copy of the outer one of two levels
abbrev pub first_of_two : Option Copy → Option Copy → Option Copy
first_of_two None inner = inner
first_of_two (Some copy) inner = Some copy

-- adds this iteration to those that an unwinding has passed
abbrev pub passed_with : Header → Iteration → Passed → Passed
passed_with b o passed = record { first = first_of_two o.copy passed.first; buffers = b.scoped ++ passed.buffers }

-- the data of the following iteration, or of a retry
abbrev pub next_turn : Bool → Turn → Turn
next_turn retry t = record t { retry = retry }

-- one of two completions
abbrev pub completion_if : Bool → Completion → Completion → Completion
completion_if true one other = one
completion_if false one other = other

-- the completion after an iteration of block b that completed so: LEAVE of this block becomes normal
abbrev pub after_iteration : Header → Iteration → Completion → Completion
after_iteration b o Normal = completion_if (iterates b) (Again (next_turn false o.turn)) Normal
after_iteration b o (Leaves l) = completion_if (l == b.number) Normal (Leaves l)
after_iteration b o (Nexts l) = completion_if (l == b.number) (Again (next_turn false o.turn)) (Nexts l)
after_iteration b o completion = completion

-- ---- UNDO

-- what UNDO does after Back: restore the copy, refresh outer buffers, leave the level, empty inner buffers
abbrev pub after_back : Copy → List ℕ → Continuation
after_back copy but s ans =
    and_then (and_then (updates_places copy.made but (all_places (put_back copy s)) (put_back copy s) ans) (leaves but))
    (update_then (all_emptied but) (completes Normal))

-- goes back to the level of a copy, if there is one
abbrev pub goes_back : Option Copy → List ℕ → Continuation
goes_back None but = completes Normal
goes_back (Some copy) but = asks (op.Back copy.depth) (λ a. after_back copy but)

-- the text of a value; a failed evaluation gives the empty text
abbrev pub text_from : Evaluated → List ℕ
text_from (Gives v) = plain_text v
text_from (Fails c) = []

-- the text of RETURN; empty without an expression
abbrev pub text_to_return : Program → Option Expr → Bool → State → List ℕ
text_to_return p None retry s = []
text_to_return p (Some e) retry s = text_from (value_now p e retry s)

-- sets RETURN-VALUE to it
abbrev pub returns_with : Program → Option Expr → Bool → State → State
returns_with p e retry s = record s { returned = text_to_return p e retry s }

-- releases the buffers of the undone iteration, and ends it. After an UNDO with a level they are empty already
abbrev pub closes : Program → Header → Iteration → Completion → Continuation
closes p b o completion s ans = and_then (releases_all p b.scoped s ans) (completes (after_iteration b o completion))

-- the completion in place of RETRY where the block does not name RETRY: NEXT if it iterates, else LEAVE
abbrev pub instead_of_retry : Bool → ℕ → Completion
instead_of_retry true l = Nexts l
instead_of_retry false l = Leaves l

-- the action after an UNDO
abbrev pub acts : Program → Header → Iteration → Action → Bool → Continuation
acts p b o ThenRetry retry = if_else b.flags.retry_seen (completes (Again (next_turn true o.turn))) (closes p b o (instead_of_retry (iterates b) b.number))
acts p b o (ThenLeave l) retry = closes p b o (Leaves l)
acts p b o (ThenNext l) retry = closes p b o (Nexts l)
acts p b o (ThenReturn error e) retry = update_then (returns_with p e retry) (closes p b o (Returns error))
acts p b o ThenError retry = closes p b o (Returns true)

-- the block of an UNDO is reached: go back to its level, then the action
abbrev pub undone : Program → Header → Iteration → Action → Bool → Passed → Continuation
undone p b o action retry passed s ans = and_then (goes_back passed.first passed.buffers s ans) (acts p b o action retry)

-- UNDO, ERROR or ENDKEY leaves an iteration. Without an open level the iteration ends here, and its buffers are released
abbrev pub passes : Program → Header → Completion → Completion → Continuation
passes p b ended_as left_as s ans =
    if_else (s.level == 0)
    (λ s ans. and_then (releases_all p b.scoped s ans) (completes ended_as))
    (completes left_as) s ans

-- an UNDO arrives at an iteration: its block is reached, or the iteration is passed
abbrev pub undo_comes : Program → Header → Iteration → ℕ → Action → Bool → Passed → Continuation
undo_comes p b o target action retry passed =
    if_else (target == b.number) (undone p b o action retry (passed_with b o passed)) (passes p b (Undoes target action retry passed) (Undoes target action retry (passed_with b o passed)))

-- by ON ERROR, else UNDO, RETRY of the block itself
abbrev pub error_to : Program → Header → Iteration → Option OnPhrase → Passed → Continuation
error_to p b o None passed = undo_comes p b o b.number ThenRetry o.turn.retry passed
error_to p b o (Some on) passed = undo_comes p b o on.target on.action o.turn.retry passed

-- ERROR arrives at an iteration: a block with the undo property handles it
abbrev pub error_comes : Program → Header → Iteration → Passed → Continuation
error_comes p b o passed = if_else b.flags.undo (error_to p b o b.on_error passed) (passes p b (Raises passed) (Raises (passed_with b o passed)))

-- ENDKEY arrives at an iteration: by ON ENDKEY, else UNDO, LEAVE of a FOR, REPEAT or procedure
abbrev pub endkey_to : Program → Header → Iteration → Option OnPhrase → Passed → Continuation
endkey_to p b o None passed = if_else (handles_endkey b) (undo_comes p b o b.number (ThenLeave b.number) o.turn.retry passed) (passes p b (EndKeys passed) (EndKeys (passed_with b o passed)))
endkey_to p b o (Some on) passed = undo_comes p b o on.target on.action o.turn.retry passed

-- ---- the end of an iteration

-- leaves the level of an iteration, if it has one
abbrev pub leaves_if : Option Copy → List ℕ → Continuation
leaves_if None but = completes Normal
leaves_if (Some copy) but = leaves but

-- at the end of the transaction inserts every pending record
abbrev pub enters_rest : Program → Option Copy → Continuation
enters_rest p None s ans = Done Normal s ans
enters_rest p (Some copy) s ans = if_else (copy.depth == 1) (λ s ans. enters_places p (all_places s) s ans) (completes Normal) s ans

-- closes an iteration: inserts the pending records of its buffers, releases the buffers, and leaves the level
abbrev pub closing : Program → Header → Iteration → Continuation
closing p b o s ans =
    and_then (and_then (and_then (enters_all p b.scoped s ans) (releases_all p b.scoped)) (enters_rest p o.copy))
    (leaves_if o.copy b.scoped)

-- a fault in closing is a fault of the iteration
abbrev pub after_closing : Program → Header → Iteration → Completion → Outcome → Outcome
after_closing p b o completion (Done Normal s ans) = Done (after_iteration b o completion) s ans
after_closing p b o completion (Done (Faults c) s ans) = errs p c (error_comes p b o nothing_passed) s ans
after_closing p b o completion (Done other s ans) = Done other s ans
after_closing p b o completion (Suspended d) = Suspended d

-- ends an iteration that completed so: closes it, and propagates the completion
abbrev pub ended : Program → Header → Iteration → Completion → Continuation
ended p b o completion s ans = after_closing p b o completion (closing p b o s ans)

-- the end of an iteration whose body completed so
abbrev pub ends_with : Program → Header → Iteration → Completion → Continuation
ends_with p b o (Undoes target action retry passed) = undo_comes p b o target action retry passed
ends_with p b o (Raises passed) = error_comes p b o passed
ends_with p b o (EndKeys passed) = endkey_to p b o b.on_endkey passed
ends_with p b o (Stops end) = completes (Stops end)
ends_with p b o completion = ended p b o completion

-- the same for the outcome of the body
abbrev pub ends : Program → Header → Iteration → Outcome → Outcome
ends p b o (Done completion s ans) = ends_with p b o completion s ans
ends p b o (Suspended d) = Suspended d

-- ---- an iteration

-- whether an iteration opens a level: its block starts a transaction and none is open, or it can be undone and one is open
abbrev pub enters_at : Header → ℕ → Bool
enters_at b zero = b.flags.starts
enters_at b (suc n) = b.flags.undo

-- a FOR that finds no record empties its buffer, leaves the level, and completes
abbrev pub none_left : Header → Option Copy → ℕ → Continuation
none_left b copy buffer = update_then (emptied buffer) (leaves_if copy b.scoped)

-- runs the body, and ends the iteration
abbrev pub runs_body : Program → Header → Option Copy → Turn → Continuation → Continuation
runs_body p b copy t body s ans = ends p b (record { copy = copy; turn = t }) (body s ans)

-- after the read of a FOR: a record was found, and the body runs; a fault undoes the level just opened, and is a fault of the enclosing block; or there is no record
abbrev pub fetched_completion : Program → Header → Option Copy → Turn → ℕ → Continuation → Completion → Continuation
fetched_completion p b copy t buffer body (Found own) = runs_body p b copy (record t { own = Some own }) body
fetched_completion p b copy t buffer body (Faults c) = λ s ans. and_then (goes_back copy b.scoped s ans) (completes (Faults c))
fetched_completion p b copy t buffer body (Stops end) = completes (Stops end)
fetched_completion p b copy t buffer body completion = none_left b copy buffer

-- the same for the outcome of the read
abbrev pub fetched : Program → Header → Option Copy → Turn → ℕ → Continuation → Outcome → Outcome
fetched p b copy t buffer body (Done completion s ans) = fetched_completion p b copy t buffer body completion s ans
fetched p b copy t buffer body (Suspended d) = Suspended d

-- begins an iteration: a FOR reads its record, any other block runs its body
abbrev pub begins_as : Option Fetch → Program → Header → Option Copy → Turn → Bool → Continuation → Continuation
begins_as None p b copy t retry body = runs_body p b copy t body
begins_as (Some f) p b copy t retry body = λ s ans. fetched p b copy t f.reading.buffer body (fetches p f t retry s ans)

-- the same by the header
abbrev pub begins : Program → Header → Option Copy → Turn → Bool → Continuation → Continuation
begins p b copy t retry body = begins_as b.fetch p b copy t retry body

-- the state after an Enter
abbrev pub deeper : State → State
deeper s = record s { level = s.level + 1 }

-- opens a level, with a copy of the state, and begins the iteration
abbrev pub inside : Program → Header → Turn → Bool → Continuation → Continuation
inside p b t retry body = asks op.Enter (λ a s ans. begins p b (Some (copy_of s)) t retry body (deeper s) ans)

-- opens a level where the header says so
abbrev pub enters_level : Program → Header → Turn → Bool → Continuation → Continuation
enters_level p b t retry body s ans = if_else (enters_at b s.level) (inside p b t retry body) (begins p b None t retry body) s ans

-- WHILE: continues where it holds, else the block completes
abbrev pub while_holds : Program → Option Expr → Bool → Continuation → Continuation
while_holds p None retry go = go
while_holds p (Some e) retry go = evaluates p e retry (λ v. if_else (holds v) go (completes Normal))

-- BY counts downwards where it is negative
abbrev pub counts_down : Value → Bool
counts_down (Text t) = false
counts_down (Int n) = is_negative n
counts_down (Int64 n) = is_negative n
counts_down (Dec n) = is_negative n
counts_down (Logical b) = false
counts_down (Date d) = false
counts_down Unknown = false

-- the value of the loop variable is not past the end value
abbrev pub in_bound : Bool → Value → Value → Bool
in_bound true v end = holds (at_least v end)
in_bound false v end = holds (at_most v end)

-- TO, after the variable was set: evaluates the end value, and continues unless the variable is past it
abbrev pub reaches : Program → ToPhrase → Value → Bool → Continuation → Continuation
reaches p l by retry go = evaluates p l.end retry (λ end s ans. if_else (in_bound (counts_down by) (value_of l.variable s) end) go (completes Normal) s ans)

-- sets the loop variable
abbrev pub set_to : Program → ToPhrase → Value → Bool → Evaluated → Continuation → Continuation
set_to p l by retry v go = given v (λ v. given (fit l.variable.kind v) (λ v. update_then (assigned l.variable v) (reaches p l by retry go)))

-- the loop variable plus BY
abbrev pub next_value : ToPhrase → Turn → State → Evaluated
next_value l t s = or_range (sum_of (value_of l.variable s) t.by)

-- sets the loop variable to its start value, or to the next one
abbrev pub advances : Program → ToPhrase → Turn → Bool → Option Value → Continuation → Continuation
advances p l t retry None go s ans = set_to p l t.by retry (next_value l t s) go s ans
advances p l t retry (Some v) go s ans = set_to p l t.by retry (Gives v) go s ans

-- a retry neither sets the variable nor tests it
abbrev pub advances_if : Program → Option ToPhrase → Turn → Bool → Continuation → Continuation
advances_if p None t retry go = go
advances_if p (Some l) t retry go = if_else t.retry go (advances p l t retry t.start go)

-- RETRY of the block itself, or that of the enclosing one
abbrev pub own_or_outer : Bool → Bool → Bool → Bool
own_or_outer true own outer = own
own_or_outer false own outer = outer

-- RETRY in an iteration: that of the nearest block with the undo property
abbrev pub retry_in : Header → Turn → Bool → Bool
retry_in b t outer = own_or_outer b.flags.undo t.retry outer

-- an iteration: a unit, the loop variable, WHILE, the level, the record, the body, and the end
abbrev pub iteration : Program → Header → Bool → (Bool → Continuation) → Turn → Continuation
iteration p b outer body t =
    costs_unit (advances_if p b.to t (retry_in b t outer)
    (while_holds p b.while_test (retry_in b t outer)
    (enters_level p b (record t { start = None }) (retry_in b t outer) (body (retry_in b t outer)))))

-- ---- a block

-- begins another iteration where the completion asks for it
abbrev pub if_again : Completion → (Turn → Continuation) → Continuation
if_again (Again t) next = next t
if_again completion next = completes completion

-- the same for an outcome
abbrev pub and_again : Outcome → (Turn → Continuation) → Outcome
and_again (Done completion s ans) next = if_again completion next s ans
and_again (Suspended d) next = Suspended d

-- the iterations of a block, at most n. Each costs a unit, so the units of the client bound them
abbrev pub turns : ℕ → Program → Header → Bool → (Bool → Continuation) → Turn → Continuation
turns zero p b outer body t s ans = Done (Stops out_of_units) s ans
turns (suc n) p b outer body t s ans = and_again (iteration p b outer body t s ans) (turns n p b outer body)

-- the data of the first iteration
abbrev pub first_turn : Option Value → Value → Turn
first_turn start by = record { retry = false; start = start; by = by; own = None }

-- evaluates BY; 1 without it
abbrev pub by_of : Program → Option Expr → Bool → (Value → Continuation) → Continuation
by_of p None outer go = go (Int64 (pos 1))
by_of p (Some e) outer go = evaluates p e outer go

-- evaluates the start value of TO and BY, and runs the iterations
abbrev pub block_from : Option ToPhrase → Program → Header → Bool → (Bool → Continuation) → Continuation
block_from None p b outer body = λ s ans. turns s.units p b outer body (first_turn None Unknown) s ans
block_from (Some l) p b outer body =
    evaluates p l.start outer (λ v. by_of p l.by outer (λ w s ans. turns s.units p b outer body (first_turn (Some v) w) s ans))

-- a block. `outer` is RETRY around it
abbrev pub block : Program → Header → Bool → (Bool → Continuation) → Continuation
block p b outer body = block_from b.to p b outer body
