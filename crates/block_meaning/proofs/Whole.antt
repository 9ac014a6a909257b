-- Blocks, statements and procedures continue, and so does the whole run.
use Rattle.std.proofs.Common.{◌≡◌, refl, ℕ, zero, suc, ◌+◌, ◌==◌, nat_lt, List, [], ◌∷◌, Bool, true, false, Option, Some, None, arith}
use Rattle.std.specs.Prelude.{pos}
use Rattle.abl_base.specs.declared.limits.TheConstants.{MAX_OUTPUT_BYTES}
use Rattle.abl_base.specs.declared.value.Value.{Value}
use Rattle.abl_base.specs.declared.value.Value.TheVariants.{Int64}
use Rattle.database_protocol.specs.declared.operation.Op.TheVariants as op
use Rattle.database_protocol.specs.declared.answer.Answer.{Answer}
use Rattle.bound_tree.specs.declared.expression.Variable.{Variable}
use Rattle.bound_tree.specs.declared.statement.Target.{Target}
use Rattle.bound_tree.specs.Tree.{Expr, Header, ToPhrase, Fetch, Action, ThenRetry, ThenLeave, ThenNext, ThenReturn, ThenError, OnPhrase, Procedure, Argument, In, Out, InOut, Stmt, Inner, Choose, Assign, Find, FindCurrent, Create, Remove, Release, UndoBlock, LeaveBlock, NextBlock, Return, ReturnError, Stop, Run, Import, Export, ExportRecord, PutItems, Message, OutputTo, OutputClose, InputFrom, InputClose, Body, Nothing, Then}
use Rattle.expression_meaning.specs.Operators.{holds}
use Rattle.abl_base.specs.text_forms.TextForms.{Imported, AtInputEnd, BadElement, Elements}
use Rattle.block_meaning.specs.declared.wants.Piece.{Piece}
use Rattle.block_meaning.specs.declared.wants.Piece.TheVariants.{Wrote, Opened}
use Rattle.block_meaning.specs.Program.{Program, procedure_at}
use Rattle.block_meaning.specs.Lines.{Complaint, BadField, NoRecordIn}
use Rattle.block_meaning.specs.State.{State, CallFrame, Copy, Passed, nothing_passed, Stream, Content, Empty, Record, Pending, Turn, Completion, Normal, Again, Leaves, Nexts, Undoes, Faults, Raises, EndKeys, Found, Returns, Stops, Done, Continuation, completes, if_else, update_then, and_then, bytes_in, written_if, wrote, writes}
use Rattle.block_meaning.specs.Frames.{own_frame, value_in, value_of, assigned, content_of, emptied, all_emptied, put_back, copy_of}
use Rattle.block_meaning.specs.Values.{Evaluated, Gives, Fails, value_now, values_now, given, given_text, put_text, export_line, message_line, fit, all_values}
use Rattle.block_meaning.specs.Buffers.{enters_all, enters_places, all_places, own, releases_all, releases, updates_places, leaves}
use Rattle.block_meaning.specs.Reads.{fetches, finds, finds_current}
use Rattle.block_meaning.specs.Changes.{assigns, creates, deletes}
use Rattle.block_meaning.specs.Blocks.{line_piece, complained, complains, errs, iterates, handles_endkey, Iteration, passed_with, next_turn, after_iteration, after_back, goes_back, returns_with, closes, instead_of_retry, acts, undone, passes, undo_comes, error_to, error_comes, endkey_to, leaves_if, enters_rest, closing, after_closing, ended, ends_with, ends, enters_at, none_left, runs_body, fetched_completion, fetched, begins_as, begins, deeper, inside, enters_level, while_holds, counts_down, in_bound, reaches, set_to, next_value, advances, advances_if, retry_in, iteration, if_again, and_again, turns, first_turn, by_of, block_from, block}
use Rattle.block_meaning.specs.Streams.{stream_at, with_stream, writes_to, opens_output, closes_output, opens_input, exports_record, read_up_to, read_to, pairs_of, imports_line, line_now, imports}
use Rattle.block_meaning.specs.Meaning.{with_status, cleared, handled_completion, handled, statement, chosen, quiet_completion, quiet_result, quiet_find, argument_values, copied_out, without_frame, returned_completion, returned, Context, retrying, runs, meaning, meaning_all, opened_frame, calls_of}
use Rattle.block_meaning.proofs.Continues.{begins_itself, Continues, Keeps, Stays, Handles, continues_goes, continues_where, continues_first, continues_charged, continues_asks, continues_handled, continues_then, continues_done}
use Rattle.block_meaning.proofs.Parts.{all_emptied_keeps, then_ran, given_continues, given_all_continues, given_text_continues, enters_places_continues, releases_continues, releases_all_continues, leaves_continues, updates_places_continues, fetches_continues, finds_continues, finds_current_continues}
use Rattle.block_meaning.proofs.Part_changes.{assigns_continues, creates_continues, deletes_continues}

-- ---- writing

pub written_if_stays : (b : Bool) (piece : Piece) (s : State) → Stays (written_if b piece) s
written_if_stays true piece s = record { units = omega arith; written = begins_itself s.written }
written_if_stays false piece s = record { units = omega arith; written = (piece ∷ [], refl) }

pub writes_continues : (piece : Piece) → Continues (writes piece)
writes_continues piece =
    continues_done (wrote piece) (λ s. let x = written_if_stays (nat_lt MAX_OUTPUT_BYTES (s.size + bytes_in piece)) piece s in record { units = x.units; written = x.written })

pub complained_stays : (p : Program) (c : Option Complaint) (s : State) → Stays (complained p c) s
complained_stays p None s = record { units = omega arith; written = begins_itself s.written }
complained_stays p (Some c) s =
    let x = written_if_stays (nat_lt MAX_OUTPUT_BYTES (s.size + bytes_in (line_piece p c s))) (line_piece p c s) s in record { units = x.units; written = x.written }

pub errs_continues : (p : Program) (c : Option Complaint) (go : Continuation) → Continues go → Continues (errs p c go)
errs_continues p c go x = continues_then (complains p c) go (continues_done (complained p c) (complained_stays p c)) x

-- ---- UNDO

pub goes_back_continues : (o : Option Copy) (but : List ℕ) → Continues (goes_back o but)
goes_back_continues None but = continues_goes Normal
goes_back_continues (Some copy) but = continues_asks (op.Back copy.depth) (λ a. after_back copy but) (λ a. after_back_continues)
  where
    after_back_continues : Continues (after_back copy but)
    after_back_continues s ans more =
        continues_first (put_back copy)
        (λ t ans. and_then (and_then (updates_places copy.made but (all_places (put_back copy s)) t ans) (leaves but)) (update_then (all_emptied but) (completes Normal)))
        (λ s. record { units = refl; written = refl })
        (continues_then (λ t ans. and_then (updates_places copy.made but (all_places (put_back copy s)) t ans) (leaves but)) (update_then (all_emptied but) (completes Normal))
        (continues_then (updates_places copy.made but (all_places (put_back copy s))) (leaves but) (updates_places_continues copy.made but (all_places (put_back copy s))) (leaves_continues but))
        (then_ran (all_emptied but) Normal (all_emptied_keeps but))) s ans more

pub closes_continues : (p : Program) (b : Header) (o : Iteration) (completion : Completion) → Continues (closes p b o completion)
closes_continues p b o completion = continues_then (releases_all p b.scoped) (completes (after_iteration b o completion)) (releases_all_continues p b.scoped) (continues_goes (after_iteration b o completion))

pub acts_continues : (p : Program) (b : Header) (o : Iteration) (action : Action) (retry : Bool) → Continues (acts p b o action retry)
acts_continues p b o ThenRetry retry =
    continues_where b.flags.retry_seen (completes (Again (next_turn true o.turn))) (closes p b o (instead_of_retry (iterates b) b.number)) (continues_goes (Again (next_turn true o.turn))) (closes_continues p b o (instead_of_retry (iterates b) b.number))
acts_continues p b o (ThenLeave l) retry = closes_continues p b o (Leaves l)
acts_continues p b o (ThenNext l) retry = closes_continues p b o (Nexts l)
acts_continues p b o (ThenReturn error e) retry = continues_first (returns_with p e retry) (closes p b o (Returns error)) (λ s. record { units = refl; written = refl }) (closes_continues p b o (Returns error))
acts_continues p b o ThenError retry = closes_continues p b o (Returns true)

pub passes_continues : (p : Program) (b : Header) (one other : Completion) → Continues (passes p b one other)
passes_continues p b one other s ans more =
    continues_where (s.level == 0) (λ s ans. and_then (releases_all p b.scoped s ans) (completes one)) (completes other) (continues_then (releases_all p b.scoped) (completes one) (releases_all_continues p b.scoped) (continues_goes one)) (continues_goes other) s ans more

pub undo_comes_continues : (p : Program) (b : Header) (o : Iteration) (target : ℕ) (action : Action) (retry : Bool) (passed : Passed) → Continues (undo_comes p b o target action retry passed)
undo_comes_continues p b o target action retry passed =
    continues_where (target == b.number) (undone p b o action retry (passed_with b o passed)) (passes p b (Undoes target action retry passed) (Undoes target action retry (passed_with b o passed)))
    (continues_then (goes_back (passed_with b o passed).first (passed_with b o passed).buffers) (acts p b o action retry) (goes_back_continues (passed_with b o passed).first (passed_with b o passed).buffers) (acts_continues p b o action retry))
    (passes_continues p b (Undoes target action retry passed) (Undoes target action retry (passed_with b o passed)))

pub error_to_continues : (p : Program) (b : Header) (o : Iteration) (on : Option OnPhrase) (passed : Passed) → Continues (error_to p b o on passed)
error_to_continues p b o None passed = undo_comes_continues p b o b.number ThenRetry o.turn.retry passed
error_to_continues p b o (Some on) passed = undo_comes_continues p b o on.target on.action o.turn.retry passed

pub error_comes_continues : (p : Program) (b : Header) (o : Iteration) (passed : Passed) → Continues (error_comes p b o passed)
error_comes_continues p b o passed =
    continues_where b.flags.undo (error_to p b o b.on_error passed) (passes p b (Raises passed) (Raises (passed_with b o passed))) (error_to_continues p b o b.on_error passed) (passes_continues p b (Raises passed) (Raises (passed_with b o passed)))

pub endkey_to_continues : (p : Program) (b : Header) (o : Iteration) (on : Option OnPhrase) (passed : Passed) → Continues (endkey_to p b o on passed)
endkey_to_continues p b o None passed =
    continues_where (handles_endkey b) (undo_comes p b o b.number (ThenLeave b.number) o.turn.retry passed) (passes p b (EndKeys passed) (EndKeys (passed_with b o passed)))
    (undo_comes_continues p b o b.number (ThenLeave b.number) o.turn.retry passed) (passes_continues p b (EndKeys passed) (EndKeys (passed_with b o passed)))
endkey_to_continues p b o (Some on) passed = undo_comes_continues p b o on.target on.action o.turn.retry passed

-- ---- the end of an iteration

pub leaves_if_continues : (o : Option Copy) (but : List ℕ) → Continues (leaves_if o but)
leaves_if_continues None but = continues_goes Normal
leaves_if_continues (Some copy) but = leaves_continues but

pub enters_rest_continues : (p : Program) (o : Option Copy) → Continues (enters_rest p o)
enters_rest_continues p None s ans more = continues_goes Normal s ans more
enters_rest_continues p (Some copy) s ans more =
    continues_where (copy.depth == 1) (λ s ans. enters_places p (all_places s) s ans) (completes Normal) (λ s ans more. enters_places_continues p (all_places s) s ans more) (continues_goes Normal) s ans more

pub closing_continues : (p : Program) (b : Header) (o : Iteration) → Continues (closing p b o)
closing_continues p b o =
    continues_then (λ s ans. and_then (and_then (enters_all p b.scoped s ans) (releases_all p b.scoped)) (enters_rest p o.copy)) (leaves_if o.copy b.scoped)
    (continues_then (λ s ans. and_then (enters_all p b.scoped s ans) (releases_all p b.scoped)) (enters_rest p o.copy)
    (continues_then (enters_all p b.scoped) (releases_all p b.scoped) (λ s ans more. enters_places_continues p _ s ans more) (releases_all_continues p b.scoped))
    (enters_rest_continues p o.copy))
    (leaves_if_continues o.copy b.scoped)

-- what follows the end of an iteration
abbrev pub after_closing_completion : Program → Header → Iteration → Completion → Completion → Continuation
after_closing_completion p b o completion Normal = completes (after_iteration b o completion)
after_closing_completion p b o completion (Faults c) = errs p c (error_comes p b o nothing_passed)
after_closing_completion p b o completion other = completes other

pub after_closing_handles : (p : Program) (b : Header) (o : Iteration) (completion : Completion) → Handles (after_closing p b o completion) (after_closing_completion p b o completion)
after_closing_handles p b o completion = record { completes = same; stands = λ d. refl }
  where
    same : (other : Completion) (s : State) (ans : List Answer) → after_closing p b o completion (Done other s ans) ≡ after_closing_completion p b o completion other s ans
    same Normal s ans = refl
    same (Faults c) s ans = refl
    same other s ans = refl

pub after_closing_completion_continues : (p : Program) (b : Header) (o : Iteration) (completion other : Completion) → Continues (after_closing_completion p b o completion other)
after_closing_completion_continues p b o completion Normal s ans more = continues_goes (after_iteration b o completion) s ans more
after_closing_completion_continues p b o completion (Faults c) s ans more = errs_continues p c (error_comes p b o nothing_passed) (error_comes_continues p b o nothing_passed) s ans more
after_closing_completion_continues p b o completion other s ans more = continues_goes other s ans more

pub ended_continues : (p : Program) (b : Header) (o : Iteration) (completion : Completion) → Continues (ended p b o completion)
ended_continues p b o completion = continues_handled (closing p b o) (after_closing p b o completion) (after_closing_completion p b o completion) (after_closing_handles p b o completion) (closing_continues p b o) (after_closing_completion_continues p b o completion)

pub ends_with_continues : (p : Program) (b : Header) (o : Iteration) (completion : Completion) → Continues (ends_with p b o completion)
ends_with_continues p b o (Undoes target action retry passed) s ans more = undo_comes_continues p b o target action retry passed s ans more
ends_with_continues p b o (Raises passed) s ans more = error_comes_continues p b o passed s ans more
ends_with_continues p b o (EndKeys passed) s ans more = endkey_to_continues p b o b.on_endkey passed s ans more
ends_with_continues p b o (Stops end) s ans more = continues_goes (Stops end) s ans more
ends_with_continues p b o completion s ans more = ended_continues p b o completion s ans more

-- ---- an iteration

pub runs_body_continues : (p : Program) (b : Header) (copy : Option Copy) (t : Turn) (body : Continuation) → Continues body → Continues (runs_body p b copy t body)
runs_body_continues p b copy t body x =
    continues_handled body (ends p b (record { copy = copy; turn = t })) (ends_with p b (record { copy = copy; turn = t })) (record { completes = λ completion s ans. refl; stands = λ d. refl }) x (ends_with_continues p b (record { copy = copy; turn = t }))

pub none_left_continues : (b : Header) (copy : Option Copy) (buffer : ℕ) → Continues (none_left b copy buffer)
none_left_continues b copy buffer = continues_first (emptied buffer) (leaves_if copy b.scoped) (λ s. record { units = refl; written = refl }) (leaves_if_continues copy b.scoped)

pub fetched_completion_continues : (p : Program) (b : Header) (copy : Option Copy) (t : Turn) (buffer : ℕ) (body : Continuation) → Continues body → (completion : Completion) → Continues (fetched_completion p b copy t buffer body completion)
fetched_completion_continues p b copy t buffer body x (Found own) s ans more = runs_body_continues p b copy (record t { own = Some own }) body x s ans more
fetched_completion_continues p b copy t buffer body x (Faults c) s ans more =
    continues_then (goes_back copy b.scoped) (completes (Faults c)) (goes_back_continues copy b.scoped) (continues_goes (Faults c)) s ans more
fetched_completion_continues p b copy t buffer body x (Stops end) s ans more = continues_goes (Stops end) s ans more
fetched_completion_continues p b copy t buffer body x completion s ans more = none_left_continues b copy buffer s ans more

pub begins_continues : (f : Option Fetch) (p : Program) (b : Header) (copy : Option Copy) (t : Turn) (retry : Bool) (body : Continuation) → Continues body → Continues (begins_as f p b copy t retry body)
begins_continues None p b copy t retry body x = runs_body_continues p b copy t body x
begins_continues (Some f) p b copy t retry body x =
    continues_handled (fetches p f t retry) (fetched p b copy t f.reading.buffer body) (fetched_completion p b copy t f.reading.buffer body) (record { completes = λ completion s ans. refl; stands = λ d. refl }) (fetches_continues p f t retry) (fetched_completion_continues p b copy t f.reading.buffer body x)

pub enters_level_continues : (p : Program) (b : Header) (t : Turn) (retry : Bool) (body : Continuation) → Continues body → Continues (enters_level p b t retry body)
enters_level_continues p b t retry body x s ans more =
    continues_where (enters_at b s.level) (inside p b t retry body) (begins p b None t retry body)
    (continues_asks op.Enter (λ a s ans. begins p b (Some (copy_of s)) t retry body (deeper s) ans)
    (λ a s ans more. continues_first deeper (begins p b (Some (copy_of s)) t retry body) (λ s. record { units = refl; written = refl }) (begins_continues b.fetch p b (Some (copy_of s)) t retry body x) s ans more))
    (begins_continues b.fetch p b None t retry body x) s ans more

pub while_continues : (p : Program) (e : Option Expr) (retry : Bool) (go : Continuation) → Continues go → Continues (while_holds p e retry go)
while_continues p None retry go x s ans more = x s ans more
while_continues p (Some e) retry go x s ans more =
    given_continues (value_now p e retry s) (λ v. if_else (holds v) go (completes Normal)) (λ v. continues_where (holds v) go (completes Normal) x (continues_goes Normal)) s ans more

pub reaches_continues : (p : Program) (l : ToPhrase) (by : Value) (retry : Bool) (go : Continuation) → Continues go → Continues (reaches p l by retry go)
reaches_continues p l by retry go x s ans more =
    given_continues (value_now p l.end retry s) (λ end s ans. if_else (in_bound (counts_down by) (value_of l.variable s) end) go (completes Normal) s ans)
    (λ end s ans more. continues_where (in_bound (counts_down by) (value_of l.variable s) end) go (completes Normal) x (continues_goes Normal) s ans more) s ans more

pub set_to_continues : (p : Program) (l : ToPhrase) (by : Value) (retry : Bool) (v : Evaluated) (go : Continuation) → Continues go → Continues (set_to p l by retry v go)
set_to_continues p l by retry v go x =
    given_continues v (λ v. given (fit l.variable.kind v) (λ v. update_then (assigned l.variable v) (reaches p l by retry go)))
    (λ v. given_continues (fit l.variable.kind v) (λ v. update_then (assigned l.variable v) (reaches p l by retry go))
    (λ v. continues_first (assigned l.variable v) (reaches p l by retry go) (λ s. record { units = refl; written = refl }) (reaches_continues p l by retry go x)))

pub advances_continues : (p : Program) (l : ToPhrase) (t : Turn) (retry : Bool) (start : Option Value) (go : Continuation) → Continues go → Continues (advances p l t retry start go)
advances_continues p l t retry None go x s ans more = set_to_continues p l t.by retry (next_value l t s) go x s ans more
advances_continues p l t retry (Some v) go x s ans more = set_to_continues p l t.by retry (Gives v) go x s ans more

pub advances_if_continues : (p : Program) (l : Option ToPhrase) (t : Turn) (retry : Bool) (go : Continuation) → Continues go → Continues (advances_if p l t retry go)
advances_if_continues p None t retry go x = x
advances_if_continues p (Some l) t retry go x = continues_where t.retry go (advances p l t retry t.start go) x (advances_continues p l t retry t.start go x)

pub iteration_continues : (p : Program) (b : Header) (outer : Bool) (body : Bool → Continuation) → ((retry : Bool) → Continues (body retry)) → (t : Turn) → Continues (iteration p b outer body t)
iteration_continues p b outer body x t =
    let retry = retry_in b t outer in
    let go = enters_level p b (record t { start = None }) retry (body retry) in
    continues_charged (advances_if p b.to t retry (while_holds p b.while_test retry go))
    (advances_if_continues p b.to t retry (while_holds p b.while_test retry go)
    (while_continues p b.while_test retry go (enters_level_continues p b (record t { start = None }) retry (body retry) (x retry))))

-- ---- a block

pub if_again_continues : (next : Turn → Continuation) → ((t : Turn) → Continues (next t)) → (completion : Completion) → Continues (if_again completion next)
if_again_continues next x (Again t) s ans more = x t s ans more
if_again_continues next x completion s ans more = continues_goes completion s ans more

pub turns_continues : (n : ℕ) (p : Program) (b : Header) (outer : Bool) (body : Bool → Continuation) → ((retry : Bool) → Continues (body retry)) → (t : Turn) → Continues (turns n p b outer body t)
turns_continues zero p b outer body x t = continues_goes _
turns_continues (suc n) p b outer body x t =
    continues_handled (iteration p b outer body t) (λ r. and_again r (turns n p b outer body)) (λ completion. if_again completion (turns n p b outer body)) (record { completes = λ completion s ans. refl; stands = λ d. refl })
    (iteration_continues p b outer body x t) (if_again_continues (turns n p b outer body) (turns_continues n p b outer body x))

pub by_continues : (p : Program) (e : Option Expr) (outer : Bool) (go : Value → Continuation) → ((v : Value) → Continues (go v)) → Continues (by_of p e outer go)
by_continues p None outer go x s ans more = x (Int64 (pos 1)) s ans more
by_continues p (Some e) outer go x s ans more = given_continues (value_now p e outer s) go x s ans more

pub block_from_continues : (l : Option ToPhrase) (p : Program) (b : Header) (outer : Bool) (body : Bool → Continuation) → ((retry : Bool) → Continues (body retry)) → Continues (block_from l p b outer body)
block_from_continues None p b outer body x s ans more = turns_continues s.units p b outer body x _ s ans more
block_from_continues (Some l) p b outer body x s ans more =
    given_continues (value_now p l.start outer s) (λ v. by_of p l.by outer (λ w s ans. turns s.units p b outer body (first_turn (Some v) w) s ans))
    (λ v. by_continues p l.by outer (λ w s ans. turns s.units p b outer body (first_turn (Some v) w) s ans) (λ w s ans more. turns_continues s.units p b outer body x (first_turn (Some v) w) s ans more)) s ans more

pub block_continues : (p : Program) (b : Header) (outer : Bool) (body : Bool → Continuation) → ((retry : Bool) → Continues (body retry)) → Continues (block p b outer body)
block_continues p b outer body x = block_from_continues b.to p b outer body x

-- ---- streams

pub read_up_to_keeps : (input : Option ℕ) (n : ℕ) (x : Stream) (next : ℕ) (s : State) → Keeps (read_up_to input n x next) s
read_up_to_keeps None n x next s = record { units = refl; written = refl }
read_up_to_keeps (Some i) n x next s = record { units = refl; written = refl }

pub read_to_keeps : (n next : ℕ) (s : State) → Keeps (read_to n next) s
read_to_keeps n next s = let x = read_up_to_keeps (stream_at n s).input n (stream_at n s) next s in record { units = x.units; written = x.written }

pub writes_to_continues : (n : ℕ) (bytes : List ℕ) → Continues (writes_to n bytes)
writes_to_continues n bytes s ans more = writes_continues (Wrote (stream_at n s).output bytes) s ans more

pub opens_output_continues : (n output : ℕ) (append : Bool) → Continues (opens_output n output append)
opens_output_continues n output append =
    continues_first (λ s. with_stream n (record (stream_at n s) { output = Some output }) s) (writes (Opened output append)) (λ s. record { units = refl; written = refl }) (writes_continues (Opened output append))

pub exports_continues : (n b : ℕ) (c : Content) → Continues (exports_record n b c)
exports_continues n b Empty = continues_goes (Faults (Some (NoRecordIn b)))
exports_continues n b (Record row values held made) = writes_to_continues n (export_line values)
exports_continues n b (Pending values since made) = writes_to_continues n (export_line values)

pub imports_line_continues : (p : Program) (n : ℕ) (ts : List (Option Target)) (retry : Bool) (line : Imported) → Continues (imports_line p n ts retry line)
imports_line_continues p n ts retry AtInputEnd = continues_goes (EndKeys nothing_passed)
imports_line_continues p n ts retry (BadElement number next) = then_ran (read_to n next) (Faults (Some (BadField number))) (read_to_keeps n next)
imports_line_continues p n ts retry (Elements vs next) = continues_first (read_to n next) (assigns p (pairs_of ts vs) retry) (read_to_keeps n next) (assigns_continues p (pairs_of ts vs) retry)

-- ---- statements

pub handled_completion_continues : (p : Program) (quiet : Bool) (completion : Completion) → Continues (handled_completion p quiet completion)
handled_completion_continues p false (Faults c) s ans more = errs_continues p c (completes (Raises nothing_passed)) (continues_goes (Raises nothing_passed)) s ans more
handled_completion_continues p true (Faults c) s ans more = then_ran (with_status true) Normal (λ s. record { units = refl; written = refl }) s ans more
handled_completion_continues p quiet completion s ans more = continues_goes completion s ans more

pub cleared_keeps : (quiet : Bool) (s : State) → Keeps (cleared quiet) s
cleared_keeps true s = record { units = refl; written = refl }
cleared_keeps false s = record { units = refl; written = refl }

pub statement_continues : (p : Program) (quiet : Bool) (does : Continuation) → Continues does → Continues (statement p quiet does)
statement_continues p quiet does x =
    continues_charged (λ s ans. handled p quiet (does (cleared quiet s) ans))
    (continues_handled (update_then (cleared quiet) does) (handled p quiet) (handled_completion p quiet) (record { completes = λ completion s ans. refl; stands = λ d. refl }) (continues_first (cleared quiet) does (cleared_keeps quiet) x) (handled_completion_continues p quiet))

pub chosen_continues : (p : Program) (v : Evaluated) (one other : Continuation) → Continues one → Continues other → Continues (chosen p v one other)
chosen_continues p (Gives v) one other x y = continues_where (holds v) one other x y
chosen_continues p (Fails c) one other x y = errs_continues p (Some c) (completes (Raises nothing_passed)) (continues_goes (Raises nothing_passed))

pub quiet_completion_continues : (quiet : Bool) (completion : Completion) → Continues (quiet_completion quiet completion)
quiet_completion_continues true (EndKeys passed) s ans more = continues_goes (Faults None) s ans more
quiet_completion_continues quiet completion s ans more = continues_goes completion s ans more

pub quiet_find_continues : (quiet : Bool) (does : Continuation) → Continues does → Continues (quiet_find quiet does)
quiet_find_continues quiet does x = continues_handled does (quiet_result quiet) (quiet_completion quiet) (record { completes = λ completion s ans. refl; stands = λ d. refl }) x (quiet_completion_continues quiet)

-- what a RUN does continues
abbrev pub CallsGoOn : Context → Type 0
CallsGoOn w = (n : ℕ) (args : List Argument) (vs : List Value) → Continues (w.calls n args vs)

mutual
  pub meaning_continues : (t : Stmt) (w : Context) → CallsGoOn w → Continues (meaning t w)
  meaning_continues (Inner b body) w x =
      statement_continues w.program false (block w.program b w.retry (λ retry. meaning_all body (retrying w retry)))
      (block_continues w.program b w.retry (λ retry. meaning_all body (retrying w retry)) (λ retry. meaning_all_continues body (retrying w retry) x))
  meaning_continues (Choose test then_it else_it) w x =
      continues_charged (λ s ans. chosen w.program (value_now w.program test w.retry s) (meaning_all then_it w) (meaning_all else_it w) s ans)
      (λ s ans more. chosen_continues w.program (value_now w.program test w.retry s) (meaning_all then_it w) (meaning_all else_it w) (meaning_all_continues then_it w x) (meaning_all_continues else_it w x) s ans more)
  meaning_continues (Assign pairs quiet) w x = statement_continues w.program quiet (assigns w.program pairs w.retry) (assigns_continues w.program pairs w.retry)
  meaning_continues (Find word reading wait quiet) w x =
      statement_continues w.program quiet (quiet_find quiet (finds w.program word reading wait w.retry)) (quiet_find_continues quiet (finds w.program word reading wait w.retry) (finds_continues w.program word reading wait w.retry))
  meaning_continues (FindCurrent reading wait quiet) w x = statement_continues w.program quiet (finds_current reading wait) (finds_current_continues reading wait)
  meaning_continues (Create b quiet) w x = statement_continues w.program quiet (creates w.program b) (creates_continues w.program b)
  meaning_continues (Remove b quiet) w x = statement_continues w.program quiet (deletes b) (deletes_continues b)
  meaning_continues (Release b quiet) w x = statement_continues w.program quiet (releases w.program b) (releases_continues w.program b)
  meaning_continues (UndoBlock l action) w x = statement_continues w.program false (completes (Undoes l action w.retry nothing_passed)) (continues_goes _)
  meaning_continues (LeaveBlock l) w x = statement_continues w.program false (completes (Leaves l)) (continues_goes (Leaves l))
  meaning_continues (NextBlock l) w x = statement_continues w.program false (completes (Nexts l)) (continues_goes (Nexts l))
  meaning_continues (Return e) w x =
      statement_continues w.program false (update_then (returns_with w.program e w.retry) (completes (Returns false))) (then_ran (returns_with w.program e w.retry) (Returns false) (λ s. record { units = refl; written = refl }))
  meaning_continues (ReturnError l e) w x =
      statement_continues w.program false (update_then (returns_with w.program e w.retry) (completes (Undoes l ThenError w.retry nothing_passed))) (then_ran (returns_with w.program e w.retry) (Undoes l ThenError w.retry nothing_passed) (λ s. record { units = refl; written = refl }))
  meaning_continues Stop w x = statement_continues w.program false (completes (Stops _)) (continues_goes _)
  meaning_continues (Run n args quiet) w x =
      statement_continues w.program quiet (runs w n args) (λ s ans more. given_all_continues (argument_values w.program args (procedure_at w.program n).parameters w.retry s) (w.calls n args) (x n args) s ans more)
  meaning_continues (Import n targets quiet) w x =
      statement_continues w.program quiet (imports w.program n targets w.retry) (λ s ans more. imports_line_continues w.program n targets w.retry (line_now w.program n targets s) s ans more)
  meaning_continues (Export n es) w x =
      statement_continues w.program false (all_values w.program es w.retry (λ vs. writes_to n (export_line vs)))
      (λ s ans more. given_all_continues (values_now w.program es w.retry s) (λ vs. writes_to n (export_line vs)) (λ vs. writes_to_continues n (export_line vs)) s ans more)
  meaning_continues (ExportRecord n b) w x = statement_continues w.program false (λ s ans. exports_record n b (content_of b s) s ans) (λ s ans more. exports_continues n b (content_of b s) s ans more)
  meaning_continues (PutItems n items) w x =
      statement_continues w.program false (λ s ans. given_text (put_text w.program items w.retry s) (writes_to n) s ans) (λ s ans more. given_text_continues (put_text w.program items w.retry s) (writes_to n) (writes_to_continues n) s ans more)
  meaning_continues (Message es) w x =
      statement_continues w.program false (all_values w.program es w.retry (λ vs. writes_to 0 (message_line vs)))
      (λ s ans more. given_all_continues (values_now w.program es w.retry s) (λ vs. writes_to 0 (message_line vs)) (λ vs. writes_to_continues 0 (message_line vs)) s ans more)
  meaning_continues (OutputTo n output append) w x = statement_continues w.program false (opens_output n output append) (opens_output_continues n output append)
  meaning_continues (OutputClose n) w x = statement_continues w.program false (update_then (closes_output n) (completes Normal)) (then_ran (closes_output n) Normal (λ s. record { units = refl; written = refl }))
  meaning_continues (InputFrom n input) w x = statement_continues w.program false (update_then (opens_input n (Some input)) (completes Normal)) (then_ran (opens_input n (Some input)) Normal (λ s. record { units = refl; written = refl }))
  meaning_continues (InputClose n) w x = statement_continues w.program false (update_then (opens_input n None) (completes Normal)) (then_ran (opens_input n None) Normal (λ s. record { units = refl; written = refl }))

  pub meaning_all_continues : (body : Body) (w : Context) → CallsGoOn w → Continues (meaning_all body w)
  meaning_all_continues Nothing w x = continues_goes Normal
  meaning_all_continues (Then t rest) w x = continues_then (meaning t w) (meaning_all rest w) (meaning_continues t w x) (meaning_all_continues rest w x)

-- ---- procedures

pub copied_out_keeps : (args : List Argument) (xs : List Variable) (f : CallFrame) (s : State) → Keeps (copied_out args xs f) s
copied_out_keeps [] xs f s = record { units = refl; written = refl }
copied_out_keeps (a ∷ rest) [] f s = record { units = refl; written = refl }
copied_out_keeps (In e ∷ rest) (x ∷ xs) f s = let k = copied_out_keeps rest xs f s in record { units = k.units; written = k.written }
copied_out_keeps (InOut y ∷ rest) (x ∷ xs) f s = let k = copied_out_keeps rest xs f (assigned y (value_in x.undoable x.number f) s) in record { units = k.units; written = k.written }
copied_out_keeps (Out y ∷ rest) (x ∷ xs) f s = let k = copied_out_keeps rest xs f (assigned y (value_in x.undoable x.number f) s) in record { units = k.units; written = k.written }

pub comes_out_keeps : (args : List Argument) (q : Procedure) (s : State) → Keeps (λ s. copied_out args q.parameters (own_frame s.frames) (without_frame s)) s
comes_out_keeps args q s = let k = copied_out_keeps args q.parameters (own_frame s.frames) (without_frame s) in record { units = k.units; written = k.written }

pub returned_completion_continues : (args : List Argument) (q : Procedure) (completion : Completion) → Continues (returned_completion args q completion)
returned_completion_continues args q Normal s ans more = then_ran (λ s. copied_out args q.parameters (own_frame s.frames) (without_frame s)) Normal (comes_out_keeps args q) s ans more
returned_completion_continues args q (Returns false) s ans more = then_ran (λ s. copied_out args q.parameters (own_frame s.frames) (without_frame s)) Normal (comes_out_keeps args q) s ans more
returned_completion_continues args q (Returns true) s ans more = then_ran without_frame (Faults None) (λ s. record { units = refl; written = refl }) s ans more
returned_completion_continues args q completion s ans more = continues_goes completion s ans more

pub calls_go_on : (p : Program) (d n : ℕ) (args : List Argument) (vs : List Value) → Continues (calls_of p d n args vs)
calls_go_on p zero n args vs = continues_goes _
calls_go_on p (suc d) n args vs =
    let body = λ (retry : Bool). meaning_all (procedure_at p n).body (record { program = p; calls = calls_of p d; retry = retry }) in
    let go = block p (procedure_at p n).header false body in
    continues_handled (update_then (opened_frame p n args vs) go) (returned args (procedure_at p n)) (returned_completion args (procedure_at p n)) (record { completes = λ completion s ans. refl; stands = λ d. refl })
    (continues_first (opened_frame p n args vs) go (λ s. record { units = refl; written = refl })
    (block_continues p (procedure_at p n).header false body (λ retry. meaning_all_continues (procedure_at p n).body (record { program = p; calls = calls_of p d; retry = retry }) (calls_go_on p d))))
    (returned_completion_continues args (procedure_at p n))
