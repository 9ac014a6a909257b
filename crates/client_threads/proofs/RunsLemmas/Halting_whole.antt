-- Blocks, statements and procedures halt.
use Rattle.std.proofs.Common.{◌≡◌, refl, ℕ, zero, suc, ◌+◌, ◌==◌, nat_lt, List, [], ◌∷◌, Bool, true, false, Option, Some, None, arith}
use Rattle.std.specs.Prelude.{pos}
use Rattle.abl_base.specs.declared.limits.TheConstants.{MAX_OUTPUT_BYTES}
use Rattle.abl_base.specs.declared.value.Value.{Value}
use Rattle.abl_base.specs.declared.value.Value.TheVariants.{Int64}
use Rattle.database_protocol.specs.declared.operation.Op.TheVariants as op
use Rattle.database_protocol.specs.declared.answer.Answer.{Answer}
use Rattle.database_protocol.specs.declared.ends.ClientEnd.{ClientEnd}
use Rattle.bound_tree.specs.declared.expression.Variable.{Variable}
use Rattle.bound_tree.specs.declared.statement.Target.{Target}
use Rattle.bound_tree.specs.Tree.{Expr, Header, ToPhrase, Fetch, Action, ThenRetry, ThenLeave, ThenNext, ThenReturn, ThenError, OnPhrase, Procedure, Argument, In, Out, InOut, Stmt, Inner, Choose, Assign, Find, FindCurrent, Create, Remove, Release, UndoBlock, LeaveBlock, NextBlock, Return, ReturnError, Stop, Run, Import, Export, ExportRecord, PutItems, Message, OutputTo, OutputClose, InputFrom, InputClose, Body, Nothing, Then}
use Rattle.expression_meaning.specs.Operators.{holds}
use Rattle.abl_base.specs.text_forms.TextForms.{Imported, AtInputEnd, BadElement, Elements}
use Rattle.block_meaning.specs.declared.wants.Piece.{Piece}
use Rattle.block_meaning.specs.declared.wants.Piece.TheVariants.{Wrote, Opened}
use Rattle.block_meaning.specs.Program.{Program, procedure_at}
use Rattle.block_meaning.specs.Lines.{Complaint, BadField, NoRecordIn}
use Rattle.block_meaning.specs.State.{State, CallFrame, Copy, Passed, nothing_passed, Stream, Content, Empty, Record, Pending, Turn, Completion, Normal, Again, Leaves, Nexts, Undoes, Faults, Raises, EndKeys, Found, Returns, Stops, Done, Continuation, completes, if_else, update_then, and_then, bytes_in, written_if, wrote, writes}
use Rattle.block_meaning.specs.Frames.{own_frame, value_in, value_of, assigned, content_of, emptied, all_emptied, put_back, copy_of}
use Rattle.block_meaning.specs.Values.{Evaluated, Gives, Fails, value_now, values_now, given, given_text, put_text, export_line, message_line, fit, all_values}
use Rattle.block_meaning.specs.Buffers.{enters_all, enters_places, all_places, own, releases_all, releases, updates_places, leaves}
use Rattle.block_meaning.specs.Reads.{fetches, finds, finds_current}
use Rattle.block_meaning.specs.Changes.{assigns, creates, deletes}
use Rattle.block_meaning.specs.Blocks.{line_piece, complained, complains, errs, iterates, handles_endkey, Iteration, passed_with, next_turn, after_iteration, after_back, goes_back, returns_with, closes, instead_of_retry, acts, undone, passes, undo_comes, error_to, error_comes, endkey_to, leaves_if, enters_rest, closing, after_closing, ended, ends_with, ends, enters_at, none_left, runs_body, fetched_completion, fetched, begins_as, begins, deeper, inside, enters_level, while_holds, counts_down, in_bound, reaches, set_to, next_value, advances, advances_if, retry_in, iteration, if_again, and_again, turns, first_turn, by_of, block_from, block}
use Rattle.block_meaning.specs.Streams.{stream_at, with_stream, writes_to, opens_output, closes_output, opens_input, exports_record, read_up_to, read_to, pairs_of, imports_line, line_now, imports}
use Rattle.block_meaning.specs.Meaning.{with_status, cleared, handled_completion, handled, statement, chosen, quiet_completion, quiet_result, quiet_find, argument_values, copied_out, without_frame, returned_completion, returned, Context, retrying, runs, meaning, meaning_all, opened_frame, calls_of}
use Rattle.block_meaning.proofs.Continues.{begins_itself, Keeps, Stays}
use Rattle.client_threads.proofs.RunsLemmas.Halting.{Halting, Handles, halts_goes, halts_where, halts_first, halts_charged, halts_asks, halts_handled, halts_then, halts_done}
use Rattle.client_threads.proofs.RunsLemmas.Halting_parts.{all_emptied_keeps, then_ran, given_halts, given_all_halts, given_text_halts, enters_places_halts, releases_halts, releases_all_halts, leaves_halts, updates_places_halts, fetches_halts, finds_halts, finds_current_halts}
use Rattle.client_threads.proofs.RunsLemmas.Halting_changes.{assigns_halts, creates_halts, deletes_halts}

-- ---- writing

pub written_if_stays : (b : Bool) (piece : Piece) (s : State) → Stays (written_if b piece) s
written_if_stays true piece s = record { units = omega arith; written = begins_itself s.written }
written_if_stays false piece s = record { units = omega arith; written = (piece ∷ [], refl) }

pub writes_halts : (piece : Piece) → Halting (writes piece)
writes_halts piece =
    halts_done (wrote piece) (λ s. let x = written_if_stays (nat_lt MAX_OUTPUT_BYTES (s.size + bytes_in piece)) piece s in record { units = x.units; written = x.written })

pub complained_stays : (p : Program) (c : Option Complaint) (s : State) → Stays (complained p c) s
complained_stays p None s = record { units = omega arith; written = begins_itself s.written }
complained_stays p (Some c) s =
    let x = written_if_stays (nat_lt MAX_OUTPUT_BYTES (s.size + bytes_in (line_piece p c s))) (line_piece p c s) s in record { units = x.units; written = x.written }

pub errs_halts : (p : Program) (c : Option Complaint) (go : Continuation) → Halting go → Halting (errs p c go)
errs_halts p c go x = halts_then (complains p c) go (halts_done (complained p c) (complained_stays p c)) x

-- ---- UNDO

pub goes_back_halts : (o : Option Copy) (but : List ℕ) → Halting (goes_back o but)
goes_back_halts None but = halts_goes Normal
goes_back_halts (Some copy) but = halts_asks (op.Back copy.depth) tt (λ a. after_back copy but) (λ a. after_back_halts)
  where
    after_back_halts : Halting (after_back copy but)
    after_back_halts s ans more =
        halts_first (put_back copy)
        (λ t ans. and_then (and_then (updates_places copy.made but (all_places (put_back copy s)) t ans) (leaves but)) (update_then (all_emptied but) (completes Normal)))
        (λ s. record { units = refl; written = refl })
        (halts_then (λ t ans. and_then (updates_places copy.made but (all_places (put_back copy s)) t ans) (leaves but)) (update_then (all_emptied but) (completes Normal))
        (halts_then (updates_places copy.made but (all_places (put_back copy s))) (leaves but) (updates_places_halts copy.made but (all_places (put_back copy s))) (leaves_halts but))
        (then_ran (all_emptied but) Normal (all_emptied_keeps but))) s ans more

pub closes_halts : (p : Program) (b : Header) (o : Iteration) (completion : Completion) → Halting (closes p b o completion)
closes_halts p b o completion = halts_then (releases_all p b.scoped) (completes (after_iteration b o completion)) (releases_all_halts p b.scoped) (halts_goes (after_iteration b o completion))

pub acts_halts : (p : Program) (b : Header) (o : Iteration) (action : Action) (retry : Bool) → Halting (acts p b o action retry)
acts_halts p b o ThenRetry retry =
    halts_where b.flags.retry_seen (completes (Again (next_turn true o.turn))) (closes p b o (instead_of_retry (iterates b) b.number)) (halts_goes (Again (next_turn true o.turn))) (closes_halts p b o (instead_of_retry (iterates b) b.number))
acts_halts p b o (ThenLeave l) retry = closes_halts p b o (Leaves l)
acts_halts p b o (ThenNext l) retry = closes_halts p b o (Nexts l)
acts_halts p b o (ThenReturn error e) retry = halts_first (returns_with p e retry) (closes p b o (Returns error)) (λ s. record { units = refl; written = refl }) (closes_halts p b o (Returns error))
acts_halts p b o ThenError retry = closes_halts p b o (Returns true)

pub passes_halts : (p : Program) (b : Header) (one other : Completion) → Halting (passes p b one other)
passes_halts p b one other s ans more =
    halts_where (s.level == 0) (λ s ans. and_then (releases_all p b.scoped s ans) (completes one)) (completes other) (halts_then (releases_all p b.scoped) (completes one) (releases_all_halts p b.scoped) (halts_goes one)) (halts_goes other) s ans more

pub undo_comes_halts : (p : Program) (b : Header) (o : Iteration) (target : ℕ) (action : Action) (retry : Bool) (passed : Passed) → Halting (undo_comes p b o target action retry passed)
undo_comes_halts p b o target action retry passed =
    halts_where (target == b.number) (undone p b o action retry (passed_with b o passed)) (passes p b (Undoes target action retry passed) (Undoes target action retry (passed_with b o passed)))
    (halts_then (goes_back (passed_with b o passed).first (passed_with b o passed).buffers) (acts p b o action retry) (goes_back_halts (passed_with b o passed).first (passed_with b o passed).buffers) (acts_halts p b o action retry))
    (passes_halts p b (Undoes target action retry passed) (Undoes target action retry (passed_with b o passed)))

pub error_to_halts : (p : Program) (b : Header) (o : Iteration) (on : Option OnPhrase) (passed : Passed) → Halting (error_to p b o on passed)
error_to_halts p b o None passed = undo_comes_halts p b o b.number ThenRetry o.turn.retry passed
error_to_halts p b o (Some on) passed = undo_comes_halts p b o on.target on.action o.turn.retry passed

pub error_comes_halts : (p : Program) (b : Header) (o : Iteration) (passed : Passed) → Halting (error_comes p b o passed)
error_comes_halts p b o passed =
    halts_where b.flags.undo (error_to p b o b.on_error passed) (passes p b (Raises passed) (Raises (passed_with b o passed))) (error_to_halts p b o b.on_error passed) (passes_halts p b (Raises passed) (Raises (passed_with b o passed)))

pub endkey_to_halts : (p : Program) (b : Header) (o : Iteration) (on : Option OnPhrase) (passed : Passed) → Halting (endkey_to p b o on passed)
endkey_to_halts p b o None passed =
    halts_where (handles_endkey b) (undo_comes p b o b.number (ThenLeave b.number) o.turn.retry passed) (passes p b (EndKeys passed) (EndKeys (passed_with b o passed)))
    (undo_comes_halts p b o b.number (ThenLeave b.number) o.turn.retry passed) (passes_halts p b (EndKeys passed) (EndKeys (passed_with b o passed)))
endkey_to_halts p b o (Some on) passed = undo_comes_halts p b o on.target on.action o.turn.retry passed

-- ---- the end of an iteration

pub leaves_if_halts : (o : Option Copy) (but : List ℕ) → Halting (leaves_if o but)
leaves_if_halts None but = halts_goes Normal
leaves_if_halts (Some copy) but = leaves_halts but

pub enters_rest_halts : (p : Program) (o : Option Copy) → Halting (enters_rest p o)
enters_rest_halts p None s ans more = halts_goes Normal s ans more
enters_rest_halts p (Some copy) s ans more =
    halts_where (copy.depth == 1) (λ s ans. enters_places p (all_places s) s ans) (completes Normal) (λ s ans more. enters_places_halts p (all_places s) s ans more) (halts_goes Normal) s ans more

pub closing_halts : (p : Program) (b : Header) (o : Iteration) → Halting (closing p b o)
closing_halts p b o =
    halts_then (λ s ans. and_then (and_then (enters_all p b.scoped s ans) (releases_all p b.scoped)) (enters_rest p o.copy)) (leaves_if o.copy b.scoped)
    (halts_then (λ s ans. and_then (enters_all p b.scoped s ans) (releases_all p b.scoped)) (enters_rest p o.copy)
    (halts_then (enters_all p b.scoped) (releases_all p b.scoped) (λ s ans more. enters_places_halts p _ s ans more) (releases_all_halts p b.scoped))
    (enters_rest_halts p o.copy))
    (leaves_if_halts o.copy b.scoped)

-- what follows the end of an iteration
abbrev pub after_closing_completion : Program → Header → Iteration → Completion → Completion → Continuation
after_closing_completion p b o completion Normal = completes (after_iteration b o completion)
after_closing_completion p b o completion (Faults c) = errs p c (error_comes p b o nothing_passed)
after_closing_completion p b o completion other = completes other

pub after_closing_handles : (p : Program) (b : Header) (o : Iteration) (completion : Completion) → Handles (after_closing p b o completion) (after_closing_completion p b o completion)
after_closing_handles p b o completion = record { completes = same; stands = λ d. refl; stops = λ e s ans. refl }
  where
    same : (other : Completion) (s : State) (ans : List Answer) → after_closing p b o completion (Done other s ans) ≡ after_closing_completion p b o completion other s ans
    same Normal s ans = refl
    same (Faults c) s ans = refl
    same other s ans = refl

pub after_closing_completion_halts : (p : Program) (b : Header) (o : Iteration) (completion other : Completion) → Halting (after_closing_completion p b o completion other)
after_closing_completion_halts p b o completion Normal s ans more = halts_goes (after_iteration b o completion) s ans more
after_closing_completion_halts p b o completion (Faults c) s ans more = errs_halts p c (error_comes p b o nothing_passed) (error_comes_halts p b o nothing_passed) s ans more
after_closing_completion_halts p b o completion other s ans more = halts_goes other s ans more

pub ended_halts : (p : Program) (b : Header) (o : Iteration) (completion : Completion) → Halting (ended p b o completion)
ended_halts p b o completion = halts_handled (closing p b o) (after_closing p b o completion) (after_closing_completion p b o completion) (after_closing_handles p b o completion) (closing_halts p b o) (after_closing_completion_halts p b o completion)

pub ends_with_halts : (p : Program) (b : Header) (o : Iteration) (completion : Completion) → Halting (ends_with p b o completion)
ends_with_halts p b o (Undoes target action retry passed) s ans more = undo_comes_halts p b o target action retry passed s ans more
ends_with_halts p b o (Raises passed) s ans more = error_comes_halts p b o passed s ans more
ends_with_halts p b o (EndKeys passed) s ans more = endkey_to_halts p b o b.on_endkey passed s ans more
ends_with_halts p b o (Stops end) s ans more = halts_goes (Stops end) s ans more
ends_with_halts p b o completion s ans more = ended_halts p b o completion s ans more

-- ---- an iteration

pub runs_body_halts : (p : Program) (b : Header) (copy : Option Copy) (t : Turn) (body : Continuation) → Halting body → Halting (runs_body p b copy t body)
runs_body_halts p b copy t body x =
    halts_handled body (ends p b (record { copy = copy; turn = t })) (ends_with p b (record { copy = copy; turn = t })) (record { completes = λ completion s ans. refl; stands = λ d. refl; stops = λ e s ans. refl }) x (ends_with_halts p b (record { copy = copy; turn = t }))

pub none_left_halts : (b : Header) (copy : Option Copy) (buffer : ℕ) → Halting (none_left b copy buffer)
none_left_halts b copy buffer = halts_first (emptied buffer) (leaves_if copy b.scoped) (λ s. record { units = refl; written = refl }) (leaves_if_halts copy b.scoped)

pub fetched_completion_halts : (p : Program) (b : Header) (copy : Option Copy) (t : Turn) (buffer : ℕ) (body : Continuation) → Halting body → (completion : Completion) → Halting (fetched_completion p b copy t buffer body completion)
fetched_completion_halts p b copy t buffer body x (Found own) s ans more = runs_body_halts p b copy (record t { own = Some own }) body x s ans more
fetched_completion_halts p b copy t buffer body x (Faults c) s ans more =
    halts_then (goes_back copy b.scoped) (completes (Faults c)) (goes_back_halts copy b.scoped) (halts_goes (Faults c)) s ans more
fetched_completion_halts p b copy t buffer body x (Stops end) s ans more = halts_goes (Stops end) s ans more
fetched_completion_halts p b copy t buffer body x completion s ans more = none_left_halts b copy buffer s ans more

pub begins_halts : (f : Option Fetch) (p : Program) (b : Header) (copy : Option Copy) (t : Turn) (retry : Bool) (body : Continuation) → Halting body → Halting (begins_as f p b copy t retry body)
begins_halts None p b copy t retry body x = runs_body_halts p b copy t body x
begins_halts (Some f) p b copy t retry body x =
    halts_handled (fetches p f t retry) (fetched p b copy t f.reading.buffer body) (fetched_completion p b copy t f.reading.buffer body) (record { completes = λ completion s ans. refl; stands = λ d. refl; stops = λ e s ans. refl }) (fetches_halts p f t retry) (fetched_completion_halts p b copy t f.reading.buffer body x)

pub enters_level_halts : (p : Program) (b : Header) (t : Turn) (retry : Bool) (body : Continuation) → Halting body → Halting (enters_level p b t retry body)
enters_level_halts p b t retry body x s ans more =
    halts_where (enters_at b s.level) (inside p b t retry body) (begins p b None t retry body)
    (halts_asks op.Enter tt (λ a s ans. begins p b (Some (copy_of s)) t retry body (deeper s) ans)
    (λ a s ans more. halts_first deeper (begins p b (Some (copy_of s)) t retry body) (λ s. record { units = refl; written = refl }) (begins_halts b.fetch p b (Some (copy_of s)) t retry body x) s ans more))
    (begins_halts b.fetch p b None t retry body x) s ans more

pub while_halts : (p : Program) (e : Option Expr) (retry : Bool) (go : Continuation) → Halting go → Halting (while_holds p e retry go)
while_halts p None retry go x s ans more = x s ans more
while_halts p (Some e) retry go x s ans more =
    given_halts (value_now p e retry s) (λ v. if_else (holds v) go (completes Normal)) (λ v. halts_where (holds v) go (completes Normal) x (halts_goes Normal)) s ans more

pub reaches_halts : (p : Program) (l : ToPhrase) (by : Value) (retry : Bool) (go : Continuation) → Halting go → Halting (reaches p l by retry go)
reaches_halts p l by retry go x s ans more =
    given_halts (value_now p l.end retry s) (λ end s ans. if_else (in_bound (counts_down by) (value_of l.variable s) end) go (completes Normal) s ans)
    (λ end s ans more. halts_where (in_bound (counts_down by) (value_of l.variable s) end) go (completes Normal) x (halts_goes Normal) s ans more) s ans more

pub set_to_halts : (p : Program) (l : ToPhrase) (by : Value) (retry : Bool) (v : Evaluated) (go : Continuation) → Halting go → Halting (set_to p l by retry v go)
set_to_halts p l by retry v go x =
    given_halts v (λ v. given (fit l.variable.kind v) (λ v. update_then (assigned l.variable v) (reaches p l by retry go)))
    (λ v. given_halts (fit l.variable.kind v) (λ v. update_then (assigned l.variable v) (reaches p l by retry go))
    (λ v. halts_first (assigned l.variable v) (reaches p l by retry go) (λ s. record { units = refl; written = refl }) (reaches_halts p l by retry go x)))

pub advances_halts : (p : Program) (l : ToPhrase) (t : Turn) (retry : Bool) (start : Option Value) (go : Continuation) → Halting go → Halting (advances p l t retry start go)
advances_halts p l t retry None go x s ans more = set_to_halts p l t.by retry (next_value l t s) go x s ans more
advances_halts p l t retry (Some v) go x s ans more = set_to_halts p l t.by retry (Gives v) go x s ans more

pub advances_if_halts : (p : Program) (l : Option ToPhrase) (t : Turn) (retry : Bool) (go : Continuation) → Halting go → Halting (advances_if p l t retry go)
advances_if_halts p None t retry go x = x
advances_if_halts p (Some l) t retry go x = halts_where t.retry go (advances p l t retry t.start go) x (advances_halts p l t retry t.start go x)

pub iteration_halts : (p : Program) (b : Header) (outer : Bool) (body : Bool → Continuation) → ((retry : Bool) → Halting (body retry)) → (t : Turn) → Halting (iteration p b outer body t)
iteration_halts p b outer body x t =
    let retry = retry_in b t outer in
    let go = enters_level p b (record t { start = None }) retry (body retry) in
    halts_charged (advances_if p b.to t retry (while_holds p b.while_test retry go))
    (advances_if_halts p b.to t retry (while_holds p b.while_test retry go)
    (while_halts p b.while_test retry go (enters_level_halts p b (record t { start = None }) retry (body retry) (x retry))))

-- ---- a block

pub if_again_halts : (next : Turn → Continuation) → ((t : Turn) → Halting (next t)) → (completion : Completion) → Halting (if_again completion next)
if_again_halts next x (Again t) s ans more = x t s ans more
if_again_halts next x completion s ans more = halts_goes completion s ans more

pub turns_halts : (n : ℕ) (p : Program) (b : Header) (outer : Bool) (body : Bool → Continuation) → ((retry : Bool) → Halting (body retry)) → (t : Turn) → Halting (turns n p b outer body t)
turns_halts zero p b outer body x t = halts_goes _
turns_halts (suc n) p b outer body x t =
    halts_handled (iteration p b outer body t) (λ r. and_again r (turns n p b outer body)) (λ completion. if_again completion (turns n p b outer body)) (record { completes = λ completion s ans. refl; stands = λ d. refl; stops = λ e s ans. refl })
    (iteration_halts p b outer body x t) (if_again_halts (turns n p b outer body) (turns_halts n p b outer body x))

pub by_halts : (p : Program) (e : Option Expr) (outer : Bool) (go : Value → Continuation) → ((v : Value) → Halting (go v)) → Halting (by_of p e outer go)
by_halts p None outer go x s ans more = x (Int64 (pos 1)) s ans more
by_halts p (Some e) outer go x s ans more = given_halts (value_now p e outer s) go x s ans more

pub block_from_halts : (l : Option ToPhrase) (p : Program) (b : Header) (outer : Bool) (body : Bool → Continuation) → ((retry : Bool) → Halting (body retry)) → Halting (block_from l p b outer body)
block_from_halts None p b outer body x s ans more = turns_halts s.units p b outer body x _ s ans more
block_from_halts (Some l) p b outer body x s ans more =
    given_halts (value_now p l.start outer s) (λ v. by_of p l.by outer (λ w s ans. turns s.units p b outer body (first_turn (Some v) w) s ans))
    (λ v. by_halts p l.by outer (λ w s ans. turns s.units p b outer body (first_turn (Some v) w) s ans) (λ w s ans more. turns_halts s.units p b outer body x (first_turn (Some v) w) s ans more)) s ans more

pub block_halts : (p : Program) (b : Header) (outer : Bool) (body : Bool → Continuation) → ((retry : Bool) → Halting (body retry)) → Halting (block p b outer body)
block_halts p b outer body x = block_from_halts b.to p b outer body x

-- ---- streams

pub read_up_to_keeps : (input : Option ℕ) (n : ℕ) (x : Stream) (next : ℕ) (s : State) → Keeps (read_up_to input n x next) s
read_up_to_keeps None n x next s = record { units = refl; written = refl }
read_up_to_keeps (Some i) n x next s = record { units = refl; written = refl }

pub read_to_keeps : (n next : ℕ) (s : State) → Keeps (read_to n next) s
read_to_keeps n next s = let x = read_up_to_keeps (stream_at n s).input n (stream_at n s) next s in record { units = x.units; written = x.written }

pub writes_to_halts : (n : ℕ) (bytes : List ℕ) → Halting (writes_to n bytes)
writes_to_halts n bytes s ans more = writes_halts (Wrote (stream_at n s).output bytes) s ans more

pub opens_output_halts : (n output : ℕ) (append : Bool) → Halting (opens_output n output append)
opens_output_halts n output append =
    halts_first (λ s. with_stream n (record (stream_at n s) { output = Some output }) s) (writes (Opened output append)) (λ s. record { units = refl; written = refl }) (writes_halts (Opened output append))

pub exports_halts : (n b : ℕ) (c : Content) → Halting (exports_record n b c)
exports_halts n b Empty = halts_goes (Faults (Some (NoRecordIn b)))
exports_halts n b (Record row values held made) = writes_to_halts n (export_line values)
exports_halts n b (Pending values since made) = writes_to_halts n (export_line values)

pub imports_line_halts : (p : Program) (n : ℕ) (ts : List (Option Target)) (retry : Bool) (line : Imported) → Halting (imports_line p n ts retry line)
imports_line_halts p n ts retry AtInputEnd = halts_goes (EndKeys nothing_passed)
imports_line_halts p n ts retry (BadElement number next) = then_ran (read_to n next) (Faults (Some (BadField number))) (read_to_keeps n next)
imports_line_halts p n ts retry (Elements vs next) = halts_first (read_to n next) (assigns p (pairs_of ts vs) retry) (read_to_keeps n next) (assigns_halts p (pairs_of ts vs) retry)

-- ---- statements

pub handled_completion_halts : (p : Program) (quiet : Bool) (completion : Completion) → Halting (handled_completion p quiet completion)
handled_completion_halts p false (Faults c) s ans more = errs_halts p c (completes (Raises nothing_passed)) (halts_goes (Raises nothing_passed)) s ans more
handled_completion_halts p true (Faults c) s ans more = then_ran (with_status true) Normal (λ s. record { units = refl; written = refl }) s ans more
handled_completion_halts p quiet completion s ans more = halts_goes completion s ans more

pub cleared_keeps : (quiet : Bool) (s : State) → Keeps (cleared quiet) s
cleared_keeps true s = record { units = refl; written = refl }
cleared_keeps false s = record { units = refl; written = refl }

handled_stop : (p : Program) (quiet : Bool) (e : ClientEnd) (s : State) (ans : List Answer) → handled p quiet (Done (Stops e) s ans) ≡ Done (Stops e) s ans
handled_stop p true e s ans = refl
handled_stop p false e s ans = refl

quiet_stop : (quiet : Bool) (e : ClientEnd) (s : State) (ans : List Answer) → quiet_result quiet (Done (Stops e) s ans) ≡ Done (Stops e) s ans
quiet_stop true e s ans = refl
quiet_stop false e s ans = refl

pub statement_halts : (p : Program) (quiet : Bool) (does : Continuation) → Halting does → Halting (statement p quiet does)
statement_halts p quiet does x =
    halts_charged (λ s ans. handled p quiet (does (cleared quiet s) ans))
    (halts_handled (update_then (cleared quiet) does) (handled p quiet) (handled_completion p quiet) (record { completes = λ completion s ans. refl; stands = λ d. refl; stops = λ e s ans. handled_stop p quiet e s ans }) (halts_first (cleared quiet) does (cleared_keeps quiet) x) (handled_completion_halts p quiet))

pub chosen_halts : (p : Program) (v : Evaluated) (one other : Continuation) → Halting one → Halting other → Halting (chosen p v one other)
chosen_halts p (Gives v) one other x y = halts_where (holds v) one other x y
chosen_halts p (Fails c) one other x y = errs_halts p (Some c) (completes (Raises nothing_passed)) (halts_goes (Raises nothing_passed))

pub quiet_completion_halts : (quiet : Bool) (completion : Completion) → Halting (quiet_completion quiet completion)
quiet_completion_halts true (EndKeys passed) s ans more = halts_goes (Faults None) s ans more
quiet_completion_halts quiet completion s ans more = halts_goes completion s ans more

pub quiet_find_halts : (quiet : Bool) (does : Continuation) → Halting does → Halting (quiet_find quiet does)
quiet_find_halts quiet does x = halts_handled does (quiet_result quiet) (quiet_completion quiet) (record { completes = λ completion s ans. refl; stands = λ d. refl; stops = λ e s ans. quiet_stop quiet e s ans }) x (quiet_completion_halts quiet)

-- what a RUN does continues
abbrev pub CallsHalt : Context → Type 0
CallsHalt w = (n : ℕ) (args : List Argument) (vs : List Value) → Halting (w.calls n args vs)

mutual
  pub meaning_halts : (t : Stmt) (w : Context) → CallsHalt w → Halting (meaning t w)
  meaning_halts (Inner b body) w x =
      statement_halts w.program false (block w.program b w.retry (λ retry. meaning_all body (retrying w retry)))
      (block_halts w.program b w.retry (λ retry. meaning_all body (retrying w retry)) (λ retry. meaning_all_halts body (retrying w retry) x))
  meaning_halts (Choose test then_it else_it) w x =
      halts_charged (λ s ans. chosen w.program (value_now w.program test w.retry s) (meaning_all then_it w) (meaning_all else_it w) s ans)
      (λ s ans more. chosen_halts w.program (value_now w.program test w.retry s) (meaning_all then_it w) (meaning_all else_it w) (meaning_all_halts then_it w x) (meaning_all_halts else_it w x) s ans more)
  meaning_halts (Assign pairs quiet) w x = statement_halts w.program quiet (assigns w.program pairs w.retry) (assigns_halts w.program pairs w.retry)
  meaning_halts (Find word reading wait quiet) w x =
      statement_halts w.program quiet (quiet_find quiet (finds w.program word reading wait w.retry)) (quiet_find_halts quiet (finds w.program word reading wait w.retry) (finds_halts w.program word reading wait w.retry))
  meaning_halts (FindCurrent reading wait quiet) w x = statement_halts w.program quiet (finds_current reading wait) (finds_current_halts reading wait)
  meaning_halts (Create b quiet) w x = statement_halts w.program quiet (creates w.program b) (creates_halts w.program b)
  meaning_halts (Remove b quiet) w x = statement_halts w.program quiet (deletes b) (deletes_halts b)
  meaning_halts (Release b quiet) w x = statement_halts w.program quiet (releases w.program b) (releases_halts w.program b)
  meaning_halts (UndoBlock l action) w x = statement_halts w.program false (completes (Undoes l action w.retry nothing_passed)) (halts_goes _)
  meaning_halts (LeaveBlock l) w x = statement_halts w.program false (completes (Leaves l)) (halts_goes (Leaves l))
  meaning_halts (NextBlock l) w x = statement_halts w.program false (completes (Nexts l)) (halts_goes (Nexts l))
  meaning_halts (Return e) w x =
      statement_halts w.program false (update_then (returns_with w.program e w.retry) (completes (Returns false))) (then_ran (returns_with w.program e w.retry) (Returns false) (λ s. record { units = refl; written = refl }))
  meaning_halts (ReturnError l e) w x =
      statement_halts w.program false (update_then (returns_with w.program e w.retry) (completes (Undoes l ThenError w.retry nothing_passed))) (then_ran (returns_with w.program e w.retry) (Undoes l ThenError w.retry nothing_passed) (λ s. record { units = refl; written = refl }))
  meaning_halts Stop w x = statement_halts w.program false (completes (Stops _)) (halts_goes _)
  meaning_halts (Run n args quiet) w x =
      statement_halts w.program quiet (runs w n args) (λ s ans more. given_all_halts (argument_values w.program args (procedure_at w.program n).parameters w.retry s) (w.calls n args) (x n args) s ans more)
  meaning_halts (Import n targets quiet) w x =
      statement_halts w.program quiet (imports w.program n targets w.retry) (λ s ans more. imports_line_halts w.program n targets w.retry (line_now w.program n targets s) s ans more)
  meaning_halts (Export n es) w x =
      statement_halts w.program false (all_values w.program es w.retry (λ vs. writes_to n (export_line vs)))
      (λ s ans more. given_all_halts (values_now w.program es w.retry s) (λ vs. writes_to n (export_line vs)) (λ vs. writes_to_halts n (export_line vs)) s ans more)
  meaning_halts (ExportRecord n b) w x = statement_halts w.program false (λ s ans. exports_record n b (content_of b s) s ans) (λ s ans more. exports_halts n b (content_of b s) s ans more)
  meaning_halts (PutItems n items) w x =
      statement_halts w.program false (λ s ans. given_text (put_text w.program items w.retry s) (writes_to n) s ans) (λ s ans more. given_text_halts (put_text w.program items w.retry s) (writes_to n) (writes_to_halts n) s ans more)
  meaning_halts (Message es) w x =
      statement_halts w.program false (all_values w.program es w.retry (λ vs. writes_to 0 (message_line vs)))
      (λ s ans more. given_all_halts (values_now w.program es w.retry s) (λ vs. writes_to 0 (message_line vs)) (λ vs. writes_to_halts 0 (message_line vs)) s ans more)
  meaning_halts (OutputTo n output append) w x = statement_halts w.program false (opens_output n output append) (opens_output_halts n output append)
  meaning_halts (OutputClose n) w x = statement_halts w.program false (update_then (closes_output n) (completes Normal)) (then_ran (closes_output n) Normal (λ s. record { units = refl; written = refl }))
  meaning_halts (InputFrom n input) w x = statement_halts w.program false (update_then (opens_input n (Some input)) (completes Normal)) (then_ran (opens_input n (Some input)) Normal (λ s. record { units = refl; written = refl }))
  meaning_halts (InputClose n) w x = statement_halts w.program false (update_then (opens_input n None) (completes Normal)) (then_ran (opens_input n None) Normal (λ s. record { units = refl; written = refl }))

  pub meaning_all_halts : (body : Body) (w : Context) → CallsHalt w → Halting (meaning_all body w)
  meaning_all_halts Nothing w x = halts_goes Normal
  meaning_all_halts (Then t rest) w x = halts_then (meaning t w) (meaning_all rest w) (meaning_halts t w x) (meaning_all_halts rest w x)

-- ---- procedures

pub copied_out_keeps : (args : List Argument) (xs : List Variable) (f : CallFrame) (s : State) → Keeps (copied_out args xs f) s
copied_out_keeps [] xs f s = record { units = refl; written = refl }
copied_out_keeps (a ∷ rest) [] f s = record { units = refl; written = refl }
copied_out_keeps (In e ∷ rest) (x ∷ xs) f s = let k = copied_out_keeps rest xs f s in record { units = k.units; written = k.written }
copied_out_keeps (InOut y ∷ rest) (x ∷ xs) f s = let k = copied_out_keeps rest xs f (assigned y (value_in x.undoable x.number f) s) in record { units = k.units; written = k.written }
copied_out_keeps (Out y ∷ rest) (x ∷ xs) f s = let k = copied_out_keeps rest xs f (assigned y (value_in x.undoable x.number f) s) in record { units = k.units; written = k.written }

pub comes_out_keeps : (args : List Argument) (q : Procedure) (s : State) → Keeps (λ s. copied_out args q.parameters (own_frame s.frames) (without_frame s)) s
comes_out_keeps args q s = let k = copied_out_keeps args q.parameters (own_frame s.frames) (without_frame s) in record { units = k.units; written = k.written }

pub returned_completion_halts : (args : List Argument) (q : Procedure) (completion : Completion) → Halting (returned_completion args q completion)
returned_completion_halts args q Normal s ans more = then_ran (λ s. copied_out args q.parameters (own_frame s.frames) (without_frame s)) Normal (comes_out_keeps args q) s ans more
returned_completion_halts args q (Returns false) s ans more = then_ran (λ s. copied_out args q.parameters (own_frame s.frames) (without_frame s)) Normal (comes_out_keeps args q) s ans more
returned_completion_halts args q (Returns true) s ans more = then_ran without_frame (Faults None) (λ s. record { units = refl; written = refl }) s ans more
returned_completion_halts args q completion s ans more = halts_goes completion s ans more

pub calls_halt : (p : Program) (d n : ℕ) (args : List Argument) (vs : List Value) → Halting (calls_of p d n args vs)
calls_halt p zero n args vs = halts_goes _
calls_halt p (suc d) n args vs =
    let body = λ (retry : Bool). meaning_all (procedure_at p n).body (record { program = p; calls = calls_of p d; retry = retry }) in
    let go = block p (procedure_at p n).header false body in
    halts_handled (update_then (opened_frame p n args vs) go) (returned args (procedure_at p n)) (returned_completion args (procedure_at p n)) (record { completes = λ completion s ans. refl; stands = λ d. refl; stops = λ e s ans. refl })
    (halts_first (opened_frame p n args vs) go (λ s. record { units = refl; written = refl })
    (block_halts p (procedure_at p n).header false body (λ retry. meaning_all_halts (procedure_at p n).body (record { program = p; calls = calls_of p d; retry = retry }) (calls_halt p d))))
    (returned_completion_halts args (procedure_at p n))
