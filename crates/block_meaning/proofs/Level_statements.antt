-- Blocks, statements and procedures ask for Leave and Back of open levels only.
use Rattle.std.proofs.Common.{◌≡◌, refl, sym, subst, ℕ, zero, suc, List, [], ◌∷◌, Bool, true, false, Option, Some, None}
use Rattle.std.specs.Prelude.{pos}
use Rattle.abl_base.specs.declared.value.Value.{Value}
use Rattle.abl_base.specs.declared.value.Value.TheVariants.{Int64}
use Rattle.database_protocol.specs.declared.answer.Answer.{Answer}
use Rattle.bound_tree.specs.declared.expression.Variable.{Variable}
use Rattle.bound_tree.specs.declared.statement.Target.{Target}
use Rattle.bound_tree.specs.Tree.{Expr, Header, ToPhrase, ThenError, Procedure, Argument, In, Out, InOut, Stmt, Inner, Choose, Assign, Find, FindCurrent, Create, Remove, Release, UndoBlock, LeaveBlock, NextBlock, Return, ReturnError, Stop, Run, Import, Export, ExportRecord, PutItems, Message, OutputTo, OutputClose, InputFrom, InputClose, Body, Nothing, Then}
use Rattle.expression_meaning.specs.Operators.{holds}
use Rattle.abl_base.specs.text_forms.TextForms.{Imported, AtInputEnd, BadElement, Elements}
use Rattle.block_meaning.specs.declared.wants.Piece.TheVariants.{Wrote, Opened}
use Rattle.block_meaning.specs.Program.{Program, procedure_at}
use Rattle.block_meaning.specs.Lines.{BadField, NoRecordIn}
use Rattle.block_meaning.specs.State.{State, CallFrame, nothing_passed, Stream, Content, Empty, Record, Pending, Turn, Completion, Normal, Again, Leaves, Nexts, Undoes, Faults, Raises, EndKeys, Found, NotFound, Returns, Stops, Continuation, completes, if_else, update_then, and_then, writes}
use Rattle.block_meaning.specs.Frames.{own_frame, value_in, value_of, assigned, content_of}
use Rattle.block_meaning.specs.Values.{Evaluated, Gives, Fails, value_now, values_now, given, given_text, put_text, export_line, message_line, fit, all_values}
use Rattle.block_meaning.specs.Buffers.{releases}
use Rattle.block_meaning.specs.Reads.{finds, finds_current}
use Rattle.block_meaning.specs.Changes.{assigns, creates, deletes}
use Rattle.block_meaning.specs.Blocks.{errs, returns_with, enters_level, while_holds, counts_down, in_bound, reaches, set_to, next_value, advances, advances_if, retry_in, iteration, if_again, and_again, turns, first_turn, by_of, block_from, block}
use Rattle.block_meaning.specs.Streams.{stream_at, with_stream, writes_to, opens_output, closes_output, opens_input, exports_record, read_up_to, read_to, pairs_of, imports_line, line_now, imports}
use Rattle.block_meaning.specs.Meaning.{with_status, cleared, handled_completion, handled, statement, chosen, quiet_completion, quiet_result, quiet_find, argument_values, copied_out, without_frame, returned_completion, returned, Context, retrying, runs, meaning, meaning_all, opened_frame, calls_of}
use Rattle.block_meaning.proofs.Continues.{Continues, continues_goes, continues_first}
use Rattle.block_meaning.proofs.Parts.{then_ran, given_all_continues, given_text_continues, releases_continues, unlocked_continues, finds_as_continues, finds_continues, finds_current_continues}
use Rattle.block_meaning.proofs.Part_changes.{assigns_continues, creates_continues, deletes_continues}
use Rattle.block_meaning.proofs.Whole.{CallsGoOn, iteration_continues, block_continues, writes_to_continues, opens_output_continues, exports_continues, imports_line_continues, cleared_keeps, quiet_find_continues, calls_go_on, meaning_continues, meaning_all_continues}
use Rattle.block_meaning.proofs.Levels.{FirstAt, Over, LevelsIn, Levels, Legal, FollowsTo, FollowsAt, steady_part, over_at_once, levels_goes, levels_where, legal_at, levels_first, levels_charged, legal_handled, levels_handled, follows_same, levels_then}
use Rattle.bound_tree.specs.declared.statement.FindWord.{FindWord}
use Rattle.bound_tree.specs.declared.statement.FindWord.TheVariants as find
use Rattle.bound_tree.specs.Tree.{Reading}
use Rattle.block_meaning.specs.Values.{given_text, given}
use Rattle.block_meaning.specs.Frames.{marked_locked}
use Rattle.block_meaning.specs.Reads.{finds_as, cursor_of, lacks, found_completion, found}
use Rattle.block_meaning.proofs.Level_parts.{Calm, searches_calm, unlocked_calm}
use Rattle.block_meaning.proofs.Level_blocks.{ran_levels, given_levels, given_all_levels, given_text_levels, releases_levels, assigns_levels, creates_levels, deletes_levels, finds_current_levels, errs_levels, writes_levels, enters_level_levels}

-- ---- blocks and statements

while_levels : (p : Program) (e : Option Expr) (retry : Bool) (go : Continuation) → Levels go → Levels (while_holds p e retry go)
while_levels p None retry go x s ans = x s ans
while_levels p (Some e) retry go x s ans = given_levels (value_now p e retry s) (λ v. if_else (holds v) go (completes Normal)) (λ v. levels_where (holds v) go (completes Normal) x (levels_goes Normal (λ s. (refl, refl)))) s ans

reaches_levels : (p : Program) (l : ToPhrase) (by : Value) (retry : Bool) (go : Continuation) → Levels go → Levels (reaches p l by retry go)
reaches_levels p l by retry go x s ans =
    given_levels (value_now p l.end retry s) (λ end s ans. if_else (in_bound (counts_down by) (value_of l.variable s) end) go (completes Normal) s ans)
    (λ end s ans. levels_where (in_bound (counts_down by) (value_of l.variable s) end) go (completes Normal) x (levels_goes Normal (λ s. (refl, refl))) s ans) s ans

set_to_levels : (p : Program) (l : ToPhrase) (by : Value) (retry : Bool) (v : Evaluated) (go : Continuation) → Levels go → Levels (set_to p l by retry v go)
set_to_levels p l by retry v go x =
    given_levels v (λ v. given (fit l.variable.kind v) (λ v. update_then (assigned l.variable v) (reaches p l by retry go)))
    (λ v. given_levels (fit l.variable.kind v) (λ v. update_then (assigned l.variable v) (reaches p l by retry go))
    (λ v. levels_first (assigned l.variable v) (reaches p l by retry go) (λ s. refl) (reaches_levels p l by retry go x)))

advances_levels : (p : Program) (l : ToPhrase) (t : Turn) (retry : Bool) (start : Option Value) (go : Continuation) → Levels go → Levels (advances p l t retry start go)
advances_levels p l t retry None go x s ans = set_to_levels p l t.by retry (next_value l t s) go x s ans
advances_levels p l t retry (Some v) go x s ans = set_to_levels p l t.by retry (Gives v) go x s ans

advances_if_levels : (p : Program) (l : Option ToPhrase) (t : Turn) (retry : Bool) (go : Continuation) → Levels go → Levels (advances_if p l t retry go)
advances_if_levels p None t retry go x = x
advances_if_levels p (Some l) t retry go x = levels_where t.retry go (advances p l t retry t.start go) x (advances_levels p l t retry t.start go x)

iteration_levels : (p : Program) (b : Header) (outer : Bool) (body : Bool → Continuation) → ((retry : Bool) → Continues (body retry)) → ((retry : Bool) → Levels (body retry)) → (t : Turn) → Levels (iteration p b outer body t)
iteration_levels p b outer body g x t =
    let retry = retry_in b t outer in
    let go = enters_level p b (record t { start = None }) retry (body retry) in
    levels_charged (advances_if p b.to t retry (while_holds p b.while_test retry go))
    (advances_if_levels p b.to t retry (while_holds p b.while_test retry go)
    (while_levels p b.while_test retry go (enters_level_levels p b (record t { start = None }) retry (body retry) (g retry) (x retry))))

again_follow : (next : Turn → Continuation) → ((t : Turn) → Levels (next t)) → (k : ℕ) → FollowsAt k (λ completion. if_again completion next)
again_follow next x k n (Again t) s h ans = legal_at k n (next t) (x t) s h.0 h.1 ans
again_follow next x k n completion s h ans = follows_same k n completion s h ans

turns_levels : (n : ℕ) (p : Program) (b : Header) (outer : Bool) (body : Bool → Continuation) → ((retry : Bool) → Continues (body retry)) → ((retry : Bool) → Levels (body retry)) → (t : Turn) → Levels (turns n p b outer body t)
turns_levels zero p b outer body g x t = levels_goes _ (λ s. tt)
turns_levels (suc n) p b outer body g x t =
    levels_handled (iteration p b outer body t) (λ r. and_again r (turns n p b outer body)) (λ completion. if_again completion (turns n p b outer body)) (record { completes = λ completion s ans. refl; stands = λ d. refl })
    (iteration_continues p b outer body g t) (iteration_levels p b outer body g x t) (again_follow (turns n p b outer body) (turns_levels n p b outer body g x))

by_levels : (p : Program) (e : Option Expr) (outer : Bool) (go : Value → Continuation) → ((v : Value) → Levels (go v)) → Levels (by_of p e outer go)
by_levels p None outer go x s ans = x (Int64 (pos 1)) s ans
by_levels p (Some e) outer go x s ans = given_levels (value_now p e outer s) go x s ans

block_from_levels : (l : Option ToPhrase) (p : Program) (b : Header) (outer : Bool) (body : Bool → Continuation) → ((retry : Bool) → Continues (body retry)) → ((retry : Bool) → Levels (body retry)) → Levels (block_from l p b outer body)
block_from_levels None p b outer body g x s ans = turns_levels s.units p b outer body g x _ s ans
block_from_levels (Some l) p b outer body g x s ans =
    given_levels (value_now p l.start outer s) (λ v. by_of p l.by outer (λ w s ans. turns s.units p b outer body (first_turn (Some v) w) s ans))
    (λ v. by_levels p l.by outer (λ w s ans. turns s.units p b outer body (first_turn (Some v) w) s ans) (λ w s ans. turns_levels s.units p b outer body g x (first_turn (Some v) w) s ans)) s ans

block_levels : (p : Program) (b : Header) (outer : Bool) (body : Bool → Continuation) → ((retry : Bool) → Continues (body retry)) → ((retry : Bool) → Levels (body retry)) → Levels (block p b outer body)
block_levels p b outer body g x = block_from_levels b.to p b outer body g x

-- ---- streams

read_up_to_level : (input : Option ℕ) (n : ℕ) (x : Stream) (next : ℕ) (s : State) → (read_up_to input n x next s).level ≡ s.level
read_up_to_level None n x next s = refl
read_up_to_level (Some i) n x next s = refl

read_to_level : (n next : ℕ) (s : State) → (read_to n next s).level ≡ s.level
read_to_level n next s = read_up_to_level (stream_at n s).input n (stream_at n s) next s

writes_to_levels : (n : ℕ) (bytes : List ℕ) → Levels (writes_to n bytes)
writes_to_levels n bytes s ans = writes_levels (Wrote (stream_at n s).output bytes) s ans

opens_output_levels : (n output : ℕ) (append : Bool) → Levels (opens_output n output append)
opens_output_levels n output append = levels_first (λ s. with_stream n (record (stream_at n s) { output = Some output }) s) (writes (Opened output append)) (λ s. refl) (writes_levels (Opened output append))

exports_levels : (n b : ℕ) (c : Content) → Levels (exports_record n b c)
exports_levels n b Empty = levels_goes (Faults (Some (NoRecordIn b))) (λ s. (refl, refl))
exports_levels n b (Record row values held made) = writes_to_levels n (export_line values)
exports_levels n b (Pending values since made) = writes_to_levels n (export_line values)

imports_line_levels : (p : Program) (n : ℕ) (ts : List (Option Target)) (retry : Bool) (line : Imported) → Levels (imports_line p n ts retry line)
imports_line_levels p n ts retry AtInputEnd = levels_goes (EndKeys nothing_passed) (λ s. (refl, refl))
imports_line_levels p n ts retry (BadElement number next) = ran_levels (read_to n next) (Faults (Some (BadField number))) (read_to_level n next) (λ s. (refl, refl))
imports_line_levels p n ts retry (Elements vs next) = levels_first (read_to n next) (assigns p (pairs_of ts vs) retry) (read_to_level n next) (assigns_levels p (pairs_of ts vs) retry)

-- ---- statements

heard_follow : (p : Program) (quiet : Bool) (k : ℕ) → FollowsAt k (handled_completion p quiet)
heard_follow p false k n (Faults c) s h ans = legal_at k n (errs p c (completes (Raises nothing_passed))) (errs_levels p c (completes (Raises nothing_passed)) (levels_goes (Raises nothing_passed) (λ s. (refl, refl)))) s h.0 h.1 ans
heard_follow p true k n (Faults c) s h ans = legal_at k n (update_then (with_status true) (completes Normal)) (ran_levels (with_status true) Normal (λ s. refl) (λ s. (refl, refl))) s h.0 h.1 ans
heard_follow p quiet k n completion s h ans = follows_same k n completion s h ans

cleared_level : (quiet : Bool) (s : State) → (cleared quiet s).level ≡ s.level
cleared_level true s = refl
cleared_level false s = refl

statement_levels : (p : Program) (quiet : Bool) (does : Continuation) → Continues does → Levels does → Levels (statement p quiet does)
statement_levels p quiet does g x =
    levels_charged (λ s ans. handled p quiet (does (cleared quiet s) ans))
    (levels_handled (update_then (cleared quiet) does) (handled p quiet) (handled_completion p quiet) (record { completes = λ completion s ans. refl; stands = λ d. refl })
    (continues_first (cleared quiet) does (cleared_keeps quiet) g) (levels_first (cleared quiet) does (cleared_level quiet) x) (heard_follow p quiet))

chosen_levels : (p : Program) (v : Evaluated) (one other : Continuation) → Levels one → Levels other → Levels (chosen p v one other)
chosen_levels p (Gives v) one other x y = levels_where (holds v) one other x y
chosen_levels p (Fails c) one other x y = errs_levels p (Some c) (completes (Raises nothing_passed)) (levels_goes (Raises nothing_passed) (λ s. (refl, refl)))

-- ---- FIND

-- like a reading, and ENDKEY that has passed nothing
abbrev Finding : ℕ → ℕ → Completion → State → Type 0
Finding k n (Stops end) s = Unit {0}
Finding k n (Undoes block action retry passed) s = ⊥
Finding k n (Raises passed) s = ⊥
Finding k n (EndKeys passed) s = (passed.first ≡ None) × (n ≡ s.level) × (s.level ≡ k)
Finding k n completion s = (n ≡ s.level) × (s.level ≡ k)

finds_as_calm : (p : Program) (word : FindWord) (r : Reading) (wait retry : Bool) → LevelsIn Calm (finds_as p word r wait retry)
finds_as_calm p find.Only r wait retry s ans = searches_calm p r true true wait retry None s ans
finds_as_calm p find.First r wait retry s ans = searches_calm p r true false wait retry None s ans
finds_as_calm p find.Last r wait retry s ans = searches_calm p r false false wait retry None s ans
finds_as_calm p find.Next r wait retry s ans = searches_calm p r true false wait retry (cursor_of r s) s ans
finds_as_calm p find.Previous r wait retry s ans = searches_calm p r false false wait retry (cursor_of r s) s ans

lacks_finding : (word : FindWord) (b : ℕ) (k n : ℕ) (s : State) → n ≡ s.level → s.level ≡ k → (ans : List Answer) → Legal (Finding k) n (lacks word b s) ans
lacks_finding find.Only b k n s e f ans = over_at_once (Finding k) n (Faults _) s (e, f) ans
lacks_finding find.First b k n s e f ans = over_at_once (Finding k) n (Faults _) s (e, f) ans
lacks_finding find.Last b k n s e f ans = over_at_once (Finding k) n (Faults _) s (e, f) ans
lacks_finding find.Next b k n s e f ans = over_at_once (Finding k) n (EndKeys nothing_passed) s (refl, e, f) ans
lacks_finding find.Previous b k n s e f ans = over_at_once (Finding k) n (EndKeys nothing_passed) s (refl, e, f) ans

found_follow : (word : FindWord) (b k : ℕ) → FollowsTo (Calm k) (Finding k) (found_completion word b)
found_follow word b k n (Found c) s h ans = over_at_once (Finding k) n Normal s h ans
found_follow word b k n NotFound s h ans = lacks_finding word b k n s h.0 h.1 ans
found_follow word b k n (EndKeys passed) s h ans = absurd h
found_follow word b k n completion s h ans = over_at_once (Finding k) n completion s h ans

finds_finding : (p : Program) (word : FindWord) (r : Reading) (wait retry : Bool) → LevelsIn Finding (finds p word r wait retry)
finds_finding p word r wait retry s ans =
    let go : Continuation = λ s ans. and_then (releases p r.buffer (marked_locked r.buffer false s) ans) (finds_as p word r wait retry) in
    legal_handled (Calm s.level) (Finding s.level) s.level (found word r.buffer) (found_completion word r.buffer) (record { completes = λ completion s ans. refl; stands = λ d. refl }) (found_follow word r.buffer s.level) (go s)
    (steady_part go (unlocked_continues p r.buffer (finds_as p word r wait retry) (finds_as_continues p word r wait retry)) s) ans
    (unlocked_calm p r.buffer (finds_as p word r wait retry) (finds_as_calm p word r wait retry) s ans)

quiet_follow : (quiet : Bool) (k : ℕ) → FollowsTo (Finding k) (Over k) (quiet_completion quiet)
quiet_follow true k n (EndKeys passed) s h ans = over_at_once (Over k) n (Faults None) s (h.1, h.2) ans
quiet_follow false k n (EndKeys passed) s h ans = over_at_once (Over k) n (EndKeys passed) s (h.1, subst (λ f. FirstAt k f s) (sym h.0) h.2) ans
quiet_follow quiet k n (Undoes l action retry passed) s h ans = absurd h
quiet_follow quiet k n (Raises passed) s h ans = absurd h
quiet_follow quiet k n completion s h ans = over_at_once (Over k) n completion s h ans

quiet_find_levels : (p : Program) (quiet : Bool) (word : FindWord) (r : Reading) (wait retry : Bool) → Levels (quiet_find quiet (finds p word r wait retry))
quiet_find_levels p quiet word r wait retry s ans =
    legal_handled (Finding s.level) (Over s.level) s.level (quiet_result quiet) (quiet_completion quiet) (record { completes = λ completion s ans. refl; stands = λ d. refl }) (quiet_follow quiet s.level) (finds p word r wait retry s)
    (steady_part (finds p word r wait retry) (finds_continues p word r wait retry) s) ans (finds_finding p word r wait retry s ans)

-- ---- every statement

abbrev pub CallsLevel : Context → Type 0
CallsLevel w = (n : ℕ) (args : List Argument) (vs : List Value) → Levels (w.calls n args vs)

mutual
  pub meaning_levels : (t : Stmt) (w : Context) → CallsGoOn w → CallsLevel w → Levels (meaning t w)
  meaning_levels (Inner b body) w g x =
      statement_levels w.program false (block w.program b w.retry (λ retry. meaning_all body (retrying w retry)))
      (block_continues w.program b w.retry (λ retry. meaning_all body (retrying w retry)) (λ retry. meaning_all_continues body (retrying w retry) g))
      (block_levels w.program b w.retry (λ retry. meaning_all body (retrying w retry)) (λ retry. meaning_all_continues body (retrying w retry) g) (λ retry. meaning_all_levels body (retrying w retry) g x))
  meaning_levels (Choose test then_it else_it) w g x =
      levels_charged (λ s ans. chosen w.program (value_now w.program test w.retry s) (meaning_all then_it w) (meaning_all else_it w) s ans)
      (λ s ans. chosen_levels w.program (value_now w.program test w.retry s) (meaning_all then_it w) (meaning_all else_it w) (meaning_all_levels then_it w g x) (meaning_all_levels else_it w g x) s ans)
  meaning_levels (Assign pairs quiet) w g x = statement_levels w.program quiet (assigns w.program pairs w.retry) (assigns_continues w.program pairs w.retry) (assigns_levels w.program pairs w.retry)
  meaning_levels (Find word reading wait quiet) w g x =
      statement_levels w.program quiet (quiet_find quiet (finds w.program word reading wait w.retry)) (quiet_find_continues quiet (finds w.program word reading wait w.retry) (finds_continues w.program word reading wait w.retry))
      (quiet_find_levels w.program quiet word reading wait w.retry)
  meaning_levels (FindCurrent reading wait quiet) w g x = statement_levels w.program quiet (finds_current reading wait) (finds_current_continues reading wait) (finds_current_levels reading wait)
  meaning_levels (Create b quiet) w g x = statement_levels w.program quiet (creates w.program b) (creates_continues w.program b) (creates_levels w.program b)
  meaning_levels (Remove b quiet) w g x = statement_levels w.program quiet (deletes b) (deletes_continues b) (deletes_levels b)
  meaning_levels (Release b quiet) w g x = statement_levels w.program quiet (releases w.program b) (releases_continues w.program b) (releases_levels w.program b)
  meaning_levels (UndoBlock l action) w g x = statement_levels w.program false (completes (Undoes l action w.retry nothing_passed)) (continues_goes _) (levels_goes (Undoes l action w.retry nothing_passed) (λ s. (refl, refl)))
  meaning_levels (LeaveBlock l) w g x = statement_levels w.program false (completes (Leaves l)) (continues_goes (Leaves l)) (levels_goes (Leaves l) (λ s. (refl, refl)))
  meaning_levels (NextBlock l) w g x = statement_levels w.program false (completes (Nexts l)) (continues_goes (Nexts l)) (levels_goes (Nexts l) (λ s. (refl, refl)))
  meaning_levels (Return e) w g x =
      statement_levels w.program false (update_then (returns_with w.program e w.retry) (completes (Returns false))) (then_ran (returns_with w.program e w.retry) (Returns false) (λ s. record { units = refl; written = refl }))
      (ran_levels (returns_with w.program e w.retry) (Returns false) (λ s. refl) (λ s. (refl, refl)))
  meaning_levels (ReturnError l e) w g x =
      statement_levels w.program false (update_then (returns_with w.program e w.retry) (completes (Undoes l ThenError w.retry nothing_passed)))
      (then_ran (returns_with w.program e w.retry) (Undoes l ThenError w.retry nothing_passed) (λ s. record { units = refl; written = refl }))
      (ran_levels (returns_with w.program e w.retry) (Undoes l ThenError w.retry nothing_passed) (λ s. refl) (λ s. (refl, refl)))
  meaning_levels Stop w g x = statement_levels w.program false (completes (Stops _)) (continues_goes _) (levels_goes (Stops _) (λ s. tt))
  meaning_levels (Run n args quiet) w g x =
      statement_levels w.program quiet (runs w n args) (λ s ans more. given_all_continues (argument_values w.program args (procedure_at w.program n).parameters w.retry s) (w.calls n args) (g n args) s ans more)
      (λ s ans. given_all_levels (argument_values w.program args (procedure_at w.program n).parameters w.retry s) (w.calls n args) (x n args) s ans)
  meaning_levels (Import n targets quiet) w g x =
      statement_levels w.program quiet (imports w.program n targets w.retry) (λ s ans more. imports_line_continues w.program n targets w.retry (line_now w.program n targets s) s ans more)
      (λ s ans. imports_line_levels w.program n targets w.retry (line_now w.program n targets s) s ans)
  meaning_levels (Export n es) w g x =
      statement_levels w.program false (all_values w.program es w.retry (λ vs. writes_to n (export_line vs)))
      (λ s ans more. given_all_continues (values_now w.program es w.retry s) (λ vs. writes_to n (export_line vs)) (λ vs. writes_to_continues n (export_line vs)) s ans more)
      (λ s ans. given_all_levels (values_now w.program es w.retry s) (λ vs. writes_to n (export_line vs)) (λ vs. writes_to_levels n (export_line vs)) s ans)
  meaning_levels (ExportRecord n b) w g x =
      statement_levels w.program false (λ s ans. exports_record n b (content_of b s) s ans) (λ s ans more. exports_continues n b (content_of b s) s ans more) (λ s ans. exports_levels n b (content_of b s) s ans)
  meaning_levels (PutItems n items) w g x =
      statement_levels w.program false (λ s ans. given_text (put_text w.program items w.retry s) (writes_to n) s ans)
      (λ s ans more. given_text_continues (put_text w.program items w.retry s) (writes_to n) (writes_to_continues n) s ans more)
      (λ s ans. given_text_levels (put_text w.program items w.retry s) (writes_to n) (writes_to_levels n) s ans)
  meaning_levels (Message es) w g x =
      statement_levels w.program false (all_values w.program es w.retry (λ vs. writes_to 0 (message_line vs)))
      (λ s ans more. given_all_continues (values_now w.program es w.retry s) (λ vs. writes_to 0 (message_line vs)) (λ vs. writes_to_continues 0 (message_line vs)) s ans more)
      (λ s ans. given_all_levels (values_now w.program es w.retry s) (λ vs. writes_to 0 (message_line vs)) (λ vs. writes_to_levels 0 (message_line vs)) s ans)
  meaning_levels (OutputTo n output append) w g x = statement_levels w.program false (opens_output n output append) (opens_output_continues n output append) (opens_output_levels n output append)
  meaning_levels (OutputClose n) w g x =
      statement_levels w.program false (update_then (closes_output n) (completes Normal)) (then_ran (closes_output n) Normal (λ s. record { units = refl; written = refl })) (ran_levels (closes_output n) Normal (λ s. refl) (λ s. (refl, refl)))
  meaning_levels (InputFrom n input) w g x =
      statement_levels w.program false (update_then (opens_input n (Some input)) (completes Normal)) (then_ran (opens_input n (Some input)) Normal (λ s. record { units = refl; written = refl })) (ran_levels (opens_input n (Some input)) Normal (λ s. refl) (λ s. (refl, refl)))
  meaning_levels (InputClose n) w g x =
      statement_levels w.program false (update_then (opens_input n None) (completes Normal)) (then_ran (opens_input n None) Normal (λ s. record { units = refl; written = refl })) (ran_levels (opens_input n None) Normal (λ s. refl) (λ s. (refl, refl)))

  pub meaning_all_levels : (body : Body) (w : Context) → CallsGoOn w → CallsLevel w → Levels (meaning_all body w)
  meaning_all_levels Nothing w g x = levels_goes Normal (λ s. (refl, refl))
  meaning_all_levels (Then t rest) w g x = levels_then (meaning t w) (meaning_all rest w) (meaning_continues t w g) (meaning_levels t w g x) (meaning_all_levels rest w g x)

-- ---- procedures

copied_out_level : (args : List Argument) (xs : List Variable) (f : CallFrame) (s : State) → (copied_out args xs f s).level ≡ s.level
copied_out_level [] xs f s = refl
copied_out_level (a ∷ rest) [] f s = refl
copied_out_level (In e ∷ rest) (x ∷ xs) f s = copied_out_level rest xs f s
copied_out_level (InOut y ∷ rest) (x ∷ xs) f s = copied_out_level rest xs f (assigned y (value_in x.undoable x.number f) s)
copied_out_level (Out y ∷ rest) (x ∷ xs) f s = copied_out_level rest xs f (assigned y (value_in x.undoable x.number f) s)

returned_follow : (args : List Argument) (q : Procedure) (k : ℕ) → FollowsAt k (returned_completion args q)
returned_follow args q k n Normal s h ans =
    legal_at k n (update_then (λ s. copied_out args q.parameters (own_frame s.frames) (without_frame s)) (completes Normal))
    (ran_levels (λ s. copied_out args q.parameters (own_frame s.frames) (without_frame s)) Normal (λ s. copied_out_level args q.parameters (own_frame s.frames) (without_frame s)) (λ s. (refl, refl))) s h.0 h.1 ans
returned_follow args q k n (Returns false) s h ans =
    legal_at k n (update_then (λ s. copied_out args q.parameters (own_frame s.frames) (without_frame s)) (completes Normal))
    (ran_levels (λ s. copied_out args q.parameters (own_frame s.frames) (without_frame s)) Normal (λ s. copied_out_level args q.parameters (own_frame s.frames) (without_frame s)) (λ s. (refl, refl))) s h.0 h.1 ans
returned_follow args q k n (Returns true) s h ans = legal_at k n (update_then without_frame (completes (Faults None))) (ran_levels without_frame (Faults None) (λ s. refl) (λ s. (refl, refl))) s h.0 h.1 ans
returned_follow args q k n completion s h ans = follows_same k n completion s h ans

pub calls_level : (p : Program) (d n : ℕ) (args : List Argument) (vs : List Value) → Levels (calls_of p d n args vs)
calls_level p zero n args vs = levels_goes _ (λ s. tt)
calls_level p (suc d) n args vs =
    let body : Bool → Continuation = λ retry. meaning_all (procedure_at p n).body (record { program = p; calls = calls_of p d; retry = retry }) in
    let go : Continuation = block p (procedure_at p n).header false body in
    let body_goes : (retry : Bool) → Continues (body retry) = λ retry. meaning_all_continues (procedure_at p n).body (record { program = p; calls = calls_of p d; retry = retry }) (calls_go_on p d) in
    let body_levels : (retry : Bool) → Levels (body retry) = λ retry. meaning_all_levels (procedure_at p n).body (record { program = p; calls = calls_of p d; retry = retry }) (calls_go_on p d) (calls_level p d) in
    levels_handled (update_then (opened_frame p n args vs) go) (returned args (procedure_at p n)) (returned_completion args (procedure_at p n)) (record { completes = λ completion s ans. refl; stands = λ d. refl })
    (continues_first (opened_frame p n args vs) go (λ s. record { units = refl; written = refl }) (block_continues p (procedure_at p n).header false body body_goes))
    (levels_first (opened_frame p n args vs) go (λ s. refl) (block_levels p (procedure_at p n).header false body body_goes body_levels))
    (returned_follow args (procedure_at p n))

pub block_of_procedure_levels : (p : Program) (n d : ℕ) → Levels (block p (procedure_at p n).header false (λ retry. meaning_all (procedure_at p n).body (record { program = p; calls = calls_of p d; retry = retry })))
block_of_procedure_levels p n d =
    let body : Bool → Continuation = λ retry. meaning_all (procedure_at p n).body (record { program = p; calls = calls_of p d; retry = retry }) in
    block_levels p (procedure_at p n).header false body (λ retry. meaning_all_continues (procedure_at p n).body (record { program = p; calls = calls_of p d; retry = retry }) (calls_go_on p d))
    (λ retry. meaning_all_levels (procedure_at p n).body (record { program = p; calls = calls_of p d; retry = retry }) (calls_go_on p d) (calls_level p d))
