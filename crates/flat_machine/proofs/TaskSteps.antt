-- The steps of tasks keep the run.
use Rattle.std.proofs.Common.{◌≡◌, refl, sym, ap, ◌∙◌}
use Rattle.std.specs.Prelude.{ℕ, zero, suc, ◌==◌, List, [], ◌∷◌, true, false, Some, None, map}
use Rattle.database_protocol.specs.declared.answer.Answer.{Answer}
use Rattle.bound_tree.specs.Tree.{Body}
use Rattle.block_meaning.specs.Program.{Program, procedure_at}
use Rattle.block_meaning.specs.State.{State, Completion, Normal, Undoes, Faults, Raises, Outcome, Done, Suspended, Continuation, completes, and_then, if_normal}
use Rattle.block_meaning.specs.Frames.{content_of, table_of, holding, locked_row}
use Rattle.block_meaning.specs.Values.{values_now}
use Rattle.block_meaning.specs.Buffers.{own, buffer_in, keep_of, releases_all, updates, is_left_out}
use Rattle.block_meaning.specs.Changes.{as_before_on_fault, as_before, all_as_before, or_as_before, settles, settles_all, assigns_each, locks_all, buffers_in}
use Rattle.block_meaning.specs.Blocks.{passed_with, passes, begins, enters_at, enters_level, block, retry_in, error_to, while_holds, advances_if, inside, undone}
use Rattle.block_meaning.specs.Streams.{line_now}
use Rattle.block_meaning.specs.Meaning.{context_at, meaning_all, returned, opened_frame}
use Rattle.flat_machine.specs.Config.{Acts, Assigns, AssignsEach, AssignsOne, Begins, Begun, Blocks, Calls, Closes, Closing, AfterBack, Creates, Deletes, DeletesRow, RunsFrom, Drops, Empties, EndKeyComes, EndsWith, Enters, EntersLevel, EntersOne, EntersRest, ErrorComes, Fetches, FetchesFrom, Finds, FindsAs, FindsCurrent, GoesBack, Imports, IsOnly, Iterates, LeavesIf, LeavesNow, LocksAll, LocksOne, Looks, StackEntry, Passes, Releases, Completes, Searches, Seconds, SettlesAll, SettlesOne, Takes, TakesAgain, TakesAs, Task, ThenDo, Turns, UndoComes, Updates, UpdatesOne, WasBack, WasDeleted, WasEntered, WasLeft, WasNext, WasSecond}
use Rattle.flat_machine.specs.Steps.{error_step, turn_step}
use Rattle.flat_machine.specs.Means.{after_stack, means, task_means, contents_of, contents_back, contents_back_on_fault, or_contents_back, settles_back}
use Rattle.flat_machine.specs.Machine.{task_step}
use Rattle.flat_machine.specs.Code.{Code, IsCodeOf}
use Rattle.flat_machine.proofs.PartSteps.{asked_means, either_means, enter_means, drop_means, update_means, take_means, take_again_means, only_means, search_means, fetch_means, find_means, current_in_means, assign_means, lock_means, settle_means, delete_means, paid_means, error_means, endkey_means, act_means, ends_means, begins_means, turn_means, block_means, import_means}
use Rattle.flat_machine.proofs.StatementSteps.{instr_means}
use Rattle.database_protocol.specs.declared.operation.Op.TheVariants as op

-- buffers restored from a state, and from their contents
pub contents_same : (old : State) (bs : List ℕ) (s : State) → all_as_before old bs s ≡ contents_back (contents_of old bs) bs s
contents_same old [] s = refl
contents_same old (b ∷ bs) s = contents_same old bs (holding b (as_before (content_of b old) (content_of b s)) s)

pub way_back : (old : State) (bs : List ℕ) (completion : Completion) (s : State) (ans : List Answer) → as_before_on_fault completion old bs s ans ≡ contents_back_on_fault completion (contents_of old bs) bs s ans
way_back old bs (Faults c) s ans = ap (λ s. Done (Faults c) s ans) (contents_same old bs s)
way_back old bs completion s ans = refl

pub or_back : (old : State) (bs : List ℕ) (r : Outcome) → or_as_before old bs r ≡ or_contents_back (contents_of old bs) bs r
or_back old bs (Done completion s ans) = way_back old bs completion s ans
or_back old bs (Suspended d) = refl

-- equal continuations
pub after_same : (one other : Continuation) → ((s : State) (ans : List Answer) → one s ans ≡ other s ans) → (completion : Completion) (s : State) (ans : List Answer) → if_normal completion one s ans ≡ if_normal completion other s ans
after_same one other same Normal s ans = same s ans
after_same one other same completion s ans = refl

pub settles_after : (p : Program) (one other : Continuation) → ((s : State) (ans : List Answer) → one s ans ≡ other s ans) → (r : Outcome) → and_then r one ≡ and_then r other
settles_after p one other same (Done completion s ans) = after_same one other same completion s ans
settles_after p one other same (Suspended d) = refl

pub settles_same : (p : Program) (old : State) (bs : List ℕ) (s : State) (ans : List Answer) → settles_all p old bs s ans ≡ settles_back p (contents_of old bs) bs s ans
settles_same p old [] s ans = refl
settles_same p old (b ∷ bs) s ans =
    ap (λ r. and_then r (settles_all p old bs)) (or_back old (b ∷ bs) (settles p b s ans))
    ∙ settles_after p (settles_all p old bs) (settles_back p (contents_of old bs) bs) (λ s ans. settles_same p old bs s ans) (or_contents_back (contents_of old (b ∷ bs)) (b ∷ bs) (settles p b s ans))

pub settles_then : (p : Program) (old : State) (bs : List ℕ) (r : Outcome) → and_then r (settles_all p old bs) ≡ and_then r (settles_back p (contents_of old bs) bs)
settles_then p old bs r = settles_after p (settles_all p old bs) (settles_back p (contents_of old bs) bs) (λ s ans. settles_same p old bs s ans) r

-- the step of a task keeps the run
pub task_means_on : (code : Code) (tree : ℕ → Body) (p : Program) (is : IsCodeOf code p tree) (t : Task) (ks : List StackEntry) (s : State) (ans : List Answer) →
    after_stack tree p ks (task_means tree p t s ans) ≡ means tree p (task_step code p t ks s) ans
task_means_on code tree p is (EntersOne place) ks s ans = enter_means tree p place (buffer_in place s).table (buffer_in place s).content ks s ans
task_means_on code tree p is (Enters []) ks s ans = refl
task_means_on code tree p is (Enters (place ∷ more)) ks s ans = refl
task_means_on code tree p is (Drops b) ks s ans = drop_means tree p (locked_row (content_of b s)) b ks s ans
task_means_on code tree p is (Releases []) ks s ans = refl
task_means_on code tree p is (Releases (b ∷ bs)) ks s ans = refl
task_means_on code tree p is (EntersRest None) ks s ans = refl
task_means_on code tree p is (EntersRest (Some copy)) ks s ans = either_means tree p (copy.depth == 1) _ _ _ _ ks s ans refl refl
task_means_on code tree p is (LeavesIf None but) ks s ans = refl
task_means_on code tree p is (LeavesIf (Some copy) but) ks s ans = refl
task_means_on code tree p is (LeavesNow but) ks s ans = asked_means tree p s.units (op.Leave (keep_of but s)) WasLeft ks s ans
task_means_on code tree p is (Closing b o) ks s ans = refl
task_means_on code tree p is (GoesBack None but) ks s ans = refl
task_means_on code tree p is (GoesBack (Some copy) but) ks s ans = asked_means tree p s.units (op.Back copy.depth) (WasBack copy but) ks s ans
task_means_on code tree p is (UpdatesOne mark place) ks s ans = update_means tree p mark place (buffer_in place s).table (buffer_in place s).content ks s ans
task_means_on code tree p is (Updates mark but []) ks s ans = refl
task_means_on code tree p is (Updates mark but (place ∷ more)) ks s ans = either_means tree p (is_left_out but place) (completes Normal) (updates mark place) _ _ (ThenDo (Updates mark but more) ∷ ks) s ans refl refl
task_means_on code tree p is (AfterBack copy but) ks s ans = refl
task_means_on code tree p is (Acts b o act retry) ks s ans = act_means tree p act b o retry ks s ans
task_means_on code tree p is (IsOnly k c values) ks s ans = only_means tree p k.only k c values ks s ans
task_means_on code tree p is (Seconds zero k c values from) ks s ans = refl
task_means_on code tree p is (Seconds (suc n) k c values from) ks s ans = asked_means tree p s.units (op.Next (table_of k.reading.buffer s) k.reading.index k.prefix (Some from) true) (WasSecond n k c values) ks s ans
task_means_on code tree p is (TakesAs r wait retry row) ks s ans = take_means tree p r.lock r wait retry row ks s ans
task_means_on code tree p is (TakesAgain r retry row) ks s ans = take_again_means tree p r.lock r retry row ks s ans
task_means_on code tree p is (Takes k c values) ks s ans = refl
task_means_on code tree p is (Looks zero k from) ks s ans = refl
task_means_on code tree p is (Looks (suc n) k from) ks s ans = asked_means tree p s.units (op.Next (table_of k.reading.buffer s) k.reading.index k.prefix from k.forward) (WasNext n k) ks s ans
task_means_on code tree p is (Searches r forward only wait retry from) ks s ans = search_means tree p (values_now p (map (λ x. x.value) r.bracket) retry s) r forward only wait retry from ks s ans
task_means_on code tree p is (FetchesFrom again f retry own) ks s ans = fetch_means tree p again f retry own ks s ans
task_means_on code tree p is (Fetches f t retry) ks s ans = refl
task_means_on code tree p is (FindsAs word r wait retry) ks s ans = find_means tree p word r wait retry ks s ans
task_means_on code tree p is (Finds word r wait retry) ks s ans = refl
task_means_on code tree p is (FindsCurrent r wait) ks s ans = current_in_means tree p (content_of r.buffer s) r wait ks s ans
task_means_on code tree p is (AssignsOne t x retry) ks s ans = assign_means tree p x t retry ks s ans
task_means_on code tree p is (AssignsEach [] retry) ks s ans = refl
task_means_on code tree p is (AssignsEach (x ∷ xs) retry) ks s ans = refl
task_means_on code tree p is (LocksOne b) ks s ans = lock_means tree p (content_of b s) (table_of b s) b ks s ans
task_means_on code tree p is (LocksAll []) ks s ans = refl
task_means_on code tree p is (LocksAll (b ∷ bs)) ks s ans = refl
task_means_on code tree p is (SettlesOne b) ks s ans = settle_means tree p (content_of b s) (table_of b s) b ks s ans
task_means_on code tree p is (SettlesAll olds []) ks s ans = refl
task_means_on code tree p is (SettlesAll olds (b ∷ bs)) ks s ans = refl
task_means_on code tree p is (Assigns xs retry) ks s ans =
    ap (λ r. after_stack tree p ks (and_then r (settles_all p s (buffers_in xs)))) (or_back s (buffers_in xs) (and_then (assigns_each p xs retry s ans) (locks_all (buffers_in xs))))
    ∙ ap (after_stack tree p ks) (settles_then p s (buffers_in xs) (or_contents_back (contents_of s (buffers_in xs)) (buffers_in xs) (and_then (assigns_each p xs retry s ans) (locks_all (buffers_in xs)))))
task_means_on code tree p is (Creates b) ks s ans = refl
task_means_on code tree p is (Deletes b) ks s ans = delete_means tree p (content_of b s) (table_of b s) b ks s ans
task_means_on code tree p is (DeletesRow b t row) ks s ans = asked_means tree p s.units (op.Delete t row) (WasDeleted b) ks s ans
task_means_on code tree p is (Begun b) ks s ans = refl
task_means_on code tree p is (Completes completion) ks s ans = refl
task_means_on code tree p is (Empties but) ks s ans = refl
task_means_on code tree p is (Closes b o completion) ks s ans = refl
task_means_on code tree p is (Passes b ended_way left_way) ks s ans =
    either_means tree p (s.level == 0) (λ s ans. and_then (releases_all p b.scoped s ans) (completes ended_way)) (completes left_way) _ _ ks s ans refl refl
task_means_on code tree p is (UndoComes b o target act retry passed) ks s ans =
    either_means tree p (target == b.number) (undone p b o act retry (passed_with b o passed)) (passes p b (Undoes target act retry passed) (Undoes target act retry (passed_with b o passed))) _ _ ks s ans refl refl
task_means_on code tree p is (ErrorComes b o passed) ks s ans =
    either_means tree p b.flags.undo (error_to p b o b.on_error passed) (passes p b (Raises passed) (Raises (passed_with b o passed))) (error_step b.on_error b o passed ks s) _ ks s ans (error_means tree p b.on_error b o passed ks s ans) refl
task_means_on code tree p is (EndKeyComes b o passed) ks s ans = endkey_means tree p b.on_endkey b o passed ks s ans
task_means_on code tree p is (EndsWith b o completion) ks s ans = ends_means tree p completion b o ks s ans
task_means_on code tree p is (RunsFrom k d retry) ks s ans = instr_means tree p (code.instr k) k d retry ks s ans (is.denotes k)
task_means_on code tree p is (Begins b copy t retry body d) ks s ans = begins_means tree p b.fetch b copy t retry body d ks s ans
task_means_on code tree p is (EntersLevel b t retry body d) ks s ans =
    either_means tree p (enters_at b s.level) (inside p b t retry (meaning_all (tree body) (context_at p d retry))) (begins p b None t retry (meaning_all (tree body) (context_at p d retry))) _ _ ks s ans
    (asked_means tree p s.units op.Enter (WasEntered b t retry body d) ks s ans) refl
task_means_on code tree p is (Turns zero b outer body d t) ks s ans = refl
task_means_on code tree p is (Turns (suc n) b outer body d t) ks s ans = refl
task_means_on code tree p is (Iterates b outer body d t) ks s ans =
    paid_means tree p s.units (advances_if p b.to t (retry_in b t outer) (while_holds p b.while_test (retry_in b t outer) (enters_level p b (record t { start = None }) (retry_in b t outer) (meaning_all (tree body) (context_at p d (retry_in b t outer))))))
    (λ s. turn_step p b outer body d t ks s) ks s ans (turn_means tree p b outer body d t ks ans)
task_means_on code tree p is (Blocks b outer body d) ks s ans = block_means tree p b.to b outer body d ks s ans
task_means_on code tree p is (Imports n ts retry) ks s ans = import_means tree p (line_now p n ts s) n ts retry ks s ans
task_means_on code tree p is (Calls zero n args vs) ks s ans = refl
task_means_on code tree p is (Calls (suc d) n args vs) ks s ans = ap (λ b. after_stack tree p ks (returned args (procedure_at p n) (block p (procedure_at p n).header false (λ retry. meaning_all b (context_at p d retry)) (opened_frame p n args vs s) ans))) (sym (is.begins n))
