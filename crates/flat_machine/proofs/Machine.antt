-- Each step of the machine, and each answer to it, keeps the run.
use Rattle.std.proofs.Common.{◌≡◌, refl, sym, ap}
use Rattle.std.specs.Prelude.{ℕ, List, [], ◌∷◌, Bool, true, false, Option, Some, None, ℤ}
use Rattle.abl_base.specs.declared.row.RowId.{RowId}
use Rattle.database_protocol.specs.declared.row_order.Cursor.{Cursor}
use Rattle.abl_base.specs.declared.value.Value.{Value}
use Rattle.database_protocol.specs.declared.operation.Op.{Op}
use Rattle.database_protocol.specs.declared.answer.Answer.{Answer}
use Rattle.bound_tree.specs.declared.statement.FindWord.{FindWord}
use Rattle.bound_tree.specs.declared.statement.Target.{Target}
use Rattle.bound_tree.specs.Tree.{Procedure, Header, Reading, Argument, Body}
use Rattle.database_protocol.specs.declared.next_step.NextStep.TheVariants.{Ask}
use Rattle.block_meaning.specs.Program.{Program, procedure_at}
use Rattle.block_meaning.specs.Lines.{Complaint, RecordIsGone, MoreThanOne}
use Rattle.block_meaning.specs.State.{State, Copy, Turn, Content, Record, Held, Exclusive, Completion, Normal, Again, Faults, EndKeys, Returns, Stops, Found, Lost, NotFound, Done, Suspended, completes, update_then, Progress, if_normal, has_fault}
use Rattle.block_meaning.specs.Frames.{table_of, holding, emptied}
use Rattle.block_meaning.specs.Views.{FoundRow, found_in, values_in, row_in, number_in, Grant, IsGranted, IsBusy, IsGone, grant_in, is_gone, refusal_in}
use Rattle.block_meaning.specs.Buffers.{Place, own, inserted_as, refused_by}
use Rattle.block_meaning.specs.Reads.{Search, held_as, shows, looks_for_second, takes, looks, or_again, next_shown, granted_as, read_as, second_as, next_as, current_read, current_granted_as, if_lost, lacks, found_completion}
use Rattle.block_meaning.specs.Changes.{counted_as}
use Rattle.block_meaning.specs.Blocks.{Iteration, after_closing, turns, block, fetched_completion, if_again}
use Rattle.block_meaning.specs.Meaning.{start, context_at, meaning_all, run, finished, handled_completion, quiet_completion, returned_completion}
use Rattle.flat_machine.specs.Config.{AfterClosing, AndAgain, AsBefore, OnAnswer, Await, Called, Config, CurrentGranted, Execute, FetchedAs, FoundAs, Handles, In, Looks, Mode, StackEntry, OrDo, Unwind, Quiet, Seconds, Takes, Task, ThenDo, WasBack, WasCounted, WasCurrent, WasDeleted, WasDropped, WasEntered, WasGot, WasGranted, WasInserted, WasLeft, WasNext, WasPut, WasRead, WasSecond, WasUpgraded}
use Rattle.flat_machine.specs.Machine.{again_step, answered, before_step, first_config, called_step, closing_step, count_answered, current_grant_answered, current_answered, fetched_step, found_step, grant_answered, answer_step, handled_step, insert_answered, not_found_step, mode_step, next_answered, or_step, over_step, pop_step, quiet_step, read_answered, refused_answered, second_answered, step, then_step}
use Rattle.flat_machine.specs.Means.{answer_means, after_stack, means, task_means, after_entry, contents_back_on_fault}
use Rattle.flat_machine.specs.Steps.{fault, config}
use Rattle.flat_machine.specs.Code.{Code, IsCodeOf}
use Rattle.flat_machine.proofs.PartSteps.{asked_means, either_means, test_means}
use Rattle.flat_machine.proofs.TaskSteps.{task_means_on}
use Rattle.database_protocol.specs.declared.operation.Op.TheVariants as op
use Rattle.database_protocol.specs.declared.answer.Answer.TheVariants as answer
use Rattle.bound_tree.specs.declared.statement.FindWord.TheVariants as find

-- a completion reaches an entry

pub then_on : (tree : ℕ → Body) (p : Program) (completion : Completion) (t : Task) (ks : List StackEntry) (s : State) (ans : List Answer) →
    after_stack tree p ks (if_normal completion (task_means tree p t) s ans) ≡ means tree p (then_step completion t ks s) ans
then_on tree p Normal t ks s ans = refl
then_on tree p completion t ks s ans = refl

pub or_on : (tree : ℕ → Body) (p : Program) (completion : Completion) (t : Task) (ks : List StackEntry) (s : State) (ans : List Answer) →
    after_stack tree p ks (if_lost completion (task_means tree p t) s ans) ≡ means tree p (or_step completion t ks s) ans
or_on tree p Lost t ks s ans = refl
or_on tree p completion t ks s ans = refl

pub lacks_on : (tree : ℕ → Body) (p : Program) (word : FindWord) (b : ℕ) (ks : List StackEntry) (s : State) (ans : List Answer) →
    after_stack tree p ks (lacks word b s ans) ≡ means tree p (not_found_step word b ks s) ans
lacks_on tree p word b ks s ans = elim word as (λ w. after_stack tree p ks (lacks w b s ans) ≡ means tree p (not_found_step w b ks s) ans) [ find.Only ↦ refl | find.First ↦ refl | find.Last ↦ refl | find.Next ↦ refl | find.Previous ↦ refl ]

pub found_on : (tree : ℕ → Body) (p : Program) (completion : Completion) (word : FindWord) (b : ℕ) (ks : List StackEntry) (s : State) (ans : List Answer) →
    after_stack tree p ks (found_completion word b completion s ans) ≡ means tree p (found_step completion word b ks s) ans
found_on tree p (Found c) word b ks s ans = refl
found_on tree p NotFound word b ks s ans = lacks_on tree p word b ks s ans
found_on tree p completion word b ks s ans = refl

pub before_on : (tree : ℕ → Body) (p : Program) (completion : Completion) (olds : List Content) (bs : List ℕ) (ks : List StackEntry) (s : State) (ans : List Answer) →
    after_stack tree p ks (contents_back_on_fault completion olds bs s ans) ≡ means tree p (before_step completion olds bs ks s) ans
before_on tree p (Faults c) olds bs ks s ans = refl
before_on tree p completion olds bs ks s ans = refl

pub closing_on : (tree : ℕ → Body) (p : Program) (completion : Completion) (b : Header) (o : Iteration) (out : Completion) (ks : List StackEntry) (s : State) (ans : List Answer) →
    after_stack tree p ks (after_closing p b o out (Done completion s ans)) ≡ means tree p (closing_step completion p b o out ks s) ans
closing_on tree p Normal b o out ks s ans = refl
closing_on tree p (Faults c) b o out ks s ans = refl
closing_on tree p completion b o out ks s ans = refl

pub quiet_on : (tree : ℕ → Body) (p : Program) (completion : Completion) (quiet : Bool) (ks : List StackEntry) (s : State) (ans : List Answer) →
    after_stack tree p ks (quiet_completion quiet completion s ans) ≡ means tree p (quiet_step completion quiet ks s) ans
quiet_on tree p (EndKeys passed) true ks s ans = refl
quiet_on tree p (EndKeys passed) false ks s ans = refl
quiet_on tree p completion true ks s ans = refl
quiet_on tree p completion false ks s ans = refl

pub handled_on : (tree : ℕ → Body) (p : Program) (completion : Completion) (quiet : Bool) (ks : List StackEntry) (s : State) (ans : List Answer) →
    after_stack tree p ks (handled_completion p quiet completion s ans) ≡ means tree p (handled_step completion p quiet ks s) ans
handled_on tree p (Faults c) false ks s ans = refl
handled_on tree p (Faults c) true ks s ans = refl
handled_on tree p completion true ks s ans = refl
handled_on tree p completion false ks s ans = refl

pub fetched_on : (tree : ℕ → Body) (p : Program) (completion : Completion) (b : Header) (copy : Option Copy) (t : Turn) (buffer : ℕ) (body : ℕ) (d : ℕ) (retry : Bool) (ks : List StackEntry) (s : State) (ans : List Answer) →
    after_stack tree p ks (fetched_completion p b copy t buffer (meaning_all (tree body) (context_at p d retry)) completion s ans) ≡ means tree p (fetched_step completion b copy t buffer body d retry ks s) ans
fetched_on tree p (Found own) b copy t buffer body d retry ks s ans = refl
fetched_on tree p (Faults c) b copy t buffer body d retry ks s ans = refl
fetched_on tree p (Stops end) b copy t buffer body d retry ks s ans = refl
fetched_on tree p completion b copy t buffer body d retry ks s ans = refl

pub again_on : (tree : ℕ → Body) (p : Program) (completion : Completion) (n : ℕ) (b : Header) (outer : Bool) (body : ℕ) (d : ℕ) (ks : List StackEntry) (s : State) (ans : List Answer) →
    after_stack tree p ks (if_again completion (turns n p b outer (λ retry. meaning_all (tree body) (context_at p d retry))) s ans) ≡ means tree p (again_step completion n b outer body d ks s) ans
again_on tree p (Again t) n b outer body d ks s ans = refl
again_on tree p completion n b outer body d ks s ans = refl

pub called_on : (tree : ℕ → Body) (p : Program) (completion : Completion) (args : List Argument) (q : Procedure) (ks : List StackEntry) (s : State) (ans : List Answer) →
    after_stack tree p ks (returned_completion args q completion s ans) ≡ means tree p (called_step completion args q ks s) ans
called_on tree p Normal args q ks s ans = refl
called_on tree p (Returns false) args q ks s ans = refl
called_on tree p (Returns true) args q ks s ans = refl
called_on tree p completion args q ks s ans = refl

-- the step of an entry keeps the run
pub pop_means : (tree : ℕ → Body) (p : Program) (k : StackEntry) (completion : Completion) (ks : List StackEntry) (s : State) (ans : List Answer) →
    after_stack tree p (k ∷ ks) (Done completion s ans) ≡ means tree p (pop_step p k completion ks s) ans
pop_means tree p (ThenDo t) completion ks s ans = then_on tree p completion t ks s ans
pop_means tree p (OrDo t) completion ks s ans = or_on tree p completion t ks s ans
pop_means tree p (FoundAs word b) completion ks s ans = found_on tree p completion word b ks s ans
pop_means tree p (AsBefore olds bs) completion ks s ans = before_on tree p completion olds bs ks s ans
pop_means tree p (AfterClosing b o out) completion ks s ans = closing_on tree p completion b o out ks s ans
pop_means tree p (Quiet quiet) completion ks s ans = quiet_on tree p completion quiet ks s ans
pop_means tree p (Handles quiet) completion ks s ans = handled_on tree p completion quiet ks s ans
pop_means tree p (In b o) completion ks s ans = refl
pop_means tree p (FetchedAs b copy t buffer body d retry) completion ks s ans = fetched_on tree p completion b copy t buffer body d retry ks s ans
pop_means tree p (AndAgain n b outer body d) completion ks s ans = again_on tree p completion n b outer body d ks s ans
pop_means tree p (Called args n) completion ks s ans = called_on tree p completion args (procedure_at p n) ks s ans

-- the step of an answer keeps the run

pub insert_answered_means : (tree : ℕ → Body) (p : Program) (x : Option RowId) (place : Place) (t : ℕ) (vs : List Value) (made : ℕ) (c : Option Complaint) (ks : List StackEntry) (s : State) (ans : List Answer) →
    after_stack tree p ks (inserted_as x place vs made (refused_by c) s ans) ≡ means tree p (insert_answered x place t vs made c ks s) ans
insert_answered_means tree p (Some row) place t vs made c ks s ans = refl
insert_answered_means tree p None place t vs made (Some c) ks s ans = refl
insert_answered_means tree p None place t vs made None ks s ans = refl

pub refused_answered_means : (tree : ℕ → Body) (p : Program) (c : Option Complaint) (ks : List StackEntry) (s : State) (ans : List Answer) →
    after_stack tree p ks (refused_by c s ans) ≡ means tree p (refused_answered c ks s) ans
refused_answered_means tree p (Some c) ks s ans = refl
refused_answered_means tree p None ks s ans = refl

pub read_answered_means : (tree : ℕ → Body) (p : Program) (x : Option (List Value)) (r : Reading) (retry : Bool) (row : RowId) (held : Held) (ks : List StackEntry) (s : State) (ans : List Answer) →
    after_stack tree p ks (read_as p x r retry row held s ans) ≡ means tree p (read_answered p x r retry row held ks s) ans
read_answered_means tree p (Some values) r retry row held ks s ans =
    test_means tree p r.test r.buffer retry (update_then (holding r.buffer (Record row values held None)) (completes Normal)) (completes Lost) (λ s. config (Unwind Normal) ks (holding r.buffer (Record row values held None) s)) (λ s. config (Unwind Lost) ks s) ks ans (λ s. refl) (λ s. refl) (shows r.buffer row values s)
read_answered_means tree p None r retry row held ks s ans = refl

pub grant_answered_means : (tree : ℕ → Body) (p : Program) (g : Grant) (r : Reading) (retry : Bool) (row : RowId) (ks : List StackEntry) (s : State) (ans : List Answer) →
    after_stack tree p ks (granted_as p g r retry row s ans) ≡ means tree p (grant_answered g r retry row ks s) ans
grant_answered_means tree p IsGranted r retry row ks s ans = asked_means tree p s.units (op.Get (table_of r.buffer s) row) (WasRead r retry row (held_as r.lock)) ks s ans
grant_answered_means tree p IsBusy r retry row ks s ans = refl
grant_answered_means tree p IsGone r retry row ks s ans = refl

pub second_answered_means : (tree : ℕ → Body) (p : Program) (x : Option FoundRow) (n : ℕ) (k : Search) (c : Cursor) (values : List Value) (ks : List StackEntry) (s : State) (ans : List Answer) →
    after_stack tree p ks (second_as p x k c values (looks_for_second p n k c values) s ans) ≡ means tree p (second_answered p x n k c values ks s) ans
second_answered_means tree p (Some x) n k c values ks s ans =
    test_means tree p k.reading.test k.reading.buffer k.retry
    (update_then (emptied k.reading.buffer) (has_fault (MoreThanOne k.reading.buffer))) (looks_for_second p n k c values x.cursor)
    (λ s. fault (MoreThanOne k.reading.buffer) ks (emptied k.reading.buffer s)) (λ s. config (Execute (Seconds n k c values x.cursor)) ks s)
    ks ans (λ s. refl) (λ s. refl) (shows k.reading.buffer x.cursor.row x.values s)
second_answered_means tree p None n k c values ks s ans = refl

pub next_answered_means : (tree : ℕ → Body) (p : Program) (x : Option FoundRow) (n : ℕ) (k : Search) (ks : List StackEntry) (s : State) (ans : List Answer) →
    after_stack tree p ks (next_as p x k (λ c. looks p n k (Some c)) s ans) ≡ means tree p (next_answered p x n k ks s) ans
next_answered_means tree p (Some x) n k ks s ans =
    test_means tree p k.reading.test k.reading.buffer k.retry
    (λ s ans. or_again (takes p k x.cursor x.values s ans) (looks p n k (Some x.cursor))) (looks p n k (Some x.cursor))
    (λ s. config (Execute (Takes k x.cursor x.values)) (OrDo (Looks n k (Some x.cursor)) ∷ ks) s) (λ s. config (Execute (Looks n k (Some x.cursor))) ks s)
    ks ans (λ s. refl) (λ s. refl) (next_shown k x s)
next_answered_means tree p None n k ks s ans = refl

pub current_answered_means : (tree : ℕ → Body) (p : Program) (x : Option (List Value)) (r : Reading) (row : RowId) (made : Option ℕ) (ks : List StackEntry) (s : State) (ans : List Answer) →
    after_stack tree p ks (current_read x r row made s ans) ≡ means tree p (current_answered x r row made ks s) ans
current_answered_means tree p (Some values) r row made ks s ans = refl
current_answered_means tree p None r row made ks s ans = refl

pub current_grant_means : (tree : ℕ → Body) (p : Program) (g : Grant) (r : Reading) (row : RowId) (made : Option ℕ) (ks : List StackEntry) (s : State) (ans : List Answer) →
    after_stack tree p ks (current_granted_as g r row made s ans) ≡ means tree p (current_grant_answered g r row made ks s) ans
current_grant_means tree p IsGranted r row made ks s ans = asked_means tree p s.units (op.Get (table_of r.buffer s) row) (WasCurrent r row made) ks s ans
current_grant_means tree p IsBusy r row made ks s ans = refl
current_grant_means tree p IsGone r row made ks s ans = refl

pub count_answered_means : (tree : ℕ → Body) (p : Program) (x : Option ℤ) (t : Target) (ks : List StackEntry) (s : State) (ans : List Answer) →
    after_stack tree p ks (counted_as x t s ans) ≡ means tree p (count_answered x t ks s) ans
count_answered_means tree p (Some n) t ks s ans = refl
count_answered_means tree p None t ks s ans = refl

pub answered_step_means : (tree : ℕ → Body) (p : Program) (k : OnAnswer) (a : Answer) (ks : List StackEntry) (s : State) (ans : List Answer) →
    after_stack tree p ks (answer_means tree p k a s ans) ≡ means tree p (answer_step p k a ks s) ans
answered_step_means tree p (WasInserted place t vs made) a ks s ans = insert_answered_means tree p (row_in a) place t vs made (refusal_in place.number t a) ks s ans
answered_step_means tree p WasDropped a ks s ans = refl
answered_step_means tree p WasLeft a ks s ans = refl
answered_step_means tree p (WasBack copy but) a ks s ans = refl
answered_step_means tree p (WasGot place row held made) a ks s ans = refl
answered_step_means tree p (WasSecond n k c values) a ks s ans = second_answered_means tree p (found_in a) n k c values ks s ans
answered_step_means tree p (WasNext n k) a ks s ans = next_answered_means tree p (found_in a) n k ks s ans
answered_step_means tree p (WasGranted r retry row) a ks s ans = grant_answered_means tree p (grant_in a) r retry row ks s ans
answered_step_means tree p (WasRead r retry row held) a ks s ans = read_answered_means tree p (values_in a) r retry row held ks s ans
answered_step_means tree p (CurrentGranted r row made) a ks s ans = current_grant_means tree p (grant_in a) r row made ks s ans
answered_step_means tree p (WasCurrent r row made) a ks s ans = current_answered_means tree p (values_in a) r row made ks s ans
answered_step_means tree p (WasCounted t) a ks s ans = count_answered_means tree p (number_in a) t ks s ans
answered_step_means tree p (WasUpgraded b row values made) a ks s ans = either_means tree p (is_gone a) (has_fault (RecordIsGone b)) (update_then (holding b (Record row values Exclusive made)) (completes Normal)) _ _ ks s ans refl refl
answered_step_means tree p (WasPut b t) a ks s ans = refused_answered_means tree p (refusal_in b t a) ks s ans
answered_step_means tree p (WasDeleted b) a ks s ans = either_means tree p (is_gone a) (has_fault (RecordIsGone b)) (update_then (emptied b) (completes Normal)) _ _ ks s ans refl refl
answered_step_means tree p (WasEntered b t retry body d) a ks s ans = refl

-- ---- the machine

pub over_means : (tree : ℕ → Body) (p : Program) (ks : List StackEntry) (completion : Completion) (s : State) (ans : List Answer) → after_stack tree p ks (Done completion s ans) ≡ means tree p (over_step p ks completion s) ans
over_means tree p [] completion s ans = refl
over_means tree p (k ∷ ks) completion s ans = pop_means tree p k completion ks s ans

pub mode_means_on : (code : Code) (tree : ℕ → Body) (p : Program) (is : IsCodeOf code p tree) (m : Mode) (ks : List StackEntry) (s : State) (ans : List Answer) → means tree p (config m ks s) ans ≡ means tree p (mode_step code p m ks s) ans
mode_means_on code tree p is (Execute t) ks s ans = task_means_on code tree p is t ks s ans
mode_means_on code tree p is (Unwind completion) ks s ans = over_means tree p ks completion s ans
mode_means_on code tree p is (Await op k) ks s ans = refl

-- a step keeps the rest of the run
pub step_means : (code : Code) (tree : ℕ → Body) (p : Program) (is : IsCodeOf code p tree) (c : Config) (ans : List Answer) → means tree p c ans ≡ means tree p (step code p c) ans
step_means code tree p is c ans = mode_means_on code tree p is c.mode c.stack c.state ans

-- an answer keeps the rest of the run
pub answered_means : (tree : ℕ → Body) (p : Program) (a : Answer) (op : Op) (k : OnAnswer) (ks : List StackEntry) (s : State) (ans : List Answer) →
    means tree p (config (Await op k) ks s) (a ∷ ans) ≡ means tree p (answered p a op k ks s) ans
answered_means tree p (answer.Blocked holders) op k ks s ans = refl
answered_means tree p answer.NoMemory op k ks s ans = refl
answered_means tree p answer.Closed op k ks s ans = refl
answered_means tree p (answer.Deadlock cycle) op k ks s ans = refl
answered_means tree p answer.TxFull op k ks s ans = refl
answered_means tree p answer.TraceFull op k ks s ans = refl
answered_means tree p a op k ks s ans = answered_step_means tree p k a ks s ans

-- without an answer the run is suspended at the operation that the machine asks
pub entry_is_suspended : (tree : ℕ → Body) (p : Program) (k : StackEntry) (d : Progress) → after_entry tree p k (Suspended d) ≡ Suspended d
entry_is_suspended tree p (ThenDo t) d = refl
entry_is_suspended tree p (OrDo t) d = refl
entry_is_suspended tree p (FoundAs word b) d = refl
entry_is_suspended tree p (AsBefore olds bs) d = refl
entry_is_suspended tree p (AfterClosing b o completion) d = refl
entry_is_suspended tree p (Quiet quiet) d = refl
entry_is_suspended tree p (Handles quiet) d = refl
entry_is_suspended tree p (In b o) d = refl
entry_is_suspended tree p (FetchedAs b copy t buffer body depth retry) d = refl
entry_is_suspended tree p (AndAgain n b outer body depth) d = refl
entry_is_suspended tree p (Called args n) d = refl

pub stack_is_suspended : (tree : ℕ → Body) (p : Program) (ks : List StackEntry) (d : Progress) → after_stack tree p ks (Suspended d) ≡ Suspended d
stack_is_suspended tree p [] d = refl
stack_is_suspended tree p (k ∷ ks) d = rw (entry_is_suspended tree p k d) (stack_is_suspended tree p ks d)

pub asks_means : (tree : ℕ → Body) (p : Program) (op : Op) (k : OnAnswer) (ks : List StackEntry) (s : State) →
    means tree p (config (Await op k) ks s) [] ≡ Suspended (record { written = s.written; wants = Ask op })
asks_means tree p op k ks s = stack_is_suspended tree p ks _

-- the first configuration has the whole run
pub first_config_means : (code : Code) (tree : ℕ → Body) (p : Program) (is : IsCodeOf code p tree) (units : ℕ) (ans : List Answer) → run p units ans ≡ finished (means tree p (first_config code p units) ans)
first_config_means code tree p is units ans = ap (λ b. finished (block p (procedure_at p 0).header false (λ retry. meaning_all b (context_at p 32 retry)) (start p units) ans)) (sym (is.begins 0))
