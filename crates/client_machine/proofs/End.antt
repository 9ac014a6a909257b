-- The ends of iterations, where there are no buffers.
use Rattle.std.proofs.Common.{◌≡◌, ℕ, zero, suc, List, [], ◌∷◌, ◌++◌, Option, Some, None, Bool, true, false, refl, sym, ap, ◌∙◌}
use Rattle.std.specs.Prelude.{◌==◌, map}
use Rattle.database_protocol.specs.declared.operation.Op.{Op}
use Rattle.database_protocol.specs.declared.operation.Op.TheVariants as op
use Rattle.database_protocol.specs.declared.answer.Answer.{Answer}
use Rattle.database_protocol.specs.declared.answer.Answer.TheVariants as answer
use Rattle.bound_tree.specs.Tree.{Body, Header}
use Rattle.block_meaning.specs.Program.{Program}
use Rattle.block_meaning.specs.State.{State, Copy, Passed, Turn, Continuation, Done, Normal, Completion, completes, if_else, awaits, costs_unit_of, and_then}
use Rattle.block_meaning.specs.Buffers.{own, all_places, enters_places, keep_of, was_left, releases_all}
use Rattle.block_meaning.specs.Blocks.{Iteration, first_of_two, passed_with, after_iteration, leaves_if, enters_rest, closing, after_closing, ended, ends_with}
use Rattle.flat_machine.specs.Flat as flat
use Rattle.flat_machine.specs.Flat.{means, config, after_stack}
use Rattle.client_memory.specs.Memory.{Remembered, HasNoBuffers}
use Rattle.block_code.specs.declared.code.Instr.{Instr}
use Rattle.client_machine.specs.declared.mode.Completion.{Completion as MyWay}
use Rattle.client_machine.specs.declared.mode.Completion.TheVariants as completion
use Rattle.client_machine.specs.declared.mode.IterationData.{IterationData}
use Rattle.client_machine.specs.declared.mode.PassedLevels.{PassedLevels}
use Rattle.client_machine.specs.Config.{completion_of, state_of, copy_in, buffers_of, iteration_of, passed_of, AreEven}
use Rattle.client_machine.specs.Order.{ClosesIteration, outer_of, first_in}
use Rattle.client_memory.proofs.NoBuffers as none

-- ---- what an unwinding has passed

pub outer_copy : (cs : List Copy) (x y : Option ℕ) → first_of_two (copy_in cs x) (copy_in cs y) ≡ copy_in cs (outer_of x y)
outer_copy cs None y = refl
outer_copy cs (Some d) y = refl

pub passed_is : (code : List Instr) (cs : List Copy) (b : Header) (o : IterationData) (x y : PassedLevels) → x.first ≡ outer_of o.depth y.first → buffers_of code x.buffers ≡ b.scoped ++ buffers_of code y.buffers →
    passed_with b (iteration_of cs o) (passed_of code cs y) ≡ passed_of code cs x
passed_is code cs b o x y first bufs =
    ap (λ (f : Option Copy). let z : Passed = record { first = f; buffers = b.scoped ++ buffers_of code y.buffers } in z) (outer_copy cs o.depth y.first ∙ ap (copy_in cs) (sym first))
    ∙ ap (λ (bs : List ℕ). let z : Passed = record { first = copy_in cs x.first; buffers = bs } in z) (sym bufs)

-- ---- an iteration that ends

pub closing_ends : (p : Program) (b : Header) (o : Iteration) (code : List Instr) (cs : List Copy) (w : MyWay) → ClosesIteration w → ends_with p b o (completion_of code cs w) ≡ ended p b o (completion_of code cs w)
closing_ends p b o code cs completion.Normal x = refl
closing_ends p b o code cs (completion.Again t) x = refl
closing_ends p b o code cs (completion.Leaves l) x = refl
closing_ends p b o code cs (completion.Nexts l) x = refl
closing_ends p b o code cs (completion.Faults f) x = refl
closing_ends p b o code cs (completion.Returns error) x = refl
closing_ends p b o code cs (completion.Undoes block a retry y) x = absurd x
closing_ends p b o code cs (completion.Raises y) x = absurd x
closing_ends p b o code cs (completion.EndKeys y) x = absurd x
closing_ends p b o code cs (completion.Found c) x = absurd x
closing_ends p b o code cs completion.Lost x = absurd x
closing_ends p b o code cs completion.NotFound x = absurd x
closing_ends p b o code cs (completion.Stops why) x = absurd x

pub closing_names : (w : MyWay) → ClosesIteration w → first_in w ≡ None
closing_names completion.Normal x = refl
closing_names (completion.Again t) x = refl
closing_names (completion.Leaves l) x = refl
closing_names (completion.Nexts l) x = refl
closing_names (completion.Faults f) x = refl
closing_names (completion.Returns error) x = refl
closing_names (completion.Undoes block a retry y) x = absurd x
closing_names (completion.Raises y) x = absurd x
closing_names (completion.EndKeys y) x = absurd x
closing_names (completion.Found c) x = absurd x
closing_names completion.Lost x = absurd x
closing_names completion.NotFound x = absurd x
closing_names (completion.Stops why) x = absurd x

-- no place has a buffer
pub no_places : (rest : State) (ns : List ℕ) (m : Remembered) (units : ℕ) → AreEven ns m → HasNoBuffers m → all_places (state_of rest ns m units) ≡ []
no_places rest ns m units even bufferless = none.no_places rest ns m even bufferless

rest_by : (x : Bool) (p : Program) (s : State) (ans : List Answer) → all_places s ≡ [] → if_else x (λ s ans. enters_places p (all_places s) s ans) (completes Normal) s ans ≡ Done Normal s ans
rest_by true p s ans e = ap (λ ps. enters_places p ps s ans) e
rest_by false p s ans e = refl

rest_is : (p : Program) (copy : Option Copy) (s : State) (ans : List Answer) → all_places s ≡ [] → enters_rest p copy s ans ≡ Done Normal s ans
rest_is p None s ans e = refl
rest_is p (Some copy) s ans e = rest_by (copy.depth == 1) p s ans e

closing_is : (p : Program) (b : Header) (o : Iteration) (s : State) (ans : List Answer) → b.scoped ≡ [] → all_places s ≡ [] → closing p b o s ans ≡ leaves_if o.copy [] s ans
closing_is p b o s ans none e =
    ap (λ bs. and_then (and_then (and_then (enters_places p (map own bs) s ans) (releases_all p bs)) (enters_rest p o.copy)) (leaves_if o.copy bs)) none
    ∙ ap (λ r. and_then r (leaves_if o.copy [])) (rest_is p o.copy s ans e)

leave_heard : (p : Program) (b : Header) (o : Iteration) (w : Completion) (x : Op) (s : State) (ans : List Answer) → after_closing p b o w (awaits x was_left s ans) ≡ and_then (awaits x was_left s ans) (completes (after_iteration b o w))
leave_heard p b o w x s [] = refl
leave_heard p b o w x s (answer.Blocked holders ∷ ans) = leave_heard p b o w x s ans
leave_heard p b o w x s (answer.NoMemory ∷ ans) = refl
leave_heard p b o w x s (answer.Closed ∷ ans) = refl
leave_heard p b o w x s (answer.Deadlock cycle ∷ ans) = refl
leave_heard p b o w x s (answer.TxFull ∷ ans) = refl
leave_heard p b o w x s (answer.TraceFull ∷ ans) = refl
leave_heard p b o w x s (a ∷ ans) = refl

pub leave_paid : (n : ℕ) (p : Program) (b : Header) (o : Iteration) (w : Completion) (x : Op) (s : State) (ans : List Answer) → after_closing p b o w (costs_unit_of n (awaits x was_left) s ans) ≡ and_then (costs_unit_of n (awaits x was_left) s ans) (completes (after_iteration b o w))
leave_paid zero p b o w x s ans = refl
leave_paid (suc n) p b o w x s ans = leave_heard p b o w x (record s { units = n }) ans

pub level_ends : (tree : ℕ → Body) (p : Program) (b : Header) (o : Iteration) (w : Completion) (copy : Copy) (ks : List flat.StackEntry) (s : State) (ans : List Answer) → ends_with p b o w ≡ ended p b o w → b.scoped ≡ [] → all_places s ≡ [] → o.copy ≡ Some copy →
    means tree p (config (flat.Execute (flat.EndsWith b o w)) ks s) ans ≡ means tree p (config (flat.Execute (flat.LeavesNow [])) (flat.ThenDo (flat.Completes (after_iteration b o w)) ∷ ks) s) ans
level_ends tree p b o w copy ks s ans plain none e c =
    ap (λ (g : Continuation). after_stack tree p ks (g s ans)) plain
    ∙ ap (λ r. after_stack tree p ks (after_closing p b o w r)) (closing_is p b o s ans none e ∙ ap (λ x. leaves_if x [] s ans) c)
    ∙ ap (after_stack tree p ks) (leave_paid s.units p b o w (op.Leave (keep_of [] s)) s ans)

pub plain_iteration_ends : (tree : ℕ → Body) (p : Program) (b : Header) (o : Iteration) (w : Completion) (ks : List flat.StackEntry) (s : State) (ans : List Answer) → ends_with p b o w ≡ ended p b o w → b.scoped ≡ [] → all_places s ≡ [] → o.copy ≡ None →
    means tree p (config (flat.Execute (flat.EndsWith b o w)) ks s) ans ≡ means tree p (config (flat.Unwind (after_iteration b o w)) ks s) ans
plain_iteration_ends tree p b o w ks s ans plain none e c =
    ap (λ (g : Continuation). after_stack tree p ks (g s ans)) plain
    ∙ ap (λ r. after_stack tree p ks (after_closing p b o w r)) (closing_is p b o s ans none e ∙ ap (λ x. leaves_if x [] s ans) c)

-- where there are buffers they are released first
pub closing_begins : (tree : ℕ → Body) (p : Program) (b : Header) (o : Iteration) (w : Completion) (t : Turn) (ks : List flat.StackEntry) (s : State) (ans : List Answer) → ends_with p b o w ≡ ended p b o w →
    means tree p (config (flat.Execute (flat.EndsWith b o w)) ks s) ans ≡ means tree p (config (flat.Execute (flat.Closing b (record { copy = o.copy; turn = t }))) (flat.AfterClosing b o w ∷ ks) s) ans
closing_begins tree p b o w t ks s ans plain = ap (λ (g : Continuation). after_stack tree p ks (g s ans)) plain
