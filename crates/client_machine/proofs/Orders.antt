-- What is open names its levels in order.
use Rattle.std.proofs.Common.{◌≡◌, ◌⊎◌, inl, inr, ℕ, zero, suc, ◌-◌, ◌≤◌, List, [], ◌∷◌, length, Option, Some, None, refl, sym, ap, ◌∙◌, subst, arith, take, slice_index_or}
use Rattle.std.proofs.lemmas.List.{get_or-take, length-take-le}
use Rattle.client_machine.specs.declared.mode.Completion.{Completion}
use Rattle.client_machine.specs.declared.mode.Completion.TheVariants as completion
use Rattle.client_machine.specs.declared.mode.Task.{Task}
use Rattle.client_machine.specs.declared.mode.Task.TheVariants as task
use Rattle.client_machine.specs.declared.mode.StackEntry.{StackEntry}
use Rattle.client_machine.specs.declared.mode.StackEntry.TheVariants as stack
use Rattle.client_machine.specs.declared.mode.IterationData.{IterationData}
use Rattle.client_machine.specs.declared.mode.ends.EndTask.{EndTask}
use Rattle.client_machine.specs.declared.mode.ends.EndTask.TheVariants as end_task
use Rattle.client_machine.specs.declared.mode.ends.EndEntry.TheVariants as end_entry
use Rattle.client_machine.specs.declared.mode.reads.ReadEntry.TheVariants as read_entry
use Rattle.database_protocol.specs.declared.operation.Op.{Op}
use Rattle.client_machine.specs.Config.{IsBelow, CompletionBelow, EndTaskBelow, TaskBelow, AllBelow}
use Rattle.client_machine.specs.declared.mode.OnAnswer.{OnAnswer}
use Rattle.client_machine.specs.declared.mode.Mode.{Mode}
use Rattle.client_machine.specs.declared.mode.Mode.TheVariants as mode
use Rattle.database_protocol.specs.declared.ends.StopWhy.TheVariants as why
use Rattle.client_machine.specs.Order.{Nesting, returned_in, outside, under, left_in, IsOwn, IsLast, outer_of, first_in, IsAboveClosing, EndFollows, Follows, InOrder, CanReach, Named, LeavesInOrder, CompletesInOrder, ClosesIteration, IsAskedFor, AskingInOrder, ModeInOrder, EndTaskInOrder, TaskInOrder}

-- ---- outer levels

take_take : (a b : ℕ) (xs : List ℕ) → a ≤ b → take a (take b xs) ≡ take a xs
take_take zero b xs le = refl
take_take (suc a) zero xs le = absurd (omega (arith, le))
take_take (suc a) (suc b) [] le = refl
take_take (suc a) (suc b) (x ∷ xs) le = ap (λ ys. x ∷ ys) (take_take a b xs (omega (arith, le)))

take_shorter : (a : ℕ) (xs : List ℕ) → length (take a xs) ≤ length xs
take_shorter zero xs = omega arith
take_shorter (suc a) [] = omega arith
take_shorter (suc a) (x ∷ xs) = let le = take_shorter a xs in omega (arith, le)

take_below : (a : ℕ) (xs : List ℕ) → length (take a xs) ≤ a
take_below zero xs = omega arith
take_below (suc a) [] = omega arith
take_below (suc a) (x ∷ xs) = let le = take_below a xs in omega (arith, le)

pub outside_outside : (a b : ℕ) (n : Nesting) → a ≤ b → outside a (outside b n) ≡ outside a n
outside_outside a b n le = ap (λ xs. record n { levels = xs }) (take_take a b n.levels le)

under_less : (m : ℕ) (n : Nesting) (x : Option ℕ) → length n.levels ≤ m → length (under n x).levels ≤ m
under_less m n None le = le
under_less m n (Some d) le = let le' = take_shorter (d - 1) n.levels in omega (arith, le, le')

-- ---- levels that are open

none_below : (n : ℕ) (x : Option ℕ) → x ≡ None → IsBelow n x
none_below n x e = subst (IsBelow n) (sym e) tt

way_below : (n : ℕ) (w : Completion) → first_in w ≡ None → CompletionBelow n w
way_below n (completion.Undoes block a retry x) e = none_below n x.first e
way_below n (completion.Raises x) e = none_below n x.first e
way_below n (completion.EndKeys x) e = none_below n x.first e
way_below n completion.Normal e = tt
way_below n (completion.Again t) e = tt
way_below n (completion.Leaves l) e = tt
way_below n (completion.Nexts l) e = tt
way_below n (completion.Faults f) e = tt
way_below n (completion.Returns error) e = tt
way_below n (completion.Found c) e = tt
way_below n completion.Lost e = tt
way_below n completion.NotFound e = tt
way_below n (completion.Stops why) e = tt

closing_below : (n : ℕ) (w : Completion) → ClosesIteration w → CompletionBelow n w
closing_below n completion.Normal x = tt
closing_below n (completion.Again t) x = tt
closing_below n (completion.Leaves l) x = tt
closing_below n (completion.Nexts l) x = tt
closing_below n (completion.Faults f) x = tt
closing_below n (completion.Returns error) x = tt
closing_below n (completion.Undoes block a retry y) x = absurd x
closing_below n (completion.Raises y) x = absurd x
closing_below n (completion.EndKeys y) x = absurd x
closing_below n (completion.Found c) x = absurd x
closing_below n completion.Lost x = absurd x
closing_below n completion.NotFound x = absurd x
closing_below n (completion.Stops why) x = absurd x

own_below : (m : ℕ) (n : Nesting) (x : Option ℕ) → length n.levels ≤ m → IsOwn n x → IsBelow m x
own_below m n None le own = tt
own_below m n (Some d) le own = (own.0, omega (arith, own.1, le))

end_task_below : (m : ℕ) (n : Nesting) (t : EndTask) (ks : List StackEntry) (A B : Type 0) → length n.levels ≤ m → EndFollows n t ks A B → EndTaskBelow m t
end_task_below m n (end_task.EntersOne at) ks A B le x = tt
end_task_below m n (end_task.Enters places from) ks A B le x = tt
end_task_below m n (end_task.Drops b) ks A B le x = tt
end_task_below m n (end_task.Releases k from) ks A B le x = tt
end_task_below m n (end_task.EntersRest depth) ks A B le x = own_below m n depth le x.0.1
end_task_below m n (end_task.LeavesIf depth k) ks A B le x = own_below m n depth le x.0.0.1
end_task_below m n (end_task.LeavesNow but) ks A B le x = tt
end_task_below m n (end_task.Closing k depth) ks A B le x = absurd x.0
end_task_below m n (end_task.GoesBack depth but) ks A B le x = absurd x.0
end_task_below m n (end_task.AfterBack depth but) ks A B le x = absurd x.0
end_task_below m n (end_task.UpdatesOne made at) ks A B le x = tt
end_task_below m n (end_task.Updates made but places from) ks A B le x = tt
end_task_below m n (end_task.Empties but) ks A B le x = tt
end_task_below m n (end_task.Closes k t w) ks A B le x = way_below m w x.0

task_below : (m : ℕ) (n : Nesting) (t : Task) (ks : List StackEntry) (A B : Type 0) → length n.levels ≤ m → Follows n t ks A B → TaskBelow m t
task_below m n (task.RunsFrom k d retry) ks A B le x = tt
task_below m n (task.Completes w) ks A B le x = way_below m w x.0
task_below m n (task.Blocks k outer d) ks A B le x = absurd x.0
task_below m n (task.Turns f k outer d t) ks A B le x = absurd x.0
task_below m n (task.EntersLevel k t retry d) ks A B le x = absurd x.0
task_below m n (task.Begins k depth t retry d) ks A B le x = absurd x.0
task_below m n (task.Iterates k outer d t) ks A B le x = absurd x.0
task_below m n (task.UndoComes k o block a retry y) ks A B le x = absurd x.0
task_below m n (task.GoesBack depth) ks A B le x = absurd x.0
task_below m n (task.Acts k t a retry) ks A B le x = tt
task_below m n task.LeavesNow ks A B le x = absurd x.0
task_below m n (task.EndsWith k o w) ks A B le x = absurd x.0
task_below m n (task.Calls k d vs) ks A B le x = absurd x.0
task_below m n (task.End t) ks A B le x = end_task_below m n t ks A B le x
task_below m n (task.Read t) ks A B le x = tt
task_below m n (task.Change t) ks A B le x = tt

-- what is below a task that follows is in order, at this level or without the innermost one
end_follows : (n : Nesting) (t : EndTask) (ks : List StackEntry) (A B : Type 0) → EndFollows n t ks A B → A ⊎ (IsOwn n (Some (length n.levels)) × B)
end_follows n (end_task.EntersOne at) ks A B x = inl x.1
end_follows n (end_task.Enters places from) ks A B x = inl x.1
end_follows n (end_task.Drops b) ks A B x = inl x.1
end_follows n (end_task.Releases k from) ks A B x = inl x.1
end_follows n (end_task.EntersRest depth) ks A B x = inl x.1
end_follows n (end_task.LeavesIf depth k) ks A B x = inl x.1
end_follows n (end_task.LeavesNow but) ks A B x = inr x
end_follows n (end_task.Closing k depth) ks A B x = inl x.1
end_follows n (end_task.GoesBack depth but) ks A B x = inl x.1
end_follows n (end_task.AfterBack depth but) ks A B x = inl x.1
end_follows n (end_task.UpdatesOne made at) ks A B x = inl x.1
end_follows n (end_task.Updates made but places from) ks A B x = inl x.1
end_follows n (end_task.Empties but) ks A B x = inl x.1
end_follows n (end_task.Closes k t w) ks A B x = inl x.1

follows : (n : Nesting) (t : Task) (ks : List StackEntry) (A B : Type 0) → Follows n t ks A B → A ⊎ (IsOwn n (Some (length n.levels)) × B)
follows n (task.RunsFrom k d retry) ks A B x = inl x.1
follows n (task.Completes w) ks A B x = inl x.1
follows n (task.Blocks k outer d) ks A B x = inl x.1
follows n (task.Turns f k outer d t) ks A B x = inl x.1
follows n (task.EntersLevel k t retry d) ks A B x = inl x.1
follows n (task.Begins k depth t retry d) ks A B x = inl x.1
follows n (task.Iterates k outer d t) ks A B x = inl x.1
follows n (task.UndoComes k o block a retry y) ks A B x = inl x.1
follows n (task.GoesBack depth) ks A B x = inl x.1
follows n (task.Acts k t a retry) ks A B x = inl x.1
follows n task.LeavesNow ks A B x = inl x.1
follows n (task.EndsWith k o w) ks A B x = inl x.1
follows n (task.Calls k d vs) ks A B x = inl x.1
follows n (task.End t) ks A B x = end_follows n t ks A B x
follows n (task.Read t) ks A B x = inl x.1
follows n (task.Change t) ks A B x = inl x.1

either : {A B C : Type 0} → A ⊎ B → (A → C) → (B → C) → C
either (inl a) f g = f a
either (inr b) f g = g b

pub all_below : (m : ℕ) (n : Nesting) (ks : List StackEntry) → length n.levels ≤ m → InOrder n ks → AllBelow m ks
all_below m n [] le o = tt
all_below m n (stack.Then t ∷ ks) le o = (
  task_below m n t ks (InOrder n ks) (InOrder (left_in n) ks) le o,
  either (follows n t ks (InOrder n ks) (InOrder (left_in n) ks) o) (all_below m n ks le)
      (λ x. all_below m (left_in n) ks (let le' = take_shorter (length n.levels - 1) n.levels in omega (arith, le, le')) x.1),
)
all_below m n (stack.Handles quiet ∷ ks) le o = (tt, all_below m n ks le o)
all_below m n (stack.In k it ∷ ks) le o = (own_below m n it.depth le o.1, all_below m (under n it.depth) ks (under_less m n it.depth le) o.2)
all_below m n (stack.AndAgain fuel k outer d ∷ ks) le o = (tt, all_below m n ks le o)
all_below m n (stack.Called k ∷ ks) le o = (tt, all_below m (returned_in n) ks le o.1)
all_below m n (stack.End (end_entry.AfterClosing k it w) ∷ ks) le o = ((own_below m n it.depth le o.1.1, closing_below m w o.0), all_below m (under n it.depth) ks (under_less m n it.depth le) o.1.2)
all_below m n (stack.Read (read_entry.OrDo t) ∷ ks) le o = (tt, all_below m n ks le o)
all_below m n (stack.Read (read_entry.FoundAs k) ∷ ks) le o = (tt, all_below m n ks le o)
all_below m n (stack.Read (read_entry.FetchedAs k depth t retry d) ∷ ks) le o = (own_below m n depth le o.1, all_below m (under n depth) ks (under_less m n depth le) o.2)
all_below m n (stack.Read (read_entry.Quiet quiet) ∷ ks) le o = (tt, all_below m n ks le o)
all_below m n (stack.Change e ∷ ks) le o = (tt, all_below m n ks le o)

-- outside of a level
pub outer_below : (m d : ℕ) (n : Nesting) (ks : List StackEntry) → d ≤ m → InOrder (outside d n) ks → AllBelow m ks
outer_below m d n ks le o = all_below m (outside d n) ks (let le' = take_below d n.levels in omega (arith, le, le')) o

-- ---- completions

pub completes_order : (n : Nesting) (w : Completion) (ks : List StackEntry) → first_in w ≡ None → InOrder n ks → CompletesInOrder n w ks
completes_order n (completion.Undoes block a retry x) ks e o = let P : Option ℕ → Type 0 = λ x. Named n x ks in subst P (sym e) (tt, o)
completes_order n (completion.Raises x) ks e o = let P : Option ℕ → Type 0 = λ x. Named n x ks in subst P (sym e) (tt, o)
completes_order n (completion.EndKeys x) ks e o = let P : Option ℕ → Type 0 = λ x. Named n x ks in subst P (sym e) (tt, o)
completes_order n (completion.Stops why) ks e o = tt
completes_order n completion.Normal ks e o = (tt, o)
completes_order n (completion.Again t) ks e o = (tt, o)
completes_order n (completion.Leaves l) ks e o = (tt, o)
completes_order n (completion.Nexts l) ks e o = (tt, o)
completes_order n (completion.Faults f) ks e o = (tt, o)
completes_order n (completion.Returns error) ks e o = (tt, o)
completes_order n (completion.Found c) ks e o = (tt, o)
completes_order n completion.Lost ks e o = (tt, o)
completes_order n completion.NotFound ks e o = (tt, o)

-- an entry that is passed
pub after_order : (w : Completion) (ks js : List StackEntry) → ((n : Nesting) → InOrder n ks → InOrder n js) → (n : Nesting) → CompletesInOrder n w ks → CompletesInOrder n w js
after_order (completion.Undoes block a retry x) ks js f n o = (o.0, f (under n x.first) o.1)
after_order (completion.Raises x) ks js f n o = (o.0, f (under n x.first) o.1)
after_order (completion.EndKeys x) ks js f n o = (o.0, f (under n x.first) o.1)
after_order (completion.Stops why) ks js f n o = tt
after_order completion.Normal ks js f n o = (tt, f n o.1)
after_order (completion.Again t) ks js f n o = (tt, f n o.1)
after_order (completion.Leaves l) ks js f n o = (tt, f n o.1)
after_order (completion.Nexts l) ks js f n o = (tt, f n o.1)
after_order (completion.Faults x) ks js f n o = (tt, f n o.1)
after_order (completion.Returns error) ks js f n o = (tt, f n o.1)
after_order (completion.Found c) ks js f n o = (tt, f n o.1)
after_order completion.Lost ks js f n o = (tt, f n o.1)
after_order completion.NotFound ks js f n o = (tt, f n o.1)

-- a task that follows
end_order : (n : Nesting) (t : EndTask) (ks : List StackEntry) → EndFollows n t ks (InOrder n ks) (InOrder (left_in n) ks) → EndTaskInOrder n t ks
end_order n (end_task.EntersOne at) ks x = (tt, x.1)
end_order n (end_task.Enters places from) ks x = (tt, x.1)
end_order n (end_task.Drops b) ks x = (tt, x.1)
end_order n (end_task.Releases k from) ks x = (tt, x.1)
end_order n (end_task.EntersRest depth) ks x = x
end_order n (end_task.LeavesIf depth k) ks x = x
end_order n (end_task.LeavesNow but) ks x = (x.0.0, x.1)
end_order n (end_task.Closing k depth) ks x = absurd x.0
end_order n (end_task.GoesBack depth but) ks x = absurd x.0
end_order n (end_task.AfterBack depth but) ks x = absurd x.0
end_order n (end_task.UpdatesOne made at) ks x = (tt, x.1)
end_order n (end_task.Updates made but places from) ks x = (tt, x.1)
end_order n (end_task.Empties but) ks x = (tt, x.1)
end_order n (end_task.Closes k t w) ks x = x

then_order : (n : Nesting) (t : Task) (ks : List StackEntry) → InOrder n (stack.Then t ∷ ks) → TaskInOrder n t ks
then_order n (task.RunsFrom k d retry) ks x = (tt, x.1)
then_order n (task.Completes w) ks x = completes_order n w ks x.0 x.1
then_order n (task.Blocks k outer d) ks x = absurd x.0
then_order n (task.Turns f k outer d t) ks x = absurd x.0
then_order n (task.EntersLevel k t retry d) ks x = absurd x.0
then_order n (task.Begins k depth t retry d) ks x = absurd x.0
then_order n (task.Iterates k outer d t) ks x = absurd x.0
then_order n (task.UndoComes k it block a retry y) ks x = absurd x.0
then_order n (task.GoesBack depth) ks x = absurd x.0
then_order n (task.Acts k t a retry) ks x = (tt, x.1)
then_order n task.LeavesNow ks x = absurd x.0
then_order n (task.EndsWith k it w) ks x = absurd x.0
then_order n (task.Calls k d vs) ks x = absurd x.0
then_order n (task.End t) ks x = end_order n t ks x
then_order n (task.Read t) ks x = (tt, x.1)
then_order n (task.Change t) ks x = (tt, x.1)

-- a task that is passed
end_passed : (t : EndTask) (w : Completion) (ks : List StackEntry) (n : Nesting) → CanReach (task.End t) w → CompletesInOrder n w (stack.Then (task.End t) ∷ ks) → (w ≡ completion.Normal → ⊥) → CompletesInOrder n w ks
end_passed (end_task.EntersOne at) w ks n can o past = after_order w (stack.Then (task.End (end_task.EntersOne at)) ∷ ks) ks (λ n x. x.1) n o
end_passed (end_task.Enters places from) w ks n can o past = after_order w (stack.Then (task.End (end_task.Enters places from)) ∷ ks) ks (λ n x. x.1) n o
end_passed (end_task.Drops b) w ks n can o past = after_order w (stack.Then (task.End (end_task.Drops b)) ∷ ks) ks (λ n x. x.1) n o
end_passed (end_task.Releases k from) w ks n can o past = after_order w (stack.Then (task.End (end_task.Releases k from)) ∷ ks) ks (λ n x. x.1) n o
end_passed (end_task.EntersRest depth) w ks n can o past = after_order w (stack.Then (task.End (end_task.EntersRest depth)) ∷ ks) ks (λ n x. x.1) n o
end_passed (end_task.LeavesIf depth k) w ks n can o past = after_order w (stack.Then (task.End (end_task.LeavesIf depth k)) ∷ ks) ks (λ n x. x.1) n o
end_passed (end_task.LeavesNow but) completion.Normal ks n can o past = absurd (past refl)
end_passed (end_task.LeavesNow but) (completion.Stops why) ks n can o past = tt
end_passed (end_task.LeavesNow but) (completion.Again t) ks n can o past = absurd can
end_passed (end_task.LeavesNow but) (completion.Leaves l) ks n can o past = absurd can
end_passed (end_task.LeavesNow but) (completion.Nexts l) ks n can o past = absurd can
end_passed (end_task.LeavesNow but) (completion.Undoes block a retry x) ks n can o past = absurd can
end_passed (end_task.LeavesNow but) (completion.Faults f) ks n can o past = absurd can
end_passed (end_task.LeavesNow but) (completion.Raises x) ks n can o past = absurd can
end_passed (end_task.LeavesNow but) (completion.EndKeys x) ks n can o past = absurd can
end_passed (end_task.LeavesNow but) (completion.Found c) ks n can o past = absurd can
end_passed (end_task.LeavesNow but) completion.Lost ks n can o past = absurd can
end_passed (end_task.LeavesNow but) completion.NotFound ks n can o past = absurd can
end_passed (end_task.LeavesNow but) (completion.Returns error) ks n can o past = absurd can
end_passed (end_task.Closing k depth) w ks n can o past = after_order w (stack.Then (task.End (end_task.Closing k depth)) ∷ ks) ks (λ n x. x.1) n o
end_passed (end_task.GoesBack depth but) w ks n can o past = after_order w (stack.Then (task.End (end_task.GoesBack depth but)) ∷ ks) ks (λ n x. x.1) n o
end_passed (end_task.AfterBack depth but) w ks n can o past = after_order w (stack.Then (task.End (end_task.AfterBack depth but)) ∷ ks) ks (λ n x. x.1) n o
end_passed (end_task.UpdatesOne made at) w ks n can o past = after_order w (stack.Then (task.End (end_task.UpdatesOne made at)) ∷ ks) ks (λ n x. x.1) n o
end_passed (end_task.Updates made but places from) w ks n can o past = after_order w (stack.Then (task.End (end_task.Updates made but places from)) ∷ ks) ks (λ n x. x.1) n o
end_passed (end_task.Empties but) w ks n can o past = after_order w (stack.Then (task.End (end_task.Empties but)) ∷ ks) ks (λ n x. x.1) n o
end_passed (end_task.Closes k t w') w ks n can o past = after_order w (stack.Then (task.End (end_task.Closes k t w')) ∷ ks) ks (λ n x. x.1) n o

pub then_passed : (n : Nesting) (w : Completion) (t : Task) (ks : List StackEntry) → CanReach t w → (w ≡ completion.Normal → ⊥) → CompletesInOrder n w (stack.Then t ∷ ks) → CompletesInOrder n w ks
then_passed n w (task.RunsFrom k d retry) ks can past o = after_order w (stack.Then (task.RunsFrom k d retry) ∷ ks) ks (λ n x. x.1) n o
then_passed n w (task.Completes w') ks can past o = after_order w (stack.Then (task.Completes w') ∷ ks) ks (λ n x. x.1) n o
then_passed n w (task.Blocks k outer d) ks can past o = after_order w (stack.Then (task.Blocks k outer d) ∷ ks) ks (λ n x. x.1) n o
then_passed n w (task.Turns f k outer d t) ks can past o = after_order w (stack.Then (task.Turns f k outer d t) ∷ ks) ks (λ n x. x.1) n o
then_passed n w (task.EntersLevel k t retry d) ks can past o = after_order w (stack.Then (task.EntersLevel k t retry d) ∷ ks) ks (λ n x. x.1) n o
then_passed n w (task.Begins k depth t retry d) ks can past o = after_order w (stack.Then (task.Begins k depth t retry d) ∷ ks) ks (λ n x. x.1) n o
then_passed n w (task.Iterates k outer d t) ks can past o = after_order w (stack.Then (task.Iterates k outer d t) ∷ ks) ks (λ n x. x.1) n o
then_passed n w (task.UndoComes k it block a retry y) ks can past o = after_order w (stack.Then (task.UndoComes k it block a retry y) ∷ ks) ks (λ n x. x.1) n o
then_passed n w (task.GoesBack depth) ks can past o = after_order w (stack.Then (task.GoesBack depth) ∷ ks) ks (λ n x. x.1) n o
then_passed n w (task.Acts k t a retry) ks can past o = after_order w (stack.Then (task.Acts k t a retry) ∷ ks) ks (λ n x. x.1) n o
then_passed n w task.LeavesNow ks can past o = after_order w (stack.Then task.LeavesNow ∷ ks) ks (λ n x. x.1) n o
then_passed n w (task.EndsWith k it w') ks can past o = after_order w (stack.Then (task.EndsWith k it w') ∷ ks) ks (λ n x. x.1) n o
then_passed n w (task.Calls k d vs) ks can past o = after_order w (stack.Then (task.Calls k d vs) ∷ ks) ks (λ n x. x.1) n o
then_passed n w (task.End t) ks can past o = end_passed t w ks n can o past
then_passed n w (task.Read t) ks can past o = after_order w (stack.Then (task.Read t) ∷ ks) ks (λ n x. x.1) n o
then_passed n w (task.Change t) ks can past o = after_order w (stack.Then (task.Change t) ∷ ks) ks (λ n x. x.1) n o

pub handles_passed : (n : Nesting) (w : Completion) (quiet : _) (ks : List StackEntry) → CompletesInOrder n w (stack.Handles quiet ∷ ks) → CompletesInOrder n w ks
handles_passed n w quiet ks o = after_order w (stack.Handles quiet ∷ ks) ks (λ n x. x) n o

pub again_passed : (n : Nesting) (w : Completion) (fuel k d : ℕ) (outer : _) (ks : List StackEntry) → CompletesInOrder n w (stack.AndAgain fuel k outer d ∷ ks) → CompletesInOrder n w ks
again_passed n w fuel k d outer ks o = after_order w (stack.AndAgain fuel k outer d ∷ ks) ks (λ n x. x) n o

-- ---- what is asked

pub ask_order : (n : Nesting) (op : Op) (k : OnAnswer) (x : Mode) (ks : List StackEntry) → (x ≡ mode.Await op k) ⊎ (x ≡ mode.Unwind (completion.Stops why.Budget)) → IsAskedFor k op → AskingInOrder n k ks → ModeInOrder n x ks
ask_order n op k x ks (inl e) asked o = subst (λ x. ModeInOrder n x ks) (sym e) (asked, o)
ask_order n op k x ks (inr e) asked o = subst (λ x. ModeInOrder n x ks) (sym e) tt

-- ---- an unwinding passes an iteration

own_outside : (n : Nesting) (e d : ℕ) → IsOwn (outside (e - 1) n) (Some d) → IsOwn n (Some d)
own_outside n e d own =
    let short = take_shorter (e - 1) n.levels in
    let below = take_below (e - 1) n.levels in
    (own.0, (omega (arith, own.1, short)), sym (get_or-take (e - 1) n.levels (d - 1) 0 (omega (arith, own.0, own.1, below))) ∙ own.2)

passes_by : (n : Nesting) (x y : Option ℕ) (ks : List StackEntry) → IsOwn n y → IsOwn (under n y) x → InOrder (under (under n y) x) ks → Named n (outer_of x y) ks
passes_by n None y ks own inner o = (own, o)
passes_by n (Some d) None ks own inner o = (inner, o)
passes_by n (Some d) (Some e) ks own inner o = (
  own_outside n e d inner,
  subst (λ m. InOrder m ks) (outside_outside (d - 1) (e - 1) n (let below = take_below (e - 1) n.levels in omega (arith, inner.0, inner.1, below))) o,
)

pub passes_named : (n : Nesting) (k : ℕ) (it : IterationData) (y : Option ℕ) (ks : List StackEntry) → Named n y (stack.In k it ∷ ks) → Named n (outer_of it.depth y) ks
passes_named n k it y ks o = passes_by n it.depth y ks o.0 o.1.1 o.1.2

-- without a level open it has passed none
passes_none_by : (n : Nesting) (x y : Option ℕ) (ks : List StackEntry) → length n.levels ≡ 0 → IsOwn n y → IsOwn (under n y) x → InOrder (under (under n y) x) ks → Named n y ks
passes_none_by n None y ks none own inner o = (own, o)
passes_none_by n (Some d) y ks none own inner o = absurd (let le = under_less (length n.levels) n y (omega arith) in omega (arith, none, le, inner.0, inner.1))

pub passes_none : (n : Nesting) (k : ℕ) (it : IterationData) (y : Option ℕ) (ks : List StackEntry) → length n.levels ≡ 0 → Named n y (stack.In k it ∷ ks) → Named n y ks
passes_none n k it y ks none o = passes_none_by n it.depth y ks none o.0 o.1.1 o.1.2

-- ---- an iteration that ends

pub closing_order : (n : Nesting) (w : Completion) (ks : List StackEntry) → ClosesIteration w → CompletesInOrder n w ks → InOrder n ks
closing_order n completion.Normal ks x o = o.1
closing_order n (completion.Again t) ks x o = o.1
closing_order n (completion.Leaves l) ks x o = o.1
closing_order n (completion.Nexts l) ks x o = o.1
closing_order n (completion.Faults f) ks x o = o.1
closing_order n (completion.Returns error) ks x o = o.1
closing_order n (completion.Undoes block a retry y) ks x o = absurd x
closing_order n (completion.Raises y) ks x o = absurd x
closing_order n (completion.EndKeys y) ks x o = absurd x
closing_order n (completion.Found c) ks x o = absurd x
closing_order n completion.Lost ks x o = absurd x
closing_order n completion.NotFound ks x o = absurd x
closing_order n (completion.Stops why) ks x o = absurd x

none_closed : (n : Nesting) (x : Option ℕ) (ks : List StackEntry) → x ≡ None → InOrder (under n x) ks → InOrder n ks
none_closed n x ks e o = subst (λ x. InOrder (under n x) ks) e o

pub closes_plainly : (n : Nesting) (k : ℕ) (it : IterationData) (w w' : Completion) (ks : List StackEntry) → it.depth ≡ None → ClosesIteration w → first_in w' ≡ None → CompletesInOrder n w (stack.In k it ∷ ks) → CompletesInOrder n w' ks
closes_plainly n k it w w' ks e closes none o =
    let o' = closing_order n w (stack.In k it ∷ ks) closes o in
    completes_order n w' ks none (none_closed n it.depth ks e o'.2)

level_closed : (n : Nesting) (d : ℕ) (x : Option ℕ) (ks : List StackEntry) → x ≡ Some d → IsLast n x → IsOwn n x → InOrder (under n x) ks → LeavesInOrder n ks
level_closed n d x ks e last own o =
    let last' : d ≡ length n.levels = subst (IsLast n) e last in
    let own' : IsOwn n (Some d) = subst (IsOwn n) e own in
    (omega (arith, last', own'.0), subst (λ j. InOrder (outside (j - 1) n) ks) last' (subst (λ x. InOrder (under n x) ks) e o))

pub closes_level : (n : Nesting) (k d : ℕ) (it : IterationData) (w w' : Completion) (ks : List StackEntry) → it.depth ≡ Some d → ClosesIteration w → first_in w' ≡ None → CompletesInOrder n w (stack.In k it ∷ ks) → TaskInOrder n task.LeavesNow (stack.Then (task.Completes w') ∷ ks)
closes_level n k d it w w' ks e closes none o =
    let o' = closing_order n w (stack.In k it ∷ ks) closes o in
    let left = level_closed n d it.depth ks e o'.0 o'.1 o'.2 in
    (left.0, (none, left.1))

above_closing : (d : Option ℕ) (k : ℕ) (it : IterationData) (w : Completion) (ks : List StackEntry) → it.depth ≡ d → IsAboveClosing d (stack.End (end_entry.AfterClosing k it w) ∷ ks)
above_closing None k it w ks e = tt
above_closing (Some d) k it w ks e = e

pub closes_records : (n : Nesting) (k : ℕ) (it : IterationData) (w : Completion) (ks : List StackEntry) → ClosesIteration w → CompletesInOrder n w (stack.In k it ∷ ks) →
    TaskInOrder n (task.End (end_task.Closing k it.depth)) (stack.End (end_entry.AfterClosing k it w) ∷ ks)
closes_records n k it w ks closes o =
    let o' = closing_order n w (stack.In k it ∷ ks) closes o in
    (((o'.0, o'.1), above_closing it.depth k it w ks refl), (closes, o'))

-- ---- after Back

pub back_order : (n : Nesting) (d : ℕ) (ks : List StackEntry) → Named n (Some d) ks → LeavesInOrder (outside d n) ks
back_order n d ks o =
    let long : length (take d n.levels) ≡ d = length-take-le d n.levels o.0.1 in (
      omega (arith, long, o.0.0),
      subst (λ m. InOrder m ks) (sym (outside_outside (length (take d n.levels) - 1) d n (omega (arith, long)) ∙ ap (λ j. outside (j - 1) n) long)) o.1,
    )

-- ---- a procedure that ends

level_at : (n : Nesting) (d : ℕ) → d ≡ length n.levels → IsOwn n (Some d) → slice_index_or n.levels (length n.levels - 1) 0 ≤ n.procedures
level_at n d last own = let e : slice_index_or n.levels (length n.levels - 1) 0 ≡ n.procedures = ap (λ j. slice_index_or n.levels (j - 1) 0) (sym last) ∙ own.2 in omega (arith, e)

no_level_at : (n : Nesting) → n.levels ≡ [] → slice_index_or n.levels (length n.levels - 1) 0 ≤ n.procedures
no_level_at n e = let z : slice_index_or n.levels (length n.levels - 1) 0 ≡ 0 = ap (λ xs. slice_index_or xs (length xs - 1) 0) e in omega (arith, z)

-- the innermost level has no more procedures than are open
last_level_by : (n : Nesting) (x : Option ℕ) → IsLast n x → IsOwn n x → (x ≡ None → slice_index_or n.levels (length n.levels - 1) 0 ≤ n.procedures) → slice_index_or n.levels (length n.levels - 1) 0 ≤ n.procedures
last_level_by n None last own rest = rest refl
last_level_by n (Some d) last own rest = level_at n d last own

pub last_level : (n : Nesting) (ks : List StackEntry) → InOrder n ks → slice_index_or n.levels (length n.levels - 1) 0 ≤ n.procedures
last_level n [] o = no_level_at n o
last_level n (stack.Then t ∷ ks) o = either (follows n t ks (InOrder n ks) (InOrder (left_in n) ks) o) (last_level n ks) (λ x. level_at n (length n.levels) refl x.0)
last_level n (stack.Handles quiet ∷ ks) o = last_level n ks o
last_level n (stack.In k it ∷ ks) o = last_level_by n it.depth o.0 o.1 (λ e. last_level n ks (subst (λ x. InOrder (under n x) ks) e o.2))
last_level n (stack.AndAgain fuel k outer d ∷ ks) o = last_level n ks o
last_level n (stack.End (end_entry.AfterClosing k it w) ∷ ks) o = last_level_by n it.depth o.1.0 o.1.1 (λ e. last_level n ks (subst (λ x. InOrder (under n x) ks) e o.1.2))
last_level n (stack.Read (read_entry.OrDo t) ∷ ks) o = last_level n ks o
last_level n (stack.Read (read_entry.FoundAs k) ∷ ks) o = last_level n ks o
last_level n (stack.Read (read_entry.FetchedAs k depth t retry d) ∷ ks) o = last_level_by n depth o.0 o.1 (λ e. last_level n ks (subst (λ x. InOrder (under n x) ks) e o.2))
last_level n (stack.Read (read_entry.Quiet quiet) ∷ ks) o = last_level n ks o
last_level n (stack.Change e ∷ ks) o = last_level n ks o
last_level n (stack.Called k ∷ ks) o = let le = last_level (returned_in n) ks o.1 in omega (arith, le)
