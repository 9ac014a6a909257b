-- The values of a line and their targets.
use Rattle.std.proofs.Common.{◌≡◌, ℕ, ◌+◌, ◌<◌, List, [], ◌∷◌, ◌++◌, length, drop, get_or, Bool, Option, Some, None, refl, sym, ap, ◌∙◌, subst, add-one, append_assoc, drop-cons}
use Rattle.std.specs.Prelude.{Vec, map, reverse}
use Rattle.std.specs.declared.alloc.Global.{Global}
use Rattle.std.proofs.lemmas.List.{reverse-append}
use Rattle.abl_base.specs.declared.value.Value.{Value}
use Rattle.bound_tree.specs.declared.statement.Target.{Target}
use Rattle.bound_tree.specs.Tree.{Assignment}
use Rattle.block_meaning.specs.Streams.{pairs_of}
use Rattle.block_meaning.proofs.Continues.{begins_itself}
use Rattle.flat_machine.specs.Flat as flat
use Rattle.client_output.proofs.Unchanged.{written_same}
use Rattle.client_values.specs.Given.{pair_of}
use Rattle.client_machine.specs.declared.machine.Machine.{Machine}
use Rattle.client_machine.specs.declared.mode.Mode.TheVariants as mode
use Rattle.client_machine.specs.declared.mode.Task.TheVariants as task
use Rattle.client_machine.specs.declared.mode.StackEntry.{StackEntry}
use Rattle.client_machine.specs.declared.mode.StackEntry.TheVariants as stack
use Rattle.client_machine.specs.declared.mode.changes.AssignmentList.TheVariants as assignment_list
use Rattle.client_machine.specs.declared.mode.changes.ChangeTask.TheVariants as change_task
use Rattle.client_machine.specs.declared.mode.changes.GivenValue.{GivenValue}
use Rattle.client_machine.specs.Config.{given_of, stack_of}
use Rattle.client_machine.specs.Inputs.{names_of}
use Rattle.client_machine.specs.KeepsFrom.{KeepsFrom}
use Rattle.client_machine.specs.Machine.{config_of, state_in}
use Rattle.client_machine.specs.Order.{ModeInOrder, nesting_of}
use Rattle.client_machine.specs.Step.{FitsIn}
use Rattle.client_streams.specs.Statements.{under}

-- the target at an index comes first from there on
pub target_here : (ts : List (Option Target)) (i : ℕ) (d : Option Target) → i < length ts → drop i ts ≡ get_or ts i d ∷ drop (i + 1) ts
target_here ts i d below = drop-cons ts i d below ∙ ap (λ (j : ℕ). get_or ts i d ∷ drop j ts) (sym (add-one i))

-- the first target takes the first value
first_pair : (t : Option Target) (v : Option Value) (ts : List (Option Target)) (vs : List (Option Value)) → pairs_of (t ∷ ts) (v ∷ vs) ≡ pair_of t v ++ pairs_of ts vs
first_pair None v ts vs = refl
first_pair (Some t) None ts vs = refl
first_pair (Some t) (Some v) ts vs = refl

-- without a value there is none
no_pairs : (ts : List (Option Target)) → pairs_of ts [] ≡ []
no_pairs [] = refl
no_pairs (t ∷ ts) = refl

-- there is no value left
pub no_value : (before : List Assignment) (t : Option Target) (ts : List (Option Target)) (old new : List (Option Value)) → old ≡ [] → new ≡ [] → before ++ pairs_of ts (reverse new) ≡ before ++ pairs_of (t ∷ ts) (reverse old)
no_value before t ts old new none still =
    ap (λ (vs : List (Option Value)). before ++ pairs_of ts (reverse vs)) still
    ∙ ap (λ (xs : List Assignment). before ++ xs) (no_pairs ts)
    ∙ sym (ap (λ (vs : List (Option Value)). before ++ pairs_of (t ∷ ts) (reverse vs)) none)

-- the last value goes to the first target
pub one_given : (before after : List GivenValue) (t : Option Target) (v : Option Value) (ts : List (Option Target)) (old new : List (Option Value)) → old ≡ new ++ v ∷ [] → map given_of after ≡ map given_of before ++ pair_of t v →
    map given_of after ++ pairs_of ts (reverse new) ≡ map given_of before ++ pairs_of (t ∷ ts) (reverse old)
one_given before after t v ts old new popped pushed =
    ap (λ (xs : List Assignment). xs ++ pairs_of ts (reverse new)) pushed
    ∙ append_assoc (map given_of before) (pair_of t v) (pairs_of ts (reverse new))
    ∙ ap (λ (xs : List Assignment). map given_of before ++ xs) (sym (first_pair t v ts (reverse new)))
    ∙ ap (λ (vs : List (Option Value)). map given_of before ++ pairs_of (t ∷ ts) vs) (sym (ap reverse popped ∙ reverse-append new (v ∷ [])))

-- the task of the assignments is next
pub given_kept : (xs : List Assignment) (quiet : Bool) (old new : Machine) (more : Vec StackEntry Global) (given : Vec GivenValue Global) (next left : ℕ) (retry : Bool) →
    (let x : Machine = record old { stack = more; mode = mode.Execute (task.Change (change_task.Assigns (assignment_list.Given given) retry)) } in new ≡ x) →
    more.items ≡ (old.stack.items ++ stack.Then (task.RunsFrom next left retry) ∷ []) ++ stack.Handles quiet ∷ [] →
    map given_of (reverse given.items) ≡ xs →
    KeepsFrom (λ p s. flat.config (flat.Execute (flat.Assigns xs retry)) (under old quiet next left retry) s) old new
given_kept xs quiet old new more given next left retry moved pushed is = λ tree p rest code f.
    let below = stack.Then (task.RunsFrom next left retry) in
    let x = mode.Execute (task.Change (change_task.Assigns (assignment_list.Given given) retry)) in
    let top : reverse more.items ≡ stack.Handles quiet ∷ below ∷ reverse old.stack.items =
    ap reverse pushed ∙ reverse-append (old.stack.items ++ below ∷ []) (stack.Handles quiet ∷ []) ∙ ap (λ zs. stack.Handles quiet ∷ zs) (reverse-append old.stack.items (below ∷ [])) in
    record {
      rest = rest;
      code = ap (λ (m : Machine). m.code) moved;
      fits = subst (λ (m : Machine). FitsIn p rest m.mode m) (sym moved) (record {
        program = f.program;
        state = record { made_is = f.state.made_is; status_is = f.state.status_is; returned_is = f.state.returned_is; size_is = f.state.size_is; streams_are = f.state.streams_are; at_is = f.state.at_is };
        even = f.even;
        whole = f.whole;
        order = subst (λ ks. ModeInOrder (nesting_of old.memory) x ks) (sym top) (tt, (tt, f.order.1));
      });
      more = begins_itself rest.written;
      has = λ has. written_same old.output new.output (names_of old.code) rest.written (ap (λ (m : Machine). m.output) moved) has;
      same = λ ans.
          ap (λ (ys : List Assignment). flat.means tree p (flat.config (flat.Execute (flat.Assigns ys retry)) (under old quiet next left retry) (state_in rest old)) ans) (sym is)
          ∙ ap (λ ks. flat.means tree p (flat.config (flat.Execute (flat.Assigns (map given_of (reverse given.items)) retry)) (stack_of old.code.instrs.items old.memory.copies ks) (state_in rest old)) ans) (sym top)
          ∙ ap (λ (m : Machine). flat.means tree p (config_of rest m) ans) (sym moved);
    }
