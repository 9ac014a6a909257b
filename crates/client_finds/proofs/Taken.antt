-- A record that passed WHERE is taken.
use Rattle.std.proofs.Common.{◌≡◌, Bool, false, true, ℕ, List, ◌∷◌, Option, Some, None, refl, sym, ap, ◌∙◌, subst}
use Rattle.std.specs.Prelude.{reverse}
use Rattle.abl_base.specs.declared.row.RowId.{RowId}
use Rattle.abl_base.specs.declared.value.Value.{Value}
use Rattle.bound_tree.specs.declared.block.LockWanted.TheVariants as wanted
use Rattle.bound_tree.specs.Tree.{Reading}
use Rattle.database_protocol.specs.declared.row_order.Cursor.{Cursor}
use Rattle.block_meaning.specs.Program.{Program}
use Rattle.block_meaning.specs.Reads.{Search}
use Rattle.block_meaning.specs.State as state
use Rattle.block_meaning.specs.State.{State}
use Rattle.flat_machine.specs.Flat as flat
use Rattle.block_code.specs.declared.code.Instr.{Instr}
use Rattle.buffer_steps.proofs.ReadsLemmas.Taken.{found_at_once}
use Rattle.client_machine.specs.declared.machine.Machine.{Machine}
use Rattle.client_machine.specs.declared.mode.Completion.TheVariants as completion
use Rattle.client_machine.specs.declared.mode.StackEntry.{StackEntry}
use Rattle.client_machine.specs.declared.mode.StackEntry.TheVariants as stack
use Rattle.client_machine.specs.declared.mode.Task.TheVariants as task
use Rattle.client_machine.specs.declared.mode.reads.ReadEntry.TheVariants as read_entry
use Rattle.client_machine.specs.declared.mode.reads.ReadTask.TheVariants as read_task
use Rattle.client_machine.specs.declared.mode.reads.SearchData.{SearchData}
use Rattle.client_machine.specs.Config.{entry_of, reading_at, search_of}
use Rattle.client_machine.specs.KeepsFrom.{KeepsFrom}
use Rattle.client_machine.specs.Machine.{stack_in, state_in}
use Rattle.client_finds.specs.Steps.{instrs_in, KeepsExecuted}
use Rattle.client_finds.proofs.Kept.{means_kept, pushed_kept, same_kept}

-- the search where any match will do, or where a second one is a fault
abbrev with_only : Bool → Search → Search
with_only only k = record k { only = only }

-- without a lock it is found at once
pub found_kept : (old new : Machine) (fuel : ℕ) (sd : SearchData) (c : Cursor) (values : List Value) → sd.only ≡ false → (reading_at (instrs_in old) sd.place).lock ≡ wanted.NoLock →
    KeepsFrom (λ p s. flat.config (flat.Unwind (state.Found c)) (stack_in old) s) old new →
    KeepsFrom (λ p s. flat.config (flat.Execute (flat.Takes (search_of (instrs_in old) sd) c values)) (flat.OrDo (flat.Looks fuel (search_of (instrs_in old) sd) (Some c)) ∷ stack_in old) s) old new
found_kept old new fuel sd c values any none keeps =
    let k = search_of (instrs_in old) sd in
    let again = flat.Looks fuel k (Some c) in
    means_kept (λ p s. flat.config (flat.Execute (flat.Takes k c values)) (flat.OrDo again ∷ stack_in old) s) (λ p s. flat.config (flat.Unwind (state.Found c)) (stack_in old) s) old new
    (λ tree p rest is f ans.
    ap (λ only. flat.means tree p (flat.config (flat.Execute (flat.Takes (with_only only k) c values)) (flat.OrDo again ∷ stack_in old) (state_in rest old)) ans) any
    ∙ found_at_once tree p (reading_at (instrs_in old) sd.place) sd.forward sd.wait sd.retry sd.prefix c values again (stack_in old) (state_in rest old) ans none) keeps

-- what is below a match that is taken: it is found then, or the search goes on after it
abbrev pub below_take : List Instr → ℕ → SearchData → Cursor → Cursor → List flat.StackEntry → List flat.StackEntry
below_take is fuel sd c from ks = flat.ThenDo (flat.Completes (state.Found c)) ∷ flat.OrDo (flat.Looks fuel (search_of is sd) (Some from)) ∷ ks

-- the two entries were pushed
pub two_pushed : (from : List Instr → Program → List flat.StackEntry → State → flat.Config) (old one two new : Machine) (fuel : ℕ) (sd : SearchData) (c at : Cursor) →
    (let m : Machine = record old { stack = one.stack } in one ≡ m) → reverse one.stack.items ≡ stack.Read (read_entry.OrDo (read_task.Looks fuel sd (Some at))) ∷ reverse old.stack.items →
    (let m : Machine = record one { stack = two.stack } in two ≡ m) → reverse two.stack.items ≡ stack.Then (task.Completes (completion.Found c)) ∷ reverse one.stack.items →
    KeepsFrom (λ p s. from (instrs_in two) p (stack_in two) s) two new → KeepsFrom (λ p s. from (instrs_in old) p (below_take (instrs_in old) fuel sd c at (stack_in old)) s) old new
two_pushed from old one two new fuel sd c at moved top moved' top' keeps =
    pushed_kept (λ is p ks s. from is p (flat.ThenDo (flat.Completes (state.Found c)) ∷ ks) s) old one new (stack.Read (read_entry.OrDo (read_task.Looks fuel sd (Some at)))) moved top (λ o. o)
    (pushed_kept from one two new (stack.Then (task.Completes (completion.Found c))) moved' top' (λ o. (refl, o)) keeps)

-- under a lock it is locked first
pub locked_kept : (old one two new : Machine) (fuel : ℕ) (sd : SearchData) (c at : Cursor) (values : List Value) → sd.only ≡ false → at ≡ c →
    (let m : Machine = record old { stack = one.stack } in one ≡ m) → reverse one.stack.items ≡ stack.Read (read_entry.OrDo (read_task.Looks fuel sd (Some at))) ∷ reverse old.stack.items →
    (let m : Machine = record one { stack = two.stack } in two ≡ m) → reverse two.stack.items ≡ stack.Then (task.Completes (completion.Found c)) ∷ reverse one.stack.items →
    KeepsExecuted (flat.TakesAs (reading_at (instrs_in two) sd.place) sd.wait sd.retry c.row) two new →
    KeepsFrom (λ p s. flat.config (flat.Execute (flat.Takes (search_of (instrs_in old) sd) c values)) (flat.OrDo (flat.Looks fuel (search_of (instrs_in old) sd) (Some c)) ∷ stack_in old) s) old new
locked_kept old one two new fuel sd c at values any copied moved top moved' top' keeps =
    let k = search_of (instrs_in old) sd in
    means_kept (λ p s. flat.config (flat.Execute (flat.Takes k c values)) (flat.OrDo (flat.Looks fuel k (Some c)) ∷ stack_in old) s)
    (λ p s. flat.config (flat.Execute (flat.TakesAs k.reading sd.wait sd.retry c.row)) (below_take (instrs_in old) fuel sd c at (stack_in old)) s) old new
    (λ tree p rest is f ans.
    ap (λ only. flat.means tree p (flat.config (flat.Execute (flat.Takes (with_only only k) c values)) (flat.OrDo (flat.Looks fuel k (Some c)) ∷ stack_in old) (state_in rest old)) ans) any
    ∙ ap (λ (x : Cursor). flat.means tree p (flat.config (flat.Execute (flat.TakesAs k.reading sd.wait sd.retry c.row)) (below_take (instrs_in old) fuel sd c x (stack_in old)) (state_in rest old)) ans) (sym copied))
    (two_pushed (λ is p ks s. flat.config (flat.Execute (flat.TakesAs (reading_at is sd.place) sd.wait sd.retry c.row)) ks s) old one two new fuel sd c at moved top moved' top' keeps)

-- where a second match is a fault, it is searched first
pub only_kept : (old one two three new : Machine) (fuel : ℕ) (sd again : SearchData) (c c' at from : Cursor) (values : List Value) → sd.only ≡ true → again ≡ sd → c' ≡ c → at ≡ c → from ≡ c →
    (let m : Machine = record old { stack = one.stack } in one ≡ m) → reverse one.stack.items ≡ stack.Read (read_entry.OrDo (read_task.Looks fuel again (Some at))) ∷ reverse old.stack.items →
    (let m : Machine = record one { stack = two.stack } in two ≡ m) → reverse two.stack.items ≡ stack.Then (task.Completes (completion.Found c')) ∷ reverse one.stack.items →
    (let m : Machine = record two { stack = three.stack } in three ≡ m) → reverse three.stack.items ≡ stack.Then (task.Read (read_task.TakesAs sd.place sd.wait sd.retry c.row)) ∷ reverse two.stack.items →
    KeepsExecuted (flat.Seconds three.units (search_of (instrs_in three) sd) c values from) three new →
    KeepsFrom (λ p s. flat.config (flat.Execute (flat.Takes (search_of (instrs_in old) sd) c values)) (flat.OrDo (flat.Looks fuel (search_of (instrs_in old) sd) (Some c)) ∷ stack_in old) s) old new
only_kept old one two three new fuel sd again c c' at from values only same same_cursor copied starts moved top moved' top' moved'' top'' keeps =
    let k = search_of (instrs_in old) sd in
    let units : three.units ≡ old.units = ap (λ (m : Machine). m.units) moved'' ∙ ap (λ (m : Machine). m.units) moved' ∙ ap (λ (m : Machine). m.units) moved in
    let asked : List Instr → Program → List flat.StackEntry → State → flat.Config = λ is p ks s. flat.config (flat.Execute (flat.Seconds old.units (search_of is sd) c values from)) ks s in
    let keeps' = subst (λ n. KeepsExecuted (flat.Seconds n (search_of (instrs_in three) sd) c values from) three new) units keeps in
    let keeps'' = pushed_kept asked two three new (stack.Then (task.Read (read_task.TakesAs sd.place sd.wait sd.retry c.row))) moved'' top'' (λ o. (tt, o)) keeps' in
    means_kept (λ p s. flat.config (flat.Execute (flat.Takes k c values)) (flat.OrDo (flat.Looks fuel k (Some c)) ∷ stack_in old) s)
    (λ p s. asked (instrs_in old) p (flat.ThenDo (flat.TakesAs k.reading sd.wait sd.retry c.row) ∷ below_take (instrs_in old) fuel again c' at (stack_in old)) s) old new
    (λ tree p rest is f ans.
    ap (λ b. flat.means tree p (flat.config (flat.Execute (flat.Takes (with_only b k) c values)) (flat.OrDo (flat.Looks fuel k (Some c)) ∷ stack_in old) (state_in rest old)) ans) only
    ∙ ap (λ b. flat.means tree p (flat.config (flat.Execute (flat.Seconds old.units (with_only b k) c values c)) (flat.ThenDo (flat.TakesAs k.reading sd.wait sd.retry c.row) ∷ below_take (instrs_in old) fuel sd c c (stack_in old)) (state_in rest old)) ans) (sym only)
    ∙ ap (λ (x : Cursor). flat.means tree p (flat.config (flat.Execute (flat.Seconds old.units k c values x)) (flat.ThenDo (flat.TakesAs k.reading sd.wait sd.retry c.row) ∷ below_take (instrs_in old) fuel sd c c (stack_in old)) (state_in rest old)) ans) (sym starts)
    ∙ ap (λ (x : Cursor). flat.means tree p (asked (instrs_in old) p (flat.ThenDo (flat.TakesAs k.reading sd.wait sd.retry c.row) ∷ below_take (instrs_in old) fuel sd c x (stack_in old)) (state_in rest old)) ans) (sym copied)
    ∙ ap (λ (x : Cursor). flat.means tree p (asked (instrs_in old) p (flat.ThenDo (flat.TakesAs k.reading sd.wait sd.retry c.row) ∷ below_take (instrs_in old) fuel sd x at (stack_in old)) (state_in rest old)) ans) (sym same_cursor)
    ∙ ap (λ (x : SearchData). flat.means tree p (asked (instrs_in old) p (flat.ThenDo (flat.TakesAs k.reading sd.wait sd.retry c.row) ∷ below_take (instrs_in old) fuel x c' at (stack_in old)) (state_in rest old)) ans) (sym same))
    (two_pushed (λ is p ks s. asked is p (flat.ThenDo (flat.TakesAs (reading_at is sd.place) sd.wait sd.retry c.row) ∷ ks) s) old one two new fuel again c' at moved top moved' top' keeps'')

-- the record of a FOR is read again
pub again_kept : (old one two new : Machine) (k : ℕ) (forward forward' retry : Bool) (c at : Cursor) → at ≡ c → forward' ≡ forward →
    (let m : Machine = record old { stack = one.stack } in one ≡ m) → reverse one.stack.items ≡ stack.Read (read_entry.OrDo (read_task.Searches k forward' false true retry (Some at))) ∷ reverse old.stack.items →
    (let m : Machine = record one { stack = two.stack } in two ≡ m) → reverse two.stack.items ≡ stack.Then (task.Completes (completion.Found c)) ∷ reverse one.stack.items →
    KeepsExecuted (flat.TakesAgain (reading_at (instrs_in two) k) retry c.row) two new →
    KeepsFrom (λ p s. flat.config (flat.Execute (flat.TakesAgain (reading_at (instrs_in old) k) retry c.row)) (flat.ThenDo (flat.Completes (state.Found c)) ∷ flat.OrDo (flat.Searches (reading_at (instrs_in old) k) forward false true retry (Some c)) ∷ stack_in old) s) old new
again_kept old one two new k forward forward' retry c at copied same moved top moved' top' keeps =
    let r = reading_at (instrs_in old) k in
    let taken : Cursor → Bool → State → flat.Config = λ x b s. flat.config (flat.Execute (flat.TakesAgain r retry c.row)) (flat.ThenDo (flat.Completes (state.Found c)) ∷ flat.OrDo (flat.Searches r b false true retry (Some x)) ∷ stack_in old) s in
    same_kept (λ p s. taken c forward s) (λ p s. taken at forward' s) old new
    (λ p rest f. ap (λ (x : Cursor). taken x forward (state_in rest old)) (sym copied) ∙ ap (λ b. taken at b (state_in rest old)) (sym same))
    (pushed_kept (λ is p ks s. flat.config (flat.Execute (flat.TakesAgain (reading_at is k) retry c.row)) (flat.ThenDo (flat.Completes (state.Found c)) ∷ ks) s) old one new (stack.Read (read_entry.OrDo (read_task.Searches k forward' false true retry (Some at)))) moved top (λ o. o)
    (pushed_kept (λ is p ks s. flat.config (flat.Execute (flat.TakesAgain (reading_at is k) retry c.row)) ks s) one two new (stack.Then (task.Completes (completion.Found c))) moved' top' (λ o. (refl, o)) keeps))
