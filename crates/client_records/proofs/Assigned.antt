-- One assignment after another.
use Rattle.std.proofs.Common.{◌≡◌, ℕ, Bool, List, [], ◌∷◌, Some, ap, ◌∙◌}
use Rattle.std.specs.Prelude.{Ok, Err}
use Rattle.abl_base.specs.declared.value.Value.{Value}
use Rattle.evaluator.specs.declared.fault.EvalFault.{EvalFault}
use Rattle.evaluator.specs.declared.fault.EvalFault.TheVariants.{Fault, NoMemory}
use Rattle.expression_meaning.specs.declared.fault.RunFault.{RunFault}
use Rattle.bound_tree.specs.declared.statement.Target.{Target}
use Rattle.bound_tree.specs.Tree.{Body, Expr, Right, ValueOf, Given, Assignment}
use Rattle.block_meaning.specs.Changes.{stored, stored_if}
use Rattle.block_meaning.specs.Lines.{complaint_of}
use Rattle.block_meaning.specs.Program.{Program}
use Rattle.block_meaning.specs.State as state
use Rattle.block_meaning.specs.State.{State, Completed}
use Rattle.block_meaning.specs.Values.{Evaluated, value_now}
use Rattle.database_protocol.specs.declared.answer.Answer.{Answer}
use Rattle.client_values.specs.Ends.{Evaluates}
use Rattle.flat_machine.specs.Flat as flat
use Rattle.flat_machine.specs.Flat.{Code, IsCodeOf}
use Rattle.flat_machine.proofs.Machine.{step_means}
use Rattle.client_records.specs.declared.rights.RightSide.{RightSide}
use Rattle.client_records.specs.declared.rights.RightSide.TheVariants as right
use Rattle.client_records.specs.Rights.{IsRightSide, right_step}

-- the right side is what the step of the assignment has
right_goes : (x : RightSide) (r : Right) (p : Program) (t : Target) (retry : Bool) (ks : List flat.StackEntry) (s : State) → IsRightSide (Ok x) r p retry s → flat.assign_step p r t retry ks s ≡ right_step x t ks s
right_goes (right.Value v) r p t retry ks s h =
    ap (λ (y : Right). flat.assign_step p y t retry ks s) h.1 ∙ ap (λ (e : Evaluated). flat.ends_as (stored_if e t s) ks) h.2
right_goes (right.NextValue q) r p t retry ks s h = ap (λ (y : Right). flat.assign_step p y t retry ks s) h
right_goes (right.CurrentValue q) r p t retry ks s h = ap (λ (y : Right). flat.assign_step p y t retry ks s) h

-- the first assignment, as a step before the others
pub first_goes : (code : Code) (tree : ℕ → Body) (p : Program) (is : IsCodeOf code p tree) (xs more : List Assignment) (t : Target) (r : Right) (x : RightSide) (retry : Bool) (ks : List flat.StackEntry) (s : State) (ans : List Answer) →
    xs ≡ record { target = t; right = r } ∷ more → IsRightSide (Ok x) r p retry s →
    flat.means tree p (flat.config (flat.Execute (flat.AssignsEach xs retry)) ks s) ans ≡ flat.means tree p (right_step x t (flat.ThenDo (flat.AssignsEach more retry) ∷ ks) s) ans
first_goes code tree p is xs more t r x retry ks s ans starts h =
    ap (λ (ys : List Assignment). flat.means tree p (flat.config (flat.Execute (flat.AssignsEach ys retry)) ks s) ans) starts
    ∙ step_means code tree p is (flat.config (flat.Execute (flat.AssignsEach (record { target = t; right = r } ∷ more) retry)) ks s) ans
    ∙ step_means code tree p is (flat.config (flat.Execute (flat.AssignsOne t r retry)) (flat.ThenDo (flat.AssignsEach more retry) ∷ ks) s) ans
    ∙ ap (λ c. flat.means tree p c ans) (right_goes x r p t retry (flat.ThenDo (flat.AssignsEach more retry) ∷ ks) s h)

-- the same of a value that is given
pub given_goes : (code : Code) (tree : ℕ → Body) (p : Program) (is : IsCodeOf code p tree) (xs more : List Assignment) (t : Target) (v : Value) (retry : Bool) (ks : List flat.StackEntry) (s : State) (ans : List Answer) →
    xs ≡ record { target = t; right = Given v } ∷ more →
    flat.means tree p (flat.config (flat.Execute (flat.AssignsEach xs retry)) ks s) ans ≡ flat.means tree p (flat.ends_as (stored t v s) (flat.ThenDo (flat.AssignsEach more retry) ∷ ks)) ans
given_goes code tree p is xs more t v retry ks s ans starts =
    ap (λ (ys : List Assignment). flat.means tree p (flat.config (flat.Execute (flat.AssignsEach ys retry)) ks s) ans) starts
    ∙ step_means code tree p is (flat.config (flat.Execute (flat.AssignsEach (record { target = t; right = Given v } ∷ more) retry)) ks s) ans
    ∙ step_means code tree p is (flat.config (flat.Execute (flat.AssignsOne t (Given v) retry)) (flat.ThenDo (flat.AssignsEach more retry) ∷ ks) s) ans

-- its expression has a fault
pub first_fails : (code : Code) (tree : ℕ → Body) (p : Program) (is : IsCodeOf code p tree) (xs more : List Assignment) (t : Target) (r : Right) (f : RunFault) (retry : Bool) (ks : List flat.StackEntry) (s : State) (ans : List Answer) →
    xs ≡ record { target = t; right = r } ∷ more → IsRightSide (Err (Fault f)) r p retry s →
    flat.means tree p (flat.config (flat.Execute (flat.AssignsEach xs retry)) ks s) ans ≡ flat.means tree p (flat.config (flat.Unwind (state.Faults (Some (complaint_of f)))) ks s) ans
first_fails code tree p is xs more t r f retry ks s ans starts h =
    let ks' = flat.ThenDo (flat.AssignsEach more retry) ∷ ks in
    ap (λ (ys : List Assignment). flat.means tree p (flat.config (flat.Execute (flat.AssignsEach ys retry)) ks s) ans) starts
    ∙ step_means code tree p is (flat.config (flat.Execute (flat.AssignsEach (record { target = t; right = r } ∷ more) retry)) ks s) ans
    ∙ step_means code tree p is (flat.config (flat.Execute (flat.AssignsOne t r retry)) ks' s) ans
    ∙ ap (λ (y : Right). flat.means tree p (flat.assign_step p y t retry ks' s) ans) h.1
    ∙ ap (λ (e : Evaluated). flat.means tree p (flat.ends_as (stored_if e t s) ks') ans) h.2

-- there is none
pub none_left : (code : Code) (tree : ℕ → Body) (p : Program) (is : IsCodeOf code p tree) (xs : List Assignment) (retry : Bool) (ks : List flat.StackEntry) (s : State) (ans : List Answer) → xs ≡ [] →
    flat.means tree p (flat.config (flat.Execute (flat.AssignsEach xs retry)) ks s) ans ≡ flat.means tree p (flat.config (flat.Unwind state.Normal) ks s) ans
none_left code tree p is xs retry ks s ans none = ap (λ (ys : List Assignment). flat.means tree p (flat.config (flat.Execute (flat.AssignsEach ys retry)) ks s) ans) none ∙ step_means code tree p is (flat.config (flat.Execute (flat.AssignsEach [] retry)) ks s) ans

-- ---- right sides

-- an expression that has no value
pub right_fails : (f : EvalFault) (e : Expr) (r : Right) (p : Program) (retry : Bool) (s : State) → r ≡ ValueOf e → Evaluates (Err f) (value_now p e retry s) → IsRightSide (Err f) r p retry s
right_fails (Fault f) e r p retry s is fails = (e, is, fails)
right_fails NoMemory e r p retry s is fails = tt
