-- The header of an iteration.
use Rattle.std.proofs.Common.{◌≡◌, ℕ, List, Bool, true, false, Result, Ok, Err, Option, Some, None, refl, sym, ap, ◌∙◌, subst}
use Rattle.abl_base.specs.declared.value.Value.{Value}
use Rattle.evaluator.specs.declared.fault.EvalFault.{EvalFault}
use Rattle.evaluator.specs.declared.fault.EvalFault.TheVariants.{Fault, NoMemory}
use Rattle.abl_values.specs.Arithmetic.{sum_of}
use Rattle.bound_tree.specs.declared.expression.Variable.{Variable}
use Rattle.bound_tree.specs.Tree.{Expr, ToPhrase, Header}
use Rattle.block_meaning.specs.Program.{Program}
use Rattle.block_meaning.specs.Lines.{Complaint, complaint_of}
use Rattle.block_meaning.specs.State.{State, Turn, Completed, Normal, Faults, completed}
use Rattle.block_meaning.specs.Frames.{assigned, value_of}
use Rattle.block_meaning.specs.Values.{Evaluated, Gives, Fails, value_now, or_range}
use Rattle.block_meaning.specs.Changes.{stored_value}
use Rattle.block_meaning.specs.Blocks.{counts_down, in_bound, first_turn}
use Rattle.flat_machine.specs.Config.{Config, StackEntry, Unwind, Execute, Turns}
use Rattle.flat_machine.specs.Steps.{config, config_if, fault, given_step, set_step, advance_step, by_step, block_step}
use Rattle.client_memory.specs.Memory.{Remembered}
use Rattle.client_values.specs.Ends.{Evaluates, Assigns, Judges}
use Rattle.client_values.specs.Loops.{BeginsWith, by_value, value_to_set}
use Rattle.client_values.specs.declared.loops.LoopValues.{LoopValues}
use Rattle.client_values.specs.Reads.{Reads}
use Rattle.client_values.specs.Variables.{HasSameShape}
use Rattle.client_values.proofs.Assigned.{even_after}

pub reads_after : (p : Program) (rest : State) (ns : List ℕ) (old new : Remembered) (status : Bool) (returned : List ℕ) → HasSameShape old new → Reads p rest ns old status returned → Reads p rest ns new status returned
reads_after p rest ns old new status returned shape x = record { forms = x.forms; even = even_after ns old new shape x.even; status_is = x.status_is; returned_is = x.returned_is }

-- ---- a test

pub judged : (b : Bool) (c : Config) (go : State → Config) (ks : List StackEntry) (s : State) → c ≡ config_if b (go s) (config (Unwind Normal) ks s) → Judges (Ok b) c go ks s
judged true c go ks s e = e
judged false c go ks s e = e

pub judged_fault : (e : Evaluated) (f : Value → State → Config) (go : State → Config) (ks : List StackEntry) (s : State) (r : Result Bool EvalFault) (x : EvalFault) → r ≡ Err x → Evaluates (Err x) e → Judges r (given_step e f ks s) go ks s
judged_fault e f go ks s r (Fault x) is fails = subst (λ (r : Result Bool EvalFault). Judges r (given_step e f ks s) go ks s) (sym is) (ap (λ e. given_step e f ks s) fails)
judged_fault e f go ks s r NoMemory is fails = subst (λ (r : Result Bool EvalFault). Judges r (given_step e f ks s) go ks s) (sym is) tt

pub judged_end : (e : Evaluated) (x : Variable) (v end by : Value) (b : Bool) (go : State → Config) (ks : List StackEntry) (s : State) → e ≡ Gives end → value_of x s ≡ v → b ≡ in_bound (counts_down by) v end →
    Judges (Ok b) (given_step e (λ end s. config_if (in_bound (counts_down by) (value_of x s) end) (go s) (config (Unwind Normal) ks s)) ks s) go ks s
judged_end e x v end by b go ks s gives is bound =
    judged b _ go ks s
    (ap (λ e. given_step e (λ end s. config_if (in_bound (counts_down by) (value_of x s) end) (go s) (config (Unwind Normal) ks s)) ks s) gives
    ∙ ap (λ v. config_if (in_bound (counts_down by) v end) (go s) (config (Unwind Normal) ks s)) is
    ∙ ap (λ b. config_if b (go s) (config (Unwind Normal) ks s)) (sym bound))

-- ---- the variable is set

not_normal : (c : Complaint) → Faults (Some c) ≡ Normal → ⊥
not_normal c e = cc

not_fault : (c : Complaint) → Normal ≡ Faults (Some c) → ⊥
not_fault c e = cc

pub set_gives : (e : Evaluated) (x : Variable) (f : State → Config) (ks : List StackEntry) (s s' : State) → stored_value e (assigned x) s ≡ completed Normal s' → given_step e (λ v s. f (assigned x v s)) ks s ≡ f s'
set_gives (Gives v) x f ks s s' is = ap (λ (c : Completed). f c.state) is
set_gives (Fails c) x f ks s s' is = let e : Faults (Some c) ≡ Normal = ap (λ (c : Completed). c.completion) is in absurd (not_normal c e)

set_fails : (e : Evaluated) (x : Variable) (f : State → Config) (ks : List StackEntry) (s s' : State) (c : Complaint) → stored_value e (assigned x) s ≡ completed (Faults (Some c)) s' → given_step e (λ v s. f (assigned x v s)) ks s ≡ fault c ks s'
set_fails (Gives v) x f ks s s' c is = let e : Normal ≡ Faults (Some c) = ap (λ (c : Completed). c.completion) is in absurd (not_fault c e)
set_fails (Fails d) x f ks s s' c is = ap (λ (c : Completed). config (Unwind c.completion) ks c.state) is

pub set_fault : (A : Type 0) (e : Evaluated) (x : Variable) (f go : State → Config) (ks : List StackEntry) (s s' : State) (r : Result Bool EvalFault) (y : EvalFault) → r ≡ Err y → Assigns {A = A} (Err y) (stored_value e (assigned x) s) s' →
    Judges r (given_step e (λ v s. f (assigned x v s)) ks s) go ks s'
set_fault A e x f go ks s s' r (Fault y) is fails = subst (λ (r : Result Bool EvalFault). Judges r (given_step e (λ v s. f (assigned x v s)) ks s) go ks s') (sym is) (set_fails e x f ks s s' (complaint_of y) fails)
set_fault A e x f go ks s s' r NoMemory is fails = subst (λ (r : Result Bool EvalFault). Judges r (given_step e (λ v s. f (assigned x v s)) ks s) go ks s') (sym is) tt

-- ---- the value to set

pub advance_is : (p : Program) (l : ToPhrase) (t : Turn) (retry : Bool) (start : Option Value) (by : Value) (go : State → Config) (ks : List StackEntry) (s : State) → t.by ≡ by → advance_step p l t retry start go ks s ≡ set_step p l by retry (value_to_set l by start s) go ks s
advance_is p l t retry None by go ks s e = ap (λ b. set_step p l b retry (or_range (sum_of (value_of l.variable s) b)) go ks s) e
advance_is p l t retry (Some v) by go ks s e = ap (λ b. set_step p l b retry (Gives v) go ks s) e

-- ---- the values of the header

by_is : (p : Program) (by : Option Expr) (outer : Bool) (go : Value → State → Config) (ks : List StackEntry) (s : State) → by_step p by outer go ks s ≡ given_step (by_value p by outer s) go ks s
by_is p None outer go ks s = refl
by_is p (Some e) outer go ks s = refl

pub values_given : (p : Program) (l : ToPhrase) (b : Header) (outer : Bool) (body d : ℕ) (ks : List StackEntry) (s : State) (v w : Value) → value_now p l.start outer s ≡ Gives v → by_value p l.by outer s ≡ Gives w →
    block_step p (Some l) b outer body d ks s ≡ config (Execute (Turns s.units b outer body d (first_turn (Some v) w))) ks s
values_given p l b outer body d ks s v w e1 e2 =
    ap (λ e. given_step e (λ v s. by_step p l.by outer (λ w s. config (Execute (Turns s.units b outer body d (first_turn (Some v) w))) ks s) ks s) ks s) e1
    ∙ by_is p l.by outer (λ w s. config (Execute (Turns s.units b outer body d (first_turn (Some v) w))) ks s) ks s
    ∙ ap (λ e. given_step e (λ w s. config (Execute (Turns s.units b outer body d (first_turn (Some v) w))) ks s) ks s) e2

pub start_fault : (p : Program) (l : ToPhrase) (b : Header) (outer : Bool) (body d : ℕ) (ks : List StackEntry) (s : State) (r : Result LoopValues EvalFault) (x : EvalFault) → r ≡ Err x → Evaluates (Err x) (value_now p l.start outer s) →
    BeginsWith r (block_step p (Some l) b outer body d ks s) b outer body d ks s
start_fault p l b outer body d ks s r (Fault x) is fails =
    subst (λ (r : Result LoopValues EvalFault). BeginsWith r (block_step p (Some l) b outer body d ks s) b outer body d ks s) (sym is)
    (ap (λ e. given_step e (λ v s. by_step p l.by outer (λ w s. config (Execute (Turns s.units b outer body d (first_turn (Some v) w))) ks s) ks s) ks s) fails)
start_fault p l b outer body d ks s r NoMemory is fails = subst (λ (r : Result LoopValues EvalFault). BeginsWith r (block_step p (Some l) b outer body d ks s) b outer body d ks s) (sym is) tt

pub by_fault : (p : Program) (l : ToPhrase) (b : Header) (outer : Bool) (body d : ℕ) (ks : List StackEntry) (s : State) (v : Value) (r : Result LoopValues EvalFault) (x : EvalFault) → r ≡ Err x → value_now p l.start outer s ≡ Gives v → Evaluates (Err x) (by_value p l.by outer s) →
    BeginsWith r (block_step p (Some l) b outer body d ks s) b outer body d ks s
by_fault p l b outer body d ks s v r (Fault x) is e1 fails =
    subst (λ (r : Result LoopValues EvalFault). BeginsWith r (block_step p (Some l) b outer body d ks s) b outer body d ks s) (sym is)
    (ap (λ e. given_step e (λ v s. by_step p l.by outer (λ w s. config (Execute (Turns s.units b outer body d (first_turn (Some v) w))) ks s) ks s) ks s) e1
    ∙ by_is p l.by outer (λ w s. config (Execute (Turns s.units b outer body d (first_turn (Some v) w))) ks s) ks s
    ∙ ap (λ e. given_step e (λ w s. config (Execute (Turns s.units b outer body d (first_turn (Some v) w))) ks s) ks s) fails)
by_fault p l b outer body d ks s v r NoMemory is e1 fails = subst (λ (r : Result LoopValues EvalFault). BeginsWith r (block_step p (Some l) b outer body d ks s) b outer body d ks s) (sym is) tt
