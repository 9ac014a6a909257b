-- Arguments and parameters, place by place.
use Rattle.std.proofs.Common.{◌≡◌, ◌⊎◌, inl, inr, ℕ, zero, suc, ◌+◌, ◌<◌, ◌≤◌, List, [], ◌∷◌, ◌++◌, length, drop, Bool, true, false, Option, Some, None, Result, Err, refl, sym, ap, ◌∙◌, subst, arith, append-nil, append_assoc, min}
use Rattle.std.specs.Prelude.{map, slice_index_or}
use Rattle.std.proofs.lemmas.Bool.{cases_lt}
use Rattle.std.proofs.lemmas.List.{length-append, map-append}
use Rattle.abl_base.specs.declared.value.Value.{Value}
use Rattle.evaluator.specs.declared.fault.EvalFault.{EvalFault}
use Rattle.evaluator.specs.declared.fault.EvalFault.TheVariants.{Fault, NoMemory}
use Rattle.bound_tree.specs.Tree.{Argument, In, Out, InOut}
use Rattle.bound_tree.specs.Bound.{argument_of}
use Rattle.bound_tree.specs.declared.statement.Argument.{Argument as SourceArgument}
use Rattle.bound_tree.specs.declared.expression.Variable.{Variable}
use Rattle.block_meaning.specs.Lines.{complaint_of}
use Rattle.block_meaning.specs.Program.{Program}
use Rattle.block_meaning.specs.State.{State, CallFrame}
use Rattle.block_meaning.specs.Frames.{set_in}
use Rattle.block_meaning.specs.Values.{Gives, EvaluatedAll, GivesAll, FailsAll, before_all, with_value}
use Rattle.block_meaning.specs.Meaning.{argument_value, argument_values, params_set}
use Rattle.client_memory.specs.Memory.{Remembered, set_variable}
use Rattle.client_values.specs.Ends.{Evaluates}
use Rattle.client_calls.specs.Calls.{EvaluatesAll, passes, OutputOf, output_of, getter_of, own_value, with_output, outputs_of, all_set}
use Rattle.client_calls.specs.declared.outputs.Output.{Output}

-- ---- what is left from a place on

pub from_here : {A : Type 0} (xs : List A) (i : ℕ) (x : A) → i < length xs → x ≡ slice_index_or xs i x → drop i xs ≡ x ∷ drop (i + 1) xs
from_here [] i x below is = absurd (omega (arith, below))
from_here (y ∷ xs) zero x below is = ap (λ z. z ∷ xs) (sym is)
from_here {A = A} (y ∷ xs) (suc i) x below is =
    from_here xs i x (omega (arith, below)) is ∙ ap (λ n. x ∷ drop n (y ∷ xs)) (let e : suc (i + 1) ≡ suc i + 1 = omega arith in e)

pub nothing_left : {A : Type 0} (xs : List A) (i : ℕ) → length xs ≤ i → drop i xs ≡ []
nothing_left [] zero past = refl
nothing_left [] (suc i) past = refl
nothing_left (x ∷ xs) zero past = absurd (omega (arith, past))
nothing_left (x ∷ xs) (suc i) past = nothing_left xs i (omega (arith, past))

-- ---- values

-- prepends values
abbrev pub before_them : List Value → EvaluatedAll → EvaluatedAll
before_them [] r = r
before_them (v ∷ vs) r = before_all v (before_them vs r)

before_more : (vs : List Value) (v : Value) (r : EvaluatedAll) → before_them (vs ++ v ∷ []) r ≡ before_them vs (before_all v r)
before_more [] v r = refl
before_more (w ∷ vs) v r = ap (before_all w) (before_more vs v r)

before_given : (vs ws : List Value) → before_them vs (GivesAll ws) ≡ GivesAll (vs ++ ws)
before_given [] ws = refl
before_given (v ∷ vs) ws = ap (before_all v) (before_given vs ws)

before_failed : (vs : List Value) (c : _) → before_them vs (FailsAll c) ≡ FailsAll c
before_failed [] c = refl
before_failed (v ∷ vs) c = ap (before_all v) (before_failed vs c)

-- those of the arguments from a place on
abbrev pub values_from : Program → List SourceArgument → List Variable → Bool → State → ℕ → EvaluatedAll
values_from p args xs retry s i = argument_values p (map argument_of (drop i args)) (drop i xs) retry s

value_here : (p : Program) (args : List SourceArgument) (xs : List Variable) (retry : Bool) (s : State) (i : ℕ) (a : SourceArgument) (x : Variable) → i < length args → i < length xs → a ≡ slice_index_or args i a → x ≡ slice_index_or xs i x →
    values_from p args xs retry s i ≡ with_value (argument_value p (argument_of a) x.kind retry s) (λ v. before_all v (values_from p args xs retry s (i + 1)))
value_here p args xs retry s i a x below below' is is' =
    ap (λ bs. argument_values p (map argument_of bs) (drop i xs) retry s) (from_here args i a below is)
    ∙ ap (λ ys. argument_values p (argument_of a ∷ map argument_of (drop (i + 1) args)) ys retry s) (from_here xs i x below' is')

pub value_more : (p : Program) (args : List SourceArgument) (xs : List Variable) (retry : Bool) (s : State) (i : ℕ) (a : SourceArgument) (x : Variable) (vs vs' : List Value) (v : Value) (all : EvaluatedAll) → i < length args → i < length xs → a ≡ slice_index_or args i a → x ≡ slice_index_or xs i x → vs' ≡ vs ++ v ∷ [] →
    all ≡ before_them vs (values_from p args xs retry s i) → argument_value p (argument_of a) x.kind retry s ≡ Gives v → all ≡ before_them vs' (values_from p args xs retry s (i + 1))
value_more p args xs retry s i a x vs vs' v all below below' is is' e before now =
    before
    ∙ ap (before_them vs) (value_here p args xs retry s i a x below below' is is' ∙ ap (λ r. with_value r (λ v. before_all v (values_from p args xs retry s (i + 1)))) now)
    ∙ sym (before_more vs v (values_from p args xs retry s (i + 1)))
    ∙ ap (λ ws. before_them ws (values_from p args xs retry s (i + 1))) (sym e)

pub value_fails : (p : Program) (args : List SourceArgument) (xs : List Variable) (retry : Bool) (s : State) (i : ℕ) (a : SourceArgument) (x : Variable) (vs : List Value) (all : EvaluatedAll) (r : Result (List Value) EvalFault) (fault : EvalFault) → r ≡ Err fault → i < length args → i < length xs → a ≡ slice_index_or args i a → x ≡ slice_index_or xs i x →
    all ≡ before_them vs (values_from p args xs retry s i) → Evaluates (Err fault) (argument_value p (argument_of a) x.kind retry s) → EvaluatesAll r all
value_fails p args xs retry s i a x vs all r (Fault f) fails below below' is is' before now =
    subst (λ r. EvaluatesAll r all) (sym fails)
    (before
    ∙ ap (before_them vs) (value_here p args xs retry s i a x below below' is is' ∙ ap (λ r. with_value r (λ v. before_all v (values_from p args xs retry s (i + 1)))) now)
    ∙ before_failed vs (complaint_of f))
value_fails p args xs retry s i a x vs all r NoMemory fails below below' is is' before now = subst (λ r. EvaluatesAll r all) (sym fails) tt

none_left : (p : Program) (args : List Argument) (xs : List Variable) (retry : Bool) (s : State) → (args ≡ []) ⊎ (xs ≡ []) → argument_values p args xs retry s ≡ GivesAll []
none_left p args xs retry s (inl e) = ap (λ bs. argument_values p bs xs retry s) e
none_left p [] xs retry s (inr e) = refl
none_left p (a ∷ args) xs retry s (inr e) = ap (λ ys. argument_values p (a ∷ args) ys retry s) e

-- one of the two is at its end
ends_by : (i m n : ℕ) → i ≡ min m n → (m < n) ⊎ (n ≤ m) → (m ≤ i) ⊎ (n ≤ i)
ends_by i m n e (inl lt) = inl (omega (arith, e, lt))
ends_by i m n e (inr le) = inr (omega (arith, e, le))

at_end : {A : Type 0} {B : Type 0} (xs : List A) (ys : List B) (i : ℕ) → (length xs ≤ i) ⊎ (length ys ≤ i) → (drop i xs ≡ []) ⊎ (drop i ys ≡ [])
at_end xs ys i (inl le) = inl (nothing_left xs i le)
at_end xs ys i (inr le) = inr (nothing_left ys i le)

pub both_end : {A : Type 0} {B : Type 0} (xs : List A) (ys : List B) (i : ℕ) → i ≡ min (length xs) (length ys) → (drop i xs ≡ []) ⊎ (drop i ys ≡ [])
both_end xs ys i e = at_end xs ys i (ends_by i (length xs) (length ys) e (cases_lt (length xs) (length ys)))

none_mapped : (args : List SourceArgument) (xs : List Variable) → (args ≡ []) ⊎ (xs ≡ []) → (map argument_of args ≡ []) ⊎ (xs ≡ [])
none_mapped args xs (inl e) = inl (ap (map argument_of) e)
none_mapped args xs (inr e) = inr e

pub values_end : (p : Program) (args : List SourceArgument) (xs : List Variable) (retry : Bool) (s : State) (i : ℕ) (vs : List Value) (all : EvaluatedAll) → i ≡ min (length args) (length xs) → all ≡ before_them vs (values_from p args xs retry s i) → all ≡ GivesAll vs
values_end p args xs retry s i vs all e before =
    before
    ∙ ap (before_them vs) (none_left p (map argument_of (drop i args)) (drop i xs) retry s (none_mapped (drop i args) (drop i xs) (both_end args xs i e)))
    ∙ before_given vs []
    ∙ ap GivesAll (append-nil vs)

-- ---- parameters

-- gives those of the arguments from a place on
abbrev pub params_from : List SourceArgument → List Variable → ℕ → List Value → CallFrame → CallFrame
params_from args xs i vs f = params_set (map argument_of (drop i args)) (drop i xs) vs f

-- with the value, if it is passed
abbrev pub passed_if : Bool → Variable → Value → CallFrame → CallFrame
passed_if true x v f = set_in x.undoable x.number v f
passed_if false x v f = f

param_first : (a : Argument) (rest : List Argument) (x : Variable) (xs : List Variable) (v : Value) (vs : List Value) (f : CallFrame) → params_set (a ∷ rest) (x ∷ xs) (v ∷ vs) f ≡ params_set rest xs vs (passed_if (passes a) x v f)
param_first (In e) rest x xs v vs f = refl
param_first (InOut y) rest x xs v vs f = refl
param_first (Out y) rest x xs v vs f = refl

pub param_more : (args : List SourceArgument) (xs : List Variable) (i : ℕ) (a : SourceArgument) (x : Variable) (v : Value) (vs vs' : List Value) (is_in : Bool) (f g all : CallFrame) → i < length args → i < length xs → a ≡ slice_index_or args i a → x ≡ slice_index_or xs i x → vs ≡ v ∷ vs' →
    is_in ≡ passes (argument_of a) → g ≡ passed_if is_in x v f → all ≡ params_from args xs i vs f → all ≡ params_from args xs (i + 1) vs' g
param_more args xs i a x v vs vs' is_in f g all below below' is is' e passed now before =
    before
    ∙ ap (λ bs. params_set (map argument_of bs) (drop i xs) vs f) (from_here args i a below is)
    ∙ ap (λ ys. params_set (argument_of a ∷ map argument_of (drop (i + 1) args)) ys vs f) (from_here xs i x below' is')
    ∙ ap (λ ws. params_set (argument_of a ∷ map argument_of (drop (i + 1) args)) (x ∷ drop (i + 1) xs) ws f) e
    ∙ param_first (argument_of a) (map argument_of (drop (i + 1) args)) x (drop (i + 1) xs) v vs' f
    ∙ ap (λ b. params_set (map argument_of (drop (i + 1) args)) (drop (i + 1) xs) vs' (passed_if b x v f)) (sym passed)
    ∙ ap (params_set (map argument_of (drop (i + 1) args)) (drop (i + 1) xs) vs') (sym now)

no_argument : (args : List Argument) (xs : List Variable) (vs : List Value) (f : CallFrame) → (args ≡ []) ⊎ (xs ≡ []) → params_set args xs vs f ≡ f
no_argument args xs vs f (inl e) = ap (λ bs. params_set bs xs vs f) e
no_argument [] xs vs f (inr e) = refl
no_argument (a ∷ args) xs vs f (inr e) = ap (λ ys. params_set (a ∷ args) ys vs f) e

no_value : (args : List Argument) (xs : List Variable) (f : CallFrame) → params_set args xs [] f ≡ f
no_value [] xs f = refl
no_value (a ∷ args) [] f = refl
no_value (a ∷ args) (x ∷ xs) f = refl

pub params_end : (args : List SourceArgument) (xs : List Variable) (i : ℕ) (vs : List Value) (f all : CallFrame) → i ≡ min (length args) (length xs) → all ≡ params_from args xs i vs f → all ≡ f
params_end args xs i vs f all e before = before ∙ no_argument (map argument_of (drop i args)) (drop i xs) vs f (none_mapped (drop i args) (drop i xs) (both_end args xs i e))

pub no_more_values : (args : List SourceArgument) (xs : List Variable) (i : ℕ) (vs : List Value) (f all : CallFrame) → vs ≡ [] → all ≡ params_from args xs i vs f → all ≡ f
no_more_values args xs i vs f all e before = before ∙ ap (λ ws. params_from args xs i ws f) e ∙ no_value (map argument_of (drop i args)) (drop i xs) f

-- ---- outputs

-- those of the arguments from a place on
abbrev pub outputs_from : List SourceArgument → List Variable → ℕ → Remembered → List OutputOf
outputs_from args xs i m = outputs_of (map argument_of (drop i args)) (drop i xs) m

with_after : (o : Option Variable) (v : Value) (before rest : List OutputOf) → before ++ with_output o v rest ≡ (before ++ with_output o v []) ++ rest
with_after None v before rest = ap (λ xs. xs ++ rest) (sym (append-nil before))
with_after (Some y) v before rest = sym (append_assoc before _ rest)

pub output_more : (args : List SourceArgument) (xs : List Variable) (i : ℕ) (a : SourceArgument) (x : Variable) (o : Option Variable) (m : Remembered) (done done' all : List OutputOf) → i < length args → i < length xs → a ≡ slice_index_or args i a → x ≡ slice_index_or xs i x →
    o ≡ getter_of (argument_of a) → done' ≡ done ++ with_output o (own_value x m) [] → done ++ outputs_from args xs i m ≡ all → done' ++ outputs_from args xs (i + 1) m ≡ all
output_more args xs i a x o m done done' all below below' is is' gets now before =
    ap (λ ys. ys ++ outputs_from args xs (i + 1) m) now
    ∙ sym (with_after o (own_value x m) done (outputs_from args xs (i + 1) m))
    ∙ ap (λ g. done ++ with_output g (own_value x m) (outputs_from args xs (i + 1) m)) gets
    ∙ ap (λ ys. done ++ outputs_of (argument_of a ∷ map argument_of (drop (i + 1) args)) ys m) (sym (from_here xs i x below' is'))
    ∙ ap (λ bs. done ++ outputs_of (map argument_of bs) (drop i xs) m) (sym (from_here args i a below is))
    ∙ before

no_output : (args : List Argument) (xs : List Variable) (m : Remembered) → (args ≡ []) ⊎ (xs ≡ []) → outputs_of args xs m ≡ []
no_output args xs m (inl e) = ap (λ bs. outputs_of bs xs m) e
no_output [] xs m (inr e) = refl
no_output (a ∷ args) xs m (inr e) = ap (λ ys. outputs_of (a ∷ args) ys m) e

pub outputs_end : (args : List SourceArgument) (xs : List Variable) (i : ℕ) (m : Remembered) (done all : List OutputOf) → i ≡ min (length args) (length xs) → done ++ outputs_from args xs i m ≡ all → done ≡ all
outputs_end args xs i m done all e before =
    sym (append-nil done)
    ∙ ap (λ ys. done ++ ys) (sym (no_output (map argument_of (drop i args)) (drop i xs) m (none_mapped (drop i args) (drop i xs) (both_end args xs i e))))
    ∙ before

-- ---- a list that grew by one

pub one_longer : {A : Type 0} (xs : List A) (x : A) → length (xs ++ x ∷ []) ≡ length xs + 1
one_longer xs x = length-append xs (x ∷ [])

pub output_last : (os os' : List Output) (o : Output) (y : Variable) (v : Value) → os' ≡ os ++ o ∷ [] → o.variable ≡ y → o.value ≡ v → map output_of os' ≡ map output_of os ++ with_output (Some y) v []
output_last os os' o y v e is is' =
    ap (map output_of) e ∙ map-append output_of os (o ∷ [])
    ∙ ap (λ z. map output_of os ++ (let x : OutputOf = record { variable = z; value = o.value } in x) ∷ []) is
    ∙ ap (λ w. map output_of os ++ (let x : OutputOf = record { variable = y; value = w } in x) ∷ []) is'

set_last : (os : List OutputOf) (o : OutputOf) (m : Remembered) → all_set (os ++ o ∷ []) m ≡ set_variable o.variable o.value (all_set os m)
set_last [] o m = refl
set_last (x ∷ os) o m = set_last os o (set_variable x.variable x.value m)

pub set_more : (os : List Output) (o : Output) (m now new : Remembered) → all_set (map output_of os) m ≡ now → new ≡ set_variable o.variable o.value now → all_set (map output_of (os ++ o ∷ [])) m ≡ new
set_more os o m now new before is =
    ap (λ xs. all_set xs m) (map-append output_of os (o ∷ []))
    ∙ set_last (map output_of os) (output_of o) m
    ∙ ap (set_variable o.variable o.value) before ∙ sym is
