-- Values that fit their targets: assignments, arguments and parameters.
use Rattle.std.proofs.Common.{◌≡◌, ℕ, zero, suc, Bool, true, false, List, [], ◌∷◌, Some, map, refl, subst, Result, Ok, Err}
use Rattle.std.specs.Prelude.{◌&&◌, not, slice_get, slice_set, if◌then◌else◌}
use Rattle.std.specs.List.{list_all}
use Rattle.std.proofs.lemmas.Option.{same_Some}
use Rattle.abl_base.specs.declared.value.Kind.{Kind}
use Rattle.abl_base.specs.declared.value.Value.{Value}
use Rattle.abl_values.specs.declared.arithmetic.ArithFault.{ArithFault}
use Rattle.abl_values.specs.Fit.{fitted, IsOfKind}
use Rattle.abl_values.specs.Schema.{table_at}
use Rattle.bound_tree.specs.declared.expression.Variable.{Variable}
use Rattle.bound_tree.specs.declared.procedure.BufferDef.{BufferDef}
use Rattle.bound_tree.specs.declared.statement.Target.{Target}
use Rattle.bound_tree.specs.declared.statement.Target.TheVariants as target
use Rattle.bound_tree.specs.Tree.{Argument, In, InOut, Out}
use Rattle.bind_names.specs.Sorts.{same_kind}
use Rattle.kind_laws.specs.bound_kinds.WellKinded.{are_arguments, are_of_kinds, begins_well, is_argument, is_of_kind, is_target, is_variable, kind_of_field, table_of}
use Rattle.kind_laws.proofs.BoundKindsLemmas.Parts.{both_left, both_right}
use Rattle.block_meaning.specs.Changes.{stored, stored_if, stored_in, stored_value, with_field}
use Rattle.block_meaning.specs.Frames.{assigned, content_of, set_in, value_in, value_of}
use Rattle.block_meaning.specs.Meaning.{argument_value, argument_values, copied_out, new_buffer, new_frame, opened_frame, params_set}
use Rattle.block_meaning.specs.Program.{Program, procedure_at}
use Rattle.block_meaning.specs.State.{CallFrame, Completed, Content, Empty, Pending, Record, State}
use Rattle.block_meaning.specs.Values.{Evaluated, EvaluatedAll, Fails, FailsAll, Gives, GivesAll, bind, before_all, fit, or_range, value_now, with_value}
use Rattle.kind_laws.specs.Placed.{is_outermost, is_own}
use Rattle.kind_laws.specs.Reached.{Ground, kinds_at, surroundings}
use Rattle.kind_laws.proofs.Kept.{Allowed, AreBuffers, AreFor, AreFrames, HaveKinds, here, IsAllowed, IsFrame, IsProcedure, IsRecord, table_here, table_among}
use Rattle.kind_laws.proofs.Buffers.{content_has, holding_keeps, no_buffer_is}
use Rattle.kind_laws.proofs.States.{assigned_keeps, frame_set, kind_there, kinds_in, same_is, value_has, variable_kind, of_kind}
use Rattle.kind_laws.proofs.Rows.{IsFitted, fitted_is, row_set, field_here}

-- ---- values that fit

abbrev pub IfGives : Evaluated → (Value → Type 0) → Type 0
IfGives (Gives v) P = P v
IfGives (Fails c) P = Unit {0}

or_range_is : (k : Kind) (r : Result Value ArithFault) → IsFitted k r → IfGives (or_range r) (IsOfKind k)
or_range_is k (Ok v) h = h
or_range_is k (Err fault) h = tt

-- a value that was converted is of its kind
pub fit_of : (k : Kind) (v : Value) → IfGives (fit k v) (IsOfKind k)
fit_of k v = or_range_is k (fitted v k) (fitted_is v k)

if_gives : (v : Evaluated) (P Q : Value → Type 0) → ((v : Value) → P v → Q v) → IfGives v P → IfGives v Q
if_gives (Gives v) P Q f h = f v h
if_gives (Fails c) P Q f h = tt

pub fit_is : (k : Kind) (v : Value) → IfGives (fit k v) (λ v. is_of_kind k v ≡ true)
fit_is k v = if_gives (fit k v) (IsOfKind k) (λ v. is_of_kind k v ≡ true) (λ v h. of_kind k v h) (fit_of k v)

-- ---- assignments

pub record Ends (g : Ground) (ns : List ℕ) (a : Allowed) (x : Completed) : Type 0 where
  pub frames : AreFrames g ns x.state.frames
  pub allowed : IsAllowed g ns a x.completion

stored_value_ends : (g : Ground) (ns : List ℕ) (a : Allowed) (v : Evaluated) (set : Value → State → State) (s : State) → AreFrames g ns s.frames → a.faults ≡ true → IfGives v (λ v. AreFrames g ns (set v s).frames) → Ends g ns a (stored_value v set s)
stored_value_ends g ns a (Gives v) set s h e x = record { frames = x; allowed = tt }
stored_value_ends g ns a (Fails c) set s h e x = record { frames = h; allowed = e }

field_keeps : (g : Ground) (ns : List ℕ) (c : Content) (b f : ℕ) (k : Kind) (v : Value) (s : State) → AreFrames g ns s.frames → IsRecord g.schema (table_here g ns b) c → kind_of_field (table_at g.schema (table_here g ns b)) f ≡ Some k → IsOfKind k v →
    AreFrames g ns (with_field f v b c s).frames
field_keeps g ns Empty b f k v s h c e is = h
field_keeps g ns (Record row values held made) b f k v s h c e is = holding_keeps g ns b (Record row (slice_set values f v) held made) s h (row_set g.schema (table_here g ns b) values f k v c e is)
field_keeps g ns (Pending values since made) b f k v s h c e is = holding_keeps g ns b (Pending (slice_set values f v) (f ∷ since) made) s h (row_set g.schema (table_here g ns b) values f k v c e is)

stored_in_ends : (g : Ground) (ns : List ℕ) (a : Allowed) (c : Content) (b f : ℕ) (k : Kind) (v : Value) (s : State) → AreFrames g ns s.frames → IsRecord g.schema (table_here g ns b) c → kind_of_field (table_at g.schema (table_here g ns b)) f ≡ Some k → a.faults ≡ true →
    Ends g ns a (stored_in c b f k v s)
stored_in_ends g ns a Empty b f k v s h c t e = record { frames = h; allowed = e }
stored_in_ends g ns a (Record row values held made) b f k v s h c t e =
    stored_value_ends g ns a (fit k v) (λ v. with_field f v b (Record row values held made)) s h e
    (if_gives (fit k v) (IsOfKind k) _ (λ v is. field_keeps g ns (Record row values held made) b f k v s h c t is) (fit_of k v))
stored_in_ends g ns a (Pending values since made) b f k v s h c t e =
    stored_value_ends g ns a (fit k v) (λ v. with_field f v b (Pending values since made)) s h e
    (if_gives (fit k v) (IsOfKind k) _ (λ v is. field_keeps g ns (Pending values since made) b f k v s h c t is) (fit_of k v))

-- A TARGET GETS A VALUE OF ITS KIND
pub stored_ends : (g : Ground) (ns : List ℕ) (a : Allowed) (t : Target) (v : Value) (s : State) → AreFrames g ns s.frames → is_target (here g ns) t ≡ true → a.faults ≡ true → Ends g ns a (stored t v s)
stored_ends g ns a (target.Variable x) v s h t e =
    stored_value_ends g ns a (fit x.kind v) (assigned x) s h e (if_gives (fit x.kind v) (λ v. is_of_kind x.kind v ≡ true) _ (λ v is. assigned_keeps g ns x v s h t is) (fit_is x.kind v))
stored_ends g ns a (target.Field b f k) v s h t e = stored_in_ends g ns a (content_of b s) b f k v s h (content_has g ns b s h) (field_here g ns b f k (kind_there k (kind_of_field (table_of (here g ns) b) f) t)) e

pub stored_if_ends : (g : Ground) (ns : List ℕ) (a : Allowed) (v : Evaluated) (t : Target) (s : State) → AreFrames g ns s.frames → is_target (here g ns) t ≡ true → a.faults ≡ true → Ends g ns a (stored_if v t s)
stored_if_ends g ns a (Gives v) t s h is e = stored_ends g ns a t v s h is e
stored_if_ends g ns a (Fails c) t s h is e = record { frames = h; allowed = e }

-- ---- arguments

abbrev pub IfAll : EvaluatedAll → (List Value → Type 0) → Type 0
IfAll (GivesAll vs) P = P vs
IfAll (FailsAll c) P = Unit {0}

bound_fits : (k : Kind) (v : Evaluated) → IfGives (bind v (fit k)) (λ v. is_of_kind k v ≡ true)
bound_fits k (Gives v) = fit_is k v
bound_fits k (Fails c) = tt

argument_is : (p : Program) (a : Argument) (k : Kind) (retry : Bool) (s : State) → IfGives (argument_value p a k retry s) (λ v. is_of_kind k v ≡ true)
argument_is p (In e) k retry s = bound_fits k (value_now p e retry s)
argument_is p (InOut y) k retry s = fit_is k (value_of y s)
argument_is p (Out y) k retry s = refl

one_more : (x : Variable) (xs : List Variable) (v : Evaluated) (rest : EvaluatedAll) → IfGives v (λ v. is_of_kind x.kind v ≡ true) → IfAll rest (AreFor xs) → IfAll (with_value v (λ v. before_all v rest)) (AreFor (x ∷ xs))
one_more x xs (Gives v) (GivesAll vs) h more = (h, more)
one_more x xs (Gives v) (FailsAll c) h more = tt
one_more x xs (Fails c) rest h more = tt

none_for : (xs : List Variable) → AreFor xs []
none_for [] = tt
none_for (x ∷ xs) = tt

-- the values of arguments are of the kinds of their parameters
pub arguments_are : (p : Program) (args : List Argument) (xs : List Variable) (retry : Bool) (s : State) → IfAll (argument_values p args xs retry s) (AreFor xs)
arguments_are p [] xs retry s = none_for xs
arguments_are p (a ∷ rest) [] retry s = tt
arguments_are p (a ∷ rest) (x ∷ xs) retry s = one_more x xs (argument_value p a x.kind retry s) (argument_values p rest xs retry s) (argument_is p a x.kind retry s) (arguments_are p rest xs retry s)

-- ---- parameters

-- the kind of a parameter in its procedure
own_kind : (g : Ground) (n : ℕ) (x : Variable) → is_variable (surroundings g n) x ≡ true → is_own x ≡ true → slice_get (kinds_in (kinds_at g n) x.undoable) x.number ≡ Some x.kind
own_kind g n x h e = go x.external e (variable_kind g (n ∷ []) x h)
  where
    go : (external : Bool) → not external ≡ true → slice_get (kinds_in (if external then kinds_at g 0 else kinds_at g n) x.undoable) x.number ≡ Some x.kind → slice_get (kinds_in (kinds_at g n) x.undoable) x.number ≡ Some x.kind
    go true e k = absurd cc
    go false e k = k

set_params : (g : Ground) (n : ℕ) (args : List Argument) (xs : List Variable) (vs : List Value) (f : CallFrame) → list_all (is_variable (surroundings g n)) xs ≡ true → list_all is_own xs ≡ true → AreFor xs vs → IsFrame g n f → IsFrame g n (params_set args xs vs f)
set_params g n [] xs vs f h o v is = is
set_params g n (a ∷ rest) [] vs f h o v is = is
set_params g n (a ∷ rest) (x ∷ xs) [] f h o v is = is
set_params g n (In e ∷ rest) (x ∷ xs) (w ∷ ws) f h o v is =
    set_params g n rest xs ws (set_in x.undoable x.number w f) (both_right (is_variable (surroundings g n) x) _ h) (both_right (is_own x) _ o) v.1
    (frame_set g n f x.undoable x.number x.kind w is (own_kind g n x (both_left (is_variable (surroundings g n) x) _ h) (both_left (is_own x) _ o)) v.0)
set_params g n (InOut y ∷ rest) (x ∷ xs) (w ∷ ws) f h o v is =
    set_params g n rest xs ws (set_in x.undoable x.number w f) (both_right (is_variable (surroundings g n) x) _ h) (both_right (is_own x) _ o) v.1
    (frame_set g n f x.undoable x.number x.kind w is (own_kind g n x (both_left (is_variable (surroundings g n) x) _ h) (both_left (is_own x) _ o)) v.0)
set_params g n (Out y ∷ rest) (x ∷ xs) (w ∷ ws) f h o v is = set_params g n rest xs ws f (both_right (is_variable (surroundings g n) x) _ h) (both_right (is_own x) _ o) v.1 is

-- initial values
initial_kinds : (kinds : List Kind) (values : List Value) → are_of_kinds kinds values ≡ true → HaveKinds (slice_get kinds) values
initial_kinds [] values h n k e = absurd cc
initial_kinds (j ∷ js) [] h n k e = absurd cc
initial_kinds (j ∷ js) (v ∷ vs) h zero k e = subst (λ (i : Kind). is_of_kind i v ≡ true) (same_Some j k e) (both_left (is_of_kind j v) _ h)
initial_kinds (j ∷ js) (v ∷ vs) h (suc n) k e = initial_kinds js vs (both_right (is_of_kind j v) _ h) n k e

-- empty buffers of the procedure's tables
new_buffers : (g : Ground) (ds : List BufferDef) → AreBuffers g (table_among ds) (map new_buffer ds)
new_buffers g [] b = no_buffer_is g
new_buffers g (d ∷ ds) zero = record { table = refl; content = tt }
new_buffers g (d ∷ ds) (suc b) = new_buffers g ds b

pub begins_well_kinds : (g : Ground) (n : ℕ) → IsProcedure g n → IsFrame g n (new_frame g.program n)
begins_well_kinds g n h =
    let both_lists = both_left (begins_well (kinds_at g n) (procedure_at g.program n)) _ h.kinded in
    record {
      procedure = refl;
      undoable = initial_kinds (kinds_at g n).undoable (procedure_at g.program n).undoable (both_left (are_of_kinds (kinds_at g n).undoable (procedure_at g.program n).undoable) _ both_lists);
      no_undo = initial_kinds (kinds_at g n).no_undo (procedure_at g.program n).no_undo (both_right (are_of_kinds (kinds_at g n).undoable (procedure_at g.program n).undoable) _ both_lists);
      buffers = new_buffers g (procedure_at g.program n).buffers;
    }

pub parameters_there : (g : Ground) (n : ℕ) → IsProcedure g n → list_all (is_variable (surroundings g n)) (procedure_at g.program n).parameters ≡ true
parameters_there g n h = both_left (list_all (is_variable (surroundings g n)) (procedure_at g.program n).parameters) _ (both_right (begins_well (kinds_at g n) (procedure_at g.program n)) _ h.kinded)

pub parameters_own : (g : Ground) (n : ℕ) → IsProcedure g n → list_all is_own (procedure_at g.program n).parameters ≡ true
parameters_own g n h =
    both_left (list_all is_own (procedure_at g.program n).parameters) _ (both_left (list_all is_own (procedure_at g.program n).parameters && is_outermost (procedure_at g.program n).header) _ h.placed)

-- a procedure begins with values of its kinds
pub opened_keeps : (g : Ground) (m : ℕ) (ns : List ℕ) (n : ℕ) (args : List Argument) (vs : List Value) (s : State) → IsProcedure g n → AreFor (procedure_at g.program n).parameters vs → AreFrames g (m ∷ ns) s.frames →
    AreFrames g (n ∷ m ∷ ns) (opened_frame g.program n args vs s).frames
opened_keeps g m ns n args vs s p v h =
    (set_params g n args (procedure_at g.program n).parameters vs (new_frame g.program n) (parameters_there g n p) (parameters_own g n p) v (begins_well_kinds g n p), tt, h)

-- ---- OUTPUT

out_keeps : (g : Ground) (ns : List ℕ) (n : ℕ) (x y : Variable) (f : CallFrame) (s : State) → is_variable (surroundings g n) x ≡ true → is_own x ≡ true → (is_variable (here g ns) y && same_kind x.kind y.kind) ≡ true → IsFrame g n f →
    AreFrames g ns s.frames → AreFrames g ns (assigned y (value_in x.undoable x.number f) s).frames
out_keeps g ns n x y f s h o k is fr =
    assigned_keeps g ns y (value_in x.undoable x.number f) s fr (both_left (is_variable (here g ns) y) _ k)
    (same_is x.kind y.kind (value_in x.undoable x.number f) (both_right (is_variable (here g ns) y) _ k) (value_has g n f x.undoable x.number x.kind is (own_kind g n x h o)))

-- the values of output parameters are of the kinds of the variables that get them
pub copied_keeps : (g : Ground) (ns : List ℕ) (n : ℕ) (args : List Argument) (xs : List Variable) (f : CallFrame) (s : State) → list_all (is_variable (surroundings g n)) xs ≡ true → list_all is_own xs ≡ true → are_arguments (here g ns) xs args ≡ true → IsFrame g n f →
    AreFrames g ns s.frames → AreFrames g ns (copied_out args xs f s).frames
copied_keeps g ns n [] xs f s h o k is fr = fr
copied_keeps g ns n (a ∷ rest) [] f s h o k is fr = fr
copied_keeps g ns n (In e ∷ rest) (x ∷ xs) f s h o k is fr = copied_keeps g ns n rest xs f s (both_right (is_variable (surroundings g n) x) _ h) (both_right (is_own x) _ o) (both_right (is_argument (here g ns) x (In e)) _ k) is fr
copied_keeps g ns n (InOut y ∷ rest) (x ∷ xs) f s h o k is fr =
    copied_keeps g ns n rest xs f (assigned y (value_in x.undoable x.number f) s) (both_right (is_variable (surroundings g n) x) _ h) (both_right (is_own x) _ o) (both_right (is_argument (here g ns) x (InOut y)) _ k) is
    (out_keeps g ns n x y f s (both_left (is_variable (surroundings g n) x) _ h) (both_left (is_own x) _ o) (both_left (is_argument (here g ns) x (InOut y)) _ k) is fr)
copied_keeps g ns n (Out y ∷ rest) (x ∷ xs) f s h o k is fr =
    copied_keeps g ns n rest xs f (assigned y (value_in x.undoable x.number f) s) (both_right (is_variable (surroundings g n) x) _ h) (both_right (is_own x) _ o) (both_right (is_argument (here g ns) x (Out y)) _ k) is
    (out_keeps g ns n x y f s (both_left (is_variable (surroundings g n) x) _ h) (both_left (is_own x) _ o) (both_left (is_argument (here g ns) x (Out y)) _ k) is fr)
