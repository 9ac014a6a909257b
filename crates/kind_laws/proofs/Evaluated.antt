-- The expressions that a step evaluates are good in the running procedure.
use Rattle.std.proofs.Common.{◌≡◌, ℕ, Bool, true, List, [], ◌∷◌, ◌++◌, Option, Some, None, map, refl, subst, inl, inr}
use Rattle.std.specs.Prelude.{◌&&◌, not}
use Rattle.std.specs.List.{list_all}
use Rattle.abl_base.specs.declared.value.Kind.TheVariants.{Character}
use Rattle.abl_values.specs.declared.schema.KeyPart.{KeyPart}
use Rattle.abl_values.specs.declared.schema.TableDef.{TableDef}
use Rattle.bound_tree.specs.declared.expression.Variable.{Variable}
use Rattle.bound_tree.specs.declared.statement.Target.{Target}
use Rattle.bound_tree.specs.Tree.{Action, Argument, BracketValue, CurrentOf, Export, Expr, Given, Header, In, InOut, Item, Message, NextOf, Out, PutItems, Reading, Return, ReturnError, Right, Run, Shows, Skips, Spaces, Stmt, ThenError, ThenLeave, ThenNext, ThenRetry, ThenReturn, ToPhrase, ValueOf}
use Rattle.bind_names.specs.declared.sort.Sort.{Sort}
use Rattle.bind_names.specs.Sorts.{fits, is_broken, is_whole_kind, mask_fits, may_be_logical, may_be_number}
use Rattle.bind_expressions.specs.WellKinded.{sort_of}
use Rattle.kind_laws.specs.bound_kinds.WellKinded.{Surroundings, are_arguments, if_there, is_action, is_argument, is_body, is_bracket, is_condition, is_counting, is_for, is_good, is_item, is_kind, is_marked, is_number, is_reading, is_run, is_shown, is_statement, is_value, is_variable, kind_of_field, kind_of_target, parts_of, table_of}
use Rattle.kind_laws.proofs.BoundKindsLemmas.Parts.{both, both_left, both_right}
use Rattle.block_meaning.specs.Blocks.{Iteration}
use Rattle.block_meaning.specs.State.{Stops}
use Rattle.flat_machine.specs.Code.{DenotesAt, Ends, Instr, Opens, Plain, Tests}
use Rattle.database_protocol.specs.declared.operation.Op.{Op}
use Rattle.flat_machine.specs.Config.{StackEntry, Acts, AssignsOne, Await, Blocks, Config, EndsWith, Execute, Iterates, Mode, OnAnswer, RunsFrom, Searches, Task, Unwind, WasNext, WasRead, WasSecond}
use Rattle.kind_laws.specs.Evaluated.{action_expressions, answer_expressions, argument_expressions, end_expressions, expressions_if, expressions_of, instruction_expressions, item_expressions, right_expressions, start_expressions, statement_expressions, task_expressions}
use Rattle.kind_laws.specs.Reached.{Ground, IsGround, ReachedOn, running, surroundings}
use Rattle.kind_laws.proofs.Iterations.{header_to, header_while}
use Rattle.kind_laws.proofs.Kept.{Allowed, allows, here, is_right, IsAwaited, IsCode, IsGoing, IsTask}
use Rattle.kind_laws.proofs.Runs.{own_procedure, reached_kept}
use Rattle.kind_laws.proofs.Statements.{code_is}
use Rattle.kind_laws.proofs.Undone.{IsSafe, IsUndone, Undoing, undoing_frames, bare}
use Rattle.kind_laws.proofs.Undone.{acts, awaits_back, awaits_drop, awaits_get, awaits_leave, closes, drops, empties, enters, goes, has_dropped, has_emptied, has_entered, has_left, leaves, releases, restores, updated, updated_one, updates, updates_one}
use Rattle.database_protocol.specs.declared.event.Event.{Event}

-- ---- a place for a value is a place for any

as_value : (x : Surroundings) (test : Sort → Bool) (e : Expr) → is_good x test e ≡ true → is_value x e ≡ true
as_value x test e h = both (is_marked x e) _ (both_left (is_marked x e) _ h) (both (not (is_broken (sort_of e))) _ (both_left (not (is_broken (sort_of e))) _ (both_right (is_marked x e) _ h)) refl)

abbrev pub AreValues : Surroundings → List Expr → Type 0
AreValues x es = list_all (is_value x) es ≡ true

one_value : (x : Surroundings) (test : Sort → Bool) (e : Expr) → is_good x test e ≡ true → AreValues x (e ∷ [])
one_value x test e h = both (is_value x e) _ (as_value x test e h) refl

value_and : (x : Surroundings) (test : Sort → Bool) (e : Expr) (es : List Expr) → is_good x test e ≡ true → AreValues x es → AreValues x (e ∷ es)
value_and x test e es h more = both (is_value x e) _ (as_value x test e h) more

values_join : (x : Surroundings) (es fs : List Expr) → AreValues x es → AreValues x fs → AreValues x (es ++ fs)
values_join x [] fs h k = k
values_join x (e ∷ es) fs h k = both (is_value x e) _ (both_left (is_value x e) _ h) (values_join x es fs (both_right (is_value x e) _ h) k)

if_values : (x : Surroundings) (test : Sort → Bool) (o : Option Expr) → if_there (is_good x test) o ≡ true → AreValues x (expressions_if o)
if_values x test None h = refl
if_values x test (Some e) h = one_value x test e h

-- ---- parts of statements

shown_value : (x : Surroundings) (mask : Option (List ℕ)) (e : Expr) → is_shown x mask e ≡ true → is_value x e ≡ true
shown_value x None e h = h
shown_value x (Some mask) e h = as_value x (mask_fits mask) e h

items_values : (x : Surroundings) (items : List Item) → list_all (is_item x) items ≡ true → AreValues x (item_expressions items)
items_values x [] h = refl
items_values x (Shows e mask ∷ items) h = both (is_value x e) _ (shown_value x mask e (both_left (is_shown x mask e) _ h)) (items_values x items (both_right (is_item x (Shows e mask)) _ h))
items_values x (Skips n ∷ items) h = items_values x items h
items_values x (Spaces n ∷ items) h = items_values x items h

arguments_values : (x : Surroundings) (ps : List Variable) (as_ : List Argument) → are_arguments x ps as_ ≡ true → AreValues x (argument_expressions as_)
arguments_values x [] [] h = refl
arguments_values x [] (a ∷ as_) h = absurd cc
arguments_values x (p ∷ ps) [] h = refl
arguments_values x (p ∷ ps) (In e ∷ as_) h = value_and x (λ s. fits s p.kind) e (argument_expressions as_) (both_left (is_argument x p (In e)) _ h) (arguments_values x ps as_ (both_right (is_argument x p (In e)) _ h))
arguments_values x (p ∷ ps) (Out v ∷ as_) h = arguments_values x ps as_ (both_right (is_argument x p (Out v)) _ h)
arguments_values x (p ∷ ps) (InOut v ∷ as_) h = arguments_values x ps as_ (both_right (is_argument x p (InOut v)) _ h)

run_values : (x : Surroundings) (o : Option (List Variable)) (as_ : List Argument) → is_run x o as_ ≡ true → AreValues x (argument_expressions as_)
run_values x None as_ h = absurd cc
run_values x (Some ps) as_ h = arguments_values x ps as_ h

bracket_values : (x : Surroundings) (t : TableDef) (parts : List KeyPart) (vs : List BracketValue) → is_bracket x t parts vs ≡ true → AreValues x (map (λ v. v.value) vs)
bracket_values x t parts [] h = refl
bracket_values x t [] (v ∷ vs) h = absurd cc
bracket_values x t (p ∷ parts) (v ∷ vs) h =
    let first = both_left (is_kind v.kind (kind_of_field t p.field) && is_for x v.kind v.value) _ h in
    value_and x (λ s. fits s v.kind) v.value (map (λ v. v.value) vs) (both_right (is_kind v.kind (kind_of_field t p.field)) _ first) (bracket_values x t parts vs (both_right (is_kind v.kind (kind_of_field t p.field) && is_for x v.kind v.value) _ h))

action_values : (x : Surroundings) (act : Action) → is_action x act ≡ true → AreValues x (action_expressions act)
action_values x ThenRetry h = refl
action_values x (ThenLeave l) h = refl
action_values x (ThenNext l) h = refl
action_values x (ThenReturn error e) h = if_values x (λ s. fits s Character) e h
action_values x ThenError h = refl

right_values : (x : Surroundings) (t : Target) (r : Right) → is_right x t r ≡ true → AreValues x (right_expressions r)
right_values x t (ValueOf e) h = one_value x (λ s. fits s (kind_of_target t)) e h
right_values x t (NextOf q) h = refl
right_values x t (CurrentOf q) h = refl
right_values x t (Given v) h = refl

start_values : (x : Surroundings) (o : Option ToPhrase) → if_there (is_counting x) o ≡ true → AreValues x (start_expressions o)
start_values x None h = refl
start_values x (Some l) h =
    let rest = both_right (is_variable x l.variable && is_whole_kind l.variable.kind) _ h in
    let more = both_right (is_number x l.start) _ rest in
    value_and x may_be_number l.start (expressions_if l.by) (both_left (is_number x l.start) _ rest) (if_values x may_be_number l.by (both_right (is_number x l.end) _ more))

end_values : (x : Surroundings) (o : Option ToPhrase) → if_there (is_counting x) o ≡ true → AreValues x (end_expressions o)
end_values x None h = refl
end_values x (Some l) h =
    let rest = both_right (is_variable x l.variable && is_whole_kind l.variable.kind) _ h in
    one_value x may_be_number l.end (both_left (is_number x l.end) _ (both_right (is_number x l.start) _ rest))

statement_values : (x : Surroundings) (t : Stmt) → is_statement x t ≡ true → AreValues x (statement_expressions t)
statement_values x (Return e) h = if_values x (λ s. fits s Character) e h
statement_values x (ReturnError block e) h = if_values x (λ s. fits s Character) e h
statement_values x (Run procedure as_ quiet) h = run_values x _ as_ h
statement_values x (Export stream es) h = h
statement_values x (PutItems stream items) h = items_values x items h
statement_values x (Message es) h = h
statement_values x t h = refl

-- ---- tasks

instruction_values : (g : Ground) (ns : List ℕ) (bs : List ℕ) (m : Instr) (at : ℕ) → DenotesAt g.tree at m → IsCode g ns bs at → AreValues (here g ns) (instruction_expressions m)
instruction_values g ns bs Ends at den c = refl
instruction_values g ns bs (Opens b body next) at den c = refl
instruction_values g ns bs (Tests test one other) at den c =
    let is = code_is g ns bs at _ c den.is in
    let x = here g ns in
    one_value x may_be_logical test (both_left (is_condition x test) _ (both_left (is_condition x test && (is_body x den.then_it && is_body x den.else_it)) _ is.0))
instruction_values g ns bs (Plain t next) at den c =
    let is = code_is g ns bs at _ c den.1 in
    statement_values (here g ns) t (both_left (is_statement (here g ns) t) _ is.0)

task_values : (g : Ground) (ns : List ℕ) (a : Allowed) (t : Task) → IsGround g → IsTask g ns a t → AreValues (here g ns) (task_expressions g.code t)
task_values g ns a (RunsFrom place d retry) ok h = instruction_values g ns a.blocks (g.code.instr place) place (ok.denotes.denotes place) h.0
task_values g ns a (AssignsOne t x retry) ok h = right_values (here g ns) t x h.0.right
task_values g ns a (Searches r forward only wait retry from) ok h =
    bracket_values (here g ns) (table_of (here g ns) r.buffer) (parts_of (table_of (here g ns) r.buffer) r.index) r.bracket (both_right (if_there (is_condition (here g ns)) r.test) _ h.0.reading)
task_values g ns a (Acts b o act retry) ok h = action_values (here g ns) act h.1
task_values g ns a (Blocks b outer body d) ok h = start_values (here g ns) b.to (header_to (here g ns) b h.block.kinded)
task_values g ns a (Iterates b outer body d t) ok h =
    values_join (here g ns) (end_expressions b.to) (expressions_if b.while_test) (end_values (here g ns) b.to (header_to (here g ns) b h.0.block.kinded)) (if_values (here g ns) may_be_logical b.while_test (header_while (here g ns) b h.0.block.kinded))
task_values g ns a t ok h = refl

test_values : (x : Surroundings) (r : Reading) → is_reading x r ≡ true → AreValues x (expressions_if r.test)
test_values x r h = if_values x may_be_logical r.test (both_left (if_there (is_condition x) r.test) _ h)

answer_values : (g : Ground) (ns : List ℕ) (a : Allowed) (o : Op) (k : OnAnswer) → IsAwaited g ns a o k → AreValues (here g ns) (answer_expressions k)
answer_values g ns a o (WasNext n k) h = test_values (here g ns) k.reading h.0.reading
answer_values g ns a o (WasSecond n k c values) h = test_values (here g ns) k.reading h.0.reading
answer_values g ns a o (WasRead r retry row held) h = test_values (here g ns) r h.0.reading
answer_values g ns a o k h = refl

mode_values : (g : Ground) (ns : List ℕ) (ks : List StackEntry) (m : Mode) → IsGround g → IsGoing g ns ks m → AreValues (here g ns) (expressions_of g.code m)
mode_values g ns ks (Execute (EndsWith b o (Stops end))) ok h = refl
mode_values g ns ks (Execute t) ok h = task_values g ns (allows ks) t ok h.0
mode_values g ns ks (Unwind completion) ok h = refl
mode_values g ns ks (Await o k) ok h = answer_values g ns (allows ks) o k h.1

-- the action after an UNDO of the block of a procedure
undoing_values : (g : Ground) (ns : List ℕ) (b : Header) (o : Iteration) (act : Action) (retry : Bool) (ks : List StackEntry) (c : Config) → IsUndone g ns b o act ks → Undoing g ns b o act retry ks c → AreValues (here g ns) (expressions_of g.code c.mode)
undoing_values g ns b o act retry ks _ u (acts s e h) = action_values (here g ns) act u.action
undoing_values g ns b o act retry ks _ u (bare more s e h) = refl
undoing_values g ns b o act retry ks _ u (goes copy more s saved h) = refl
undoing_values g ns b o act retry ks _ u (awaits_back copy more q s w saved h) = refl
undoing_values g ns b o act retry ks _ u (restores copy more s saved h) = refl
undoing_values g ns b o act retry ks _ u (updates mark places more s h) = refl
undoing_values g ns b o act retry ks _ u (updates_one mark place places more s h) = refl
undoing_values g ns b o act retry ks _ u (awaits_get mark places more q place row held made s w suits h) = refl
undoing_values g ns b o act retry ks _ u (updated_one mark places more s h) = refl
undoing_values g ns b o act retry ks _ u (updated more s h) = refl
undoing_values g ns b o act retry ks _ u (leaves more s h) = refl
undoing_values g ns b o act retry ks _ u (awaits_leave more q s w h) = refl
undoing_values g ns b o act retry ks _ u (has_left more s h) = refl
undoing_values g ns b o act retry ks _ u (empties more s h) = refl
undoing_values g ns b o act retry ks _ u (has_emptied s e h) = refl
undoing_values g ns b o act retry ks _ u (closes out s over e h) = refl
undoing_values g ns b o act retry ks _ u (releases bs out s i e h) = refl
undoing_values g ns b o act retry ks _ u (enters n bs out s i e h) = refl
undoing_values g ns b o act retry ks _ u (has_entered n bs out s i e h) = refl
undoing_values g ns b o act retry ks _ u (drops n bs out s i e h) = refl
undoing_values g ns b o act retry ks _ u (awaits_drop bs out q s w i e h) = refl
undoing_values g ns b o act retry ks _ u (has_dropped bs out s i e h) = refl

safe_values : (g : Ground) (c : Config) → IsGround g → IsSafe g c → AreValues (running g c.state) (expressions_of g.code c.mode)
safe_values g c ok (inl h) = subst (λ (n : ℕ). AreValues (surroundings g n) (expressions_of g.code c.mode)) (own_procedure g h.0 h.1 c.state.frames h.2.0) (mode_values g (h.0 ∷ h.1) c.stack c.mode ok h.2.1)
safe_values g c ok (inr r) =
    let f = undoing_frames g (r.0 ∷ r.1) r.2.block r.2.iteration r.2.action r.2.retry r.2.below c r.2.undoing in
    subst (λ (n : ℕ). AreValues (surroundings g n) (expressions_of g.code c.mode)) (own_procedure g r.0 r.1 c.state.frames f)
    (undoing_values g (r.0 ∷ r.1) r.2.block r.2.iteration r.2.action r.2.retry r.2.below c r.2.undone r.2.undoing)

pub evaluated_good : (g : Ground) → IsGround g → (units : ℕ) (own : List Event) (c : Config) → ReachedOn g units own c → list_all (is_value (running g c.state)) (expressions_of g.code c.mode) ≡ true
evaluated_good g ok units own c r = safe_values g c ok (reached_kept g units own c ok r)
