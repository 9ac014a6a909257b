-- Every configuration that a run reaches keeps the kinds; so each variable, and each expression, has a value of its kind.
use Rattle.std.proofs.Common.{◌≡◌, ℕ, Bool, true, false, List, [], ◌∷◌, Option, Some, None, refl, sym, subst, inl, inr}
use Rattle.std.specs.Prelude.{◌&&◌, ◌||◌, IfSome}
use Rattle.abl_base.specs.declared.value.Kind.{Kind}
use Rattle.abl_base.specs.declared.value.Value.{Value}
use Rattle.bound_tree.specs.declared.expression.Variable.{Variable}
use Rattle.bound_tree.specs.Tree as b
use Rattle.bound_tree.specs.Tree.{Expr, Procedure, Source}
use Rattle.bind_names.specs.declared.sort.Sort.{Sort}
use Rattle.bind_names.specs.declared.sort.Sort.TheVariants.{Of, Unknown, Broken}
use Rattle.bind_names.specs.Sorts.{is_whole_kind, may, same_kind, sort_of_value}
use Rattle.kind_laws.specs.bound_kinds.Values.{Has, Keeps, has_sort, is_like}
use Rattle.kind_laws.specs.bound_kinds.WellKinded.{Surroundings, is_field, is_good, is_marked, is_of_kind, is_variable, kind_of_field, table_of}
use Rattle.kind_laws.proofs.BoundKindsLemmas.Parts.{both_left, both_right}
use Rattle.kind_laws.proofs.BoundKindsLemmas.Valued.{good_has}
use Rattle.bind_expressions.specs.WellKinded.{sort_of}
use Rattle.expression_meaning.specs.Env.{Env}
use Rattle.expression_meaning.specs.Evaluate.{evaluate}
use Rattle.block_meaning.specs.Frames.{content_of, own_frame, value_of}
use Rattle.block_meaning.specs.State.{CallFrame, Content, Empty, Pending, Record, State, Stops}
use Rattle.block_meaning.specs.Values.{env_of, field_in}
use Rattle.database_protocol.specs.declared.answer.Answer.{Answer}
use Rattle.database_protocol.specs.declared.operation.Op.{Op}
use Rattle.database_meaning.specs.Fits.{Fits}
use Rattle.flat_machine.specs.Config.{Await, Config, EndsWith, Execute, Mode, OnAnswer, StackEntry, Unwind}
use Rattle.flat_machine.specs.Machine.{answered, mode_step, step}
use Rattle.flat_machine.specs.Steps.{config}
use Rattle.kind_laws.specs.Reached.{Ground, IsGround, ReachedOn, running, surroundings}
use Rattle.kind_laws.proofs.Kept.{AreFrames, IsGoing, IsRecord, table_here, here}
use Rattle.kind_laws.proofs.Answers.{answer_kept}
use Rattle.kind_laws.proofs.Completions.{pop_kept, stop_kept}
use Rattle.kind_laws.proofs.Buffers.{content_has}
use Rattle.kind_laws.proofs.States.{kind_there, variable_has}
use Rattle.kind_laws.proofs.Tasks.{first_kept, task_kept}
use Rattle.kind_laws.proofs.Undone.{frames_safe, IsSafe, retreat_answer, retreat_step, IsQuiet, asks_safe}
use Rattle.abl_values.specs.Schema.{table_at}
use Rattle.database_protocol.specs.declared.event.Event.{Event}
use Rattle.machine_laws.specs.levels.Reached.{answers, begins, steps}
use Rattle.kind_laws.specs.Operations.{IsOfSchema}
use Rattle.kind_laws.proofs.Rows.{row_fits, field_here}
use Rattle.kind_laws.proofs.Quiet.{reached_quiet}

-- ---- steps

mode_kept : (g : Ground) (m : ℕ) (ns : List ℕ) (mode : Mode) (ks : List StackEntry) (s : State) → IsGround g → IsQuiet mode s → AreFrames g (m ∷ ns) s.frames → IsGoing g (m ∷ ns) ks mode → IsSafe g (mode_step g.code g.program mode ks s)
mode_kept g m ns (Execute (EndsWith b o (Stops end))) ks s ok quiet h x = inl (m, ns, (h, tt))
mode_kept g m ns (Execute t) ks s ok quiet h x = task_kept g m ns t ks s ok quiet h x.0 x.1
mode_kept g m ns (Unwind (Stops end)) [] s ok quiet h x = inl (m, ns, (h, tt))
mode_kept g m ns (Unwind (Stops end)) (k ∷ ks) s ok quiet h x = inl (stop_kept g m ns k end ks s h)
mode_kept g m ns (Unwind completion) [] s ok quiet h x = inl (m, ns, (h, x))
mode_kept g m ns (Unwind completion) (k ∷ ks) s ok quiet h x = inl (pop_kept g m ns k completion ks s h x.0 x.1)
mode_kept g m ns (Await op k) ks s ok quiet h x = inl (m, ns, (h, x))

pub step_kept : (g : Ground) (c : Config) → IsGround g → IsQuiet c.mode c.state → IsSafe g c → IsSafe g (step g.code g.program c)
step_kept g c ok quiet (inl h) = mode_kept g h.0 h.1 c.mode c.stack c.state ok quiet h.2.0 h.2.1
step_kept g c ok quiet (inr r) = retreat_step g r.0 r.1 c r.2

-- ---- runs

answer_safe : (g : Ground) (a : Answer) (op : Op) (k : OnAnswer) (ks : List StackEntry) (s : State) → Fits g.schema op a → IsSafe g (config (Await op k) ks s) → IsSafe g (answered g.program a op k ks s)
answer_safe g a op k ks s fit (inl h) = inl (h.0, h.1, answer_kept g (h.0 ∷ h.1) a op k ks s fit h.2.0 h.2.1.0 h.2.1.1 h.2.1.2)
answer_safe g a op k ks s fit (inr r) = retreat_answer g r.0 r.1 a (config (Await op k) ks s) fit r.2

pub reached_kept : (g : Ground) (units : ℕ) (own : List Event) (c : Config) → IsGround g → ReachedOn g units own c → IsSafe g c
reached_kept g units _ _ ok begins = inl (first_kept g units ok)
reached_kept g units _ _ ok (steps own c r) = step_kept g c ok (reached_quiet g ok units own c r) (reached_kept g units own c ok r)
reached_kept g units _ _ ok (answers own e on ks s fits unrefused r) = answer_safe g e.answer e.op on ks s fits (reached_kept g units own _ ok r)

-- the open procedures
pub reached_frames : (g : Ground) (units : ℕ) (own : List Event) (c : Config) → IsGround g → ReachedOn g units own c → (n : ℕ) × (ns : List ℕ) × AreFrames g (n ∷ ns) c.state.frames
reached_frames g units own c ok r = frames_safe g c (reached_kept g units own c ok r)

-- ---- variables

pub own_procedure : (g : Ground) (m : ℕ) (ns : List ℕ) (fs : List CallFrame) → AreFrames g (m ∷ ns) fs → m ≡ (own_frame fs).procedure
own_procedure g m ns [] h = absurd h
own_procedure g m ns (f ∷ fs) h = sym h.0.procedure

pub variables_have : (g : Ground) → IsGround g → (units : ℕ) (own : List Event) (c : Config) → ReachedOn g units own c → (x : Variable) → is_variable (running g c.state) x ≡ true → is_of_kind x.kind (value_of x c.state) ≡ true
variables_have g ok units own c r x e =
    let h = reached_frames g units own c ok r in
    variable_has g (h.0 ∷ h.1) x c.state h.2 (subst (λ (n : ℕ). is_variable (surroundings g n) x ≡ true) (sym (own_procedure g h.0 h.1 c.state.frames h.2)) e)

-- ---- expressions

-- INTEGER and INT64 are one as a sort
or_like : (c d : Bool) → c ≡ true → (c || d) ≡ true
or_like true d e = refl
or_like false d e = absurd cc

like_of : (k : Kind) (s : Sort) → may (same_kind k) s ≡ true → may (is_like k) s ≡ true
like_of k (Of l) e = or_like (same_kind k l) (is_whole_kind k && is_whole_kind l) e
like_of k Unknown e = refl
like_of k Broken e = refl

sort_of_kind : (k : Kind) (v : Value) → is_of_kind k v ≡ true → has_sort (Of k) v ≡ true
sort_of_kind k v e = like_of k (sort_of_value v) e

-- a field of a record of the table
field_of : (g : Ground) (t : ℕ) (c : Content) (f : ℕ) (k : Kind) → IsRecord g.schema t c → kind_of_field (table_at g.schema t) f ≡ Some k → IfSome (field_in f c) (λ v. is_of_kind k v ≡ true)
field_of g t Empty f k h e = tt
field_of g t (Record row values held made) f k h e = row_fits (table_at g.schema t).fields values h.1 f k e
field_of g t (Pending values since made) f k h e = row_fits (table_at g.schema t).fields values h.1 f k e

marked_keeps : (x : Surroundings) (env : Env) → ((v : Variable) → is_variable x v ≡ true → has_sort (Of v.kind) (env.variable v) ≡ true) → ((buffer field : ℕ) (k : Kind) → is_field x buffer field k ≡ true → IfSome (env.field buffer field) (λ v. has_sort (Of k) v ≡ true)) → (e : Expr) → is_marked x e ≡ true → Keeps env e
marked_keeps x env f fields (b.Literal v) h = tt
marked_keeps x env f fields (b.TheVariable v) h = f v h
marked_keeps x env f fields (b.TheField buffer field kind) h = fields buffer field kind h
marked_keeps x env f fields (b.One op a) h = marked_keeps x env f fields a h
marked_keeps x env f fields (b.Two op a c) h = (marked_keeps x env f fields a (both_left (is_marked x a) _ h), marked_keeps x env f fields c (both_right (is_marked x a) _ h))
marked_keeps x env f fields (b.Three op a c d) h =
    let rest = both_right (is_marked x a) _ h in
    (marked_keeps x env f fields a (both_left (is_marked x a) _ h), marked_keeps x env f fields c (both_left (is_marked x c) _ rest), marked_keeps x env f fields d (both_right (is_marked x c) _ rest))
marked_keeps x env f fields (b.Both a c) h = (marked_keeps x env f fields a (both_left (is_marked x a) _ h), marked_keeps x env f fields c (both_right (is_marked x a) _ h))
marked_keeps x env f fields (b.Either a c) h = (marked_keeps x env f fields a (both_left (is_marked x a) _ h), marked_keeps x env f fields c (both_right (is_marked x a) _ h))
marked_keeps x env f fields (b.IfElse test a c kind) h =
    let parts = both_left (is_marked x test && (is_marked x a && is_marked x c)) _ h in
    let rest = both_right (is_marked x test) _ parts in
    (marked_keeps x env f fields test (both_left (is_marked x test) _ parts), marked_keeps x env f fields a (both_left (is_marked x a) _ rest), marked_keeps x env f fields c (both_right (is_marked x a) _ rest))
marked_keeps x env f fields (b.Masked a mask) h = marked_keeps x env f fields a h
marked_keeps x env f fields (b.IsAvailable buffer) h = tt
marked_keeps x env f fields (b.IsLocked buffer) h = tt
marked_keeps x env f fields b.Retry h = tt
marked_keeps x env f fields b.ErrorStatus h = tt
marked_keeps x env f fields b.ReturnValue h = tt

sorted : (k : Kind) (o : Option Value) → IfSome o (λ v. is_of_kind k v ≡ true) → IfSome o (λ v. has_sort (Of k) v ≡ true)
sorted k None h = tt
sorted k (Some v) h = sort_of_kind k v h

pub fields_have : (g : Ground) → IsGround g → (units : ℕ) (own : List Event) (c : Config) → ReachedOn g units own c → (buffer field : ℕ) (k : Kind) → is_field (running g c.state) buffer field k ≡ true → IfSome (field_in field (content_of buffer c.state)) (λ v. is_of_kind k v ≡ true)
fields_have g ok units own c r buffer field k e =
    let h = reached_frames g units own c ok r in
    field_of g (table_here g (h.0 ∷ h.1) buffer) (content_of buffer c.state) field k (content_has g (h.0 ∷ h.1) buffer c.state h.2)
    (field_here g (h.0 ∷ h.1) buffer field k (kind_there k (kind_of_field (table_of (here g (h.0 ∷ h.1)) buffer) field) (subst (λ (n : ℕ). is_field (surroundings g n) buffer field k ≡ true) (sym (own_procedure g h.0 h.1 c.state.frames h.2)) e)))

pub expressions_keep : (g : Ground) → IsGround g → (units : ℕ) (own : List Event) (c : Config) → ReachedOn g units own c → (test : Sort → Bool) (e : Expr) (retry : Bool) → is_good (running g c.state) test e ≡ true → Keeps (env_of retry c.state) e
expressions_keep g ok units own c r test e retry h =
    marked_keeps (running g c.state) (env_of retry c.state) (λ v is. sort_of_kind v.kind (value_of v c.state) (variables_have g ok units own c r v is)) (λ buffer field k is. sorted k (field_in field (content_of buffer c.state)) (fields_have g ok units own c r buffer field k is)) e
    (both_left (is_marked (running g c.state) e) _ h)

pub expressions_have : (g : Ground) → IsGround g → (units : ℕ) (own : List Event) (c : Config) → ReachedOn g units own c → (test : Sort → Bool) (e : Expr) (retry : Bool) → is_good (running g c.state) test e ≡ true → Has (sort_of e) (evaluate g.program.forms (env_of retry c.state) e)
expressions_have g ok units own c r test e retry h = good_has (running g c.state) g.program.forms (env_of retry c.state) test e (expressions_keep g ok units own c r test e retry h) h

-- ---- operations

pub asked_of_schema : (g : Ground) → IsGround g → (units : ℕ) (own : List Event) (op : Op) (on : OnAnswer) (ks : List StackEntry) (s : State) → ReachedOn g units own (config (Await op on) ks s) → IsOfSchema g.schema op
asked_of_schema g ok units own op on ks s r = asks_safe g op on ks s (reached_kept g units own (config (Await op on) ks s) ok r)
