-- Statements and instructions.
use Rattle.std.proofs.Common.{◌≡◌, ℕ, zero, suc, Bool, true, false, List, [], ◌∷◌, Option, Some, None, refl, sym, subst, inl}
use Rattle.std.specs.Prelude.{◌&&◌, slice_get, slice_index_or}
use Rattle.std.specs.List.{list_all}
use Rattle.abl_base.specs.declared.value.Value.{Value}
use Rattle.abl_values.specs.Schema.{SchemaData}
use Rattle.abl_base.specs.text_forms.TextForms.{AtInputEnd, BadElement, Elements, Imported}
use Rattle.bound_tree.specs.declared.expression.Variable.{Variable}
use Rattle.bound_tree.specs.declared.statement.Target.{Target}
use Rattle.bound_tree.specs.Tree.{Argument, Assign, Assignment, Body, Choose, Create, CurrentOf, Export, ExportRecord, Find, FindCurrent, Given, Import, Inner, InputClose, InputFrom, LeaveBlock, Message, NextBlock, NextOf, Nothing, OutputClose, OutputTo, Procedure, PutItems, Release, Remove, Return, ReturnError, Right, Run, Source, Stmt, Stop, Then, UndoBlock, ValueOf}
use Rattle.kind_laws.specs.bound_kinds.WellKinded.{Surroundings, VariableKinds, are_arguments, are_procedures, if_there, inside, is_assignment, is_body, is_condition, is_header, is_procedure, is_right_side, is_run, is_statement, is_target, is_well_kinded, kind_of_target, parameters_of}
use Rattle.kind_laws.proofs.BoundKindsLemmas.Parts.{both, both_left, both_right}
use Rattle.expression_meaning.specs.Operators.{holds}
use Rattle.block_meaning.specs.declared.wants.Piece.TheVariants.{Opened, Wrote}
use Rattle.block_meaning.specs.Buffers.{own}
use Rattle.block_meaning.specs.Frames.{content_of, is_in}
use Rattle.block_meaning.specs.Meaning.{argument_values, cleared}
use Rattle.block_meaning.specs.Program.{no_procedure, procedure_at}
use Rattle.block_meaning.specs.State.{Content, Empty, Pending, Raises, Record, State, nothing_passed, wrote}
use Rattle.block_meaning.specs.Streams.{pairs_of, read_to, read_up_to, stream_at, with_stream}
use Rattle.block_meaning.specs.Values.{Evaluated, EvaluatedAll, Fails, FailsAll, Gives, GivesAll, HasFault, IsText, Text, export_line, message_line, put_text, value_now, values_now}
use Rattle.flat_machine.specs.Code.{DenotesAt, Ends as EndsBody, Instr, Opens, Plain, Tests, before}
use Rattle.flat_machine.specs.Config.{Blocks, Calls, Execute, Handles, RunsFrom, StackEntry, ThenDo, Completes}
use Rattle.flat_machine.specs.Steps.{choose_step, config, ends_as, export_step, given_all_step, given_text_step, import_step, instr_step, stmt_step, wrote_to}
use Rattle.kind_laws.specs.Placed.{is_internal, is_nil, is_placed_body, is_placed_header, is_placed_procedure, is_placed_statement}
use Rattle.kind_laws.specs.Reached.{Ground, IsGround, kinds_at, no_variables}
use Rattle.kind_laws.proofs.Kept.{allows, AreAssigned, AreFor, AreFrames, CanFail, here, is_right, IsCall, IsCode, IsProcedure, IsStack, Kept}
use Rattle.kind_laws.proofs.Calls.{arguments_are, IfAll}
use Rattle.kind_laws.proofs.Parts.{costing_kept, ends_kept, errs_kept, given_all_kept, kept_if, wrote_ends}
use Rattle.bound_tree.specs.declared.procedure.BufferDef.{BufferDef}
use Rattle.kind_laws.specs.schemas.Named.{has_fetch, has_assignment, has_statement, has_body, has_procedure}

-- ---- streams change no variable

cleared_keeps : (g : Ground) (ns : List ℕ) (quiet : Bool) (s : State) → AreFrames g ns s.frames → AreFrames g ns (cleared quiet s).frames
cleared_keeps g ns true s h = h
cleared_keeps g ns false s h = h

read_up_to_keeps : (g : Ground) (ns : List ℕ) (o : Option ℕ) (n next : ℕ) (s : State) → AreFrames g ns s.frames → AreFrames g ns (read_up_to o n (stream_at n s) next s).frames
read_up_to_keeps g ns None n next s h = h
read_up_to_keeps g ns (Some i) n next s h = h

pub read_to_keeps : (g : Ground) (ns : List ℕ) (n next : ℕ) (s : State) → AreFrames g ns s.frames → AreFrames g ns (read_to n next s).frames
read_to_keeps g ns n next s h = read_up_to_keeps g ns (stream_at n s).input n next s h

-- ---- assignments

right_is : (x : Surroundings) (t : Target) (r : Right) → is_right_side x (kind_of_target t) r ≡ true → is_right x t r ≡ true
right_is x t (ValueOf e) h = h
right_is x t (NextOf q) h = refl
right_is x t (CurrentOf q) h = refl
right_is x t (Given v) h = refl

assigned_all : (schema : SchemaData) (x : Surroundings) (as_ : List Assignment) → list_all (is_assignment x) as_ ≡ true → list_all (has_assignment schema) as_ ≡ true → AreAssigned schema x as_
assigned_all schema x [] h n = tt
assigned_all schema x (a ∷ as_) h n =
    let first = both_left (is_assignment x a) _ h in (
      record { target = both_left (is_target x a.target) _ first; right = right_is x a.target a.right (both_right (is_target x a.target) _ first); named = both_left (has_assignment schema a) _ n },
      assigned_all schema x as_ (both_right (is_assignment x a) _ h) (both_right (has_assignment schema a) _ n),
    )

imported_all : (schema : SchemaData) (x : Surroundings) (ts : List (Option Target)) (vs : List (Option Value)) → list_all (if_there (is_target x)) ts ≡ true → AreAssigned schema x (pairs_of ts vs)
imported_all schema x [] vs h = tt
imported_all schema x (t ∷ ts) [] h = tt
imported_all schema x (None ∷ ts) (v ∷ vs) h = imported_all schema x ts vs h
imported_all schema x (Some t ∷ ts) (None ∷ vs) h = imported_all schema x ts vs (both_right (is_target x t) _ h)
imported_all schema x (Some t ∷ ts) (Some v ∷ vs) h = (record { target = both_left (is_target x t) _ h; right = refl; named = refl }, imported_all schema x ts vs (both_right (is_target x t) _ h))

pub import_kept : (g : Ground) (ns : List ℕ) (r : Imported) (n : ℕ) (ts : List (Option Target)) (retry : Bool) (ks : List StackEntry) (s : State) → AreFrames g ns s.frames → list_all (if_there (is_target (here g ns))) ts ≡ true → CanFail (allows ks) →
    IsStack g ns ks → Kept g ns (import_step r n ts retry ks s)
import_kept g ns AtInputEnd n ts retry ks s h is f k = (h, ((f.inside, tt), k))
import_kept g ns (BadElement number next) n ts retry ks s h is f k = (read_to_keeps g ns n next s h, (f.faults, k))
import_kept g ns (Elements vs next) n ts retry ks s h is f k = (read_to_keeps g ns n next s h, ((imported_all g.schema (here g ns) ts vs is, f.faults), k))

-- ---- procedures that are run

-- the procedure that a RUN names is good, and the arguments fit its parameters
pub record IsRun (x : Surroundings) (schema : SchemaData) (outer : VariableKinds) (parameters : List (List Variable)) (own : VariableKinds) (q : Procedure) (args : List Argument) : Type 0 where
  pub kinded : is_procedure schema outer parameters own q ≡ true
  pub placed : is_placed_procedure q ≡ true
  pub named : has_procedure schema q ≡ true
  pub arguments : are_arguments x q.parameters args ≡ true

run_is : (x : Surroundings) (schema : SchemaData) (outer : VariableKinds) (parameters : List (List Variable)) (kinds : List VariableKinds) (qs : List Procedure) (n : ℕ) (args : List Argument) →
    are_procedures schema outer parameters kinds qs ≡ true → list_all is_placed_procedure qs ≡ true → list_all (has_procedure schema) qs ≡ true → is_run x (slice_get (parameters_of qs) n) args ≡ true →
    IsRun x schema outer parameters (slice_index_or kinds n no_variables) (slice_index_or qs n no_procedure) args
run_is x schema outer parameters kinds [] n args h p nd r = absurd cc
run_is x schema outer parameters [] (q ∷ qs) n args h p nd r = absurd cc
run_is x schema outer parameters (own ∷ kinds) (q ∷ qs) zero args h p nd r =
    record { kinded = both_left (is_procedure schema outer parameters own q) _ h; placed = both_left (is_placed_procedure q) _ p; named = both_left (has_procedure schema q) _ nd; arguments = r }
run_is x schema outer parameters (own ∷ kinds) (q ∷ qs) (suc n) args h p nd r =
    run_is x schema outer parameters kinds qs n args (both_right (is_procedure schema outer parameters own q) _ h) (both_right (is_placed_procedure q) _ p) (both_right (has_procedure schema q) _ nd) r

procedures_are : (schema : SchemaData) (kinds : List VariableKinds) (source : Source) → is_well_kinded schema kinds source ≡ true → are_procedures schema (slice_index_or kinds 0 no_variables) (parameters_of source.procedures) kinds source.procedures ≡ true
procedures_are schema [] source h = absurd cc
procedures_are schema (main ∷ others) source h = h

parameters_here : (g : Ground) (ns : List ℕ) → (here g ns).parameters ≡ parameters_of g.program.source.procedures
parameters_here g [] = refl
parameters_here g (n ∷ ns) = refl

call_is : (g : Ground) (ns : List ℕ) (n : ℕ) (args : List Argument) → IsGround g → is_internal n ≡ true → is_run (here g ns) (slice_get (here g ns).parameters n) args ≡ true → IsCall g ns n args
call_is g ns n args ok inside r =
    let is = run_is (here g ns) g.schema (kinds_at g 0) (parameters_of g.program.source.procedures) g.kinds g.program.source.procedures n args (procedures_are g.schema g.kinds g.program.source ok.kinded) ok.placed ok.named
    (subst (λ (ps : List (List Variable)). is_run (here g ns) (slice_get ps n) args ≡ true) (parameters_here g ns) r) in
    record { procedure = record { kinded = is.kinded; placed = is.placed; named = is.named }; internal = inside; arguments = is.arguments }

first_is : (schema : SchemaData) (outer : VariableKinds) (parameters : List (List Variable)) (kinds : List VariableKinds) (qs : List Procedure) → are_procedures schema outer parameters kinds qs ≡ true → (kinds ≡ [] → ⊥) →
    is_procedure schema outer parameters (slice_index_or kinds 0 no_variables) (slice_index_or qs 0 no_procedure) ≡ true
first_is schema outer parameters [] qs h x = absurd (x refl)
first_is schema outer parameters (own ∷ kinds) [] h x = absurd cc
first_is schema outer parameters (own ∷ kinds) (q ∷ qs) h x = both_left (is_procedure schema outer parameters own q) _ h

some_kinds : (schema : SchemaData) (kinds : List VariableKinds) (source : Source) → is_well_kinded schema kinds source ≡ true → kinds ≡ [] → ⊥
some_kinds schema [] source h e = cc
some_kinds schema (main ∷ others) source h e = cc

first_passes : (test : Procedure → Bool) (schema : SchemaData) (outer : VariableKinds) (parameters : List (List Variable)) (kinds : List VariableKinds) (qs : List Procedure) → are_procedures schema outer parameters kinds qs ≡ true → (kinds ≡ [] → ⊥) → list_all test qs ≡ true →
    test (slice_index_or qs 0 no_procedure) ≡ true
first_passes test schema outer parameters [] qs h x p = absurd (x refl)
first_passes test schema outer parameters (own ∷ kinds) [] h x p = absurd cc
first_passes test schema outer parameters (own ∷ kinds) (q ∷ qs) h x p = both_left (test q) _ p

-- the external procedure is good
pub main_is : (g : Ground) → IsGround g → IsProcedure g 0
main_is g ok =
    let all = procedures_are g.schema g.kinds g.program.source ok.kinded in
    let some = some_kinds g.schema g.kinds g.program.source ok.kinded in
    record {
      kinded = first_is g.schema (kinds_at g 0) (parameters_of g.program.source.procedures) g.kinds g.program.source.procedures all some;
      placed = first_passes is_placed_procedure g.schema (kinds_at g 0) (parameters_of g.program.source.procedures) g.kinds g.program.source.procedures all some ok.placed;
      named = first_passes (has_procedure g.schema) g.schema (kinds_at g 0) (parameters_of g.program.source.procedures) g.kinds g.program.source.procedures all some ok.named;
    }

-- ---- statements, in a stack that goes on

text_kept : (g : Ground) (ns : List ℕ) (t : Text) (n : ℕ) (ks : List StackEntry) (s : State) → AreFrames g ns s.frames → (allows ks).faults ≡ true → IsStack g ns ks → Kept g ns (given_text_step t n ks s)
text_kept g ns (IsText bytes) n ks s h e k = ends_kept g ns (wrote_to n bytes s) ks (wrote_ends g ns (allows ks) (Wrote (stream_at n s).output bytes) s h) k
text_kept g ns (HasFault c) n ks s h e k = (h, (e, k))

export_kept : (g : Ground) (ns : List ℕ) (c : Content) (n b : ℕ) (ks : List StackEntry) (s : State) → AreFrames g ns s.frames → (allows ks).faults ≡ true → IsStack g ns ks → Kept g ns (export_step c n b ks s)
export_kept g ns Empty n b ks s h e k = (h, (e, k))
export_kept g ns (Record row values held made) n b ks s h e k = ends_kept g ns (wrote_to n (export_line values) s) ks (wrote_ends g ns (allows ks) (Wrote (stream_at n s).output (export_line values)) s h) k
export_kept g ns (Pending values since made) n b ks s h e k = ends_kept g ns (wrote_to n (export_line values) s) ks (wrote_ends g ns (allows ks) (Wrote (stream_at n s).output (export_line values)) s h) k

run_kept : (g : Ground) (ns : List ℕ) (v : EvaluatedAll) (d n : ℕ) (args : List Argument) (quiet : Bool) (ks : List StackEntry) (s : State) → AreFrames g ns s.frames → IsCall g ns n args → IfAll v (AreFor (procedure_at g.program n).parameters) →
    is_nil (allows ks).blocks ≡ false → IsStack g ns ks → Kept g ns (given_all_step v (λ vs s. config (Execute (Calls d n args vs)) (Handles quiet ∷ ks) s) (Handles quiet ∷ ks) s)
run_kept g ns (GivesAll vs) d n args quiet ks s h call v i k = (h, ((call, v, refl), (i, k)))
run_kept g ns (FailsAll c) d n args quiet ks s h call v i k = (h, (refl, (i, k)))

pub stmt_kept : (g : Ground) (ns : List ℕ) (t : Stmt) (d : ℕ) (retry : Bool) (ks : List StackEntry) (s : State) → IsGround g → AreFrames g ns s.frames → is_statement (here g ns) t ≡ true → is_placed_statement (allows ks).blocks t ≡ true →
    has_statement g.schema (here g ns).buffers t ≡ true →
    is_nil (allows ks).blocks ≡ false → IsStack g ns ks → Kept g ns (stmt_step g.program t d retry ks s)
stmt_kept g ns (Inner b body) d retry ks s ok h is pl nd i k = (h, (tt, k))
stmt_kept g ns (Choose test then_it else_it) d retry ks s ok h is pl nd i k = (h, (tt, k))
stmt_kept g ns (Assign pairs quiet) d retry ks s ok h is pl nd i k = (cleared_keeps g ns quiet s h, ((assigned_all g.schema (here g ns) pairs is nd, refl), (i, k)))
stmt_kept g ns (Find word reading wait quiet) d retry ks s ok h is pl nd i k = (cleared_keeps g ns quiet s h, ((record { reading = is; named = nd; faults = refl }, i), (refl, (i, k))))
stmt_kept g ns (FindCurrent reading wait quiet) d retry ks s ok h is pl nd i k = (cleared_keeps g ns quiet s h, (refl, (i, k)))
stmt_kept g ns (Create b quiet) d retry ks s ok h is pl nd i k = (cleared_keeps g ns quiet s h, ((refl, nd), (i, k)))
stmt_kept g ns (Remove b quiet) d retry ks s ok h is pl nd i k = (cleared_keeps g ns quiet s h, (refl, (i, k)))
stmt_kept g ns (Release b quiet) d retry ks s ok h is pl nd i k = (cleared_keeps g ns quiet s h, (refl, (tt, (i, k))))
stmt_kept g ns (UndoBlock l act) d retry ks s ok h is pl nd i k = (h, ((pl, is, tt), (i, k)))
stmt_kept g ns (LeaveBlock l) d retry ks s ok h is pl nd i k = (h, (pl, (i, k)))
stmt_kept g ns (NextBlock l) d retry ks s ok h is pl nd i k = (h, (pl, (i, k)))
stmt_kept g ns (Return e) d retry ks s ok h is pl nd i k = (h, (tt, (i, k)))
stmt_kept g ns (ReturnError l e) d retry ks s ok h is pl nd i k = (h, ((both (is_in l (allows ks).blocks) _ pl refl, refl, tt), (i, k)))
stmt_kept g ns Stop d retry ks s ok h is pl nd i k = (h, tt)
stmt_kept g ns (Run n args quiet) d retry ks s ok h is pl nd i k =
    run_kept g ns (argument_values g.program args (procedure_at g.program n).parameters retry (cleared quiet s)) d n args quiet ks (cleared quiet s) (cleared_keeps g ns quiet s h) (call_is g ns n args ok pl is)
    (arguments_are g.program args (procedure_at g.program n).parameters retry (cleared quiet s)) i k
stmt_kept g ns (Import n targets quiet) d retry ks s ok h is pl nd i k = (cleared_keeps g ns quiet s h, ((is, record { faults = refl; inside = i }), (i, k)))
stmt_kept g ns (Export n es) d retry ks s ok h is pl nd i k =
    given_all_kept g ns (values_now g.program es retry s) (λ vs s. ends_as (wrote_to n (export_line vs) s) (Handles false ∷ ks)) (Handles false ∷ ks) s h refl (i, k)
    (λ vs. ends_kept g ns (wrote_to n (export_line vs) s) (Handles false ∷ ks) (wrote_ends g ns (allows (Handles false ∷ ks)) (Wrote (stream_at n s).output (export_line vs)) s h) (i, k))
stmt_kept g ns (ExportRecord n b) d retry ks s ok h is pl nd i k = export_kept g ns (content_of b s) n b (Handles false ∷ ks) s h refl (i, k)
stmt_kept g ns (PutItems n items) d retry ks s ok h is pl nd i k = text_kept g ns (put_text g.program items retry s) n (Handles false ∷ ks) s h refl (i, k)
stmt_kept g ns (Message es) d retry ks s ok h is pl nd i k =
    given_all_kept g ns (values_now g.program es retry s) (λ vs s. ends_as (wrote_to 0 (message_line vs) s) (Handles false ∷ ks)) (Handles false ∷ ks) s h refl (i, k)
    (λ vs. ends_kept g ns (wrote_to 0 (message_line vs) s) (Handles false ∷ ks) (wrote_ends g ns (allows (Handles false ∷ ks)) (Wrote (stream_at 0 s).output (message_line vs)) s h) (i, k))
stmt_kept g ns (OutputTo n output appends) d retry ks s ok h is pl nd i k =
    ends_kept g ns (wrote (Opened output appends) (with_stream n (record (stream_at n s) { output = Some output }) s)) (Handles false ∷ ks) (wrote_ends g ns (allows (Handles false ∷ ks)) (Opened output appends) (with_stream n (record (stream_at n s) { output = Some output }) s) h) (i, k)
stmt_kept g ns (OutputClose n) d retry ks s ok h is pl nd i k = (h, (tt, (i, k)))
stmt_kept g ns (InputFrom n input) d retry ks s ok h is pl nd i k = (h, (tt, (i, k)))
stmt_kept g ns (InputClose n) d retry ks s ok h is pl nd i k = (h, (tt, (i, k)))

-- ---- instructions

kinded_before : (x : Surroundings) (a rest : Body) → is_body x a ≡ true → is_body x rest ≡ true → is_body x (before a rest) ≡ true
kinded_before x Nothing rest h r = r
kinded_before x (Then t more) rest h r = both (is_statement x t) _ (both_left (is_statement x t) _ h) (kinded_before x more rest (both_right (is_statement x t) _ h) r)

placed_before : (bs : List ℕ) (a rest : Body) → is_placed_body bs a ≡ true → is_placed_body bs rest ≡ true → is_placed_body bs (before a rest) ≡ true
placed_before bs Nothing rest h r = r
placed_before bs (Then t more) rest h r = both (is_placed_statement bs t) _ (both_left (is_placed_statement bs t) _ h) (placed_before bs more rest (both_right (is_placed_statement bs t) _ h) r)

named_before : (schema : SchemaData) (bs : List BufferDef) (a rest : Body) → has_body schema bs a ≡ true → has_body schema bs rest ≡ true → has_body schema bs (before a rest) ≡ true
named_before schema bs Nothing rest h r = r
named_before schema bs (Then t more) rest h r = both (has_statement schema bs t) _ (both_left (has_statement schema bs t) _ h) (named_before schema bs more rest (both_right (has_statement schema bs t) _ h) r)

-- code for the body at a place
pub code_is : (g : Ground) (ns : List ℕ) (bs : List ℕ) (k : ℕ) (body : Body) → IsCode g ns bs k → g.tree k ≡ body → (is_body (here g ns) body ≡ true) × (is_placed_body bs body ≡ true) × (has_body g.schema (here g ns).buffers body ≡ true)
code_is g ns bs k body h e = (subst (λ (t : Body). is_body (here g ns) t ≡ true) e h.kinded, subst (λ (t : Body). is_placed_body bs t ≡ true) e h.placed, subst (λ (t : Body). has_body g.schema (here g ns).buffers t ≡ true) e h.named)

choose_kept : (g : Ground) (ns : List ℕ) (v : Evaluated) (one other d : ℕ) (retry : Bool) (ks : List StackEntry) (s : State) → AreFrames g ns s.frames → IsCode g ns (allows ks).blocks one → IsCode g ns (allows ks).blocks other →
    is_nil (allows ks).blocks ≡ false → IsStack g ns ks → Kept g ns (choose_step v g.program one other d retry ks s)
choose_kept g ns (Gives v) one other d retry ks s h a b i k =
    kept_if g ns (holds v) (config (Execute (RunsFrom one d retry)) ks s) (config (Execute (RunsFrom other d retry)) ks s) (λ _. (h, ((a, i), k))) (λ _. (h, ((b, i), k)))
choose_kept g ns (Fails c) one other d retry ks s h a b i k = errs_kept g ns g.program (Some c) (Completes (Raises nothing_passed)) ks s h (i, tt) k

pub instr_kept : (g : Ground) (ns : List ℕ) (m : Instr) (at d : ℕ) (retry : Bool) (ks : List StackEntry) (s : State) → IsGround g → DenotesAt g.tree at m → AreFrames g ns s.frames → IsCode g ns (allows ks).blocks at →
    is_nil (allows ks).blocks ≡ false → IsStack g ns ks → Kept g ns (instr_step g.program m d retry ks s)
instr_kept g ns EndsBody at d retry ks s ok den h c i k = (h, (tt, k))
instr_kept g ns (Opens b body next) at d retry ks s ok den h c i k =
    let is = code_is g ns (allows ks).blocks at _ c den in
    let kinded = both_left (is_header (here g ns) b && is_body (here g ns) (g.tree body)) _ is.0 in
    let placed = both_left (is_placed_header (allows ks).blocks b && is_placed_body (b.number ∷ (allows ks).blocks) (g.tree body)) _ is.1 in
    let named = both_left (has_fetch g.schema (here g ns).buffers b.fetch && has_body g.schema (here g ns).buffers (g.tree body)) _ is.2 in
    costing_kept g ns s.units (λ s. config (Execute (Blocks b retry body d)) (Handles false ∷ ThenDo (RunsFrom next d retry) ∷ ks) s) ks s h
    (λ t h. (
      h,
      (
        record {
          block = record {
            kinded = both_left (is_header (here g ns) b) _ kinded;
            placed = both_left (is_placed_header (allows ks).blocks b) _ placed;
            named = both_left (has_fetch g.schema (here g ns).buffers b.fetch) _ named;
            covered = inl (record { faults = refl; inside = i });
          };
          code = record { kinded = both_right (is_header (here g ns) b) _ kinded; placed = both_right (is_placed_header (allows ks).blocks b) _ placed; named = both_right (has_fetch g.schema (here g ns).buffers b.fetch) _ named };
        },
        (
          i,
          (
            (
              record {
                kinded = both_right (is_header (here g ns) b && is_body (here g ns) (g.tree body)) _ is.0;
                placed = both_right (is_placed_header (allows ks).blocks b && is_placed_body (b.number ∷ (allows ks).blocks) (g.tree body)) _ is.1;
                named = both_right (has_fetch g.schema (here g ns).buffers b.fetch && has_body g.schema (here g ns).buffers (g.tree body)) _ is.2;
              },
              i,
            ),
            k,
          ),
        ),
      ),
    ))
instr_kept g ns (Tests test one other) at d retry ks s ok den h c i k =
    let is = code_is g ns (allows ks).blocks at _ c den.is in
    let x = here g ns in
    let bs = (allows ks).blocks in
    let first = both_left (is_condition x test && (is_body x den.then_it && is_body x den.else_it)) _ is.0 in
    let rest = both_right (is_condition x test && (is_body x den.then_it && is_body x den.else_it)) _ is.0 in
    let branches = both_right (is_condition x test) _ first in
    let placed = both_left (is_placed_body bs den.then_it && is_placed_body bs den.else_it) _ is.1 in
    let placed_rest = both_right (is_placed_body bs den.then_it && is_placed_body bs den.else_it) _ is.1 in
    let bufs = x.buffers in
    let named = both_left (has_body g.schema bufs den.then_it && has_body g.schema bufs den.else_it) _ is.2 in
    let named_rest = both_right (has_body g.schema bufs den.then_it && has_body g.schema bufs den.else_it) _ is.2 in
    costing_kept g ns s.units (λ s. choose_step (value_now g.program test retry s) g.program one other d retry ks s) ks s h
    (λ t h. choose_kept g ns (value_now g.program test retry t) one other d retry ks t h
    (record {
      kinded = subst (λ (b : Body). is_body x b ≡ true) (sym den.first) (kinded_before x den.then_it den.rest (both_left (is_body x den.then_it) _ branches) rest);
      placed = subst (λ (b : Body). is_placed_body bs b ≡ true) (sym den.first) (placed_before bs den.then_it den.rest (both_left (is_placed_body bs den.then_it) _ placed) placed_rest);
      named = subst (λ (b : Body). has_body g.schema bufs b ≡ true) (sym den.first) (named_before g.schema bufs den.then_it den.rest (both_left (has_body g.schema bufs den.then_it) _ named) named_rest);
    })
    (record {
      kinded = subst (λ (b : Body). is_body x b ≡ true) (sym den.second) (kinded_before x den.else_it den.rest (both_right (is_body x den.then_it) _ branches) rest);
      placed = subst (λ (b : Body). is_placed_body bs b ≡ true) (sym den.second) (placed_before bs den.else_it den.rest (both_right (is_placed_body bs den.then_it) _ placed) placed_rest);
      named = subst (λ (b : Body). has_body g.schema bufs b ≡ true) (sym den.second) (named_before g.schema bufs den.else_it den.rest (both_right (has_body g.schema bufs den.then_it) _ named) named_rest);
    }) i k)
instr_kept g ns (Plain t next) at d retry ks s ok den h c i k =
    let is = code_is g ns (allows ks).blocks at _ c den.1 in
    costing_kept g ns s.units (λ s. stmt_step g.program t d retry (ThenDo (RunsFrom next d retry) ∷ ks) s) ks s h
    (λ u h. stmt_kept g ns t d retry (ThenDo (RunsFrom next d retry) ∷ ks) u ok h (both_left (is_statement (here g ns) t) _ is.0) (both_left (is_placed_statement (allows ks).blocks t) _ is.1) (both_left (has_statement g.schema (here g ns).buffers t) _ is.2) i
    ((record { kinded = both_right (is_statement (here g ns) t) _ is.0; placed = both_right (is_placed_statement (allows ks).blocks t) _ is.1; named = both_right (has_statement g.schema (here g ns).buffers t) _ is.2 }, i), k))
