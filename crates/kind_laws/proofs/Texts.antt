-- The premises of the laws hold of the program of a source text.
use Rattle.std.proofs.Common.{◌≡◌, ℕ, Bool, true, List, [], ◌∷◌, sym, subst, refl}
use Rattle.std.specs.List.{All, list_all}
use Rattle.std.proofs.lemmas.List.Elements.{All-cons, All-nil}
use Rattle.std.specs.Prelude.{◌&&◌, map}
use Rattle.bound_tree.specs.Tree.{Procedure}
use Rattle.buffer_scope.specs.Scoped.{with_scopes}
use Rattle.txn_infer.specs.Flags.{flagged_procedure}
use Rattle.txn_infer.specs.Undo.{has_undo}
use Rattle.machine_laws.proofs.LevelsLemmas.Inferred.{inferred_flagged}
use Rattle.block_meaning.specs.Blocks.{handles_endkey}
use Rattle.block_meaning.specs.State.{State}
use Rattle.database_protocol.specs.declared.operation.Op.{Op}
use Rattle.flat_machine.specs.Steps.{config}
use Rattle.schema_lines.specs.Files.{items_of}
use Rattle.abl_values.specs.Schema.{SchemaData}
use Rattle.abl_values.specs.Sound.{IsSound}
use Rattle.schema_reader.proofs.ObservableSound.{files-sound}
use Rattle.bound_tree.specs.Tree.{Expr, Source}
use Rattle.bind_expressions.specs.WellKinded.{sort_of}
use Rattle.kind_laws.specs.bound_kinds.Kinds.{kinds_of_source}
use Rattle.kind_laws.specs.bound_kinds.Values.{Has}
use Rattle.kind_laws.specs.bound_kinds.WellKinded.{Surroundings, VariableKinds, is_masked, is_value, is_well_kinded}
use Rattle.kind_laws.proofs.BoundKindsLemmas.Parts.{both_left, both_right, both}
use Rattle.kind_laws.proofs.BoundKindsLemmas.Schemas.{schema_masked}
use Rattle.expression_meaning.specs.Evaluate.{evaluate}
use Rattle.block_meaning.specs.Values.{env_of}
use Rattle.flat_machine.specs.Config.{Await, Config, OnAnswer, StackEntry}
use Rattle.kind_laws.specs.Evaluated.{expressions_of}
use Rattle.kind_laws.specs.Placed.{is_outermost, is_own, is_placed, is_placed_procedure}
use Rattle.kind_laws.specs.Reached.{Ground, IsGround, ReachedOn, running}
use Rattle.kind_laws.specs.Texts.{IsOfText}
use Rattle.kind_laws.proofs.Bound.{bound_placed}
use Rattle.kind_laws.proofs.Evaluated.{evaluated_good}
use Rattle.kind_laws.proofs.Runs.{expressions_have, asked_of_schema}
use Rattle.kind_laws.proofs.Trees.{tree_kinded}
use Rattle.database_protocol.specs.declared.event.Event.{Event}
use Rattle.kind_laws.specs.schemas.Named.{has_source}
use Rattle.kind_laws.proofs.SchemasLemmas.Sources.{bound_found}
use Rattle.kind_laws.specs.Operations.{IsOfSchema}

-- the block of each procedure can be undone
placed_undo : (qs : List Procedure) → list_all is_placed_procedure (map flagged_procedure qs) ≡ true → list_all (λ (q : Procedure). has_undo q.header) qs ≡ true
placed_undo [] h = refl
placed_undo (q ∷ qs) h =
    let first = both_left (is_placed_procedure (flagged_procedure q)) _ h in
    let outer = both_right (list_all is_own q.parameters) _ (both_left (list_all is_own q.parameters && is_outermost (flagged_procedure q).header) _ first) in
    both (has_undo q.header) _ (both_left (has_undo q.header) _ (both_left (has_undo q.header && handles_endkey q.header) _ outer)) (placed_undo qs (both_right (is_placed_procedure (flagged_procedure q)) _ h))

pub text_ground : (file text : List ℕ) (g : Ground) → IsOfText file text g → IsGround g
text_ground file text g h =
    let r = h.read in
    let masked = subst (λ (schema : SchemaData). is_masked schema ≡ true) (sym h.schema) (schema_masked (items_of file)) in
    let sound = subst IsSound (sym h.schema) (files-sound file h.clean) in
    record {
      denotes = h.denotes;
      flagged = inferred_flagged g.program (with_scopes r.syntax_of r.plain) r.flags (placed_undo (with_scopes r.syntax_of r.plain).procedures (bound_placed g.schema r.syntax_of r.plain r.is_bound r.clean));
      sound = sound;
      tables = h.tables;
      kinded = subst (λ (kinds : List VariableKinds). is_well_kinded g.schema kinds g.program.source ≡ true) (sym h.kinds)
          (subst (λ (t : Source). is_well_kinded g.schema (kinds_of_source r.syntax_of) t ≡ true) (sym r.flags) (tree_kinded g.schema r.syntax_of r.plain masked r.is_bound));
      placed = subst (λ (t : Source). is_placed t ≡ true) (sym r.flags) (bound_placed g.schema r.syntax_of r.plain r.is_bound r.clean);
      named = subst (λ (t : Source). has_source g.schema t ≡ true) (sym r.flags) (bound_found g.schema r.syntax_of r.plain sound r.is_bound);
    }

-- each of these expressions
each_has : (x : Surroundings) (P : Expr → Type 0) (es : List Expr) → ((e : Expr) → is_value x e ≡ true → P e) → list_all (is_value x) es ≡ true → All P es
each_has x P [] f h = All-nil P
each_has x P (e ∷ es) f h = All-cons P e es (f e (both_left (is_value x e) _ h)) (each_has x P es f (both_right (is_value x e) _ h))

pub texts_have : (file text : List ℕ) (g : Ground) → IsOfText file text g → (units : ℕ) (own : List Event) (c : Config) → ReachedOn g units own c → All (λ e. (retry : Bool) → Has (sort_of e) (evaluate g.program.forms (env_of retry c.state) e)) (expressions_of g.code c.mode)
texts_have file text g h units own c r =
    let ok = text_ground file text g h in
    each_has (running g c.state) (λ e. (retry : Bool) → Has (sort_of e) (evaluate g.program.forms (env_of retry c.state) e)) (expressions_of g.code c.mode)
    (λ e is retry. expressions_have g ok units own c r (λ s. true) e retry is) (evaluated_good g ok units own c r)

pub texts_ask : (file text : List ℕ) (g : Ground) → IsOfText file text g → (units : ℕ) (own : List Event) (op : Op) (on : OnAnswer) (ks : List StackEntry) (s : State) → ReachedOn g units own (config (Await op on) ks s) → IsOfSchema g.schema op
texts_ask file text g h units own op on ks s r = asked_of_schema g (text_ground file text g h) units own op on ks s r
