-- A SOURCE THAT BREAKS NO RULE Y names only tables, indexes and sequences of a sound schema.
use Rattle.std.proofs.Common.{◌≡◌, ℕ, ◌+◌, true, List, [], ◌∷◌, Ok, length, map, refl, ap, ap₂, subst, ◌∙◌}
use Rattle.std.specs.Prelude.{◌&&◌}
use Rattle.std.specs.List.{list_all}
use Rattle.abl_values.specs.Schema.{SchemaData}
use Rattle.abl_values.specs.Sound.{IsSound}
use Rattle.syntax_tree.specs.declared.name.Word.{Word}
use Rattle.syntax_tree.specs.Syntax as s
use Rattle.syntax_tree.specs.Syntax.{Program}
use Rattle.abl_base.specs.declared.place.Place.{Place}
use Rattle.bound_tree.specs.declared.procedure.BufferDef.{BufferDef}
use Rattle.bound_tree.specs.Tree.{Body, Choose, Inner, Nothing, Procedure, Source, Stmt, Then, start_of_source}
use Rattle.bind_names.specs.declared.names.Defined.{Defined}
use Rattle.bind_names.specs.Judged.{first}
use Rattle.bind_names.specs.Names.{Scene}
use Rattle.bind_expressions.specs.Parts.{scene_after}
use Rattle.binder.specs.Sources.{Parts, beginning, bound, buffer_def, inside_procedure, items, judged, namings, outside_again, procedure_with, signatures, violations}
use Rattle.binder.specs.Statements.{statement, statements}
use Rattle.buffer_scope.specs.Blocks.{Placed, blocks_of}
use Rattle.buffer_scope.specs.Scoped.{scoped_body, scoped_procedure, scoped_stmt, scoped_to, with_scopes}
use Rattle.txn_infer.specs.Flags.{flagged_body, flagged_procedure, flagged_stmt, with_flags}
use Rattle.kind_laws.proofs.BoundKindsLemmas.Parts.{both, both_left, both_right, each_left, each_right, nil_left, nil_right}
use Rattle.kind_laws.proofs.BoundKindsLemmas.Whole.{IsPlaced, is_bound, names_placed, no_first}
use Rattle.kind_laws.specs.schemas.Named.{has_body, has_fetch, has_procedure, has_source, has_statement}
use Rattle.kind_laws.proofs.SchemasLemmas.Statements.{ArePlaced, IsPlace, after_place, appended, statement_found, statements_found}
use Rattle.kind_laws.proofs.SchemasLemmas.Tables.{AreTables}

-- ---- the flags of blocks and the scopes of buffers change none of it

mutual
  flags_have : (schema : SchemaData) (bs : List BufferDef) (t : Stmt) → has_statement schema bs (flagged_stmt t) ≡ has_statement schema bs t
  flags_have schema bs (Inner h body) = ap (λ c. has_fetch schema bs h.fetch && c) (flags_have_in schema bs body)
  flags_have schema bs (Choose test one other) = ap₂ (λ c d. c && d) (flags_have_in schema bs one) (flags_have_in schema bs other)
  flags_have schema bs t = refl

  flags_have_in : (schema : SchemaData) (bs : List BufferDef) (b : Body) → has_body schema bs (flagged_body b) ≡ has_body schema bs b
  flags_have_in schema bs Nothing = refl
  flags_have_in schema bs (Then t ts) = ap₂ (λ c d. c && d) (flags_have schema bs t) (flags_have_in schema bs ts)

mutual
  scopes_have : (to : ℕ → List ℕ) (schema : SchemaData) (bs : List BufferDef) (t : Stmt) → has_statement schema bs (scoped_stmt to t) ≡ has_statement schema bs t
  scopes_have to schema bs (Inner h body) = ap (λ c. has_fetch schema bs h.fetch && c) (scopes_have_in to schema bs body)
  scopes_have to schema bs (Choose test one other) = ap₂ (λ c d. c && d) (scopes_have_in to schema bs one) (scopes_have_in to schema bs other)
  scopes_have to schema bs t = refl

  scopes_have_in : (to : ℕ → List ℕ) (schema : SchemaData) (bs : List BufferDef) (b : Body) → has_body schema bs (scoped_body to b) ≡ has_body schema bs b
  scopes_have_in to schema bs Nothing = refl
  scopes_have_in to schema bs (Then t ts) = ap₂ (λ c d. c && d) (scopes_have to schema bs t) (scopes_have_in to schema bs ts)

-- a procedure with the flags of its blocks and the scopes of its buffers
abbrev whole : List Placed → Procedure → Procedure
whole blocks q = flagged_procedure (scoped_procedure blocks q)

procedure_found : (blocks : List Placed) (w : Scene) (place : Place) (name : List ℕ) (d : Defined) (body : Body) → has_body w.context.schema (map buffer_def w.buffers) body ≡ true → has_procedure w.context.schema (whole blocks (procedure_with w place name d body)) ≡ true
procedure_found blocks w place name d body h =
    flags_have_in w.context.schema (map buffer_def w.buffers) (scoped_body (scoped_to blocks (procedure_with w place name d body)) body) ∙ (scopes_have_in (scoped_to blocks (procedure_with w place name d body)) w.context.schema (map buffer_def w.buffers) body ∙ h)

-- ---- the whole source

pub record AreDone (w : Scene) (blocks : List Placed) (p : Parts) : Type 0 where
  pub body : has_body w.context.schema (map buffer_def w.buffers) p.body ≡ true
  pub procedures : list_all (λ q. has_procedure w.context.schema (whole blocks q)) p.procedures ≡ true

items_found : (blocks : List Placed) (w : Scene) (names : List Word) (program : Program) → IsPlace w → AreTables w → (items w names program).breaks ≡ [] → ArePlaced w (items w names program).names → AreDone w blocks (items w names program).is
items_found blocks w names [] at k e n = record { body = refl; procedures = refl }
items_found blocks w names (s.Alone t ∷ rest) at k e n =
    let P = IsPlaced w.context.schema w.context.namings in
    let it = statement w t in
    let x = statement_found w t at k (nil_left it.breaks _ e) (each_left P it.names _ n) in
    let more = items_found blocks (scene_after w it.is.after) names rest (after_place w it.is.after at) x.tables (nil_right it.breaks _ e) (each_right P it.names _ n) in
    record { body = appended w.context.schema (map buffer_def w.buffers) it.is.body _ x.body more.body; procedures = more.procedures }
items_found blocks w names (s.Procedure place name body ∷ rest) at k e n =
    let P = IsPlaced w.context.schema w.context.namings in
    let v = inside_procedure (length names + 1) w in
    let it = statements v body in
    let u = scene_after w (outside_again w.known.own it.is.after) in
    let rules = nil_right _ _ e in
    let x = statements_found v body (record { sound = at.sound; buffers = refl }) tt (nil_left it.breaks _ rules) (each_left P it.names _ n) in
    let more = items_found blocks u (name ∷ names) rest (after_place w (outside_again w.known.own it.is.after) at) k (nil_right it.breaks _ rules) (each_right P it.names _ n) in
    record {
      body = more.body;
      procedures = both (has_procedure w.context.schema (whole blocks (procedure_with v place name.spelling it.is.after.own it.is.body))) _ (procedure_found blocks v place name.spelling it.is.after.own it.is.body x.body) more.procedures;
    }

all_whole : (schema : SchemaData) (blocks : List Placed) (qs : List Procedure) → list_all (λ q. has_procedure schema (whole blocks q)) qs ≡ true → list_all (has_procedure schema) (map flagged_procedure (map (scoped_procedure blocks) qs)) ≡ true
all_whole schema blocks [] h = refl
all_whole schema blocks (q ∷ qs) h = both (has_procedure schema (whole blocks q)) _ (both_left (has_procedure schema (whole blocks q)) _ h) (all_whole schema blocks qs (both_right (has_procedure schema (whole blocks q)) _ h))

pub bound_found : (schema : SchemaData) (program : Program) (plain : Source) → IsSound schema → bound schema program ≡ Ok plain → has_source schema (with_flags (with_scopes program plain)) ≡ true
bound_found schema program plain sound e =
    let w = beginning (record { schema = schema; namings = namings schema program; procedures = signatures program }) in
    let it = is_bound (first (violations schema program)) (judged schema program (namings schema program)).is plain e in
    let fine = nil_left (judged schema program (namings schema program)).breaks _ (no_first (violations schema program) it.none) in
    let p = (items w [] program).is in
    let x = items_found (blocks_of program) w [] program (record { sound = sound; buffers = refl }) tt fine (names_placed schema program fine) in
    subst (λ (t : Source). has_source schema (with_flags (with_scopes program t)) ≡ true) it.tree
    (all_whole schema (blocks_of program) (procedure_with w start_of_source [] p.after.own p.body ∷ p.procedures)
    (both (has_procedure schema (whole (blocks_of program) (procedure_with w start_of_source [] p.after.own p.body))) _ (procedure_found (blocks_of program) w start_of_source [] p.after.own p.body x.body) x.procedures))
