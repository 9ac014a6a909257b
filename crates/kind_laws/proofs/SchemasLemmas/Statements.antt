-- Statements that break no rule Y name only tables, indexes and sequences of a sound schema.
use Rattle.std.proofs.Common.{◌≡◌, ℕ, Bool, true, false, List, [], ◌∷◌, ◌++◌, Option, Some, None, length, map, refl, sym, subst}
use Rattle.std.specs.Prelude.{nat_lt, slice_get, unwrap_or}
use Rattle.std.specs.List.{list_all}
use Rattle.std.specs.Option.{is_some}
use Rattle.abl_base.specs.declared.rule.Rule.TheVariants as rule
use Rattle.abl_values.specs.declared.schema.IndexDef.{IndexDef}
use Rattle.abl_values.specs.declared.schema.SequenceDef.{SequenceDef}
use Rattle.abl_values.specs.Schema.{SchemaData, indexes_of, number_of_name, table_at, table_named}
use Rattle.abl_values.specs.Sound.{IsSound}
use Rattle.syntax_tree.specs.declared.name.Word.{Word}
use Rattle.syntax_tree.specs.Syntax as s
use Rattle.syntax_tree.specs.Syntax.{Opening, Statement, Statements}
use Rattle.abl_base.specs.declared.value.Kind.{Kind}
use Rattle.bound_tree.specs.declared.procedure.BufferDef.{BufferDef}
use Rattle.bound_tree.specs.declared.statement.FindWord.{FindWord}
use Rattle.bound_tree.specs.declared.statement.Target.{Target}
use Rattle.bound_tree.specs.Tree as b
use Rattle.bound_tree.specs.Tree.{Body, Nothing, Then}
use Rattle.bind_names.specs.declared.names.NamedBuffer.{NamedBuffer}
use Rattle.bind_names.specs.declared.names.Known.{Known}
use Rattle.bind_names.specs.declared.names.Naming.{Naming}
use Rattle.bind_names.specs.declared.names.NamingKind.{NamingKind}
use Rattle.bind_names.specs.declared.names.NamingKind.TheVariants as naming_kind
use Rattle.bind_names.specs.declared.violation.Violation.{Violation}
use Rattle.bind_names.specs.Judged.{unless}
use Rattle.bind_names.specs.Names.{Scene, buffer, buffer_named, buffer_number, buffers_in, from, number_of, wanted_buffer}
use Rattle.bind_expressions.specs.Expressions.{condition}
use Rattle.bind_expressions.specs.Parts.{Done, append, scene_after}
use Rattle.bind_statements.specs.Assignments.{assignment, pair, pairs, right_side, sequence_names, target_kind, the_target}
use Rattle.bind_statements.specs.Definitions.{buffer_for, define}
use Rattle.bind_statements.specs.Runs.{run_numbered}
use Rattle.bind_statements.specs.Streams.{export_record, input, lone_buffer, named_alone, output, stream}
use Rattle.bind_blocks.specs.Headers.{head, inside, opening}
use Rattle.bind_blocks.specs.Records.{Asked, find_word_of, found, index_number, looked_for, nothing_asked, reading, record_option, record_options}
use Rattle.binder.specs.Sources.{buffer_def}
use Rattle.binder.specs.Statements.{statement, statements}
use Rattle.kind_laws.proofs.BoundKindsLemmas.Assigned.{alone}
use Rattle.kind_laws.proofs.BoundKindsLemmas.Numbered.{number_in, table_in}
use Rattle.kind_laws.proofs.BoundKindsLemmas.Parts.{Each, Maybe, all_join, both, both_left, both_right, each_join, each_left, each_right, holds, nil_left, nil_right}
use Rattle.kind_laws.proofs.BoundKindsLemmas.Whole.{IsPlaced}
use Rattle.kind_laws.specs.schemas.Named.{has_assignment, has_body, has_buffer, has_fetch, has_index, has_reading, has_right, has_statement, has_table}
use Rattle.kind_laws.proofs.SchemasLemmas.Tables.{AreTables, HasTableOf, buffer_table, created_there, number_there, primary_there, read_there, sound_table, table_named_there}

-- ---- a place of a source

-- the buffers of its procedure are those that are named in it, in a source with a sound schema
pub record IsPlace (w : Scene) : Type 0 where
  pub sound : IsSound w.context.schema
  pub buffers : w.buffers ≡ buffers_in w.procedure w.context.namings

abbrev pub ArePlaced : Scene → List Naming → Type 0
ArePlaced w names = Each (IsPlaced w.context.schema w.context.namings) names

-- ---- what is read

-- the buffer that is named is of a table of the schema, and has its number in the procedure
abbrev IsFound : Scene → Option NamedBuffer → Type 0
IsFound w None = ⊥
IsFound w (Some x) = HasTableOf w.context.schema x × (table_in w.context.schema (map buffer_def w.buffers) (buffer_number w x.name) ≡ table_at w.context.schema x.table)

wanted_found : (w : Scene) → IsPlace w → (kind : NamingKind) (explicit : Bool) (word : Word) (o : Option NamedBuffer) → Maybe (HasTableOf w.context.schema) o → (wanted_buffer w kind explicit word o).breaks ≡ [] → ArePlaced w (wanted_buffer w kind explicit word o).names →
    IsFound w (wanted_buffer w kind explicit word o).is
wanted_found w at kind explicit word None h e n = absurd cc
wanted_found w at kind explicit word (Some x) h e n =
    (h, subst (λ (bs : List NamedBuffer). table_in w.context.schema (map buffer_def bs) (number_in bs x.name) ≡ table_at w.context.schema x.table) (sym at.buffers) n.0)

buffer_found : (w : Scene) → IsPlace w → AreTables w → (kind : NamingKind) (word : Word) → (buffer w kind true word).breaks ≡ [] → ArePlaced w (buffer w kind true word).names → IsFound w (buffer w kind true word).is
buffer_found w at k kind word e n = wanted_found w at kind true word (buffer_named w word.spelling) (buffer_table w word.spelling k) e n

-- the index is one of the buffer's table
abbrev HasIndexOf : Scene → Option NamedBuffer → Option ℕ → Type 0
HasIndexOf w None i = Unit {0}
HasIndexOf w (Some x) i = has_index (table_at w.context.schema x.table) i ≡ true

numbered_index : (w : Scene) (x : NamedBuffer) (o : Option ℕ) → Maybe (λ i. nat_lt i (length (indexes_of w.context.schema x.table)) ≡ true) o → has_index (table_at w.context.schema x.table) o ≡ true
numbered_index w x None h = refl
numbered_index w x (Some i) h = h

index_named : (w : Scene) (o : Option NamedBuffer) (name : List ℕ) → HasIndexOf w o (index_number w o name)
index_named w None name = tt
index_named w (Some x) name = numbered_index w x (index_number w (Some x) name) (number_there (λ (i : IndexDef). i.name) (indexes_of w.context.schema x.table) name)

option_index : (w : Scene) (o : Option NamedBuffer) (option : s.RecordOption) (a : Asked) → HasIndexOf w o a.index → HasIndexOf w o (record_option w o option a).is.index
option_index w o (s.Where place e) a h = h
option_index w o (s.UseIndex place index) a h = index_named w o index.spelling
option_index w o (s.Lock place lock) a h = h
option_index w o (s.NoWait place) a h = h
option_index w o (s.NoError place) a h = h

options_index : (w : Scene) (o : Option NamedBuffer) (options : List s.RecordOption) (a : Asked) → HasIndexOf w o a.index → HasIndexOf w o (record_options w o a options).is.index
options_index w o [] a h = h
options_index w o (option ∷ options) a h = options_index w o options (record_option w o option a).is (option_index w o option a h)

primary_index : (w : Scene) → IsPlace w → (o : Option NamedBuffer) → IsFound w o → HasIndexOf w o (nothing_asked w o).index
primary_index w at None f = tt
primary_index w at (Some x) f = primary_there (table_at w.context.schema x.table) (sound_table w.context.schema x.table at.sound f.0)

reading_found : (w : Scene) → IsPlace w → (o : Option NamedBuffer) → IsFound w o → (a : Asked) → HasIndexOf w o a.index → has_reading w.context.schema (map buffer_def w.buffers) (reading w o a) ≡ true
reading_found w at None f a h = absurd f
reading_found w at (Some x) f a h = read_there w.context.schema at.sound (map buffer_def w.buffers) (buffer_number w x.name) x.table a.index f.0 f.1 h

looked_for_found : (w : Scene) → IsPlace w → AreTables w → (kind : NamingKind) (word : Word) (os : List s.RecordOption) → (looked_for w (buffer w kind true word) os).breaks ≡ [] → ArePlaced w (looked_for w (buffer w kind true word) os).names →
    has_reading w.context.schema (map buffer_def w.buffers) (looked_for w (buffer w kind true word) os).is.0 ≡ true
looked_for_found w at k kind word os e n =
    let it = buffer w kind true word in
    let f = buffer_found w at k kind word (nil_left it.breaks _ e) (each_left (IsPlaced w.context.schema w.context.namings) it.names _ n) in
    reading_found w at it.is f (record_options w it.is (nothing_asked w it.is) os).is (options_index w it.is os (nothing_asked w it.is) (primary_index w at it.is f))

created_found : (w : Scene) → IsPlace w → (o : Option NamedBuffer) → IsFound w o → has_buffer w.context.schema (slice_get (map buffer_def w.buffers) (number_of w o)) ≡ true
created_found w at None f = absurd f
created_found w at (Some x) f =
    created_there w.context.schema (slice_get (map buffer_def w.buffers) (buffer_number w x.name)) (read_there w.context.schema at.sound (map buffer_def w.buffers) (buffer_number w x.name) x.table None f.0 f.1 refl)

opening_found : (w : Scene) → IsPlace w → AreTables w → (o : Opening) → (opening w o).breaks ≡ [] → ArePlaced w (opening w o).names → has_fetch w.context.schema (map buffer_def w.buffers) (opening w o).is ≡ true
opening_found w at k (s.Plainly word buffers) e n = refl
opening_found w at k (s.ForRecords fetch word os) e n = looked_for_found w at k naming_kind.Weak word os e n

-- ---- assignments

numbered_sequence : (s : SchemaData) (o : Option ℕ) → Maybe (λ i. nat_lt i (length s.sequences) ≡ true) o → is_some o ≡ true → nat_lt (unwrap_or o 0) (length s.sequences) ≡ true
numbered_sequence s None h e = absurd cc
numbered_sequence s (Some i) h e = h

sequence_found : (w : Scene) (name : Word) (more : List Violation) → unless (is_some (number_of_name 0 (sequence_names w.context.schema.sequences) name.spelling)) rule.Y1 name.at ++ more ≡ [] →
    nat_lt (unwrap_or (number_of_name 0 (sequence_names w.context.schema.sequences) name.spelling) 0) (length w.context.schema.sequences) ≡ true
sequence_found w name more e =
    numbered_sequence w.context.schema (number_of_name 0 (sequence_names w.context.schema.sequences) name.spelling) (number_there (λ (q : SequenceDef). q.name) w.context.schema.sequences name.spelling)
    (holds _ rule.Y1 name.at (nil_left (unless (is_some (number_of_name 0 (sequence_names w.context.schema.sequences) name.spelling)) rule.Y1 name.at) more e))

right_found : (w : Scene) (k : Option Kind) (r : s.RightSide) → (right_side w k r).breaks ≡ [] → has_right w.context.schema (right_side w k r).is ≡ true
right_found w k (s.ValueOf e) h = refl
right_found w k (s.NextValue place name) h = sequence_found w name _ h
right_found w k (s.CurrentValue place name) h = sequence_found w name _ h

assignment_found : (schema : SchemaData) (t : Option Target) (r : b.Right) → has_right schema r ≡ true → list_all (has_assignment schema) (assignment t r) ≡ true
assignment_found schema None r h = refl
assignment_found schema (Some t) r h = alone _ h

pairs_found : (w : Scene) (ps : List s.Pair) → (pairs w ps).breaks ≡ [] → list_all (has_assignment w.context.schema) (pairs w ps).is ≡ true
pairs_found w [] e = refl
pairs_found w (p ∷ ps) e =
    let t = the_target w p.target in
    all_join (has_assignment w.context.schema) (pair w p).is (pairs w ps).is
    (assignment_found w.context.schema t.is (right_side w (target_kind t.is) p.right).is (right_found w (target_kind t.is) p.right (nil_right t.breaks _ (nil_left (pair w p).breaks _ e))))
    (pairs_found w ps (nil_right (pair w p).breaks _ e))

-- ---- statements

-- the schema has what the statements name, and the tables of the buffers that are known after them
pub record IsDone (w : Scene) (d : Done) : Type 0 where
  pub body : has_body w.context.schema (map buffer_def w.buffers) d.body ≡ true
  pub tables : Each (HasTableOf w.context.schema) d.after.own.buffers

buffer_for_found : (w : Scene) (name table : Word) (t : Option ℕ) → Maybe (λ t. has_table w.context.schema t ≡ true) t → AreTables w → IsDone w (buffer_for w name table t).is
buffer_for_found w name table None h k = record { body = refl; tables = k }
buffer_for_found w name table (Some t) h k = record { body = refl; tables = each_join (HasTableOf w.context.schema) w.known.own.buffers (record { name = name.spelling; table = t } ∷ []) k (h, tt) }

define_found : (w : Scene) (x : s.Definition) → AreTables w → IsDone w (define w x).is
define_found w (s.Variable name kind os) k = record { body = refl; tables = k }
define_found w (s.Parameter direction place name kind os) k = record { body = refl; tables = k }
define_found w (s.Buffer name table) k = buffer_for_found w name table (table_named w.context.schema table.spelling) (table_named_there w.context.schema table.spelling) k
define_found w (s.Stream name) k = record { body = refl; tables = k }

run_found : (w : Scene) (name : Word) (as_ : List s.Argument) (quiet : Bool) (n : Option ℕ) → AreTables w → IsDone w (run_numbered w name as_ quiet n).is
run_found w name as_ quiet None k = record { body = refl; tables = k }
run_found w name as_ quiet (Some p) k = record { body = refl; tables = k }

input_found : (w : Scene) (name file : Option Word) → AreTables w → IsDone w (input w name file).is
input_found w name None k = record { body = refl; tables = k }
input_found w name (Some file) k = record { body = refl; tables = k }

output_found : (w : Scene) (name file : Option Word) (append_it : Bool) → AreTables w → IsDone w (output w name file append_it).is
output_found w name None append_it k = record { body = refl; tables = k }
output_found w name (Some file) append_it k = record { body = refl; tables = k }

word_found : (schema : SchemaData) (bs : List BufferDef) (word : Option FindWord) (r : b.Reading) (a : Asked) → has_reading schema bs r ≡ true → has_statement schema bs (found word r a) ≡ true
word_found schema bs None r a h = h
word_found schema bs (Some word) r a h = h

export_found : (w : Scene) (n : ℕ) (es : List s.Expression) (lone : Option NamedBuffer) → has_statement w.context.schema (map buffer_def w.buffers) (export_record w n es lone).is ≡ true
export_found w n es None = refl
export_found w n es (Some x) = refl

pub appended : (schema : SchemaData) (bs : List BufferDef) (a more : Body) → has_body schema bs a ≡ true → has_body schema bs more ≡ true → has_body schema bs (append a more) ≡ true
appended schema bs Nothing more h k = k
appended schema bs (Then t ts) more h k = both (has_statement schema bs t) _ (both_left (has_statement schema bs t) _ h) (appended schema bs ts more (both_right (has_statement schema bs t) _ h) k)

-- inside a block, and after statements
in_place : (w : Scene) (h : s.Head) → IsPlace w → IsPlace (inside h w)
in_place w h at = record { sound = at.sound; buffers = at.buffers }

pub after_place : (w : Scene) (k : Known) → IsPlace w → IsPlace (scene_after w k)
after_place w k at = record { sound = at.sound; buffers = at.buffers }

mutual
  pub statement_found : (w : Scene) (t : Statement) → IsPlace w → AreTables w → (statement w t).breaks ≡ [] → ArePlaced w (statement w t).names → IsDone w (statement w t).is
  statement_found w (s.Block h body) at k e n =
      let v = inside h w in
      let P = IsPlaced w.context.schema w.context.namings in
      let heads = nil_left (head v h).breaks _ e in
      let its = each_left P (head v h).names _ n in
      let x = statements_found v body (in_place w h at) k (nil_right (head v h).breaks _ e) (each_right P (head v h).names _ n) in
      record {
        body = alone _ (both (has_fetch w.context.schema (map buffer_def w.buffers) (opening v h.opening).is) _
            (opening_found v (in_place w h at) k h.opening (nil_left (opening v h.opening).breaks _ heads) (each_left P (opening v h.opening).names _ its)) x.body);
        tables = x.tables;
      }
  statement_found w (s.Choose test then_it else_it) at k e n =
      let P = IsPlaced w.context.schema w.context.namings in
      let it = statement w then_it in
      let rest = nil_right (condition w test).breaks _ e in
      let others = each_right P (condition w test).names _ n in
      let x = statement_found w then_it at k (nil_left it.breaks _ rest) (each_left P it.names _ others) in
      let y = statements_found (scene_after w it.is.after) else_it (after_place w it.is.after at) x.tables (nil_right it.breaks _ rest) (each_right P it.names _ others) in
      record { body = alone _ (both (has_body w.context.schema (map buffer_def w.buffers) it.is.body) _ x.body y.body); tables = y.tables }
  statement_found w (s.Define x) at k e n = define_found w x k
  statement_found w (s.Assign ps quiet) at k e n = record { body = alone _ (pairs_found w ps e); tables = k }
  statement_found w (s.Find which x os) at k e n =
      let r = (looked_for w (buffer w naming_kind.Free true x) os).is in
      record { body = alone _ (word_found w.context.schema (map buffer_def w.buffers) (find_word_of which) r.0 r.1 (looked_for_found w at k naming_kind.Free x os e n)); tables = k }
  statement_found w (s.Create x quiet) at k e n = record { body = alone _ (created_found w at (buffer w naming_kind.Free true x).is (buffer_found w at k naming_kind.Free x e n)); tables = k }
  statement_found w (s.Delete x quiet) at k e n = record { body = refl; tables = k }
  statement_found w (s.Release x quiet) at k e n = record { body = refl; tables = k }
  statement_found w (s.Undo place label act) at k e n = record { body = refl; tables = k }
  statement_found w (s.LeaveBlock place label) at k e n = record { body = refl; tables = k }
  statement_found w (s.NextBlock place label) at k e n = record { body = refl; tables = k }
  statement_found w (s.ReturnIt place false value) at k e n = record { body = refl; tables = k }
  statement_found w (s.ReturnIt place true value) at k e n = record { body = refl; tables = k }
  statement_found w s.Stop at k e n = record { body = refl; tables = k }
  statement_found w (s.Run name as_ quiet) at k e n = run_found w name as_ quiet (number_of_name 0 (map (λ p. p.name) w.context.procedures) name.spelling) k
  statement_found w (s.Import name targets quiet) at k e n = record { body = refl; tables = k }
  statement_found w (s.Export name es) at k e n = record { body = alone _ (export_found w (stream w name).is es (from (named_alone es) (lone_buffer w))); tables = k }
  statement_found w (s.Put name plain put_items) at k e n = record { body = refl; tables = k }
  statement_found w (s.Message es) at k e n = record { body = refl; tables = k }
  statement_found w (s.InputFrom name file) at k e n = input_found w name file k
  statement_found w (s.OutputTo name file append_it) at k e n = output_found w name file append_it k

  pub statements_found : (w : Scene) (ts : Statements) → IsPlace w → AreTables w → (statements w ts).breaks ≡ [] → ArePlaced w (statements w ts).names → IsDone w (statements w ts).is
  statements_found w s.Nothing at k e n = record { body = refl; tables = k }
  statements_found w (s.Then t ts) at k e n =
      let P = IsPlaced w.context.schema w.context.namings in
      let it = statement w t in
      let x = statement_found w t at k (nil_left it.breaks _ e) (each_left P it.names _ n) in
      let y = statements_found (scene_after w it.is.after) ts (after_place w it.is.after at) x.tables (nil_right it.breaks _ e) (each_right P it.names _ n) in
      record { body = appended w.context.schema (map buffer_def w.buffers) it.is.body (statements (scene_after w it.is.after) ts).is.body x.body y.body; tables = y.tables }
