-- What rows depend on in a schema: how many tables and sequences there are, the kinds of the fields, and the indexes without their names.
use Rattle.std.proofs.Common.{◌≡◌, ℕ, zero, suc, ◌<◌, List, [], ◌∷◌, length, map, get_or, Option, refl, sym, ap, ◌∙◌, arith}
use Rattle.std.proofs.lemmas.List.{length-map}
use Rattle.abl_base.specs.declared.value.Kind.{Kind}
use Rattle.abl_values.specs.declared.schema.FieldDef.{FieldDef}
use Rattle.abl_values.specs.declared.schema.TableDef.{TableDef}
use Rattle.abl_values.specs.Schema.{SchemaData, field_kinds, fields_of, indexes_of, no_table}
use Rattle.schema_reader.specs.Laws.{AnswerAlike, observable_field, observable_index, observable_sequence}
use Rattle.database_meaning.specs.Setting.{kinds_of}

pub record DescribeAlike (a b : SchemaData) : Type 0 where
  pub tables : length a.tables ≡ length b.tables
  pub sequences : length a.sequences ≡ length b.sequences
  pub kinds : (t : ℕ) → kinds_of a t ≡ kinds_of b t
  pub indexes : (t : ℕ) → map observable_index (indexes_of a t) ≡ map observable_index (indexes_of b t)

-- what agrees of each table agrees past the last one too, where both read the table without fields
everywhere : {X : Type 0} (f : TableDef → X) (xs ys : List TableDef) → length xs ≡ length ys → ((t : ℕ) → t < length xs → f (get_or xs t no_table) ≡ f (get_or ys t no_table)) → (t : ℕ)
    → f (get_or xs t no_table) ≡ f (get_or ys t no_table)
everywhere f [] [] h e t = refl
everywhere f [] (y ∷ ys) h e t = absurd (omega arith)
everywhere f (x ∷ xs) [] h e t = absurd (omega arith)
everywhere f (x ∷ xs) (y ∷ ys) h e zero = e zero (omega arith)
everywhere f (x ∷ xs) (y ∷ ys) h e (suc t) = everywhere f xs ys (omega arith) (λ k l. e (suc k) (omega arith)) t

kinds-observable : (fields : List FieldDef) → field_kinds (map observable_field fields) ≡ field_kinds fields
kinds-observable [] = refl
kinds-observable (f ∷ fs) = ap (λ (kinds : List (Option Kind)). f.kind ∷ kinds) (kinds-observable fs)

pub describe_alike : (a b : SchemaData) → AnswerAlike a b → DescribeAlike a b
describe_alike a b same = record {
  tables = same.tables;
  sequences = sym (length-map a.sequences observable_sequence) ∙ ap length same.sequences ∙ length-map b.sequences observable_sequence;
  kinds = λ t. sym (kinds-observable (fields_of a t)) ∙ ap field_kinds (everywhere (λ u. map observable_field u.fields) a.tables b.tables same.tables same.fields t) ∙ kinds-observable (fields_of b t);
  indexes = everywhere (λ u. map observable_index u.indexes) a.tables b.tables same.tables same.indexes;
}
