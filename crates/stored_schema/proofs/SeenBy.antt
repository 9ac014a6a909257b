-- What `seen_by` makes is what the given schema sees.
use Rattle.std.proofs.Common.{◌≡◌, ◌<◌, Bool, true, ℕ, List, [], length, refl, sym, ap, ◌∙◌, subst, arith}
use Rattle.std.specs.Prelude.{option_map, slice_index_or}
use Rattle.abl_values.specs.declared.schema.TableDef.{TableDef}
use Rattle.abl_values.specs.Schema.{SchemaData, no_table}
use Rattle.stored_fields.specs.declared.field.StoredField.{StoredField}
use Rattle.stored_fields.specs.Changes.{relived}
use Rattle.stored_schema.specs.Agreement.{agree}
use Rattle.stored_schema.specs.Seen.{IsSeen, number_in}
use Rattle.stored_schema.specs.Stored.{IsOwn, Stored}
use Rattle.stored_schema.proofs.Agreed.{tables-length}
use Rattle.stored_schema.proofs.SeenLaid.{agreed-tables}

-- each of these stored fields is that of its table, with the numbers of the given one
abbrev pub AreSeen : List (List StoredField) → List TableDef → List TableDef → List (List StoredField) → Type 0
AreSeen seen given own fields =
    (t : ℕ) → t < length fields → slice_index_or seen t [] ≡ relived (option_map (number_in (slice_index_or given t no_table).fields (slice_index_or own t no_table).fields)) (slice_index_or fields t [])

pub agreed : (given own other : SchemaData) (answer : Bool) → answer ≡ agree given other → other ≡ own → answer ≡ true → agree given own ≡ true
agreed given own other answer is same holds = ap (agree given) (sym same) ∙ sym is ∙ holds

pub seen_whole : (given : SchemaData) (own : Stored) (given_tables own_tables : List TableDef) (fields seen : List (List StoredField)) (text : List ℕ) → given_tables ≡ given.tables → own_tables ≡ own.schema.tables → fields ≡ own.fields
    → agree given own.schema ≡ true → length seen ≡ length fields → AreSeen seen given_tables own_tables fields → text ≡ own.text → IsSeen given own (record { schema = given; fields = seen; text = text })
seen_whole given own given_tables own_tables fields seen text hg ho hf agrees long each same = record {
  agrees = agrees;
  schema = refl;
  text = same;
  as_many = long ∙ ap length hf;
  fields =
      subst (λ (ts : List TableDef). AreSeen seen ts own.schema.tables own.fields) hg
      (subst (λ (us : List TableDef). AreSeen seen given_tables us own.fields) ho (subst (λ (fs : List (List StoredField)). AreSeen seen given_tables own_tables fs) hf each));
}

-- as many tables as lists of stored fields
pub as_long : (given : SchemaData) (own : Stored) (given_tables : List TableDef) (fields : List (List StoredField)) → IsOwn own → agree given own.schema ≡ true → given_tables ≡ given.tables → fields ≡ own.fields → length given_tables ≡ length fields
as_long given own given_tables fields is agrees hg hf =
    omega (arith, tables-length given.tables own.schema.tables (agreed-tables given own.schema agrees), is.as_many, ap length hg, ap length hf)
