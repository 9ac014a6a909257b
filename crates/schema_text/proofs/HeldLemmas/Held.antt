-- A `Schema` can hold what a file without violation means.
use Rattle.std.proofs.Common.{◌≡◌, ℕ, ◌<◌, ◌≤◌, ◌^◌, false, List, [], ◌∷◌, ◌++◌, length, get_or, Option, Some, None, refl, sym, ap, subst, ◌∙◌, arith}
use Rattle.std.specs.Prelude.{IfSome}
use Rattle.std.specs.List.{AllByRecursion, flat_map}
use Rattle.std.proofs.lemmas.List.{length-map}
use Rattle.std.proofs.lemmas.List.Elements.{All-from_recursion}
use Rattle.abl_base.specs.declared.limits.TheConstants.{MAX_INDEXES, MAX_SEQUENCES}
use Rattle.abl_values.specs.declared.schema.SequenceDef.{SequenceDef}
use Rattle.abl_values.specs.declared.schema.TableDef.{TableDef}
use Rattle.abl_values.specs.Schema.{table_names}
use Rattle.abl_values.specs.Sound.{IsSoundTable, has_twice}
use Rattle.schema_lines.specs.declared.item.Attributed.{Attributed}
use Rattle.schema_lines.specs.declared.item.Head.{Head}
use Rattle.schema_lines.specs.declared.item.Head.TheVariants.{Malformed, Table, Field, Index, Sequence}
use Rattle.schema_lines.specs.declared.item.Item.{Item}
use Rattle.schema_lines.specs.Files.{items_of}
use Rattle.schema_reader.specs.Meaning.{fields_of, schema_of, sequence_said, table_def, table_said}
use Rattle.schema_reader.specs.Rules.{first_after, sequence_name, sequences_in, table_name, tables_in, violation_of}
use Rattle.schema_reader.proofs.ObservableSound.{files-sound}
use Rattle.schema_reader.proofs.SizesSound.{is_sound}
use Rattle.schema_text.specs.Written.{IsHeld, IsHeldTable, index_names, sequence_names}
use Rattle.schema_text.proofs.HeldLemmas.FewSequences.{few_sequences}
use Rattle.schema_text.proofs.HeldLemmas.NamedOnce.{are_named_once}
use Rattle.schema_text.proofs.HeldLemmas.UsableIndexes.{usable_few, usable_once}

-- ---- names of tables and sequences

abbrev tables_of : List Item → List Item → List TableDef
tables_of all items = flat_map (λ i. table_said all i.head) items

abbrev sequences_of : List Item → List SequenceDef
sequences_of items = flat_map (λ i. sequence_said i.attributes i.head) items

table_names-said : (all items : List Item) → table_names (tables_of all items) ≡ tables_in items
table_names-said all [] = refl
table_names-said all (i ∷ is) = one i.head (table_names-said all is)
  where
    one : (head : Head) → table_names (tables_of all is) ≡ tables_in is → table_names (table_said all head ++ tables_of all is) ≡ table_name head ++ tables_in is
    one (Table name) again = ap (λ (ns : List (List ℕ)). name ∷ ns) again
    one (Field name table kind) again = again
    one (Index name table) again = again
    one (Sequence name) again = again
    one Malformed again = again

sequence_names-said : (items : List Item) → sequence_names (sequences_of items) ≡ sequences_in items
sequence_names-said [] = refl
sequence_names-said (i ∷ is) = one i.attributes i.head (sequence_names-said is)
  where
    one : (attributes : List Attributed) (head : Head) → sequence_names (sequences_of is) ≡ sequences_in is → sequence_names (sequence_said attributes head ++ sequences_of is) ≡ sequence_name head ++ sequences_in is
    one attributes (Sequence name) again = ap (λ (ns : List (List ℕ)). name ∷ ns) again
    one attributes (Table name) again = again
    one attributes (Field name table kind) again = again
    one attributes (Index name table) again = again
    one attributes Malformed again = again

-- ---- the indexes of a table

-- no two indexes have one name, and there are few
record HasIndexesApart (t : TableDef) : Type 0 where
  apart : has_twice (index_names t.indexes) ≡ false
  few : length t.indexes ≤ MAX_INDEXES

tables-apart : (all : List Item) → first_after [] all ≡ None → (items : List Item) → AllByRecursion HasIndexesApart (tables_of all items)
tables-apart all h [] = tt
tables-apart all h (i ∷ is) = one i.head (tables-apart all h is)
  where
    table : (name : List ℕ) → HasIndexesApart (table_def all name)
    table name = record {
      apart = usable_once (fields_of all name) name all ((are_named_once all h).indexes name);
      few = usable_few (fields_of all name) name all h;
    }

    one : (head : Head) → AllByRecursion HasIndexesApart (tables_of all is) → AllByRecursion HasIndexesApart (table_said all head ++ tables_of all is)
    one (Table name) again = (table name, again)
    one (Field name t kind) again = again
    one (Index name t) again = again
    one (Sequence name) again = again
    one Malformed again = again

-- the number of one of few has 16 bits
short_number : (o : Option ℕ) (n : ℕ) → n ≤ MAX_INDEXES → IfSome o (λ k. k < n) → IfSome o (λ k. k < 2 ^ 16)
short_number None n few h = tt
short_number (Some k) n few h = omega arith

table-held : (t : TableDef) → IsSoundTable t → HasIndexesApart t → IsHeldTable t
table-held t sound h = record { indexes = h.apart; primary = short_number t.primary (length t.indexes) h.few sound.primary }

-- ---- the schema

pub files-held : (text : List ℕ) → violation_of text ≡ None → IsHeld (schema_of (items_of text))
unfolding violation_of schema_of
files-held text clean =
    let items = items_of text in
    let tables = tables_of items items in
    let apart = All-from_recursion HasIndexesApart tables (tables-apart items clean items) in
    record {
      tables = ap has_twice (table_names-said items items) ∙ (is_sound items clean).tables_once;
      sequences = ap has_twice (sequence_names-said items) ∙ (are_named_once items clean).sequences;
      few = subst (λ (n : ℕ). n ≤ MAX_SEQUENCES) (sym (ap length (sequence_names-said items)) ∙ length-map (sequences_of items) (λ (q : SequenceDef). q.name)) (few_sequences items clean);
      indexes = λ k d low. table-held (get_or tables k d) ((files-sound text clean).tables k d low) (apart k d low);
    }
