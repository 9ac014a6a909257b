-- Worked examples, each computed from the definitions.
use Rattle.std.specs.Prelude.{◌≡◌, refl, Bool, true, false, List, [], ◌∷◌, ◌++◌, ℕ, codes, pos, Some, None}
use Rattle.std.specs.Fmt.{digits}
use Rattle.abl_base.specs.declared.rule.Rule.TheVariants.{F1, F8}
use Rattle.abl_base.specs.declared.value.Kind.TheVariants.{Integer}
use Rattle.abl_base.specs.declared.value.Value.TheVariants.{Int, Unknown}
use Rattle.abl_values.specs.declared.schema.FieldDef.{FieldDef}
use Rattle.abl_values.specs.declared.schema.IndexDef.{IndexDef}
use Rattle.abl_values.specs.declared.schema.TableDef.{TableDef}
use Rattle.abl_values.specs.Masks.{mask_is_for}
use Rattle.abl_values.specs.Schema.{SchemaData, canonical_text, lines_in_order}
use Rattle.abl_values.specs.Texts.{export_text, plain_text}
use Rattle.text_values.specs.TextValues.{number_in}
use Rattle.schema_lines.specs.Forms.{said}
use Rattle.schema_lines.specs.Files.{items_of}
use Rattle.schema_lines.specs.Initials.{initial_given}
use Rattle.schema_reader.specs.Meaning.{schema_of}
use Rattle.schema_reader.specs.Rules.{violation_of}

-- a table with two fields, the second of an unsupported kind, and a unique primary index. The given lines follow those of
-- the field ItemNum
abbrev pub item_file_with : List ℕ → List ℕ
item_file_with lines =
    codes "ADD TABLE \"Item\"\n  LABEL \"Items\"\n"
    ++ codes "ADD FIELD \"Sizes\" OF \"Item\" AS decimal\n  EXTENT 3\n  ORDER 20\n"
    ++ codes "ADD FIELD \"ItemNum\" OF \"Item\" AS integer\n  INITIAL \"0\"\n  ORDER 10\n  MANDATORY\n" ++ lines
    ++ codes "ADD INDEX \"ItemNum\" ON \"Item\"\n  UNIQUE\n  PRIMARY\n  INDEX-FIELD \"ItemNum\" ASCENDING\n.\nPSC\n"

abbrev pub item_file : List ℕ
item_file = item_file_with []

its_canonical_text : canonical_text (schema_of (items_of item_file))
    ≡ codes "T item\nF itemnum INTEGER M 0\nF sizes - O ?\nI itemnum U P itemnum A\n"
unfolding items_of said schema_of initial_given number_in mask_is_for canonical_text lines_in_order export_text plain_text digits
its_canonical_text = refl

it_breaks_no_rule : violation_of item_file ≡ None
unfolding violation_of items_of said schema_of initial_given number_in mask_is_for canonical_text lines_in_order export_text plain_text digits
it_breaks_no_rule = refl

the_first_line : violation_of (codes "ADD TABLE customer\n") ≡ Some (record { rule = F1; line = 1 })
unfolding violation_of items_of said schema_of canonical_text lines_in_order
the_first_line = refl

an_index_of_nothing : violation_of (codes "ADD TABLE \"t\"\nADD INDEX \"i\" ON \"t\"\nDROP\n INDEX-FIELD \"f\" ASCENDING\n")
    ≡ Some (record { rule = F8; line = 2 })
unfolding violation_of items_of said schema_of canonical_text lines_in_order
an_index_of_nothing = refl

-- ---- what is observable in the canonical text, and what is not

-- the table's number, with this mask
abbrev pub number_field : List ℕ → FieldDef
number_field mask = record { name = codes "ItemNum"; kind = Some Integer; initial = Int (pos 0); mandatory = true; mask = mask }

abbrev pub sizes_field : FieldDef
sizes_field = record { name = codes "Sizes"; kind = None; initial = Unknown; mandatory = false; mask = [] }

abbrev pub by_number : IndexDef
by_number = record { name = codes "ItemNum"; unique = true; parts = record { field = 0; descending = false } ∷ [] }

abbrev pub item_table : List ℕ → TableDef
item_table mask =
    record { name = codes "Item"; fields = number_field mask ∷ sizes_field ∷ []; indexes = by_number ∷ []; primary = Some 0 }

abbrev pub item_schema : List ℕ → SchemaData
item_schema mask = record { tables = item_table mask ∷ []; sequences = []; order = true ∷ [] }

without_format : schema_of (items_of item_file) ≡ item_schema (codes "->,>>>,>>9")
unfolding items_of said schema_of initial_given number_in mask_is_for
without_format = refl

with_format : schema_of (items_of (item_file_with (codes "  FORMAT \">>9\"\n"))) ≡ item_schema (codes ">>9")
unfolding items_of said schema_of initial_given number_in mask_is_for
with_format = refl

-- two schemas that differ in one mask only have the same canonical text, for any two masks
masks_are_not_told : (one other : List ℕ) → canonical_text (item_schema one) ≡ canonical_text (item_schema other)
unfolding canonical_text lines_in_order
masks_are_not_told one other = refl

-- a table and a sequence, in this order. Every other reader returns the same for both orders; only the canonical text
-- differs
abbrev pub table_and_sequence : List Bool → SchemaData
table_and_sequence order = record {
  tables = record { name = codes "Item"; fields = []; indexes = []; primary = None } ∷ [];
  sequences = record { name = codes "NextItem"; initial = pos 0; increment = pos 1 } ∷ [];
  order = order;
}

the_table_first : canonical_text (table_and_sequence (true ∷ false ∷ [])) ≡ codes "T item\nS nextitem 0 1\n"
unfolding canonical_text lines_in_order digits
the_table_first = refl

the_sequence_first : canonical_text (table_and_sequence (false ∷ true ∷ [])) ≡ codes "S nextitem 0 1\nT item\n"
unfolding canonical_text lines_in_order digits
the_sequence_first = refl
