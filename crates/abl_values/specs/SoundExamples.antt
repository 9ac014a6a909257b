-- A sound schema, and one that is not.
use Rattle.std.specs.Prelude.{◌<◌, ◌≤◌, length, refl, true, false, List, [], ◌∷◌, ℕ, codes, pos, Some}
use Rattle.std.proofs.Common.{lit<, lit≤}
use Rattle.std.proofs.lemmas.Bool.{false≢true}
use Rattle.std.proofs.lemmas.List.Elements.{All-from_recursion, All-head}
use Rattle.abl_base.specs.declared.value.Kind.TheVariants.{Integer}
use Rattle.abl_base.specs.declared.value.Value.TheVariants.{Int}
use Rattle.abl_values.specs.declared.schema.FieldDef.{FieldDef}
use Rattle.abl_values.specs.declared.schema.IndexDef.{IndexDef}
use Rattle.abl_values.specs.declared.schema.TableDef.{TableDef}
use Rattle.abl_values.specs.declared.schema.SequenceDef.{SequenceDef}
use Rattle.abl_values.specs.Schema.{SchemaData}
use Rattle.abl_values.specs.Sound.{IsSound, IsSoundField, IsSoundIndex, IsSoundSequence, IsSoundTable}

abbrev pub number_field : FieldDef
number_field = record { name = codes "Num"; kind = Some Integer; initial = Int (pos 0); mandatory = true; mask = codes ">>9" }

abbrev pub by_number : IndexDef
by_number = record { name = codes "Num"; unique = true; parts = record { field = 0; descending = false } ∷ [] }

abbrev pub item_table : TableDef
item_table = record { name = codes "Item"; fields = number_field ∷ []; indexes = by_number ∷ []; primary = Some 0 }

-- a sequence with this name
abbrev pub sequence_named : List ℕ → SequenceDef
sequence_named name = record { name = name; initial = pos 0; increment = pos 1 }

abbrev pub with_sequence : List ℕ → SchemaData
with_sequence name = record { tables = item_table ∷ []; sequences = sequence_named name ∷ []; order = true ∷ false ∷ [] }

a_table_and_a_sequence : IsSound (with_sequence (codes "next-num"))
a_table_and_a_sequence = record {
  limits = (lit≤ tt, All-from_recursion (λ t. length t.fields ≤ 256) (item_table ∷ []) (lit≤ tt, tt));
  tables = All-from_recursion IsSoundTable (item_table ∷ []) (
    record {
      name = refl;
      fields = All-from_recursion IsSoundField (number_field ∷ []) (record { name = refl; initial = refl }, tt);
      apart = refl;
      indexes = All-from_recursion (IsSoundIndex 1) (by_number ∷ []) (record { name = refl; parts = All-from_recursion (λ p. p.field < 1) by_number.parts (lit< tt, tt) }, tt);
      primary = lit< tt;
    },
    tt,
  );
  sequences = All-from_recursion IsSoundSequence (sequence_named (codes "next-num") ∷ []) (record { name = refl; initial = refl; increment = refl }, tt);
  table_places = refl;
  sequence_places = refl;
}

a_blank_in_a_name : IsSound (with_sequence (codes "next num")) → ⊥
a_blank_in_a_name sound = false≢true (All-head IsSoundSequence (sequence_named (codes "next num")) [] sound.sequences).name
