-- A schema as it is stored at creation.
use Rattle.std.proofs.Common.{◌≡◌, ℕ, zero, suc, ◌+◌, ◌<◌, ◌≤◌, Bool, true, false, List, [], ◌∷◌, ◌++◌, length, get_or, Some, refl, sym, ap, ◌∙◌, subst, arith}
use Rattle.std.specs.Prelude.{slice_get, codes}
use Rattle.std.specs.List.{flat_map, range_with_len}
use Rattle.std.proofs.lemmas.Option.{slice_get-get_or}
use Rattle.std.proofs.Math.ListN.{get_or-map}
use Rattle.abl_base.specs.declared.limits.TheConstants.{MAX_FIELDS}
use Rattle.abl_values.specs.declared.schema.FieldDef.{FieldDef}
use Rattle.abl_values.specs.declared.schema.TableDef.{TableDef}
use Rattle.abl_values.specs.declared.schema.SequenceDef.{SequenceDef}
use Rattle.abl_values.specs.Held.{IsHeld}
use Rattle.abl_values.specs.Order.{folded}
use Rattle.abl_values.specs.Schema.{SchemaData, canonical_text, field_line, fields_of, index_lines, lines_in_order, no_field, no_table, sequence_line, table_lines}
use Rattle.abl_values.specs.Sound.{IsSound}
use Rattle.stored_fields.specs.declared.field.StoredField.{StoredField}
use Rattle.stored_schema.specs.Laid.{laid, laid_from, stored_as}
use Rattle.stored_schema.specs.Stored.{AreStoredAs, IsOwn, IsStoredAs, live_numbers}
use Rattle.stored_schema.specs.Text.{line_in, stored_line, stored_lines, stored_table_lines, stored_text}

-- ---- the stored fields

pub laid-length : (n : ℕ) (fs : List FieldDef) → length (laid_from n fs) ≡ length fs
laid-length n [] = refl
laid-length n (f ∷ fs) = ap suc (laid-length (n + 1) fs)

laid-numbers : (n : ℕ) (fs : List FieldDef) → live_numbers (laid_from n fs) ≡ range_with_len n (length fs)
laid-numbers n [] = refl
laid-numbers n (f ∷ fs) = ap (λ (ns : List ℕ). n ∷ ns) (laid-numbers (n + 1) fs)

-- the stored field at a place is the field there
laid-at : (n : ℕ) (fs : List FieldDef) (k : ℕ) (d : StoredField) → k < length fs → get_or (laid_from n fs) k d ≡ stored_as (n + k) (get_or fs k no_field)
laid-at n [] k d lt = absurd (omega (arith, lt))
laid-at n (f ∷ fs) zero d lt = ap (λ (m : ℕ). stored_as m f) (let same : n ≡ n + 0 = omega arith in same)
laid-at n (f ∷ fs) (suc k) d lt = laid-at (n + 1) fs k d (omega (arith, lt)) ∙ ap (λ (m : ℕ). stored_as m (get_or fs k no_field)) (let same : n + 1 + k ≡ n + suc k = omega arith in same)

pub laid-stored : (fs : List FieldDef) → length fs ≤ MAX_FIELDS → AreStoredAs fs (laid_from 0 fs)
laid-stored fs few = record {
  few = omega (arith, few, laid-length 0 fs);
  numbers = laid-numbers 0 fs;
  each = λ k d lt.
      (let low : k < length fs = omega (arith, lt, laid-length 0 fs) in
      let number : 0 + k ≡ k = omega arith in
      subst (λ (f : StoredField). IsStoredAs fs f.live f) (sym (laid-at 0 fs k d low ∙ ap (λ (m : ℕ). stored_as m (get_or fs k no_field)) number)) (record { name = refl; kind = refl; initial = refl }));
}

-- ---- the text

lines-laid : (all : List FieldDef) (n : ℕ) (fs : List FieldDef) → ((k : ℕ) → k < length fs → slice_get all (n + k) ≡ Some (get_or fs k no_field)) → flat_map (stored_line all) (laid_from n fs) ≡ flat_map field_line fs
lines-laid all n [] h = refl
lines-laid all n (f ∷ fs) h =
    let zero_is : n + 0 ≡ n = omega arith in
    let first : slice_get all n ≡ Some f = ap (slice_get all) (sym zero_is) ∙ h 0 (omega arith) in
    let line : stored_line all (stored_as n f) ≡ field_line f = line_of first in
    ap (λ (text : List ℕ). text ++ flat_map (stored_line all) (laid_from (n + 1) fs)) line
    ∙ ap (λ (text : List ℕ). field_line f ++ text) (lines-laid all (n + 1) fs (λ k lt. ap (slice_get all) (let same : n + 1 + k ≡ n + suc k = omega arith in same) ∙ h (suc k) (omega (arith, lt))))
  where
    line_of : slice_get all n ≡ Some f → stored_line all (stored_as n f) ≡ field_line f
    line_of e = ap line_in e

table-laid : (t : TableDef) → stored_table_lines t (laid_from 0 t.fields) ≡ table_lines t
table-laid t =
    let lines = lines-laid t.fields 0 t.fields (λ k lt. ap (slice_get t.fields) (let same : 0 + k ≡ k = omega arith in same) ∙ slice_get-get_or t.fields k no_field lt) in
    ap (λ (text : List ℕ). codes "T " ++ folded t.name ++ 10 ∷ text ++ index_lines t.fields t.primary 0 t.indexes) lines

in-order : (order : List Bool) (tables : List TableDef) (sequences : List SequenceDef) → stored_lines order tables (laid tables) sequences ≡ lines_in_order order tables sequences
unfolding stored_lines lines_in_order
in-order [] tables sequences = refl
in-order (true ∷ order) [] sequences = in-order order [] sequences
in-order (true ∷ order) (t ∷ tables) sequences =
    ap (λ (text : List ℕ). text ++ stored_lines order tables (laid tables) sequences) (table-laid t) ∙ ap (λ (text : List ℕ). table_lines t ++ text) (in-order order tables sequences)
in-order (false ∷ order) [] [] = in-order order [] []
in-order (false ∷ order) (t ∷ tables) [] = in-order order (t ∷ tables) []
in-order (false ∷ order) [] (q ∷ sequences) = ap (λ (text : List ℕ). sequence_line q ++ text) (in-order order [] sequences)
in-order (false ∷ order) (t ∷ tables) (q ∷ sequences) = ap (λ (text : List ℕ). sequence_line q ++ text) (in-order order (t ∷ tables) sequences)

-- without dropped fields the stored text is the canonical one
pub laid-text : (s : SchemaData) → stored_text s (laid s.tables) ≡ canonical_text s
unfolding stored_text canonical_text
laid-text s = in-order s.order s.tables s.sequences

laid_of : (tables : List TableDef) (t : ℕ) → get_or (laid tables) t [] ≡ laid_from 0 (get_or tables t no_table).fields
laid_of tables t = get_or-map (λ (table : TableDef). laid_from 0 table.fields) tables t no_table

laid-tables : (tables : List TableDef) → length (laid tables) ≡ length tables
laid-tables [] = refl
laid-tables (t ∷ tables) = ap suc (laid-tables tables)

pub laid-own : (s : SchemaData) → IsSound s → IsHeld s → IsOwn (record { schema = s; fields = laid s.tables; text = stored_text s (laid s.tables) })
laid-own s sound held = record {
  sound = sound;
  held = held;
  as_many = laid-tables s.tables;
  stored = λ t lt. subst (AreStoredAs (fields_of s t)) (sym (laid_of s.tables t)) (laid-stored (fields_of s t) (sound.limits.1 t no_table (omega (arith, lt, laid-tables s.tables))));
  text = refl;
}
