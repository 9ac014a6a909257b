-- Two schemas that answer every reader alike have one canonical text.
use Rattle.std.proofs.Common.{◌≡◌, ℕ, ◌+◌, ◌<◌, Bool, true, false, List, [], ◌∷◌, ◌++◌, length, map, get_or, Option, refl, sym, ap, ◌∙◌, arith, ext_get_or}
use Rattle.std.specs.Prelude.{codes}
use Rattle.std.specs.List.{flat_map}
use Rattle.std.specs.Fmt.{signed_decimal}
use Rattle.std.proofs.Math.ListN.{get_or-map}
use Rattle.std.proofs.lemmas.Bool.Decides.{nat_tests}
use Rattle.std.proofs.lemmas.List.{length-map}
use Rattle.abl_values.specs.declared.schema.FieldDef.{FieldDef}
use Rattle.abl_values.specs.declared.schema.KeyPart.{KeyPart}
use Rattle.abl_values.specs.declared.schema.IndexDef.{IndexDef}
use Rattle.abl_values.specs.declared.schema.TableDef.{TableDef}
use Rattle.abl_values.specs.declared.schema.SequenceDef.{SequenceDef}
use Rattle.abl_values.specs.Order.{folded, folded_byte}
use Rattle.abl_values.specs.Schema.{SchemaData, canonical_text, field_line, index_line, index_lines, is_number, kind_text, letter, lines_in_order, no_field, no_table, part_text, sequence_line, table_at, table_lines}
use Rattle.abl_values.specs.Texts.{export_text}
use Rattle.schema_reader.specs.Laws.{AnswerAlike, observable_field, observable_index, observable_sequence}
use Rattle.schema_reader.proofs.ObservableTables.{table_as, told_table}

-- ---- names in small letters and no masks change no line

folded_byte-again : (b : ℕ) → folded_byte (folded_byte b) ≡ folded_byte b
folded_byte-again b = grind (arith, nat_tests)

folded-again : (name : List ℕ) → folded (folded name) ≡ folded name
folded-again [] = refl
folded-again (b ∷ bs) = ap (λ (c : ℕ). c ∷ folded (folded bs)) (folded_byte-again b) ∙ ap (λ (cs : List ℕ). folded_byte b ∷ cs) (folded-again bs)

field_line-told : (f : FieldDef) → field_line (observable_field f) ≡ field_line f
field_line-told f =
    ap (λ (n : List ℕ). codes "F " ++ n ++ 32 ∷ kind_text f.kind ++ 32 ∷ letter f.mandatory 77 79 ++ 32 ∷ export_text f.initial ++ 10 ∷ []) (folded-again f.name)

field_lines-told : (fs : List FieldDef) → flat_map field_line (map observable_field fs) ≡ flat_map field_line fs
field_lines-told [] = refl
field_lines-told (f ∷ fs) =
    ap (λ (xs : List ℕ). xs ++ flat_map field_line (map observable_field fs)) (field_line-told f) ∙ ap (λ (xs : List ℕ). field_line f ++ xs) (field_lines-told fs)

part_text-told : (fs : List FieldDef) (p : KeyPart) → part_text (map observable_field fs) p ≡ part_text fs p
part_text-told fs p =
    ap (λ (n : List ℕ). 32 ∷ n ++ 32 ∷ letter p.descending 68 65)
    (ap (λ (f : FieldDef). folded f.name) (get_or-map observable_field fs p.field no_field) ∙ folded-again (get_or fs p.field no_field).name)

part_texts-told : (fs : List FieldDef) (ps : List KeyPart) → flat_map (part_text (map observable_field fs)) ps ≡ flat_map (part_text fs) ps
part_texts-told fs [] = refl
part_texts-told fs (p ∷ ps) =
    ap (λ (xs : List ℕ). xs ++ flat_map (part_text (map observable_field fs)) ps) (part_text-told fs p) ∙ ap (λ (xs : List ℕ). part_text fs p ++ xs) (part_texts-told fs ps)

index_line-told : (fs : List FieldDef) (primary : Bool) (i : IndexDef) → index_line (map observable_field fs) primary (observable_index i) ≡ index_line fs primary i
index_line-told fs primary i =
    let made = λ (n parts : List ℕ). codes "I " ++ n ++ 32 ∷ letter i.unique 85 78 ++ 32 ∷ letter primary 80 78 ++ parts ++ 10 ∷ [] in
    ap (λ (n : List ℕ). made n (flat_map (part_text (map observable_field fs)) i.parts)) (folded-again i.name) ∙ ap (λ (parts : List ℕ). made (folded i.name) parts) (part_texts-told fs i.parts)

index_lines-told : (fs : List FieldDef) (primary : Option ℕ) (n : ℕ) (is : List IndexDef) → index_lines (map observable_field fs) primary n (map observable_index is) ≡ index_lines fs primary n is
index_lines-told fs primary n [] = refl
index_lines-told fs primary n (i ∷ is) =
    ap (λ (xs : List ℕ). xs ++ index_lines (map observable_field fs) primary (n + 1) (map observable_index is)) (index_line-told fs (is_number primary n) i)
    ∙ ap (λ (xs : List ℕ). index_line fs (is_number primary n) i ++ xs) (index_lines-told fs primary (n + 1) is)

table_lines-told : (t : TableDef) → table_lines (told_table t) ≡ table_lines t
table_lines-told t =
    let made = λ (n fields indexes : List ℕ). codes "T " ++ n ++ 10 ∷ fields ++ indexes in
    let told_indexes = index_lines (map observable_field t.fields) t.primary 0 (map observable_index t.indexes) in
    ap (λ (n : List ℕ). made n (flat_map field_line (map observable_field t.fields)) told_indexes) (folded-again t.name)
    ∙ ap (λ (fields : List ℕ). made (folded t.name) fields told_indexes) (field_lines-told t.fields)
    ∙ ap (λ (indexes : List ℕ). made (folded t.name) (flat_map field_line t.fields) indexes) (index_lines-told t.fields t.primary 0 t.indexes)

sequence_line-told : (q : SequenceDef) → sequence_line (observable_sequence q) ≡ sequence_line q
sequence_line-told q =
    ap (λ (n : List ℕ). codes "S " ++ n ++ 32 ∷ signed_decimal q.initial ++ 32 ∷ signed_decimal q.increment ++ 10 ∷ []) (folded-again q.name)

lines-told : (order : List Bool) (ts : List TableDef) (qs : List SequenceDef) → lines_in_order order (map told_table ts) (map observable_sequence qs) ≡ lines_in_order order ts qs
unfolding lines_in_order
lines-told [] ts qs = refl
lines-told (true ∷ order) [] qs = lines-told order [] qs
lines-told (true ∷ order) (t ∷ ts) qs =
    ap (λ (xs : List ℕ). xs ++ lines_in_order order (map told_table ts) (map observable_sequence qs)) (table_lines-told t) ∙ ap (λ (xs : List ℕ). table_lines t ++ xs) (lines-told order ts qs)
lines-told (false ∷ order) ts [] = lines-told order ts []
lines-told (false ∷ order) ts (q ∷ qs) =
    ap (λ (xs : List ℕ). xs ++ lines_in_order order (map told_table ts) (map observable_sequence qs)) (sequence_line-told q) ∙ ap (λ (xs : List ℕ). sequence_line q ++ xs) (lines-told order ts qs)

-- ---- the law

module _ (a b : SchemaData) (alike : AnswerAlike a b) where
  told_at : (t : ℕ) → t < length a.tables → told_table (table_at a t) ≡ told_table (table_at b t)
  told_at t h =
      let x = told_table (table_at a t) in
      let y = told_table (table_at b t) in
      ap (λ n. table_as n x.fields x.indexes x.primary) (alike.table_name t h) ∙ ap (λ fields. table_as y.name fields x.indexes x.primary) (alike.fields t h)
      ∙ ap (λ indexes. table_as y.name y.fields indexes x.primary) (alike.indexes t h) ∙ ap (λ primary. table_as y.name y.fields y.indexes primary) (alike.primary t h)

  tables_told : map told_table a.tables ≡ map told_table b.tables
  tables_told =
      ext_get_or (told_table no_table) (map told_table a.tables) (map told_table b.tables) (length-map a.tables told_table ∙ alike.tables ∙ sym (length-map b.tables told_table))
      (λ t h. get_or-map told_table a.tables t no_table ∙ told_at t (omega (arith, h, length-map a.tables told_table)) ∙ sym (get_or-map told_table b.tables t no_table))

  pub canonical_text-tells_no_more : canonical_text a ≡ canonical_text b
  unfolding canonical_text
  canonical_text-tells_no_more =
      sym (lines-told a.order a.tables a.sequences) ∙ ap (λ ts. lines_in_order a.order ts (map observable_sequence a.sequences)) tables_told
      ∙ ap (λ qs. lines_in_order a.order (map told_table b.tables) qs) alike.sequences
      ∙ ap (λ order. lines_in_order order (map told_table b.tables) (map observable_sequence b.sequences)) alike.order ∙ lines-told b.order b.tables b.sequences
