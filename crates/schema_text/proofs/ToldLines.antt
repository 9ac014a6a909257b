-- Names in small letters and no masks change no line.
use Rattle.std.proofs.Common.{◌≡◌, ℕ, ◌+◌, Bool, true, false, List, [], ◌∷◌, ◌++◌, map, get_or, Option, refl, ap, ◌∙◌}
use Rattle.std.specs.Prelude.{codes}
use Rattle.std.specs.List.{flat_map}
use Rattle.std.specs.Fmt.{signed_decimal}
use Rattle.std.proofs.Math.ListN.{get_or-map}
use Rattle.abl_values.specs.declared.schema.FieldDef.{FieldDef}
use Rattle.abl_values.specs.declared.schema.KeyPart.{KeyPart}
use Rattle.abl_values.specs.declared.schema.IndexDef.{IndexDef}
use Rattle.abl_values.specs.declared.schema.TableDef.{TableDef}
use Rattle.abl_values.specs.declared.schema.SequenceDef.{SequenceDef}
use Rattle.abl_values.specs.Order.{folded}
use Rattle.abl_values.specs.Schema.{field_line, index_line, index_lines, is_number, kind_text, letter, lines_in_order, no_field, part_text, sequence_line, table_lines}
use Rattle.abl_values.specs.Texts.{export_text}
use Rattle.schema_text.specs.Written.{told_field, told_index, told_sequence, told_table}
use Rattle.schema_text.proofs.Names.{folded-again}

field_line-told : (f : FieldDef) → field_line (told_field f) ≡ field_line f
field_line-told f =
    ap (λ (n : List ℕ). codes "F " ++ n ++ 32 ∷ kind_text f.kind ++ 32 ∷ letter f.mandatory 77 79 ++ 32 ∷ export_text f.initial ++ 10 ∷ []) (folded-again f.name)

field_told_lines : (fs : List FieldDef) → flat_map field_line (map told_field fs) ≡ flat_map field_line fs
field_told_lines [] = refl
field_told_lines (f ∷ fs) =
    ap (λ (xs : List ℕ). xs ++ flat_map field_line (map told_field fs)) (field_line-told f) ∙ ap (λ (xs : List ℕ). field_line f ++ xs) (field_told_lines fs)

part_text-told : (fs : List FieldDef) (p : KeyPart) → part_text (map told_field fs) p ≡ part_text fs p
part_text-told fs p =
    ap (λ (n : List ℕ). 32 ∷ n ++ 32 ∷ letter p.descending 68 65)
    (ap (λ (f : FieldDef). folded f.name) (get_or-map told_field fs p.field no_field) ∙ folded-again (get_or fs p.field no_field).name)

part_texts-told : (fs : List FieldDef) (ps : List KeyPart) → flat_map (part_text (map told_field fs)) ps ≡ flat_map (part_text fs) ps
part_texts-told fs [] = refl
part_texts-told fs (p ∷ ps) =
    ap (λ (xs : List ℕ). xs ++ flat_map (part_text (map told_field fs)) ps) (part_text-told fs p) ∙ ap (λ (xs : List ℕ). part_text fs p ++ xs) (part_texts-told fs ps)

index_line-told : (fs : List FieldDef) (primary : Bool) (i : IndexDef) → index_line (map told_field fs) primary (told_index i) ≡ index_line fs primary i
index_line-told fs primary i =
    let made = λ (n parts : List ℕ). codes "I " ++ n ++ 32 ∷ letter i.unique 85 78 ++ 32 ∷ letter primary 80 78 ++ parts ++ 10 ∷ [] in
    ap (λ (n : List ℕ). made n (flat_map (part_text (map told_field fs)) i.parts)) (folded-again i.name) ∙ ap (λ (parts : List ℕ). made (folded i.name) parts) (part_texts-told fs i.parts)

index_told_lines : (fs : List FieldDef) (primary : Option ℕ) (n : ℕ) (is : List IndexDef) → index_lines (map told_field fs) primary n (map told_index is) ≡ index_lines fs primary n is
index_told_lines fs primary n [] = refl
index_told_lines fs primary n (i ∷ is) =
    ap (λ (xs : List ℕ). xs ++ index_lines (map told_field fs) primary (n + 1) (map told_index is)) (index_line-told fs (is_number primary n) i)
    ∙ ap (λ (xs : List ℕ). index_line fs (is_number primary n) i ++ xs) (index_told_lines fs primary (n + 1) is)

table_told_lines : (t : TableDef) → table_lines (told_table t) ≡ table_lines t
table_told_lines t =
    let made = λ (n fields indexes : List ℕ). codes "T " ++ n ++ 10 ∷ fields ++ indexes in
    let told_indexes = index_lines (map told_field t.fields) t.primary 0 (map told_index t.indexes) in
    ap (λ (n : List ℕ). made n (flat_map field_line (map told_field t.fields)) told_indexes) (folded-again t.name)
    ∙ ap (λ (fields : List ℕ). made (folded t.name) fields told_indexes) (field_told_lines t.fields)
    ∙ ap (λ (indexes : List ℕ). made (folded t.name) (flat_map field_line t.fields) indexes) (index_told_lines t.fields t.primary 0 t.indexes)

sequence_line-told : (q : SequenceDef) → sequence_line (told_sequence q) ≡ sequence_line q
sequence_line-told q =
    ap (λ (n : List ℕ). codes "S " ++ n ++ 32 ∷ signed_decimal q.initial ++ 32 ∷ signed_decimal q.increment ++ 10 ∷ []) (folded-again q.name)

pub told_lines : (order : List Bool) (ts : List TableDef) (qs : List SequenceDef) → lines_in_order order (map told_table ts) (map told_sequence qs) ≡ lines_in_order order ts qs
unfolding lines_in_order
told_lines [] ts qs = refl
told_lines (true ∷ order) [] qs = told_lines order [] qs
told_lines (true ∷ order) (t ∷ ts) qs =
    ap (λ (xs : List ℕ). xs ++ lines_in_order order (map told_table ts) (map told_sequence qs)) (table_told_lines t) ∙ ap (λ (xs : List ℕ). table_lines t ++ xs) (told_lines order ts qs)
told_lines (false ∷ order) ts [] = told_lines order ts []
told_lines (false ∷ order) ts (q ∷ qs) =
    ap (λ (xs : List ℕ). xs ++ lines_in_order order (map told_table ts) (map told_sequence qs)) (sequence_line-told q) ∙ ap (λ (xs : List ℕ). sequence_line q ++ xs) (told_lines order ts qs)
