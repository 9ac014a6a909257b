-- What is read at the head of a table and of a sequence.
use Rattle.std.proofs.Common.{◌≡◌, ℕ, List, [], ◌∷◌, ◌++◌, true, false, Option, Some, refl, sym, ap, ◌∙◌, arith, append_assoc, append-nil}
use Rattle.std.specs.Prelude.{codes}
use Rattle.std.specs.List.{flat_map}
use Rattle.std.specs.Fmt.{signed_decimal}
use Rattle.abl_base.specs.declared.value.Value.TheVariants.{Int64}
use Rattle.abl_values.specs.declared.schema.FieldDef.{FieldDef}
use Rattle.abl_values.specs.declared.schema.IndexDef.{IndexDef}
use Rattle.abl_values.specs.declared.schema.TableDef.{TableDef}
use Rattle.abl_values.specs.declared.schema.SequenceDef.{SequenceDef}
use Rattle.abl_values.specs.Names.{is_name}
use Rattle.abl_values.specs.Order.{folded}
use Rattle.abl_values.specs.Schema.{field_line, index_lines, sequence_line, table_lines}
use Rattle.abl_values.specs.Texts.{export_text, plain_text}
use Rattle.value_masks.specs.Export.{export}
use Rattle.schema_text.specs.Words.{begins, name_after}
use Rattle.schema_text.proofs.HeadLines.{name_before-name, word_is}

nest_table : (p n f i r : List ℕ) → p ++ n ++ 10 ∷ f ++ i ++ r ≡ p ++ (n ++ 10 ∷ (f ++ (i ++ r)))
nest_table p n f i r = append_assoc (p ++ n ++ 10 ∷ f) i r ∙ append_assoc (p ++ n) (10 ∷ f) (i ++ r) ∙ append_assoc p n (10 ∷ (f ++ (i ++ r)))

pub table_head-line : (t : TableDef) (r : List ℕ) → is_name t.name ≡ true
    → name_after 84 10 (table_lines t ++ r) ≡ Some (word_is (folded t.name) (flat_map field_line t.fields ++ (index_lines t.fields t.primary 0 t.indexes ++ r)))
table_head-line t r h =
    ap (name_after 84 10) (nest_table (codes "T ") (folded t.name) (flat_map field_line t.fields) (index_lines t.fields t.primary 0 t.indexes) r)
    ∙ name_before-name t.name 10 (flat_map field_line t.fields ++ (index_lines t.fields t.primary 0 t.indexes ++ r)) h (omega arith)

-- no field begins where the indexes do
pub after_fields : (fs : List FieldDef) (primary : Option ℕ) (n : ℕ) (is : List IndexDef) (r : List ℕ) → begins 70 r ≡ false → begins 70 (index_lines fs primary n is ++ r) ≡ false
after_fields fs primary n [] r h = h
after_fields fs primary n (i ∷ is) r h = refl

nest_sequence : (p n a b r : List ℕ) → p ++ n ++ 32 ∷ a ++ 32 ∷ b ++ 10 ∷ [] ++ r ≡ p ++ (n ++ 32 ∷ (a ++ 32 ∷ (b ++ 10 ∷ r)))
nest_sequence p n a b r =
    append_assoc (p ++ n ++ 32 ∷ a ++ 32 ∷ b) (10 ∷ []) r ∙ append_assoc (p ++ n ++ 32 ∷ a) (32 ∷ b) (10 ∷ r)
    ∙ append_assoc (p ++ n) (32 ∷ a) (32 ∷ (b ++ 10 ∷ r)) ∙ append_assoc p n (32 ∷ (a ++ 32 ∷ (b ++ 10 ∷ r)))

pub sequence_head-line : (q : SequenceDef) (r : List ℕ) → is_name q.name ≡ true
    → name_after 83 32 (sequence_line q ++ r) ≡ Some (word_is (folded q.name) (signed_decimal q.initial ++ 32 ∷ (signed_decimal q.increment ++ 10 ∷ r)))
sequence_head-line q r h =
    ap (name_after 83 32) (nest_sequence (codes "S ") (folded q.name) (signed_decimal q.initial) (signed_decimal q.increment) r)
    ∙ name_before-name q.name 32 (signed_decimal q.initial ++ 32 ∷ (signed_decimal q.increment ++ 10 ∷ r)) h (omega arith)

nest_row : (a b r : List ℕ) → a ++ ((32 ∷ b) ++ []) ++ 10 ∷ [] ++ r ≡ a ++ 32 ∷ (b ++ 10 ∷ r)
nest_row a b r =
    append_assoc (a ++ ((32 ∷ b) ++ [])) (10 ∷ []) r ∙ append_assoc a ((32 ∷ b) ++ []) (10 ∷ r)
    ∙ ap (λ (xs : List ℕ). a ++ 32 ∷ (xs ++ 10 ∷ r)) (append-nil b)

-- the numbers of a sequence stand as in a row
pub sequence_row : (q : SequenceDef) (r : List ℕ) → signed_decimal q.initial ++ 32 ∷ (signed_decimal q.increment ++ 10 ∷ r) ≡ export (Int64 q.initial ∷ Int64 q.increment ∷ []) ++ r
unfolding export_text plain_text
sequence_row q r = sym (nest_row (signed_decimal q.initial) (signed_decimal q.increment) r)
