-- What a line says, where its head is read.
use Rattle.std.proofs.Common.{◌≡◌, ◌<◌, ℕ, Bool, List, [], ◌∷◌, ◌++◌, length, Option, Some, ℤ, sym, ap, ◌∙◌}
use Rattle.std.specs.List.{flat_map}
use Rattle.std.proofs.lemmas.Option.{same_Some}
use Rattle.abl_base.specs.declared.value.Kind.{Kind}
use Rattle.abl_base.specs.declared.value.Value.{Value}
use Rattle.abl_values.specs.declared.schema.FieldDef.{FieldDef}
use Rattle.abl_values.specs.declared.schema.KeyPart.{KeyPart}
use Rattle.abl_values.specs.declared.schema.IndexDef.{IndexDef}
use Rattle.abl_values.specs.declared.schema.TableDef.{TableDef}
use Rattle.abl_values.specs.declared.schema.SequenceDef.{SequenceDef}
use Rattle.abl_values.specs.Order.{folded}
use Rattle.abl_values.specs.Schema.{field_line, index_line, index_lines, part_text, sequence_line, table_lines}
use Rattle.abl_values.specs.Texts.{export_text}
use Rattle.value_masks.specs.Export.{export}
use Rattle.abl_base.specs.declared.value.Value.TheVariants.{Int64}
use Rattle.schema_text.specs.Words.{FieldHead, IndexHead, Part, Word, field_head, index_head, name_after, part_at}
use Rattle.schema_text.specs.Written.{AreFields, IsWrittenField, IsWrittenIndex, IsWrittenSequence, IsWrittenTable, told_field, told_index, told_sequence, told_table}
use Rattle.schema_text.proofs.HeadLines.{field_head-line, head_of_field, head_of_index, index_head-line, part_at-text, part_is, word_is}
use Rattle.schema_text.proofs.ItemHeads.{sequence_head-line, sequence_row, table_head-line}

pub same_there : {X : Type 0} (o : Option X) (a b : X) → o ≡ Some a → o ≡ Some b → a ≡ b
same_there o a b h k = same_Some a b (sym h ∙ k)

-- ---- fields

pub record FieldStarted (f : FieldDef) (r : List ℕ) (h : FieldHead) : Type 0 where
  pub name : h.name ≡ folded f.name
  pub kind : h.kind ≡ f.kind
  pub mandatory : h.mandatory ≡ f.mandatory
  pub rest : h.rest ≡ export_text f.initial ++ 10 ∷ r

pub field_there : (f : FieldDef) (r text : List ℕ) → IsWrittenField f → text ≡ field_line f ++ r → field_head text ≡ Some (head_of_field f (export_text f.initial ++ 10 ∷ r))
field_there f r text w e = ap field_head e ∙ field_head-line f r w.sound.name

pub field_started : (f : FieldDef) (r text : List ℕ) (h : FieldHead) → IsWrittenField f → text ≡ field_line f ++ r → field_head text ≡ Some h → FieldStarted f r h
field_started f r text h w e at =
    let same = same_there (field_head text) h (head_of_field f (export_text f.initial ++ 10 ∷ r)) at (field_there f r text w e) in
    record { name = ap (λ x. x.name) same; kind = ap (λ x. x.kind) same; mandatory = ap (λ x. x.mandatory) same; rest = ap (λ x. x.rest) same }

abbrev field_as : List ℕ → Option Kind → Value → Bool → List ℕ → FieldDef
field_as name kind initial mandatory mask = record { name = name; kind = kind; initial = initial; mandatory = mandatory; mask = mask }

pub field_is : (f : FieldDef) (name : List ℕ) (kind : Option Kind) (initial : Value) (mandatory : Bool) (mask : List ℕ) → told_field f ≡ f → name ≡ folded f.name → kind ≡ f.kind → initial ≡ f.initial → mandatory ≡ f.mandatory → mask ≡ [] → field_as name kind initial mandatory mask ≡ f
field_is f name kind initial mandatory mask told hn hk hi hm he =
    ap (λ x. field_as x kind initial mandatory mask) hn ∙ ap (λ x. field_as (folded f.name) x initial mandatory mask) hk
    ∙ ap (λ x. field_as (folded f.name) f.kind x mandatory mask) hi ∙ ap (λ x. field_as (folded f.name) f.kind f.initial x mask) hm
    ∙ ap (λ x. field_as (folded f.name) f.kind f.initial f.mandatory x) he ∙ told

-- ---- indexes

pub record IndexStarted (fs : List FieldDef) (i : IndexDef) (b : Bool) (r : List ℕ) (h : IndexHead) : Type 0 where
  pub name : h.name ≡ folded i.name
  pub unique : h.unique ≡ i.unique
  pub primary : h.primary ≡ b
  pub rest : h.rest ≡ flat_map (part_text fs) i.parts ++ 10 ∷ r

pub index_there : (fs : List FieldDef) (i : IndexDef) (b : Bool) (r text : List ℕ) → IsWrittenIndex (length fs) i → text ≡ index_line fs b i ++ r → index_head text ≡ Some (head_of_index i b (flat_map (part_text fs) i.parts ++ 10 ∷ r))
index_there fs i b r text w e = ap index_head e ∙ index_head-line fs b i r w.sound.name

pub index_started : (fs : List FieldDef) (i : IndexDef) (b : Bool) (r text : List ℕ) (h : IndexHead) → IsWrittenIndex (length fs) i → text ≡ index_line fs b i ++ r → index_head text ≡ Some h → IndexStarted fs i b r h
index_started fs i b r text h w e at =
    let same = same_there (index_head text) h (head_of_index i b (flat_map (part_text fs) i.parts ++ 10 ∷ r)) at (index_there fs i b r text w e) in
    record { name = ap (λ x. x.name) same; unique = ap (λ x. x.unique) same; primary = ap (λ x. x.primary) same; rest = ap (λ x. x.rest) same }

abbrev index_as : List ℕ → Bool → List KeyPart → IndexDef
index_as name unique parts = record { name = name; unique = unique; parts = parts }

pub index_is : (i : IndexDef) (name : List ℕ) (unique : Bool) (parts : List KeyPart) → told_index i ≡ i → name ≡ folded i.name → unique ≡ i.unique → parts ≡ i.parts → index_as name unique parts ≡ i
index_is i name unique parts told hn hu hp =
    ap (λ x. index_as x unique parts) hn ∙ ap (λ x. index_as (folded i.name) x parts) hu ∙ ap (λ x. index_as (folded i.name) i.unique x) hp ∙ told

pub part_there : (fs : List FieldDef) (p : KeyPart) (r text : List ℕ) → AreFields fs → p.field < length fs → text ≡ part_text fs p ++ r → part_at fs text ≡ Some (part_is p r)
part_there fs p r text h low e = ap (part_at fs) e ∙ part_at-text fs p r h low

pub part_started : (fs : List FieldDef) (p : KeyPart) (r text : List ℕ) (x : Part) → AreFields fs → p.field < length fs → text ≡ part_text fs p ++ r → part_at fs text ≡ Some x → (x.part ≡ p) × (x.rest ≡ r)
part_started fs p r text x h low e at =
    let same = same_there (part_at fs text) x (part_is p r) at (part_there fs p r text h low e) in
    (ap (λ y. y.part) same, ap (λ y. y.rest) same)

-- ---- tables

pub table_there : (t : TableDef) (r text : List ℕ) → IsWrittenTable t → text ≡ table_lines t ++ r → name_after 84 10 text ≡ Some (word_is (folded t.name) (flat_map field_line t.fields ++ (index_lines t.fields t.primary 0 t.indexes ++ r)))
table_there t r text w e = ap (name_after 84 10) e ∙ table_head-line t r w.sound.name

pub table_started : (t : TableDef) (r text : List ℕ) (x : Word) → IsWrittenTable t → text ≡ table_lines t ++ r → name_after 84 10 text ≡ Some x → (x.word ≡ folded t.name) × (x.rest ≡ flat_map field_line t.fields ++ (index_lines t.fields t.primary 0 t.indexes ++ r))
table_started t r text x w e at =
    let same = same_there (name_after 84 10 text) x (word_is (folded t.name) (flat_map field_line t.fields ++ (index_lines t.fields t.primary 0 t.indexes ++ r))) at (table_there t r text w e) in
    (ap (λ y. y.word) same, ap (λ y. y.rest) same)

abbrev table_as : List ℕ → List FieldDef → List IndexDef → Option ℕ → TableDef
table_as name fields indexes primary = record { name = name; fields = fields; indexes = indexes; primary = primary }

pub table_is : (t : TableDef) (name : List ℕ) (fields : List FieldDef) (indexes : List IndexDef) (primary : Option ℕ) → told_table t ≡ t → name ≡ folded t.name → fields ≡ t.fields → indexes ≡ t.indexes → primary ≡ t.primary → table_as name fields indexes primary ≡ t
table_is t name fields indexes primary told hn hf hi hp =
    let named : folded t.name ≡ t.name = ap (λ u. u.name) told in
    ap (λ x. table_as x fields indexes primary) (hn ∙ named) ∙ ap (λ x. table_as t.name x indexes primary) hf ∙ ap (λ x. table_as t.name t.fields x primary) hi ∙ ap (λ x. table_as t.name t.fields t.indexes x) hp

-- ---- sequences

pub sequence_there : (q : SequenceDef) (r text : List ℕ) → IsWrittenSequence q → text ≡ sequence_line q ++ r → name_after 83 32 text ≡ Some (word_is (folded q.name) (export (Int64 q.initial ∷ Int64 q.increment ∷ []) ++ r))
sequence_there q r text w e = ap (name_after 83 32) e ∙ sequence_head-line q r w.sound.name ∙ ap (λ (xs : List ℕ). Some (word_is (folded q.name) xs)) (sequence_row q r)

pub sequence_started : (q : SequenceDef) (r text : List ℕ) (x : Word) → IsWrittenSequence q → text ≡ sequence_line q ++ r → name_after 83 32 text ≡ Some x → (x.word ≡ folded q.name) × (x.rest ≡ export (Int64 q.initial ∷ Int64 q.increment ∷ []) ++ r)
sequence_started q r text x w e at =
    let same = same_there (name_after 83 32 text) x (word_is (folded q.name) (export (Int64 q.initial ∷ Int64 q.increment ∷ []) ++ r)) at (sequence_there q r text w e) in
    (ap (λ y. y.word) same, ap (λ y. y.rest) same)

abbrev sequence_as : List ℕ → ℤ → ℤ → SequenceDef
sequence_as name initial increment = record { name = name; initial = initial; increment = increment }

pub sequence_is : (q : SequenceDef) (name : List ℕ) (initial increment : ℤ) → told_sequence q ≡ q → name ≡ folded q.name → initial ≡ q.initial → increment ≡ q.increment → sequence_as name initial increment ≡ q
sequence_is q name initial increment told hn hi hk =
    ap (λ x. sequence_as x initial increment) hn ∙ ap (λ x. sequence_as (folded q.name) x increment) hi ∙ ap (λ x. sequence_as (folded q.name) q.initial x) hk ∙ told
