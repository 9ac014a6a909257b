-- A schema agrees with itself, and sees what is stored as it is.
use Rattle.std.proofs.Common.{◌≡◌, ℕ, suc, ◌+◌, ◌<◌, true, false, ◌&&◌, List, [], ◌∷◌, length, get_or, Option, Some, None, refl, sym, ap, ◌∙◌, arith}
use Rattle.std.specs.Prelude.{All, IfSome, option_map, unwrap_or}
use Rattle.std.specs.List.{list_all}
use Rattle.std.specs.Ordering.{int_eq}
use Rattle.std.proofs.lemmas.Bool.{and_from}
use Rattle.std.proofs.lemmas.List.Elements.{All-head, All-tail}
use Rattle.std.proofs.Math.ListN.{get_or-map}
use Rattle.abl_values.specs.declared.schema.FieldDef.{FieldDef}
use Rattle.abl_values.specs.declared.schema.KeyPart.{KeyPart}
use Rattle.abl_values.specs.declared.schema.IndexDef.{IndexDef}
use Rattle.abl_values.specs.declared.schema.TableDef.{TableDef}
use Rattle.abl_values.specs.declared.schema.SequenceDef.{SequenceDef}
use Rattle.abl_values.specs.Held.{IsHeldTable, index_names}
use Rattle.abl_values.specs.Schema.{SchemaData, field_names, fields_of, no_field, no_index, no_table, number_of_name, same_name}
use Rattle.abl_values.specs.Sound.{IsSoundTable, has_twice}
use Rattle.stored_fields.specs.declared.field.StoredField.{StoredField}
use Rattle.stored_fields.specs.Changes.{relive, relived}
use Rattle.stored_schema.specs.Agreement.{agree, has_field, has_index, same_field_at, same_fields, same_index, same_index_at, same_indexes, same_part, same_parts, same_primary_in, same_sequence, same_sequences, same_table, same_tables, same_truth}
use Rattle.stored_schema.specs.Seen.{IsSeen, number_in}
use Rattle.stored_schema.specs.Stored.{AreStoredAs, IsOwn, Stored, stored_of}
use Rattle.stored_schema.proofs.Agreed.{all-from, name-at, names-length}
use Rattle.stored_schema.proofs.Live.{numbered}
use Rattle.stored_schema.proofs.Names.{found_at, same_name-itself}
use Rattle.stored_schema.proofs.Values.{same_field-itself, same_int-itself, same_truth-itself}

-- a name is found at its own place
pub field-found : (fs : List FieldDef) (n : ℕ) → has_twice (field_names fs) ≡ false → n < length fs → number_of_name 0 (field_names fs) (get_or fs n no_field).name ≡ Some n
field-found fs n once lt =
    let name = (get_or fs n no_field).name in
    found_at (field_names fs) name n once (omega (arith, lt, names-length fs)) (ap (λ (x : List ℕ). same_name x name) (name-at fs n) ∙ same_name-itself name)

pub indexes-length : (is : List IndexDef) → length (index_names is) ≡ length is
indexes-length [] = refl
indexes-length (i ∷ is) = ap suc (indexes-length is)

index-found : (is : List IndexDef) (n : ℕ) → has_twice (index_names is) ≡ false → n < length is → number_of_name 0 (index_names is) (get_or is n no_index).name ≡ Some n
index-found is n once lt =
    let name = (get_or is n no_index).name in
    found_at (index_names is) name n once (omega (arith, lt, indexes-length is)) (ap (λ (x : List ℕ). same_name x name) (get_or-map (λ (i : IndexDef). i.name) is n no_index) ∙ same_name-itself name)

fields-itself : (fs : List FieldDef) → has_twice (field_names fs) ≡ false → same_fields fs fs ≡ true
fields-itself fs once =
    let each : list_all (has_field fs) fs ≡ true = all-from (has_field fs) fs no_field (λ n lt. ap (same_field_at fs (get_or fs n no_field)) (field-found fs n once lt) ∙ same_field-itself (get_or fs n no_field)) in
    and_from (list_all (has_field fs) fs) (list_all (has_field fs) fs) each each

part-itself : (fs : List FieldDef) (p : KeyPart) → same_part fs fs p p ≡ true
part-itself fs p =
    let name = (get_or fs p.field no_field).name in
    and_from (same_name name name) (same_truth p.descending p.descending) (same_name-itself name) (same_truth-itself p.descending)

parts-itself : (fs : List FieldDef) (ps : List KeyPart) → same_parts fs fs ps ps ≡ true
parts-itself fs [] = refl
parts-itself fs (p ∷ ps) = and_from (same_part fs fs p p) (same_parts fs fs ps ps) (part-itself fs p) (parts-itself fs ps)

index-itself : (t : TableDef) (i : IndexDef) → same_index t t i i ≡ true
index-itself t i = and_from (same_truth i.unique i.unique) (same_parts t.fields t.fields i.parts i.parts) (same_truth-itself i.unique) (parts-itself t.fields i.parts)

primary-itself : (is : List IndexDef) (primary : Option ℕ) → same_primary_in is is primary primary ≡ true
primary-itself is None = refl
primary-itself is (Some n) = same_name-itself (get_or is n no_index).name

indexes-itself : (t : TableDef) → has_twice (index_names t.indexes) ≡ false → same_indexes t t ≡ true
indexes-itself t once =
    let each : list_all (has_index t t) t.indexes ≡ true = all-from (has_index t t) t.indexes no_index (λ n lt. ap (same_index_at t t (get_or t.indexes n no_index)) (index-found t.indexes n once lt) ∙ index-itself t (get_or t.indexes n no_index)) in
    and_from (list_all (has_index t t) t.indexes && list_all (has_index t t) t.indexes) (same_primary_in t.indexes t.indexes t.primary t.primary)
    (and_from (list_all (has_index t t) t.indexes) (list_all (has_index t t) t.indexes) each each)
    (primary-itself t.indexes t.primary)

table-itself : (t : TableDef) → IsSoundTable t → IsHeldTable t → same_table t t ≡ true
table-itself t sound held =
    and_from (same_name t.name t.name) (same_fields t.fields t.fields && same_indexes t t) (same_name-itself t.name)
    (and_from (same_fields t.fields t.fields) (same_indexes t t) (fields-itself t.fields sound.apart) (indexes-itself t held.indexes))

tables-itself : (ts : List TableDef) → All IsSoundTable ts → All IsHeldTable ts → same_tables ts ts ≡ true
tables-itself [] sound held = refl
tables-itself (t ∷ ts) sound held =
    and_from (same_table t t) (same_tables ts ts) (table-itself t (All-head IsSoundTable t ts sound) (All-head IsHeldTable t ts held))
    (tables-itself ts (All-tail IsSoundTable t ts sound) (All-tail IsHeldTable t ts held))

sequences-itself : (qs : List SequenceDef) → same_sequences qs qs ≡ true
sequences-itself [] = refl
sequences-itself (q ∷ qs) =
    and_from (same_sequence q q) (same_sequences qs qs)
    (and_from (same_name q.name q.name) (int_eq q.initial q.initial && int_eq q.increment q.increment) (same_name-itself q.name)
    (and_from (int_eq q.initial q.initial) (int_eq q.increment q.increment) (same_int-itself q.initial) (same_int-itself q.increment)))
    (sequences-itself qs)

pub agrees-itself : (s : SchemaData) → All IsSoundTable s.tables → All IsHeldTable s.tables → agree s s ≡ true
unfolding agree
agrees-itself s sound held = and_from (same_tables s.tables s.tables) (same_sequences s.sequences s.sequences) (tables-itself s.tables sound held) (sequences-itself s.sequences)

-- ---- the stored fields

number-itself : (own : List FieldDef) → has_twice (field_names own) ≡ false → (live : Option ℕ) → IfSome live (λ n. n < 0 + length own) → option_map (number_in own own) live ≡ live
number-itself own once None h = refl
number-itself own once (Some n) h = ap (λ (o : Option ℕ). Some (unwrap_or o (length own + n))) (field-found own n once (omega (arith, h)))

relived-itself : (live : Option ℕ → Option ℕ) (fs : List StoredField) → All (λ (f : StoredField). live f.live ≡ f.live) fs → relived live fs ≡ fs
relived-itself live [] h = refl
relived-itself live (f ∷ fs) h =
    let first : relive live f ≡ f = ap (λ (l : Option ℕ). record f { live = l }) (All-head (λ (f : StoredField). live f.live ≡ f.live) f fs h) in
    ap (λ (g : StoredField). g ∷ relived live fs) first ∙ ap (λ (gs : List StoredField). f ∷ gs) (relived-itself live fs (All-tail (λ (f : StoredField). live f.live ≡ f.live) f fs h))

pub stored-itself : (own : List FieldDef) (fs : List StoredField) → has_twice (field_names own) ≡ false → AreStoredAs own fs → fs ≡ relived (option_map (number_in own own)) fs
stored-itself own fs once stored =
    let numbers = numbered 0 (length own) fs stored.numbers in
    sym (relived-itself (option_map (number_in own own)) fs (λ k d lt. number-itself own once (get_or fs k d).live (numbers.within k d lt)))

-- a database's own schema sees it as it is
pub own-seen : (s : Stored) → IsOwn s → IsSeen s.schema s s
own-seen s own = record {
  agrees = agrees-itself s.schema own.sound.tables own.held.indexes;
  schema = refl;
  text = refl;
  as_many = refl;
  fields = λ t lt. stored-itself (fields_of s.schema t) (stored_of s t) (own.sound.tables t no_table (omega (arith, lt, own.as_many))).apart (own.stored t lt);
}
