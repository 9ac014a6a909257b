-- A sound schema as its text has it is sound too, and has the same text.
use Rattle.std.proofs.Common.{◌≡◌, ◌≤◌, ◌<◌, ℕ, Bool, ◌||◌, List, [], ◌∷◌, ◌++◌, length, map, Option, refl, sym, ap, subst, ◌∙◌, arith, length-append}
use Rattle.std.specs.Prelude.{IfSome}
use Rattle.std.specs.List.{All, AllByRecursion}
use Rattle.std.proofs.lemmas.List.{get_or_at, length-map}
use Rattle.std.proofs.lemmas.List.Elements.{All-map, All-weaker, All-from_recursion}
use Rattle.abl_base.specs.declared.limits.TheConstants.{MAX_FIELDS}
use Rattle.abl_values.specs.declared.schema.FieldDef.{FieldDef}
use Rattle.abl_values.specs.declared.schema.IndexDef.{IndexDef}
use Rattle.abl_values.specs.declared.schema.TableDef.{TableDef}
use Rattle.abl_values.specs.declared.schema.SequenceDef.{SequenceDef}
use Rattle.abl_values.specs.Order.{folded}
use Rattle.abl_values.specs.Schema.{SchemaData, canonical_text, field_names, same_name, table_names}
use Rattle.abl_values.specs.Sound.{has_twice, is_among, IsSound, IsSoundField, IsSoundIndex, IsSoundSequence, IsSoundTable}
use Rattle.schema_text.specs.Written.{AreWrittenFields, AreWrittenIndexes, IsHeld, IsHeldTable, IsWritten, IsWrittenSequence, IsWrittenTable, index_names, sequence_names, told_field, told_index, told_schema, told_sequence, told_table}
use Rattle.schema_text.proofs.Names.{folded-again, same_name-small, small_name}
use Rattle.schema_text.proofs.ToldLines.{told_lines}

-- ---- names in small letters

is_among-small : (name : List ℕ) (names : List (List ℕ)) → is_among (folded name) (map folded names) ≡ is_among name names
is_among-small name [] = refl
is_among-small name (n ∷ ns) =
    ap (λ (c : Bool). c || is_among (folded name) (map folded ns)) (same_name-small n name) ∙ ap (λ (c : Bool). same_name n name || c) (is_among-small name ns)

has_twice-small : (names : List (List ℕ)) → has_twice (map folded names) ≡ has_twice names
has_twice-small [] = refl
has_twice-small (n ∷ ns) =
    ap (λ (c : Bool). c || has_twice (map folded ns)) (is_among-small n ns) ∙ ap (λ (c : Bool). is_among n ns || c) (has_twice-small ns)

field_names-told : (fs : List FieldDef) → field_names (map told_field fs) ≡ map folded (field_names fs)
field_names-told [] = refl
field_names-told (f ∷ fs) = ap (λ (ns : List (List ℕ)). folded f.name ∷ ns) (field_names-told fs)

index_names-told : (is : List IndexDef) → index_names (map told_index is) ≡ map folded (index_names is)
index_names-told [] = refl
index_names-told (i ∷ is) = ap (λ (ns : List (List ℕ)). folded i.name ∷ ns) (index_names-told is)

table_names-told : (ts : List TableDef) → table_names (map told_table ts) ≡ map folded (table_names ts)
table_names-told [] = refl
table_names-told (t ∷ ts) = ap (λ (ns : List (List ℕ)). folded t.name ∷ ns) (table_names-told ts)

sequence_names-told : (qs : List SequenceDef) → sequence_names (map told_sequence qs) ≡ map folded (sequence_names qs)
sequence_names-told [] = refl
sequence_names-told (q ∷ qs) = ap (λ (ns : List (List ℕ)). folded q.name ∷ ns) (sequence_names-told qs)

-- ---- sound

sound_field : (f : FieldDef) → IsSoundField f → IsSoundField (told_field f)
sound_field f h = record { name = small_name f.name h.name; initial = h.initial }

sound_sequence : (q : SequenceDef) → IsSoundSequence q → IsSoundSequence (told_sequence q)
sound_sequence q h = record { name = small_name q.name h.name; initial = h.initial; increment = h.increment }

sound_index : (m n : ℕ) (i : IndexDef) → m ≡ n → IsSoundIndex m i → IsSoundIndex n (told_index i)
sound_index m n i e h = record { name = small_name i.name h.name; parts = subst (λ (k : ℕ). All (λ p. p.field < k) i.parts) e h.parts }

sound_table : (t : TableDef) → IsSoundTable t → IsSoundTable (told_table t)
sound_table t h =
    let fields = map told_field t.fields in
    let many : length t.fields ≡ length fields = sym (length-map t.fields told_field) in
    record {
      name = small_name t.name h.name;
      fields = All-map IsSoundField told_field t.fields (All-weaker IsSoundField (λ f. IsSoundField (told_field f)) sound_field t.fields h.fields);
      apart = ap has_twice (field_names-told t.fields) ∙ has_twice-small (field_names t.fields) ∙ h.apart;
      indexes = All-map (IsSoundIndex (length fields)) told_index t.indexes (All-weaker (IsSoundIndex (length t.fields)) (λ i. IsSoundIndex (length fields) (told_index i)) (λ i k. sound_index (length t.fields) (length fields) i many k) t.indexes h.indexes);
      primary = subst (λ (k : ℕ). IfSome t.primary (λ n. n < k)) (sym (length-map t.indexes told_index)) h.primary;
    }

held_table : (t : TableDef) → IsHeldTable t → IsHeldTable (told_table t)
held_table t h = record { indexes = ap has_twice (index_names-told t.indexes) ∙ has_twice-small (index_names t.indexes) ∙ h.indexes; primary = h.primary }

few_fields : (t : TableDef) → length t.fields ≤ MAX_FIELDS → length (told_table t).fields ≤ MAX_FIELDS
few_fields t h = omega (arith, length-map t.fields told_field)

-- ---- twice is once

map_again : {X : Type 0} (f : X → X) → ((x : X) → f (f x) ≡ f x) → (xs : List X) → map f (map f xs) ≡ map f xs
map_again f h [] = refl
map_again f h (x ∷ xs) = ap (λ y. y ∷ map f (map f xs)) (h x) ∙ ap (λ ys. f x ∷ ys) (map_again f h xs)

field_again : (f : FieldDef) → told_field (told_field f) ≡ told_field f
field_again f = ap (λ (n : List ℕ). record f { name = n; mask = [] }) (folded-again f.name)

index_again : (i : IndexDef) → told_index (told_index i) ≡ told_index i
index_again i = ap (λ (n : List ℕ). record i { name = n }) (folded-again i.name)

sequence_again : (q : SequenceDef) → told_sequence (told_sequence q) ≡ told_sequence q
sequence_again q = ap (λ (n : List ℕ). record q { name = n }) (folded-again q.name)

abbrev table_as : List ℕ → List FieldDef → List IndexDef → Option ℕ → TableDef
table_as name fields indexes primary = record { name = name; fields = fields; indexes = indexes; primary = primary }

table_again : (t : TableDef) → told_table (told_table t) ≡ told_table t
table_again t =
    let fields = map told_field (map told_field t.fields) in
    let indexes = map told_index (map told_index t.indexes) in
    ap (λ n. table_as n fields indexes t.primary) (folded-again t.name)
    ∙ ap (λ fs. table_as (folded t.name) fs indexes t.primary) (map_again told_field field_again t.fields)
    ∙ ap (λ is. table_as (folded t.name) (map told_field t.fields) is t.primary) (map_again told_index index_again t.indexes)

abbrev pub schema_as : List TableDef → List SequenceDef → List Bool → SchemaData
schema_as tables sequences order = record { tables = tables; sequences = sequences; order = order }

pub told_text : (s : SchemaData) → canonical_text (told_schema s) ≡ canonical_text s
unfolding canonical_text
told_text s = told_lines s.order s.tables s.sequences

pub told_written : (s : SchemaData) → IsSound s → IsHeld s → IsWritten (told_schema s)
told_written s h held = record {
  sound = record {
    limits = (omega (arith, length-map s.tables told_table, h.limits.0), All-map (λ t. length t.fields ≤ MAX_FIELDS) told_table s.tables (All-weaker (λ t. length t.fields ≤ MAX_FIELDS) (λ t. length (told_table t).fields ≤ MAX_FIELDS) few_fields s.tables h.limits.1));
    tables = All-map IsSoundTable told_table s.tables (All-weaker IsSoundTable (λ t. IsSoundTable (told_table t)) sound_table s.tables h.tables);
    sequences = All-map IsSoundSequence told_sequence s.sequences (All-weaker IsSoundSequence (λ q. IsSoundSequence (told_sequence q)) sound_sequence s.sequences h.sequences);
    table_places = h.table_places ∙ sym (length-map s.tables told_table);
    sequence_places = h.sequence_places ∙ sym (length-map s.sequences told_sequence);
  };
  held = record {
    tables = ap has_twice (table_names-told s.tables) ∙ has_twice-small (table_names s.tables) ∙ held.tables;
    sequences = ap has_twice (sequence_names-told s.sequences) ∙ has_twice-small (sequence_names s.sequences) ∙ held.sequences;
    few = omega (arith, length-map s.sequences told_sequence, held.few);
    indexes = All-map IsHeldTable told_table s.tables (All-weaker IsHeldTable (λ t. IsHeldTable (told_table t)) held_table s.tables held.indexes);
  };
  told =
      ap (λ ts. schema_as ts (map told_sequence (map told_sequence s.sequences)) s.order) (map_again told_table table_again s.tables)
      ∙ ap (λ qs. schema_as (map told_table s.tables) qs s.order) (map_again told_sequence sequence_again s.sequences);
}

-- ---- the parts of a schema as its text has it

all_at : {X : Type 0} (P : X → Type 0) (xs : List X) (x : X) (ys zs : List X) → zs ≡ xs ++ x ∷ ys → All P zs → P x
all_at P xs x ys zs e h = subst P (get_or_at xs x ys x (length xs) refl) (subst (All P) e h (length xs) x (omega (arith, length-append xs (x ∷ ys))))

same_rec : {X : Type 0} (f : X → X) (xs : List X) → map f xs ≡ xs → AllByRecursion (λ x. f x ≡ x) xs
same_rec f [] e = tt
same_rec f (x ∷ xs) e = (cc, same_rec f xs cc)

all_same : {X : Type 0} (f : X → X) (xs : List X) → map f xs ≡ xs → All (λ x. f x ≡ x) xs
all_same f xs e = All-from_recursion (λ x. f x ≡ x) xs (same_rec f xs e)

pub table_at-written : (s : SchemaData) → IsWritten s → (xs : List TableDef) (t : TableDef) (ys : List TableDef) → s.tables ≡ xs ++ t ∷ ys → IsWrittenTable t
table_at-written s w xs t ys e = record {
  sound = all_at IsSoundTable xs t ys s.tables e w.sound.tables;
  held = all_at IsHeldTable xs t ys s.tables e w.held.indexes;
  few = all_at (λ u. length u.fields ≤ MAX_FIELDS) xs t ys s.tables e w.sound.limits.1;
  told = all_at (λ u. told_table u ≡ u) xs t ys s.tables e (all_same told_table s.tables (ap (λ u. u.tables) w.told));
}

pub sequence_at-written : (s : SchemaData) → IsWritten s → (xs : List SequenceDef) (q : SequenceDef) (ys : List SequenceDef) → s.sequences ≡ xs ++ q ∷ ys → IsWrittenSequence q
sequence_at-written s w xs q ys e = record {
  sound = all_at IsSoundSequence xs q ys s.sequences e w.sound.sequences;
  told = all_at (λ u. told_sequence u ≡ u) xs q ys s.sequences e (all_same told_sequence s.sequences (ap (λ u. u.sequences) w.told));
}

pub fields_written : (t : TableDef) → IsWrittenTable t → AreWrittenFields t.fields
fields_written t w = record {
  each = λ n d low. record { sound = w.sound.fields n d low; told = all_same told_field t.fields (ap (λ u. u.fields) w.told) n d low };
  apart = w.sound.apart;
  few = w.few;
}

pub indexes_written : (t : TableDef) (n : ℕ) → n ≡ length t.fields → IsWrittenTable t → AreWrittenIndexes n t.indexes t.primary
indexes_written t n e w =
    subst (λ (m : ℕ). AreWrittenIndexes m t.indexes t.primary) (sym e)
    (record {
      each = λ k d low. record { sound = w.sound.indexes k d low; told = all_same told_index t.indexes (ap (λ u. u.indexes) w.told) k d low };
      apart = w.held.indexes;
      within = w.sound.primary;
      small = w.held.primary;
    })
