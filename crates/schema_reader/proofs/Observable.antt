-- Two sound schemas with one canonical text answer every reader alike.
use Rattle.std.proofs.Common.{◌≡◌, inl, inr, ℕ, ◌+◌, ◌<◌, Bool, true, false, not, cond, List, [], ◌∷◌, ◌++◌, length, map, get_or, Some, refl, sym, ap, ◌∙◌, arith}
use Rattle.std.specs.Prelude.{count_by}
use Rattle.std.specs.List.{AllByRecursion, flat_map}
use Rattle.std.proofs.lemmas.List.{get_or-map, length-map}
use Rattle.std.proofs.lemmas.List.Elements.{recursion_from_All}
use Rattle.abl_values.specs.declared.schema.FieldDef.{FieldDef}
use Rattle.abl_values.specs.declared.schema.TableDef.{TableDef}
use Rattle.abl_values.specs.declared.schema.SequenceDef.{SequenceDef}
use Rattle.abl_values.specs.Masks.{same_bytes}
use Rattle.abl_values.specs.Order.{folded}
use Rattle.abl_values.specs.Schema.{SchemaData, canonical_text, lines_in_order, sequence_line, table_lines, field_named, field_names, no_table, number_of_name, same_name, table_at, table_named, table_names}
use Rattle.schema_reader.specs.Laws.{AnswerAlike, observable_field, observable_sequence}
use Rattle.abl_values.specs.Sound.{IsSound, IsSoundSequence, IsSoundTable}
use Rattle.schema_reader.proofs.ObservableTables.{AreSoundEntries, Entry, entries-tell, entry_sequences, entry_tables, entry_text, is_table, one_more, told_table}

-- ---- the schema by its tables and sequences

-- tables and sequences as they stand one after the other
abbrev in_order : List Bool → List TableDef → List SequenceDef → List Entry
in_order [] ts qs = []
in_order (true ∷ order) [] qs = in_order order [] qs
in_order (true ∷ order) (t ∷ ts) qs = inl t ∷ in_order order ts qs
in_order (false ∷ order) ts [] = in_order order ts []
in_order (false ∷ order) ts (q ∷ qs) = inr q ∷ in_order order ts qs

in_order-sound : (order : List Bool) (ts : List TableDef) (qs : List SequenceDef) → AllByRecursion IsSoundTable ts → AllByRecursion IsSoundSequence qs → AreSoundEntries (in_order order ts qs)
in_order-sound [] ts qs ht hq = tt
in_order-sound (true ∷ order) [] qs ht hq = in_order-sound order [] qs tt hq
in_order-sound (true ∷ order) (t ∷ ts) qs ht hq = (ht.0, in_order-sound order ts qs ht.1 hq)
in_order-sound (false ∷ order) ts [] ht hq = in_order-sound order ts [] ht tt
in_order-sound (false ∷ order) ts (q ∷ qs) ht hq = (hq.0, in_order-sound order ts qs ht hq.1)

text_is : (order : List Bool) (ts : List TableDef) (qs : List SequenceDef) → flat_map entry_text (in_order order ts qs) ≡ lines_in_order order ts qs
unfolding lines_in_order
text_is [] ts qs = refl
text_is (true ∷ order) [] qs = text_is order [] qs
text_is (true ∷ order) (t ∷ ts) qs = ap (λ (xs : List ℕ). table_lines t ++ xs) (text_is order ts qs)
text_is (false ∷ order) ts [] = text_is order ts []
text_is (false ∷ order) ts (q ∷ qs) = ap (λ (xs : List ℕ). sequence_line q ++ xs) (text_is order ts qs)

tables_are : (order : List Bool) (ts : List TableDef) (qs : List SequenceDef) → count_by (λ b. b) order ≡ length ts → flat_map entry_tables (in_order order ts qs) ≡ ts
tables_are [] [] qs h = refl
tables_are [] (t ∷ ts) qs h = absurd (omega arith)
tables_are (true ∷ order) [] qs h = absurd (omega (arith, one_more (λ b. b) true order))
tables_are (true ∷ order) (t ∷ ts) qs h = ap (λ (us : List TableDef). t ∷ us) (tables_are order ts qs (omega (arith, one_more (λ b. b) true order)))
tables_are (false ∷ order) ts [] h = tables_are order ts [] (omega (arith, one_more (λ b. b) false order))
tables_are (false ∷ order) ts (q ∷ qs) h = tables_are order ts qs (omega (arith, one_more (λ b. b) false order))

sequences_are : (order : List Bool) (ts : List TableDef) (qs : List SequenceDef) → count_by not order ≡ length qs → flat_map entry_sequences (in_order order ts qs) ≡ qs
sequences_are [] ts [] h = refl
sequences_are [] ts (q ∷ qs) h = absurd (omega arith)
sequences_are (true ∷ order) [] qs h = sequences_are order [] qs (omega (arith, one_more not true order))
sequences_are (true ∷ order) (t ∷ ts) qs h = sequences_are order ts qs (omega (arith, one_more not true order))
sequences_are (false ∷ order) ts [] h = absurd (omega (arith, one_more not false order))
sequences_are (false ∷ order) ts (q ∷ qs) h = ap (λ (rs : List SequenceDef). q ∷ rs) (sequences_are order ts qs (omega (arith, one_more not false order)))

order_is : (order : List Bool) (ts : List TableDef) (qs : List SequenceDef) → count_by (λ b. b) order ≡ length ts → count_by not order ≡ length qs → map is_table (in_order order ts qs) ≡ order
order_is [] ts qs h k = refl
order_is (true ∷ order) [] qs h k = absurd (omega (arith, one_more (λ b. b) true order))
order_is (true ∷ order) (t ∷ ts) qs h k =
    ap (λ (os : List Bool). true ∷ os) (order_is order ts qs (omega (arith, one_more (λ b. b) true order)) (omega (arith, one_more not true order)))
order_is (false ∷ order) ts [] h k = absurd (omega (arith, one_more not false order))
order_is (false ∷ order) ts (q ∷ qs) h k =
    ap (λ (os : List Bool). false ∷ os) (order_is order ts qs (omega (arith, one_more (λ b. b) false order)) (omega (arith, one_more not false order)))

-- ---- what a reader finds

-- names that are the same but for case are found at the same numbers
number_of_name-folded : (n : ℕ) (xs ys : List (List ℕ)) (name : List ℕ) → map folded xs ≡ map folded ys → number_of_name n xs name ≡ number_of_name n ys name
number_of_name-folded n [] [] name h = refl
number_of_name-folded n [] (y ∷ ys) name h = cc
number_of_name-folded n (x ∷ xs) [] name h = cc
number_of_name-folded n (x ∷ xs) (y ∷ ys) name h =
    let one = first_is (folded x) (folded y) (map folded xs) (map folded ys) h in
    ap (λ (k : List ℕ). cond (same_bytes k (folded name)) (Some n) (number_of_name (n + 1) xs name)) one.0
    ∙ ap (λ o. cond (same_name y name) (Some n) o) (number_of_name-folded (n + 1) xs ys name one.1)
  where
    first_is : (a b : List ℕ) (as_ bs : List (List ℕ)) → a ∷ as_ ≡ b ∷ bs → (a ≡ b) × (as_ ≡ bs)
    first_is a b as_ bs e = (cc, cc)

table_names-told : (ts : List TableDef) → map (λ t. t.name) (map told_table ts) ≡ map folded (table_names ts)
table_names-told [] = refl
table_names-told (t ∷ ts) = ap (λ (ns : List (List ℕ)). folded t.name ∷ ns) (table_names-told ts)

field_names-told : (fs : List FieldDef) → map (λ f. f.name) (map observable_field fs) ≡ map folded (field_names fs)
field_names-told [] = refl
field_names-told (f ∷ fs) = ap (λ (ns : List (List ℕ)). folded f.name ∷ ns) (field_names-told fs)

module _ (a b : SchemaData) (tables : map told_table a.tables ≡ map told_table b.tables) (sequences : map observable_sequence a.sequences ≡ map observable_sequence b.sequences) (order : a.order ≡ b.order) where
  as_many : length a.tables ≡ length b.tables
  as_many = sym (length-map a.tables told_table) ∙ ap length tables ∙ length-map b.tables told_table

  told_at : (t : ℕ) → t < length a.tables → told_table (table_at a t) ≡ told_table (table_at b t)
  told_at t h =
      let low : t < length b.tables = omega (arith, as_many) in
      sym (get_or-map told_table a.tables t no_table (told_table no_table) h) ∙ ap (λ (ts : List TableDef). get_or ts t (told_table no_table)) tables
      ∙ get_or-map told_table b.tables t no_table (told_table no_table) low

  found_alike : (name : List ℕ) → table_named a name ≡ table_named b name
  unfolding table_named
  found_alike name =
      number_of_name-folded 0 (table_names a.tables) (table_names b.tables) name (sym (table_names-told a.tables) ∙ ap (map (λ t. t.name)) tables ∙ table_names-told b.tables)

  field_alike : (t : ℕ) (name : List ℕ) → t < length a.tables → field_named a t name ≡ field_named b t name
  unfolding field_named
  field_alike t name h =
      let fields = ap (λ u. u.fields) (told_at t h) in
      number_of_name-folded 0 (field_names (table_at a t).fields) (field_names (table_at b t).fields) name
      (sym (field_names-told (table_at a t).fields) ∙ ap (map (λ f. f.name)) fields ∙ field_names-told (table_at b t).fields)

  pub answer_alike : AnswerAlike a b
  answer_alike = record {
    tables = as_many;
    table = found_alike;
    field = field_alike;
    table_name = λ t h. ap (λ u. u.name) (told_at t h);
    fields = λ t h. ap (λ u. u.fields) (told_at t h);
    indexes = λ t h. ap (λ u. u.indexes) (told_at t h);
    primary = λ t h. ap (λ u. u.primary) (told_at t h);
    sequences = sequences;
    order = order;
  }

-- ---- the law

-- the schema as its tables and sequences in order
abbrev entries_of : SchemaData → List Entry
entries_of s = in_order s.order s.tables s.sequences

entries_of-sound : (s : SchemaData) → IsSound s → AreSoundEntries (entries_of s)
entries_of-sound s h =
    in_order-sound s.order s.tables s.sequences (recursion_from_All IsSoundTable s.tables h.tables) (recursion_from_All IsSoundSequence s.sequences h.sequences)

pub canonical_text-tells_all : (a b : SchemaData) → IsSound a → IsSound b → canonical_text a ≡ canonical_text b → AnswerAlike a b
unfolding canonical_text
canonical_text-tells_all a b ha hb same =
    let told = entries-tell (entries_of a) (entries_of b) (entries_of-sound a ha) (entries_of-sound b hb) (text_is a.order a.tables a.sequences ∙ same ∙ sym (text_is b.order b.tables b.sequences)) in
    answer_alike a b
    (ap (map told_table) (sym (tables_are a.order a.tables a.sequences ha.table_places)) ∙ told.tables ∙ ap (map told_table) (tables_are b.order b.tables b.sequences hb.table_places))
    (ap (map observable_sequence) (sym (sequences_are a.order a.tables a.sequences ha.sequence_places)) ∙ told.sequences ∙ ap (map observable_sequence) (sequences_are b.order b.tables b.sequences hb.sequence_places))
    (sym (order_is a.order a.tables a.sequences ha.table_places ha.sequence_places) ∙ told.order ∙ order_is b.order b.tables b.sequences hb.table_places hb.sequence_places)
