-- What holds of the items of a file that breaks no rule.
use Rattle.std.proofs.Common.{◌≡◌, ℕ, zero, suc, ◌+◌, ◌<◌, ◌≤◌, Bool, true, false, not, ◌&&◌, cond, List, [], ◌∷◌, ◌++◌, length, get_or, take, drop, map, Option, Some, None, refl, sym, ap, subst, ◌∙◌, arith, add-zero, zero-add, append-nil, length-append}
use Rattle.std.specs.Prelude.{is_some, nat_le, nat_lt, position}
use Rattle.std.specs.List.{All, flat_map, list_all, position_from}
use Rattle.std.proofs.lemmas.Bool.{and_from, and_parts, or_from, or_parts, not-false}
use Rattle.std.proofs.lemmas.Bool.Decides.{nat_tests}
use Rattle.std.proofs.lemmas.List.{get_or_at, length-map, map-append, take-append-drop}
use Rattle.std.proofs.lemmas.List.Elements.{All-append}
use Rattle.std.proofs.lemmas.List.Concat.{flat_map-append}
use Rattle.std.proofs.lemmas.List.Folds.{list_all-append}
use Rattle.std.proofs.lemmas.Iterator.Adapters.{position_from-zero}
use Rattle.abl_values.specs.declared.schema.FieldDef.{FieldDef}
use Rattle.abl_values.specs.declared.schema.IndexDef.{IndexDef}
use Rattle.abl_values.specs.declared.schema.TableDef.{TableDef}
use Rattle.abl_base.specs.declared.limits.TheConstants.{MAX_NAME_BYTES}
use Rattle.abl_values.specs.Schema.{IsWithinLimits, field_names, number_of_name, same_name}
use Rattle.schema_lines.specs.declared.item.Head.{Head}
use Rattle.schema_lines.specs.declared.item.Head.TheVariants.{Malformed, Table, Field, Index, Sequence}
use Rattle.schema_lines.specs.declared.item.Attributed.{Attributed}
use Rattle.schema_lines.specs.declared.item.Item.{Item}
use Rattle.schema_lines.specs.Attributes.{has, is_primary}
use Rattle.abl_values.specs.Names.{is_letter, is_name, is_name_byte}
use Rattle.abl_base.specs.declared.limits.TheConstants.{MAX_TABLES, MAX_FIELDS, MAX_INDEXES, MAX_PARTS}
use Rattle.schema_reader.specs.InOrder.{AreApart, AreShort}
use Rattle.schema_reader.specs.Meaning.{Listed, by_order, fields_in_text, fields_of, index_said, indexes_of, is_usable, listed_index, sequence_said, table_def, table_said}
use Rattle.schema_reader.specs.Rules.{components_of, fields_in, field_name, first_after, first_in_item, index_name, indexes_in, is_misnamed, is_past_limit, is_past_text, repeats_index, repeats_sequence, repeats_table, sequence_name, sequences_in, table_name, tables_in}
use Rattle.abl_values.specs.Sound.{has_twice, is_among}
use Rattle.schema_reader.proofs.SizesNames.{is_among-append, same_name-swap}
use Rattle.schema_reader.proofs.SizesSound.{IsKept, fields_in-append, fields_in-same, grown, is_kept, is_sound, neither, tables_in-append}
use Rattle.schema_reader.proofs.SizesFound.{field_in}
use Rattle.schema_reader.proofs.SizesAdded.{fields_in_text-names}
use Rattle.schema_reader.proofs.Counting.{indexes_in-same, is_some-number_of_name}
use Rattle.schema_reader.proofs.FirstBroken.{first_after-append, parts_are, take_one}
use Rattle.schema_reader.proofs.Placing.{has_twice-by_order, length-by_order, list_all-by_order}

leb-true : (m n : ℕ) → nat_le m n ≡ true → m ≤ n
leb-true m n h = grind (arith, nat_tests)

leb-false : (m n : ℕ) → nat_le m n ≡ false → n < m
leb-false m n h = grind (arith, nat_tests)

-- ---- names

pub short_name : (name : List ℕ) → is_name name ≡ true → length name ≤ MAX_NAME_BYTES
short_name [] h = omega arith
short_name (b ∷ bs) h =
    let one = and_parts (is_letter b) (list_all is_name_byte bs && nat_le (length (b ∷ bs)) MAX_NAME_BYTES) h in
    let two = and_parts (list_all is_name_byte bs) (nat_le (length (b ∷ bs)) MAX_NAME_BYTES) one.1 in
    leb-true (length (b ∷ bs)) MAX_NAME_BYTES two.1

none_of : (o : Option ℕ) → is_some o ≡ false → o ≡ None
none_of None h = refl
none_of (Some n) h = cc

pub free_name : (names : List (List ℕ)) (name : List ℕ) → is_among name names ≡ false → number_of_name 0 names name ≡ None
free_name names name h = none_of (number_of_name 0 names name) (is_some-number_of_name 0 names name ∙ h)

short_names : (names : List (List ℕ)) → list_all is_name names ≡ true → (k : ℕ) (d : List ℕ) → k < length names → length (get_or names k d) ≤ MAX_NAME_BYTES
short_names [] h k d low = absurd (omega arith)
short_names (n ∷ ns) h zero d low = short_name n (and_parts (is_name n) (list_all is_name ns) h).0
short_names (n ∷ ns) h (suc k) d low = short_names ns (and_parts (is_name n) (list_all is_name ns) h).1 k d (omega arith)

apart_before : (xs : List (List ℕ)) (n : List ℕ) (ys : List (List ℕ)) → has_twice (xs ++ n ∷ ys) ≡ false → is_among n xs ≡ false
apart_before [] n ys h = refl
apart_before (x ∷ xs) n ys h =
    let parts = or_parts (is_among x (xs ++ n ∷ ys)) (has_twice (xs ++ n ∷ ys)) h in
    let more = or_parts (is_among x xs) (is_among x (n ∷ ys)) (sym (is_among-append x xs (n ∷ ys)) ∙ parts.0) in
    let one = or_parts (same_name n x) (is_among x ys) more.1 in
    or_from (same_name x n) (is_among n xs) (same_name-swap x n ∙ one.0) (apart_before xs n ys parts.1)

-- the next of fields that are apart and short
module _ (all list rest : List FieldDef) (x : FieldDef) (e : list ++ x ∷ rest ≡ all) where
  names_are : field_names all ≡ field_names list ++ x.name ∷ field_names rest
  names_are = ap field_names (sym e) ∙ map-append (λ (f : FieldDef). f.name) list (x ∷ rest)

  pub next_short : AreShort (field_names all) → length x.name ≤ MAX_NAME_BYTES
  next_short h =
      let more : All (λ n. length n ≤ MAX_NAME_BYTES) (field_names list ++ x.name ∷ field_names rest) = subst AreShort names_are h in
      let low : length (field_names list) < length (field_names list ++ x.name ∷ field_names rest) = omega (arith, length-append (field_names list) (x.name ∷ field_names rest)) in
      subst (λ (n : List ℕ). length n ≤ MAX_NAME_BYTES) (get_or_at (field_names list) x.name (field_names rest) [] (length (field_names list)) refl) (more (length (field_names list)) [] low)

  pub next_free : AreApart (field_names all) → number_of_name 0 (field_names list) x.name ≡ None
  next_free h = free_name (field_names list) x.name (apart_before (field_names list) x.name (field_names rest) (sym (ap has_twice names_are) ∙ h))

-- ---- how many there are

pub record AreFew (items : List Item) : Type 0 where
  pub tables : length (tables_in items) ≤ MAX_TABLES
  pub fields : (t : List ℕ) → length (fields_in items t) ≤ MAX_FIELDS
  pub indexes : (t : List ℕ) → length (indexes_in items t) ≤ MAX_INDEXES
  pub all_named : (t : List ℕ) → list_all is_name (fields_in items t) ≡ true

below_limit : (before : List Item) (item : Item) → IsKept before item → is_past_limit before item.attributes item.head ≡ false
below_limit before item k = (or_parts (is_past_limit before item.attributes item.head) (is_past_text before item) k.head.1.1.1.1.1.1.1.1.0).0

one_longer : {X : Type 0} (xs : List X) (x : X) (n : ℕ) → length xs < n → length (xs ++ x ∷ []) ≤ n
one_longer xs x n h = omega (arith, length-append xs (x ∷ []))

as_long : {X : Type 0} (xs : List X) (n : ℕ) → length xs ≤ n → length (xs ++ []) ≤ n
as_long xs n h = omega (arith, length-append xs [])

tables_fit : (before : List Item) (attributes : List Attributed) (head : Head) → length (tables_in before) ≤ MAX_TABLES → is_past_limit before attributes head ≡ false → length (tables_in before ++ (table_name head ++ [])) ≤ MAX_TABLES
tables_fit before attributes (Table name) h k = one_longer (tables_in before) name MAX_TABLES (leb-false MAX_TABLES (length (tables_in before)) k)
tables_fit before attributes (Field name table kind) h k = as_long (tables_in before) MAX_TABLES h
tables_fit before attributes (Index name table) h k = as_long (tables_in before) MAX_TABLES h
tables_fit before attributes (Sequence name) h k = as_long (tables_in before) MAX_TABLES h
tables_fit before attributes Malformed h k = as_long (tables_in before) MAX_TABLES h

field_fits : (before : List Item) (t name table : List ℕ) (b : Bool) → same_name table t ≡ b → length (fields_in before t) ≤ MAX_FIELDS → length (fields_in before table) < MAX_FIELDS → length (fields_in before t ++ (cond b (name ∷ []) [] ++ [])) ≤ MAX_FIELDS
field_fits before t name table true same h k =
    one_longer (fields_in before t) name MAX_FIELDS (subst (λ (ns : List (List ℕ)). length ns < MAX_FIELDS) (fields_in-same before table t same) k)
field_fits before t name table false other h k = as_long (fields_in before t) MAX_FIELDS h

fields_fit : (before : List Item) (attributes : List Attributed) (t : List ℕ) (head : Head) → length (fields_in before t) ≤ MAX_FIELDS → is_past_limit before attributes head ≡ false → length (fields_in before t ++ (field_name t head ++ [])) ≤ MAX_FIELDS
fields_fit before attributes t (Field name table kind) h k = field_fits before t name table (same_name table t) refl h (leb-false MAX_FIELDS (length (fields_in before table)) k)
fields_fit before attributes t (Table name) h k = as_long (fields_in before t) MAX_FIELDS h
fields_fit before attributes t (Index name table) h k = as_long (fields_in before t) MAX_FIELDS h
fields_fit before attributes t (Sequence name) h k = as_long (fields_in before t) MAX_FIELDS h
fields_fit before attributes t Malformed h k = as_long (fields_in before t) MAX_FIELDS h

indexes_in-append : (xs ys : List Item) (t : List ℕ) → indexes_in (xs ++ ys) t ≡ indexes_in xs t ++ indexes_in ys t
indexes_in-append xs ys t = flat_map-append (λ (i : Item). index_name t i.head) xs ys

index_fits : (before : List Item) (t name table : List ℕ) (b : Bool) → same_name table t ≡ b → length (indexes_in before t) ≤ MAX_INDEXES → length (indexes_in before table) < MAX_INDEXES → length (indexes_in before t ++ (cond b (name ∷ []) [] ++ [])) ≤ MAX_INDEXES
index_fits before t name table true same h k =
    one_longer (indexes_in before t) name MAX_INDEXES (subst (λ (ns : List (List ℕ)). length ns < MAX_INDEXES) (indexes_in-same before table t same) k)
index_fits before t name table false other h k = as_long (indexes_in before t) MAX_INDEXES h

indexes_fit : (before : List Item) (attributes : List Attributed) (t : List ℕ) (head : Head) → length (indexes_in before t) ≤ MAX_INDEXES → is_past_limit before attributes head ≡ false → length (indexes_in before t ++ (index_name t head ++ [])) ≤ MAX_INDEXES
indexes_fit before attributes t (Index name table) h k =
    index_fits before t name table (same_name table t) refl h (leb-false MAX_INDEXES (length (indexes_in before table)) (or_parts (nat_le MAX_INDEXES (length (indexes_in before table))) (nat_lt MAX_PARTS (length (components_of attributes))) k).0)
indexes_fit before attributes t (Table name) h k = as_long (indexes_in before t) MAX_INDEXES h
indexes_fit before attributes t (Field name table kind) h k = as_long (indexes_in before t) MAX_INDEXES h
indexes_fit before attributes t (Sequence name) h k = as_long (indexes_in before t) MAX_INDEXES h
indexes_fit before attributes t Malformed h k = as_long (indexes_in before t) MAX_INDEXES h

is_named : (t name table : List ℕ) (b : Bool) → is_name name ≡ true → list_all is_name (cond b (name ∷ []) [] ++ []) ≡ true
is_named t name table true h = and_from (is_name name) true h refl
is_named t name table false h = refl

new_named : (t : List ℕ) (head : Head) → is_misnamed head ≡ false → list_all is_name (field_name t head ++ []) ≡ true
new_named t (Field name table kind) h = is_named t name table (same_name table t) (and_parts (is_name name) (is_name table) (not-false (is_name name && is_name table) h)).0
new_named t (Table name) h = refl
new_named t (Index name table) h = refl
new_named t (Sequence name) h = refl
new_named t Malformed h = refl

few_more : (before : List Item) (item : Item) → AreFew before → IsKept before item → AreFew (before ++ item ∷ [])
few_more before item few k =
    let limit = below_limit before item k in
    record {
      tables = subst (λ (ns : List (List ℕ)). length ns ≤ MAX_TABLES) (sym (tables_in-append before (item ∷ []))) (tables_fit before item.attributes item.head few.tables limit);
      fields = λ t. subst (λ (ns : List (List ℕ)). length ns ≤ MAX_FIELDS) (sym (fields_in-append before (item ∷ []) t)) (fields_fit before item.attributes t item.head (few.fields t) limit);
      indexes = λ t. subst (λ (ns : List (List ℕ)). length ns ≤ MAX_INDEXES) (sym (indexes_in-append before (item ∷ []) t)) (indexes_fit before item.attributes t item.head (few.indexes t) limit);
      all_named = λ t. ap (list_all is_name) (fields_in-append before (item ∷ []) t) ∙ list_all-append is_name (fields_in before t) (field_name t item.head ++ [])
          ∙ and_from (list_all is_name (fields_in before t)) (list_all is_name (field_name t item.head ++ [])) (few.all_named t) (new_named t item.head k.head.1.0);
    }

are_few : (items : List Item) → first_after [] items ≡ None → AreFew items
are_few items h = grown AreFew few_more [] items (record { tables = omega arith; fields = λ t. omega arith; indexes = λ t. omega arith; all_named = λ t. refl }) h

-- ---- the fields of a table

module _ (items : List Item) (t : List ℕ) (h : first_after [] items ≡ None) where
  pub fields_short : AreShort (field_names (fields_of items t))
  fields_short =
      short_names (field_names (fields_of items t))
      (list_all-by_order is_name (fields_in_text items t) ∙ ap (list_all is_name) (fields_in_text-names items t) ∙ (are_few items h).all_named t)

  pub fields_apart : AreApart (field_names (fields_of items t))
  fields_apart = has_twice-by_order (fields_in_text items t) (ap has_twice (fields_in_text-names items t) ∙ (is_sound items h).fields_once t)

  pub fields_few : length (fields_of items t) ≤ MAX_FIELDS
  fields_few =
      let e : length (fields_of items t) ≡ length (fields_in items t) =
      length-map (by_order (fields_in_text items t)) field_in ∙ length-by_order (fields_in_text items t)
      ∙ sym (length-map (fields_in_text items t) field_in) ∙ sym (length-map (map field_in (fields_in_text items t)) (λ f. f.name)) ∙ ap length (fields_in_text-names items t) in
      subst (λ n. n ≤ MAX_FIELDS) (sym e) ((are_few items h).fields t)

-- ---- the items one by one

module _ (items : List Item) (i : ℕ) (h : first_after [] items ≡ None) where
  pub clean_at : first_after [] (take i items) ≡ None
  clean_at =
      (neither (first_after [] (take i items)) (first_after (take i items) (drop i items))
      (sym (first_after-append [] (take i items) (drop i items)) ∙ ap (first_after []) (take-append-drop i items) ∙ h)).0

  kept_at : (item : Item) → i < length items → item ≡ get_or items i item → IsKept (take i items) item
  kept_at item below at =
      let after = (neither (first_after [] (take i items)) (first_after (take i items) (item ∷ drop (i + 1) items))
      (sym (first_after-append [] (take i items) (item ∷ drop (i + 1) items)) ∙ ap (first_after []) (sym (parts_are items i item below at)) ∙ h)).1 in
      is_kept (take i items) item (neither (first_in_item (take i items) item) (first_after (take i items ++ item ∷ []) (drop (i + 1) items)) after).0

-- what may be added: a name that is short, and not there
abbrev pub IsNext : List (List ℕ) → List ℕ → Type 0
IsNext names name = (length name ≤ MAX_NAME_BYTES) × (number_of_name 0 names name ≡ None)

table_names-said : (all items : List Item) → map (λ t. t.name) (flat_map (λ i. table_said all i.head) items) ≡ tables_in items
table_names-said all [] = refl
table_names-said all (i ∷ is) = one i.head (table_names-said all is)
  where
    one : (head : Head) → map (λ t. t.name) (flat_map (λ i. table_said all i.head) is) ≡ tables_in is → map (λ t. t.name) (table_said all head ++ flat_map (λ i. table_said all i.head) is) ≡ table_name head ++ tables_in is
    one (Table name) again = ap (λ (ns : List (List ℕ)). name ∷ ns) again
    one (Field name table kind) again = again
    one (Index name table) again = again
    one (Sequence name) again = again
    one Malformed again = again

sequence_names-said : (items : List Item) → map (λ s. s.name) (flat_map (λ i. sequence_said i.attributes i.head) items) ≡ sequences_in items
sequence_names-said [] = refl
sequence_names-said (i ∷ is) = one i.attributes i.head (sequence_names-said is)
  where
    one : (attributes : List Attributed) (head : Head) → map (λ s. s.name) (flat_map (λ i. sequence_said i.attributes i.head) is) ≡ sequences_in is
        → map (λ s. s.name) (sequence_said attributes head ++ flat_map (λ i. sequence_said i.attributes i.head) is) ≡ sequence_name head ++ sequences_in is
    one attributes (Sequence name) again = ap (λ (ns : List (List ℕ)). name ∷ ns) again
    one attributes (Field name table kind) again = again
    one attributes (Index name table) again = again
    one attributes (Table name) again = again
    one attributes Malformed again = again

module _ (items : List Item) (i : ℕ) (h : first_after [] items ≡ None) (item : Item) (below : i < length items) (at : item ≡ get_or items i item) where
  pub table_next : (name : List ℕ) → item.head ≡ Table name → IsNext (map (λ t. t.name) (flat_map (λ i. table_said items i.head) (take i items))) name
  table_next name e =
      let k = kept_at items i h item below at in
      let named : not (is_name name) ≡ false = ap is_misnamed (sym e) ∙ k.head.1.0 in
      let new : is_among name (tables_in (take i items)) ≡ false = ap (repeats_table (take i items)) (sym e) ∙ k.head.1.1.0 in
      (short_name name (not-false (is_name name) named), ap (λ ns. number_of_name 0 ns name) (table_names-said items (take i items)) ∙ free_name (tables_in (take i items)) name new)

  pub sequence_next : (name : List ℕ) → item.head ≡ Sequence name → IsNext (map (λ s. s.name) (flat_map (λ i. sequence_said i.attributes i.head) (take i items))) name
  sequence_next name e =
      let k = kept_at items i h item below at in
      let named : not (is_name name) ≡ false = ap is_misnamed (sym e) ∙ k.head.1.0 in
      let new : is_among name (sequences_in (take i items)) ≡ false = ap (repeats_sequence (take i items)) (sym e) ∙ k.head.1.1.1.1.1.1.1.0 in
      (short_name name (not-false (is_name name) named), ap (λ ns. number_of_name 0 ns name) (sequence_names-said (take i items)) ∙ free_name (sequences_in (take i items)) name new)

-- ---- the tables are within the limits of a schema

one_table : (items : List Item) (name : List ℕ) → first_after [] items ≡ None → (k : ℕ) (d : TableDef) → k < length (table_def items name ∷ []) → length (get_or (table_def items name ∷ []) k d).fields ≤ 256
one_table items name h zero d low = fields_few items name h
one_table items name h (suc k) d low = absurd (omega arith)

tables_within : (all : List Item) → first_after [] all ≡ None → (items : List Item) → All (λ t. length t.fields ≤ 256) (flat_map (λ i. table_said all i.head) items)
tables_within all h [] = λ k d low. absurd (omega arith)
tables_within all h (i ∷ is) = one i.head (tables_within all h is)
  where
    one : (head : Head) → All (λ t. length t.fields ≤ 256) (flat_map (λ i. table_said all i.head) is) → All (λ t. length t.fields ≤ 256) (table_said all head ++ flat_map (λ i. table_said all i.head) is)
    one (Table name) again = All-append (λ (t : TableDef). length t.fields ≤ 256) (table_def all name ∷ []) (flat_map (λ i. table_said all i.head) is) (one_table all name h) again
    one (Field name table kind) again = again
    one (Index name table) again = again
    one (Sequence name) again = again
    one Malformed again = again

pub within_limits : (items : List Item) → first_after [] items ≡ None → IsWithinLimits (flat_map (λ i. table_said items i.head) items)
within_limits items h =
    let e : length (flat_map (λ i. table_said items i.head) items) ≡ length (tables_in items) =
    sym (length-map (flat_map (λ i. table_said items i.head) items) (λ t. t.name)) ∙ ap length (table_names-said items items) in
    (subst (λ n. n ≤ 256) (sym e) (are_few items h).tables, tables_within items h items)

-- ---- the indexes of a table

index_said-apart : (n : List ℕ) (fields : List FieldDef) (t : List ℕ) (items : List Item) → is_among n (indexes_in items t) ≡ false → is_among n (map (λ i. i.name) (map (λ l. l.index) (indexes_of items fields t))) ≡ false
index_said-apart n fields t [] h = refl
index_said-apart n fields t (i ∷ is) h = one i.attributes i.head h (index_said-apart n fields t is)
  where
    two : (name : List ℕ) (attributes : List Attributed) (b u : Bool) → is_among n (cond b (name ∷ []) [] ++ indexes_in is t) ≡ false
        → (is_among n (indexes_in is t) ≡ false → is_among n (map (λ i. i.name) (map (λ l. l.index) (indexes_of is fields t))) ≡ false)
        → is_among n (map (λ i. i.name) (map (λ l. l.index) (cond (b && u) (listed_index fields name attributes ∷ []) [] ++ indexes_of is fields t))) ≡ false
    two name attributes true true h again =
        let parts = or_parts (same_name name n) (is_among n (indexes_in is t)) h in
        or_from (same_name name n) (is_among n (map (λ i. i.name) (map (λ l. l.index) (indexes_of is fields t)))) parts.0 (again parts.1)
    two name attributes true false h again = again (or_parts (same_name name n) (is_among n (indexes_in is t)) h).1
    two name attributes false u h again = again h

    one : (attributes : List Attributed) (head : Head) → is_among n (index_name t head ++ indexes_in is t) ≡ false
        → (is_among n (indexes_in is t) ≡ false → is_among n (map (λ i. i.name) (map (λ l. l.index) (indexes_of is fields t))) ≡ false)
        → is_among n (map (λ i. i.name) (map (λ l. l.index) (index_said fields t attributes head ++ indexes_of is fields t))) ≡ false
    one attributes (Index name table) h again = two name attributes (same_name table t) (is_usable fields attributes) h again
    one attributes (Table name) h again = again h
    one attributes (Field name table kind) h again = again h
    one attributes (Sequence name) h again = again h
    one attributes Malformed h again = again h

index_said-few : (fields : List FieldDef) (t : List ℕ) (items : List Item) → length (indexes_of items fields t) ≤ length (indexes_in items t)
index_said-few fields t [] = omega arith
index_said-few fields t (i ∷ is) = one i.attributes i.head (index_said-few fields t is)
  where
    two : (name : List ℕ) (attributes : List Attributed) (b u : Bool) → length (indexes_of is fields t) ≤ length (indexes_in is t)
        → length (cond (b && u) (listed_index fields name attributes ∷ []) [] ++ indexes_of is fields t) ≤ length (cond b (name ∷ []) [] ++ indexes_in is t)
    two name attributes true true again = omega arith
    two name attributes true false again = omega arith
    two name attributes false u again = again

    one : (attributes : List Attributed) (head : Head) → length (indexes_of is fields t) ≤ length (indexes_in is t) → length (index_said fields t attributes head ++ indexes_of is fields t) ≤ length (index_name t head ++ indexes_in is t)
    one attributes (Index name table) again = two name attributes (same_name table t) (is_usable fields attributes) again
    one attributes (Table name) again = again
    one attributes (Field name table kind) again = again
    one attributes (Sequence name) again = again
    one attributes Malformed again = again

-- an index that is said has a name that is short and new
index_is_new : (before : List Item) (fields : List FieldDef) (t : List ℕ) (index : IndexDef) (attributes : List Attributed) (head : Head) → is_misnamed head ≡ false → repeats_index before head ≡ false
    → index ∷ [] ≡ map (λ l. l.index) (index_said fields t attributes head) → (length index.name ≤ MAX_NAME_BYTES) × (is_among index.name (indexes_in before t) ≡ false)
index_is_new before fields t index attributes (Index name table) named new h = go (same_name table t) refl (is_usable fields attributes) h
  where
    go : (b : Bool) → same_name table t ≡ b → (u : Bool) → index ∷ [] ≡ map (λ l. l.index) (cond (b && u) (listed_index fields name attributes ∷ []) [])
        → (length index.name ≤ MAX_NAME_BYTES) × (is_among index.name (indexes_in before t) ≡ false)
    go true same true e =
        let is : index ≡ (listed_index fields name attributes).index = cc in
        let name_is : name ≡ index.name = sym (ap (λ (i : IndexDef). i.name) is) in
        subst (λ (n : List ℕ). (length n ≤ MAX_NAME_BYTES) × (is_among n (indexes_in before t) ≡ false)) name_is
        (short_name name (and_parts (is_name name) (is_name table) (not-false (is_name name && is_name table) named)).0, ap (is_among name) (sym (indexes_in-same before table t same)) ∙ new)
    go true same false e = cc
    go false other u e = cc
index_is_new before fields t index attributes (Table name) named new h = cc
index_is_new before fields t index attributes (Field name table kind) named new h = cc
index_is_new before fields t index attributes (Sequence name) named new h = cc
index_is_new before fields t index attributes Malformed named new h = cc

pub index_next : (items : List Item) (i : ℕ) → first_after [] items ≡ None → (item : Item) → i < length items → item ≡ get_or items i item → (fields : List FieldDef) (t : List ℕ) (index : IndexDef)
    → index ∷ [] ≡ map (λ l. l.index) (index_said fields t item.attributes item.head) → IsNext (map (λ i. i.name) (map (λ l. l.index) (indexes_of (take i items) fields t))) index.name
index_next items i h item below at fields t index e =
    let k = kept_at items i h item below at in
    let one = index_is_new (take i items) fields t index item.attributes item.head k.head.1.0 k.head.1.1.1.1.1.0 e in
    (one.0, free_name (map (λ i. i.name) (map (λ l. l.index) (indexes_of (take i items) fields t))) index.name (index_said-apart index.name fields t (take i items) one.1))

pub indexes_few : (items : List Item) (i : ℕ) → first_after [] items ≡ None → (fields : List FieldDef) (t : List ℕ) → length (map (λ l. l.index) (indexes_of (take i items) fields t)) ≤ MAX_INDEXES
indexes_few items i h fields t =
    let e = length-map (indexes_of (take i items) fields t) (λ l. l.index) in
    let one = index_said-few fields t (take i items) in
    let two = (are_few (take i items) (clean_at items i h)).indexes t in
    omega arith

pub indexes_of-push : (items : List Item) (i : ℕ) (item : Item) → i < length items → item ≡ get_or items i item → (fields : List FieldDef) (t : List ℕ) → indexes_of (take (i + 1) items) fields t ≡ indexes_of (take i items) fields t ++ index_said fields t item.attributes item.head
indexes_of-push items i item below at fields t =
    ap (λ (is : List Item). indexes_of is fields t) (take_one items i item below at)
    ∙ flat_map-append (λ (i : Item). index_said fields t i.attributes i.head) (take i items) (item ∷ [])
    ∙ ap (λ ls. indexes_of (take i items) fields t ++ ls) (append-nil (index_said fields t item.attributes item.head))

-- the first that passes, with one more at the end
position_from-push : (p : Listed → Bool) (n : ℕ) (xs : List Listed) (x : Listed) → position_from p n (xs ++ x ∷ []) ≡ cond (is_some (position_from p n xs)) (position_from p n xs) (cond (p x) (Some (n + length xs)) None)
position_from-push p n [] x = go (p x)
  where
    go : (b : Bool) → cond b (Some n) None ≡ cond b (Some (n + 0)) None
    go true = ap Some (sym (add-zero n))
    go false = refl
position_from-push p n (y ∷ ys) x = go (p y) (position_from-push p (n + 1) ys x)
  where
    sum : n + 1 + length ys ≡ n + suc (length ys)
    sum = omega arith

    go : (b : Bool) → position_from p (n + 1) (ys ++ x ∷ []) ≡ cond (is_some (position_from p (n + 1) ys)) (position_from p (n + 1) ys) (cond (p x) (Some (n + 1 + length ys)) None)
        → cond b (Some n) (position_from p (n + 1) (ys ++ x ∷ [])) ≡ cond (is_some (cond b (Some n) (position_from p (n + 1) ys))) (cond b (Some n) (position_from p (n + 1) ys)) (cond (p x) (Some (n + suc (length ys))) None)
    go true again = refl
    go false again = again ∙ ap (λ k. cond (is_some (position_from p (n + 1) ys)) (position_from p (n + 1) ys) (cond (p x) (Some k) None)) sum

pub position-push : (xs : List Listed) (x : Listed) → position (λ l. l.primary) (xs ++ x ∷ []) ≡ cond (is_some (position (λ l. l.primary) xs)) (position (λ l. l.primary) xs) (cond x.primary (Some (length xs)) None)
position-push xs x =
    position_from-zero (λ (l : Listed). l.primary) (xs ++ x ∷ []) ∙ position_from-push (λ l. l.primary) 0 xs x
    ∙ ap (λ o. cond (is_some o) o (cond x.primary (Some (0 + length xs)) None)) (sym (position_from-zero (λ (l : Listed). l.primary) xs))
    ∙ ap (λ n. cond (is_some (position (λ l. l.primary) xs)) (position (λ l. l.primary) xs) (cond x.primary (Some n) None)) (zero-add (length xs))

-- ---- one index more

no_index_said : (ls : List Listed) → [] ≡ map (λ l. l.index) ls → ls ≡ []
no_index_said [] h = refl
no_index_said (l ∷ ls) h = cc

one_index_said : (fields : List FieldDef) (t : List ℕ) (index : IndexDef) (attributes : List Attributed) (head : Head) → index ∷ [] ≡ map (λ l. l.index) (index_said fields t attributes head)
    → index_said fields t attributes head ≡ record { primary = has is_primary attributes; index = index } ∷ []
one_index_said fields t index attributes (Index name table) h = go (same_name table t) (is_usable fields attributes) h
  where
    go : (b u : Bool) → index ∷ [] ≡ map (λ l. l.index) (cond (b && u) (listed_index fields name attributes ∷ []) []) → cond (b && u) (listed_index fields name attributes ∷ []) [] ≡ record { primary = has is_primary attributes; index = index } ∷ []
    go true true e =
        let is : index ≡ (listed_index fields name attributes).index = cc in
        ap (λ (x : IndexDef). record { primary = has is_primary attributes; index = x } ∷ []) (sym is)
    go true false e = cc
    go false u e = cc
one_index_said fields t index attributes (Table name) h = cc
one_index_said fields t index attributes (Field name table kind) h = cc
one_index_said fields t index attributes (Sequence name) h = cc
one_index_said fields t index attributes Malformed h = cc

-- what the walk over the items keeps of the indexes so far
pub record AreListed (listed : List Listed) (indexes : List IndexDef) (with_primary : Option ℕ) : Type 0 where
  pub indexes_are : indexes ≡ map (λ l. l.index) listed
  pub primary_is : with_primary ≡ position (λ l. l.primary) listed

module _ (items : List Item) (i : ℕ) (item : Item) (below : i < length items) (at : item ≡ get_or items i item) (fields : List FieldDef) (t : List ℕ) (indexes : List IndexDef) (with_primary : Option ℕ)
    (s : AreListed (indexes_of (take i items) fields t) indexes with_primary) where
  pub none_listed : [] ≡ map (λ l. l.index) (index_said fields t item.attributes item.head) → AreListed (indexes_of (take (i + 1) items) fields t) indexes with_primary
  none_listed h =
      let same : indexes_of (take (i + 1) items) fields t ≡ indexes_of (take i items) fields t =
      indexes_of-push items i item below at fields t ∙ ap (λ ls. indexes_of (take i items) fields t ++ ls) (no_index_said (index_said fields t item.attributes item.head) h) ∙ append-nil (indexes_of (take i items) fields t) in
      subst (λ (ls : List Listed). AreListed ls indexes with_primary) (sym same) s

  pub one_listed : (index : IndexDef) (found : Option ℕ) → index ∷ [] ≡ map (λ l. l.index) (index_said fields t item.attributes item.head)
      → found ≡ cond (is_some with_primary) with_primary (cond (has is_primary item.attributes) (Some (length indexes)) None) → AreListed (indexes_of (take (i + 1) items) fields t) (indexes ++ index ∷ []) found
  one_listed index found h e =
      let listed = indexes_of (take i items) fields t in
      let one : Listed = record { primary = has is_primary item.attributes; index = index } in
      let same : indexes_of (take (i + 1) items) fields t ≡ listed ++ one ∷ [] =
      indexes_of-push items i item below at fields t ∙ ap (λ ls. listed ++ ls) (one_index_said fields t index item.attributes item.head h) in
      let long : length indexes ≡ length listed = ap length s.indexes_are ∙ length-map listed (λ l. l.index) in
      record {
        indexes_are = ap (λ (xs : List IndexDef). xs ++ index ∷ []) s.indexes_are ∙ sym (map-append (λ (l : Listed). l.index) listed (one ∷ [])) ∙ ap (map (λ (l : Listed). l.index)) (sym same);
        primary_is =
            e ∙ ap (λ o. cond (is_some o) o (cond (has is_primary item.attributes) (Some (length indexes)) None)) s.primary_is
            ∙ ap (λ n. cond (is_some (position (λ l. l.primary) listed)) (position (λ l. l.primary) listed) (cond (has is_primary item.attributes) (Some n) None)) long
            ∙ sym (position-push listed one) ∙ ap (position (λ (l : Listed). l.primary)) (sym same);
      }
