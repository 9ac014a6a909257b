-- One more item adds the bytes of its own line to the canonical text.
use Rattle.std.proofs.Common.{◌≡◌, ℕ, ◌+◌, Bool, true, false, not, if◌then◌else◌, cond, List, [], ◌∷◌, ◌++◌, length, map, Option, Some, None, refl, sym, ap, ◌∙◌, arith, append-nil, length-append, zero-add, add-zero}
use Rattle.std.specs.Prelude.{codes}
use Rattle.std.proofs.lemmas.Bool.{and_parts, not-true, not-false, both_ways, false_from_ne_true}
use Rattle.std.proofs.lemmas.List.{length-map, map-append}
use Rattle.std.proofs.lemmas.List.Concat.{flat_map-append}
use Rattle.std.specs.List.{list_all}
use Rattle.abl_values.specs.declared.schema.FieldDef.{FieldDef}
use Rattle.schema_lines.specs.declared.item.Head.{Head}
use Rattle.schema_lines.specs.declared.item.Head.TheVariants.{Malformed, Table, Field, Index, Sequence}
use Rattle.schema_lines.specs.declared.item.Attribute.{Attribute}
use Rattle.schema_lines.specs.declared.item.Attribute.TheVariants.{Initial, Format, Mandatory, Order, Extent, Unique, Primary, Word, IndexField, Increment}
use Rattle.schema_lines.specs.declared.item.Attributed.{Attributed}
use Rattle.schema_lines.specs.declared.item.Item.{Item}
use Rattle.schema_lines.specs.Attributes.{increment_of, start_of}
use Rattle.abl_base.specs.declared.value.Kind.{Kind}
use Rattle.abl_values.specs.Order.{folded, folded_byte}
use Rattle.abl_values.specs.Schema.{canonical_text, field_line, field_names, same_name, sequence_line}
use Rattle.schema_reader.specs.Meaning.{Ordered, by_order, fields_in_text, fields_of, field_said, ordered_field, schema_of}
use Rattle.schema_reader.specs.Rules.{first_after, fields_in, field_name, lacks_field, lacks_table, repeats_field, repeats_table, tables_in, table_name}
use Rattle.abl_values.specs.Sound.{has_twice, is_among}
use Rattle.schema_reader.proofs.SizesNames.{for_each_same, for_each_same-once, has_twice_push, is_among-same, same_name-right}
use Rattle.schema_reader.proofs.SizesSound.{IsSoundSoFar, is_sound, fields_in-same, flat_map-along, has_its_fields, has_its_table}
use Rattle.schema_reader.proofs.SizesFound.{AllFoundAlike, AreFoundAlike, field_in, found_index_line, found_index_line-alike, own_index_line-found, found, found-append, found-by_order, own_index_line, own_index_line-alike}
use Rattle.schema_reader.proofs.SizesLines.{canonical_text-items, field_size, indexes_size, index_text, length-flat_map, table_lines-length, table_size, text_said, total, total-along, total-append, total-plus}

-- ---- an item's own line

abbrev pub line_said : List Item → List Attributed → Head → List ℕ
line_said before attributes Malformed = []
line_said before attributes (Table name) = codes "T " ++ folded name ++ 10 ∷ []
line_said before attributes (Field name table kind) = field_line (ordered_field name kind attributes).field
line_said before attributes (Index name table) = own_index_line (fields_of before table) name attributes
line_said before attributes (Sequence name) =
    sequence_line (record { name = name; initial = start_of attributes; increment = increment_of attributes })

-- the line of an item in the canonical text, after the items `before`
abbrev pub item_line : List Item → Item → List ℕ
item_line before item = line_said before item.attributes item.head

-- ---- how long the text is

-- the number of bytes that an item adds to the text, once it and all other items are read
abbrev pub size_said : List Item → List Attributed → Head → ℕ
size_said items attributes (Table name) = table_size items name
size_said items attributes (Sequence name) =
    length (sequence_line (record { name = name; initial = start_of attributes; increment = increment_of attributes }))
size_said items attributes head = 0

text_said-length : (items : List Item) (attributes : List Attributed) (head : Head) → length (text_said items attributes head) ≡ size_said items attributes head
text_said-length items attributes (Table name) = table_lines-length items name
text_said-length items attributes (Sequence name) = refl
text_said-length items attributes Malformed = refl
text_said-length items attributes (Field name table kind) = refl
text_said-length items attributes (Index name table) = refl

abbrev pub size_of : List Item → Item → ℕ
size_of items i = size_said items i.attributes i.head

canonical_text-length : (items : List Item) → length (canonical_text (schema_of items)) ≡ total (size_of items) items
canonical_text-length items =
    ap length (canonical_text-items items) ∙ length-flat_map (λ (i : Item). text_said items i.attributes i.head) items
    ∙ total-along (size_of items) (λ (i : Item). length (text_said items i.attributes i.head)) (λ i. text_said-length items i.attributes i.head) items

-- ---- the tables' sizes grow by this

-- `much` if the head is a table of this name, else 0
abbrev pub much_at : ℕ → List ℕ → Head → ℕ
much_at much table (Table name) = if same_name table name then much else 0
much_at much table head = 0

much_at-total : (much : ℕ) (table : List ℕ) (items : List Item) → total (λ i. much_at much table i.head) items ≡ for_each_same much table (tables_in items)
much_at-total much table [] = refl
much_at-total much table (i ∷ is) = one i.head (much_at-total much table is)
  where
    one : (head : Head) → total (λ i. much_at much table i.head) is ≡ for_each_same much table (tables_in is)
        → much_at much table head + total (λ i. much_at much table i.head) is ≡ for_each_same much table (table_name head ++ tables_in is)
    one (Table name) again = ap (λ n. much_at much table (Table name) + n) again
    one Malformed again = zero-add (total (λ i. much_at much table i.head) is) ∙ again
    one (Field name t kind) again = zero-add (total (λ i. much_at much table i.head) is) ∙ again
    one (Index name t) again = zero-add (total (λ i. much_at much table i.head) is) ∙ again
    one (Sequence name) again = zero-add (total (λ i. much_at much table i.head) is) ∙ again

-- the size of each table of this name grows by `much`, and no other size changes
abbrev pub Grows : List Item → List Item → ℕ → List ℕ → Type 0
Grows before more much table = (t : List ℕ) → table_size more t ≡ table_size before t + (if same_name table t then much else 0)

size_said-grows : (before more : List Item) (much : ℕ) (table : List ℕ) → Grows before more much table → (attributes : List Attributed) (head : Head)
    → size_said more attributes head ≡ size_said before attributes head + much_at much table head
size_said-grows before more much table h attributes (Table name) = h name
size_said-grows before more much table h attributes (Sequence name) = sym (add-zero (size_said before attributes (Sequence name)))
size_said-grows before more much table h attributes Malformed = sym (add-zero 0)
size_said-grows before more much table h attributes (Field name t kind) = sym (add-zero 0)
size_said-grows before more much table h attributes (Index name t) = sym (add-zero 0)

total-grows : (before more xs : List Item) (much : ℕ) (table : List ℕ) → Grows before more much table
    → total (size_of more) xs ≡ total (size_of before) xs + for_each_same much table (tables_in xs)
total-grows before more xs much table h =
    total-along (λ (i : Item). size_of before i + much_at much table i.head) (size_of more) (λ i. size_said-grows before more much table h i.attributes i.head) xs
    ∙ total-plus (size_of before) (λ (i : Item). much_at much table i.head) xs
    ∙ ap (λ n. total (size_of before) xs + n) (much_at-total much table xs)

-- one existing table grows, and the total grows by the same number
grows_once : (before more : List Item) (much : ℕ) (table : List ℕ) → IsSoundSoFar before → is_among table (tables_in before) ≡ true → Grows before more much table
    → total (size_of more) before ≡ total (size_of before) before + much
grows_once before more much table s there h =
    total-grows before more before much table h ∙ ap (λ n. total (size_of before) before + n) (for_each_same-once much table (tables_in before) there s.tables_once)

-- ---- fields

fields_in_text-push : (before : List Item) (item : Item) (t : List ℕ) → fields_in_text (before ++ item ∷ []) t ≡ fields_in_text before t ++ (field_said t item.attributes item.head ++ [])
fields_in_text-push before item t = flat_map-append (λ (i : Item). field_said t i.attributes i.head) before (item ∷ [])

field_said-same : (a b : List ℕ) → same_name a b ≡ true → (attributes : List Attributed) (head : Head) → field_said a attributes head ≡ field_said b attributes head
field_said-same a b h attributes (Field name table kind) = ap (λ c. cond c (ordered_field name kind attributes ∷ []) []) (same_name-right table a b h)
field_said-same a b h attributes (Table name) = refl
field_said-same a b h attributes (Index name table) = refl
field_said-same a b h attributes Malformed = refl
field_said-same a b h attributes (Sequence name) = refl

fields_in_text-same : (items : List Item) (a b : List ℕ) → same_name a b ≡ true → fields_in_text items a ≡ fields_in_text items b
fields_in_text-same items a b h = flat_map-along (λ (i : Item). field_said a i.attributes i.head) (λ (i : Item). field_said b i.attributes i.head) (λ i. field_said-same a b h i.attributes i.head) items

pub fields_of-same : (items : List Item) (a b : List ℕ) → same_name a b ≡ true → fields_of items a ≡ fields_of items b
fields_of-same items a b h = ap (λ (fs : List Ordered). map (λ f. f.field) (by_order fs)) (fields_in_text-same items a b h)

-- the names of a table's fields
pub fields_in_text-names : (items : List Item) (t : List ℕ) → field_names (map field_in (fields_in_text items t)) ≡ fields_in items t
fields_in_text-names [] t = refl
fields_in_text-names (i ∷ is) t = one i.attributes i.head (fields_in_text-names is t)
  where
    one_field : (name : List ℕ) (kind : Option Kind) (attributes : List Attributed) (b : Bool) → field_names (map field_in (fields_in_text is t)) ≡ fields_in is t
        → field_names (map field_in (cond b (ordered_field name kind attributes ∷ []) [] ++ fields_in_text is t)) ≡ cond b (name ∷ []) [] ++ fields_in is t
    one_field name kind attributes true again = ap (λ (ns : List (List ℕ)). name ∷ ns) again
    one_field name kind attributes false again = again

    one : (attributes : List Attributed) (head : Head) → field_names (map field_in (fields_in_text is t)) ≡ fields_in is t
        → field_names (map field_in (field_said t attributes head ++ fields_in_text is t)) ≡ field_name t head ++ fields_in is t
    one attributes (Field name table kind) again = one_field name kind attributes (same_name table t) again
    one attributes (Table name) again = again
    one attributes (Index name table) again = again
    one attributes Malformed again = again
    one attributes (Sequence name) again = again

-- ---- one more item that is no field leaves the fields

abbrev pub IsNoField : Head → Type 0
IsNoField (Field name table kind) = ⊥
IsNoField head = Unit {0}

no_field_said : (t : List ℕ) (attributes : List Attributed) (head : Head) → IsNoField head → field_said t attributes head ≡ []
no_field_said t attributes (Field name table kind) h = absurd h
no_field_said t attributes (Table name) h = refl
no_field_said t attributes (Index name table) h = refl
no_field_said t attributes Malformed h = refl
no_field_said t attributes (Sequence name) h = refl

fields_in_text-stay : (before : List Item) (item : Item) (t : List ℕ) → IsNoField item.head → fields_in_text (before ++ item ∷ []) t ≡ fields_in_text before t
fields_in_text-stay before item t h =
    fields_in_text-push before item t ∙ ap (λ (fs : List Ordered). fields_in_text before t ++ (fs ++ [])) (no_field_said t item.attributes item.head h) ∙ append-nil (fields_in_text before t)

indexes_size-push : (fields : List FieldDef) (t : List ℕ) (before : List Item) (item : Item) → indexes_size fields t (before ++ item ∷ []) ≡ indexes_size fields t before + length (index_text fields t item.attributes item.head)
indexes_size-push fields t before item =
    total-append (λ (i : Item). length (index_text fields t i.attributes i.head)) before (item ∷ [])
    ∙ ap (λ n. indexes_size fields t before + n) (add-zero (length (index_text fields t item.attributes item.head)))

table_size-no_field : (before : List Item) (item : Item) (t : List ℕ) → IsNoField item.head
    → table_size (before ++ item ∷ []) t ≡ table_size before t + length (index_text (fields_of before t) t item.attributes item.head)
table_size-no_field before item t h =
    ap (λ (fs : List Ordered). 3 + (length t + (total field_size fs + indexes_size (map (λ f. f.field) (by_order fs)) t (before ++ item ∷ [])))) (fields_in_text-stay before item t h)
    ∙ ap (λ n. 3 + (length t + (total field_size (fields_in_text before t) + n))) (indexes_size-push (fields_of before t) t before item)
    ∙ sum (length t) (total field_size (fields_in_text before t)) (indexes_size (fields_of before t) t before) (length (index_text (fields_of before t) t item.attributes item.head))
  where
    sum : (a b c d : ℕ) → 3 + (a + (b + (c + d))) ≡ 3 + (a + (b + c)) + d
    sum a b c d = omega arith

-- ---- one more field

-- the names of appended fields: those of the first list, then those of the second
names-append : (fs gs : List Ordered) → field_names (map field_in (fs ++ gs)) ≡ field_names (map field_in fs) ++ field_names (map field_in gs)
names-append [] gs = refl
names-append (f ∷ fs) gs = ap (λ (ns : List (List ℕ)). f.field.name ∷ ns) (names-append fs gs)

-- more fields do not change how the components of an index are found
found_alike : (before : List Item) (table t : List ℕ) (more : List Ordered) → IsSoundSoFar before → same_name table t ≡ true → has_twice (field_names (map field_in (fields_in_text before t ++ more))) ≡ false
    → (name : List ℕ) (a : Attribute) → not (lacks_field before (Index name table) a) ≡ true → AreFoundAlike (fields_of before t) (map field_in (by_order (fields_in_text before t ++ more))) a
found_alike before table t more s same once name (IndexField (Some c)) h =
    let fs = fields_in_text before t in
    let names = fields_in_text-names before t in
    let there : is_among c.field (field_names (map field_in fs)) ≡ true = ap (is_among c.field) (names ∙ sym (fields_in-same before table t same)) ∙ not-false (is_among c.field (fields_in before table)) (not-true (not (is_among c.field (fields_in before table))) h) in
    found-by_order (fs ++ more) c.field once ∙ ap (λ (gs : List FieldDef). found gs c.field) (map-append field_in fs more)
    ∙ found-append (map field_in fs) (map field_in more) c.field there
    ∙ sym (found-by_order fs c.field (ap has_twice names ∙ s.fields_once t))
found_alike before table t more s same once name (IndexField None) h = tt
found_alike before table t more s same once name (Initial g) h = tt
found_alike before table t more s same once name (Format g) h = tt
found_alike before table t more s same once name Mandatory h = tt
found_alike before table t more s same once name (Order g) h = tt
found_alike before table t more s same once name (Extent g) h = tt
found_alike before table t more s same once name Unique h = tt
found_alike before table t more s same once name Primary h = tt
found_alike before table t more s same once name Word h = tt
found_alike before table t more s same once name (Increment g) h = tt

all_found_alike : (before : List Item) (table t : List ℕ) (more : List Ordered) → IsSoundSoFar before → same_name table t ≡ true → has_twice (field_names (map field_in (fields_in_text before t ++ more))) ≡ false
    → (name : List ℕ) (as_ : List Attributed) → list_all (λ a. not (lacks_field before (Index name table) a.attribute)) as_ ≡ true → AllFoundAlike (fields_of before t) (map field_in (by_order (fields_in_text before t ++ more))) as_
all_found_alike before table t more s same once name [] h = tt
all_found_alike before table t more s same once name (a ∷ as_) h =
    let parts = and_parts (not (lacks_field before (Index name table) a.attribute)) (list_all (λ a. not (lacks_field before (Index name table) a.attribute)) as_) h in
    (found_alike before table t more s same once name a.attribute parts.0, all_found_alike before table t more s same once name as_ parts.1)

index_text-alike : (before : List Item) (t : List ℕ) (more : List Ordered) → IsSoundSoFar before → has_twice (field_names (map field_in (fields_in_text before t ++ more))) ≡ false
    → (attributes : List Attributed) (head : Head) → list_all (λ a. not (lacks_field before head a.attribute)) attributes ≡ true
    → index_text (map field_in (by_order (fields_in_text before t ++ more))) t attributes head ≡ index_text (fields_of before t) t attributes head
index_text-alike before t more s once attributes (Index name table) h = go (same_name table t) refl
  where
    go : (b : Bool) → same_name table t ≡ b → cond b (own_index_line (map field_in (by_order (fields_in_text before t ++ more))) name attributes) [] ≡ cond b (own_index_line (fields_of before t) name attributes) []
    go true same =
        own_index_line-alike (fields_of before t) (map field_in (by_order (fields_in_text before t ++ more))) name attributes (all_found_alike before table t more s same once name attributes h)
    go false other = refl
index_text-alike before t more s once attributes (Table name) h = refl
index_text-alike before t more s once attributes (Field name table kind) h = refl
index_text-alike before t more s once attributes Malformed h = refl
index_text-alike before t more s once attributes (Sequence name) h = refl

total-along_all : (p : Item → Bool) (much more : Item → ℕ) → ((i : Item) → p i ≡ true → more i ≡ much i) → (xs : List Item) → list_all p xs ≡ true → total more xs ≡ total much xs
total-along_all p much more h [] all = refl
total-along_all p much more h (x ∷ xs) all =
    let parts = and_parts (p x) (list_all p xs) all in
    ap (λ n. n + total more xs) (h x parts.0) ∙ ap (λ n. much x + n) (total-along_all p much more h xs parts.1)

indexes_size-alike : (before : List Item) (t : List ℕ) (more : List Ordered) → IsSoundSoFar before → has_twice (field_names (map field_in (fields_in_text before t ++ more))) ≡ false
    → indexes_size (map field_in (by_order (fields_in_text before t ++ more))) t before ≡ indexes_size (fields_of before t) t before
indexes_size-alike before t more s once =
    total-along_all (has_its_fields before) (λ (i : Item). length (index_text (fields_of before t) t i.attributes i.head)) (λ (i : Item). length (index_text (map field_in (by_order (fields_in_text before t ++ more))) t i.attributes i.head))
    (λ i h. ap length (index_text-alike before t more s once i.attributes i.head h)) before s.fields_stand

-- the size of a table grows by the sizes of its additional fields, if any
table_size-field : (before : List Item) (item : Item) (t : List ℕ) (more : List Ordered) → IsSoundSoFar before → fields_in_text (before ++ item ∷ []) t ≡ fields_in_text before t ++ more
    → has_twice (field_names (map field_in (fields_in_text before t ++ more))) ≡ false → ((fields : List FieldDef) → index_text fields t item.attributes item.head ≡ [])
    → table_size (before ++ item ∷ []) t ≡ table_size before t + total field_size more
table_size-field before item t more s is once none =
    let fs = fields_in_text before t in
    let fields = map field_in (by_order (fs ++ more)) in
    let one : total field_size (fs ++ more) ≡ total field_size fs + total field_size more = total-append field_size fs more in
    let two : indexes_size fields t (before ++ item ∷ []) ≡ indexes_size (fields_of before t) t before =
    indexes_size-push fields t before item ∙ ap (λ (xs : List ℕ). indexes_size fields t before + length xs) (none fields) ∙ add-zero (indexes_size fields t before) ∙ indexes_size-alike before t more s once in
    ap (λ (gs : List Ordered). 3 + (length t + (total field_size gs + indexes_size (map field_in (by_order gs)) t (before ++ item ∷ [])))) is
    ∙ sum (length t) (total field_size fs) (total field_size more) (total field_size (fs ++ more)) (indexes_size (fields_of before t) t before) (indexes_size fields t (before ++ item ∷ [])) one two
  where
    sum : (a b c d e f : ℕ) → d ≡ b + c → f ≡ e → 3 + (a + (d + f)) ≡ 3 + (a + (b + e)) + c
    sum a b c d e f hd hf = omega arith

-- ---- the five kinds of item

-- what an item's first line must not break
pub record Stands (before : List Item) (head : Head) : Type 0 where
  pub new_table : repeats_table before head ≡ false
  pub has_table : lacks_table before head ≡ false
  pub new_field : repeats_field before head ≡ false

field_grows : (before : List Item) (line : ℕ) (attributes : List Attributed) (name table : List ℕ) (kind : Option Kind) → IsSoundSoFar before → is_among name (fields_in before table) ≡ false
    → Grows before (before ++ record { line = line; head = Field name table kind; attributes = attributes } ∷ []) (length (field_line (ordered_field name kind attributes).field)) table
field_grows before line attributes name table kind s new t = go (same_name table t) refl
  where
    item : Item
    item = record { line = line; head = Field name table kind; attributes = attributes }

    field : Ordered
    field = ordered_field name kind attributes

    names : (more : List Ordered) → field_names (map field_in (fields_in_text before t ++ more)) ≡ fields_in before t ++ field_names (map field_in more)
    names more = names-append (fields_in_text before t) more ∙ ap (λ (ns : List (List ℕ)). ns ++ field_names (map field_in more)) (fields_in_text-names before t)

    is_field : (b : Bool) → same_name table t ≡ b → fields_in_text (before ++ item ∷ []) t ≡ fields_in_text before t ++ (cond b (field ∷ []) [] ++ [])
    is_field b h = fields_in_text-push before item t ∙ ap (λ c. fields_in_text before t ++ (cond c (field ∷ []) [] ++ [])) h

    go : (b : Bool) → same_name table t ≡ b → table_size (before ++ item ∷ []) t ≡ table_size before t + cond b (length (field_line field.field)) 0
    go true h =
        table_size-field before item t (field ∷ []) s (is_field true h)
        (ap has_twice (names (field ∷ [])) ∙ has_twice_push (fields_in before t) name (s.fields_once t) (ap (is_among name) (sym (fields_in-same before table t h)) ∙ new))
        (λ fields. refl) ∙ ap (λ n. table_size before t + n) (add-zero (field_size field))
    go false h =
        table_size-field before item t [] s (is_field false h) (ap has_twice (names [] ∙ append-nil (fields_in before t)) ∙ s.fields_once t) (λ fields. refl)

index_grows : (before : List Item) (line : ℕ) (attributes : List Attributed) (name table : List ℕ)
    → Grows before (before ++ record { line = line; head = Index name table; attributes = attributes } ∷ []) (length (own_index_line (fields_of before table) name attributes)) table
index_grows before line attributes name table t =
    table_size-no_field before (record { line = line; head = Index name table; attributes = attributes }) t tt ∙ ap (λ n. table_size before t + n) (go (same_name table t) refl)
  where
    go : (b : Bool) → same_name table t ≡ b → length (cond b (own_index_line (fields_of before t) name attributes) []) ≡ cond b (length (own_index_line (fields_of before table) name attributes)) 0
    go true h = ap (λ (fs : List FieldDef). length (own_index_line fs name attributes)) (sym (fields_of-same before table t h))
    go false h = refl

-- an item that adds to no table
total-stays : (before : List Item) (item : Item) → IsNoField item.head → ((fields : List FieldDef) (t : List ℕ) → index_text fields t item.attributes item.head ≡ [])
    → total (size_of (before ++ item ∷ [])) before ≡ total (size_of before) before
total-stays before item h none =
    total-along (size_of before) (size_of (before ++ item ∷ [])) (λ i. one i.attributes i.head) before
  where
    table : (t : List ℕ) → table_size (before ++ item ∷ []) t ≡ table_size before t
    table t = table_size-no_field before item t h ∙ ap (λ (xs : List ℕ). table_size before t + length xs) (none (fields_of before t) t) ∙ add-zero (table_size before t)

    one : (attributes : List Attributed) (head : Head) → size_said (before ++ item ∷ []) attributes head ≡ size_said before attributes head
    one attributes (Table name) = table name
    one attributes (Field name t kind) = refl
    one attributes (Index name t) = refl
    one attributes Malformed = refl
    one attributes (Sequence name) = refl

-- ---- a new table has nothing yet

module _ (before : List Item) (name : List ℕ) (new : is_among name (tables_in before) ≡ false) where
  other_table : (table : List ℕ) → not (not (is_among table (tables_in before))) ≡ true → same_name table name ≡ false
  other_table table h =
      false_from_ne_true (same_name table name) (λ same. both_ways (is_among table (tables_in before)) (is_among-same table name same (tables_in before) ∙ new) (not-false (is_among table (tables_in before)) (not-true (not (is_among table (tables_in before))) h)))

  no_field_yet : (attributes : List Attributed) (head : Head) → not (lacks_table before head) ≡ true → field_said name attributes head ≡ []
  no_field_yet attributes (Field f table kind) h = ap (λ b. cond b (ordered_field f kind attributes ∷ []) []) (other_table table h)
  no_field_yet attributes (Table t) h = refl
  no_field_yet attributes (Index i table) h = refl
  no_field_yet attributes Malformed h = refl
  no_field_yet attributes (Sequence t) h = refl

  no_index_yet : (fields : List FieldDef) (attributes : List Attributed) (head : Head) → not (lacks_table before head) ≡ true → index_text fields name attributes head ≡ []
  no_index_yet fields attributes (Index i table) h = ap (λ b. cond b (own_index_line fields i attributes) []) (other_table table h)
  no_index_yet fields attributes (Table t) h = refl
  no_index_yet fields attributes (Field f table kind) h = refl
  no_index_yet fields attributes Malformed h = refl
  no_index_yet fields attributes (Sequence t) h = refl

  no_fields_yet : (xs : List Item) → list_all (has_its_table before) xs ≡ true → fields_in_text xs name ≡ []
  no_fields_yet [] h = refl
  no_fields_yet (x ∷ xs) h =
      let parts = and_parts (has_its_table before x) (list_all (has_its_table before) xs) h in
      ap (λ (fs : List Ordered). fs ++ fields_in_text xs name) (no_field_yet x.attributes x.head parts.0) ∙ no_fields_yet xs parts.1

  no_indexes_yet : (fields : List FieldDef) (xs : List Item) → list_all (has_its_table before) xs ≡ true → indexes_size fields name xs ≡ 0
  no_indexes_yet fields [] h = refl
  no_indexes_yet fields (x ∷ xs) h =
      let parts = and_parts (has_its_table before x) (list_all (has_its_table before) xs) h in
      ap (λ (ys : List ℕ). length ys + indexes_size fields name xs) (no_index_yet fields x.attributes x.head parts.0) ∙ zero-add (indexes_size fields name xs) ∙ no_indexes_yet fields xs parts.1

  pub new_table-size : list_all (has_its_table before) before ≡ true → table_size before name ≡ length (codes "T " ++ folded name ++ 10 ∷ [])
  new_table-size h =
      ap (λ (fs : List Ordered). 3 + (length name + (total field_size fs + indexes_size (fields_of before name) name before))) (no_fields_yet before h)
      ∙ sum (length name) (indexes_size (fields_of before name) name before) (length (folded name)) (length (codes "T " ++ folded name ++ 10 ∷ []))
      (no_indexes_yet (fields_of before name) before h) (length-map name folded_byte) (length-append (codes "T " ++ folded name) (10 ∷ [])) (length-append (codes "T ") (folded name))
    where
      sum : (a b c d : ℕ) → b ≡ 0 → c ≡ a → d ≡ length (codes "T " ++ folded name) + 1 → length (codes "T " ++ folded name) ≡ 2 + c → 3 + (a + (0 + b)) ≡ d
      sum a b c d hb hc hd he = omega arith

one_more : (before : List Item) (line : ℕ) (attributes : List Attributed) (head : Head) → IsSoundSoFar before → Stands before head
    → total (size_of (before ++ record { line = line; head = head; attributes = attributes } ∷ [])) before + size_said (before ++ record { line = line; head = head; attributes = attributes } ∷ []) attributes head
    ≡ total (size_of before) before + length (line_said before attributes head)
one_more before line attributes (Table name) s h =
    let item : Item = record { line = line; head = Table name; attributes = attributes } in
    let stays = total-stays before item tt (λ fields t. refl) in
    let size = table_size-no_field before item name tt ∙ add-zero (table_size before name) ∙ new_table-size before name h.new_table s.tables_stand in
    ap (λ n. n + table_size (before ++ item ∷ []) name) stays ∙ ap (λ n. total (size_of before) before + n) size
one_more before line attributes (Field name table kind) s h =
    let item : Item = record { line = line; head = Field name table kind; attributes = attributes } in
    add-zero (total (size_of (before ++ item ∷ [])) before)
    ∙ grows_once before (before ++ item ∷ []) (length (field_line (ordered_field name kind attributes).field)) table s (not-false (is_among table (tables_in before)) h.has_table)
    (field_grows before line attributes name table kind s h.new_field)
one_more before line attributes (Index name table) s h =
    let item : Item = record { line = line; head = Index name table; attributes = attributes } in
    add-zero (total (size_of (before ++ item ∷ [])) before)
    ∙ grows_once before (before ++ item ∷ []) (length (own_index_line (fields_of before table) name attributes)) table s (not-false (is_among table (tables_in before)) h.has_table)
    (index_grows before line attributes name table)
one_more before line attributes Malformed s h =
    ap (λ n. n + 0) (total-stays before (record { line = line; head = Malformed; attributes = attributes }) tt (λ fields t. refl))
one_more before line attributes (Sequence name) s h =
    ap (λ n. n + length (line_said before attributes (Sequence name))) (total-stays before (record { line = line; head = Sequence name; attributes = attributes }) tt (λ fields t. refl))

-- one more item adds the bytes of its own line
pub canonical_text-one_more : (before : List Item) (item : Item) → first_after [] before ≡ None → Stands before item.head
    → length (canonical_text (schema_of (before ++ item ∷ []))) ≡ length (canonical_text (schema_of before)) + length (item_line before item)
canonical_text-one_more before item h k =
    canonical_text-length (before ++ item ∷ []) ∙ total-append (size_of (before ++ item ∷ [])) before (item ∷ [])
    ∙ ap (λ n. total (size_of (before ++ item ∷ [])) before + n) (add-zero (size_of (before ++ item ∷ []) item))
    ∙ one_more before item.line item.attributes item.head (is_sound before h) k
    ∙ ap (λ n. n + length (item_line before item)) (sym (canonical_text-length before))

-- ---- an index's line by the fields as they stand in the text

all_alike : (fields more : List FieldDef) → ((name : List ℕ) → found more name ≡ found fields name) → (as_ : List Attributed) → AllFoundAlike fields more as_
all_alike fields more h [] = tt
all_alike fields more h (a ∷ as_) = (one a.attribute, all_alike fields more h as_)
  where
    one : (a : Attribute) → AreFoundAlike fields more a
    one (IndexField (Some c)) = h c.field
    one (IndexField None) = tt
    one (Initial g) = tt
    one (Format g) = tt
    one Mandatory = tt
    one (Order g) = tt
    one (Extent g) = tt
    one Unique = tt
    one Primary = tt
    one Word = tt
    one (Increment g) = tt

pub own_index_line-in_text : (before : List Item) (table name : List ℕ) (attributes : List Attributed) → first_after [] before ≡ None
    → own_index_line (fields_of before table) name attributes ≡ found_index_line (map field_in (fields_in_text before table)) name attributes
own_index_line-in_text before table name attributes h =
    let fs = fields_in_text before table in
    let once : has_twice (field_names (map field_in fs)) ≡ false = ap has_twice (fields_in_text-names before table) ∙ (is_sound before h).fields_once table in
    own_index_line-found (fields_of before table) name attributes
    ∙ found_index_line-alike (map field_in fs) (fields_of before table) name attributes (all_alike (map field_in fs) (fields_of before table) (λ c. found-by_order fs c once) attributes)
