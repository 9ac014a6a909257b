-- The canonical text of the schema that items mean, item by item, and how long it is.
use Rattle.std.proofs.Common.{◌≡◌, ℕ, ◌+◌, Bool, true, false, ◌&&◌, if◌then◌else◌, cond, List, [], ◌∷◌, ◌++◌, length, map, Option, refl, sym, ap, ◌∙◌, arith, length-append, zero-add, add-zero, add_assoc}
use Rattle.std.specs.Prelude.{codes, nat_le}
use Rattle.std.proofs.lemmas.List.{length-map}
use Rattle.std.specs.List.{flat_map}
use Rattle.abl_values.specs.declared.schema.FieldDef.{FieldDef}
use Rattle.abl_values.specs.declared.schema.IndexDef.{IndexDef}
use Rattle.abl_values.specs.declared.schema.TableDef.{TableDef}
use Rattle.abl_values.specs.declared.schema.SequenceDef.{SequenceDef}
use Rattle.schema_lines.specs.declared.item.Head.{Head}
use Rattle.schema_lines.specs.declared.item.Head.TheVariants.{Malformed, Table, Field, Index, Sequence}
use Rattle.schema_lines.specs.declared.item.Attributed.{Attributed}
use Rattle.schema_lines.specs.declared.item.Item.{Item}
use Rattle.schema_lines.specs.Attributes.{increment_of, start_of}
use Rattle.abl_values.specs.Order.{folded, folded_byte}
use Rattle.abl_values.specs.Schema.{canonical_text, field_line, index_line, index_lines, is_number, letter, lines_in_order, part_text, same_name, sequence_line, table_lines}
use Rattle.schema_reader.specs.Meaning.{Listed, Ordered, by_order, fields_in_text, fields_of, index_said, indexes_of, is_usable, listed_index, order_said, placed, primary_of, schema_of, sequence_said, table_def, table_said}
use Rattle.schema_reader.proofs.SizesFound.{own_index_line}

-- ---- item by item

-- what the canonical text has of an item
abbrev pub text_said : List Item → List Attributed → Head → List ℕ
text_said items attributes (Table name) = table_lines (table_def items name)
text_said items attributes (Sequence name) =
    sequence_line (record { name = name; initial = start_of attributes; increment = increment_of attributes })
text_said items attributes head = []

one_in_order : (items : List Item) (attributes : List Attributed) (head : Head) (order : List Bool) (tables : List TableDef) (sequences : List SequenceDef)
    → lines_in_order (order_said head ++ order) (table_said items head ++ tables) (sequence_said attributes head ++ sequences) ≡ text_said items attributes head ++ lines_in_order order tables sequences
unfolding lines_in_order
one_in_order items attributes (Table name) order tables sequences = refl
one_in_order items attributes (Sequence name) order tables sequences = refl
one_in_order items attributes Malformed order tables sequences = refl
one_in_order items attributes (Field name table kind) order tables sequences = refl
one_in_order items attributes (Index name table) order tables sequences = refl

all_in_order : (items xs : List Item) → lines_in_order (flat_map (λ i. order_said i.head) xs) (flat_map (λ i. table_said items i.head) xs) (flat_map (λ i. sequence_said i.attributes i.head) xs)
    ≡ flat_map (λ i. text_said items i.attributes i.head) xs
unfolding lines_in_order
all_in_order items [] = refl
all_in_order items (i ∷ is) =
    one_in_order items i.attributes i.head (flat_map (λ i. order_said i.head) is) (flat_map (λ i. table_said items i.head) is) (flat_map (λ i. sequence_said i.attributes i.head) is)
    ∙ ap (λ (xs : List ℕ). text_said items i.attributes i.head ++ xs) (all_in_order items is)

pub canonical_text-items : (items : List Item) → canonical_text (schema_of items) ≡ flat_map (λ i. text_said items i.attributes i.head) items
unfolding canonical_text schema_of
canonical_text-items items = all_in_order items items

-- ---- sums

abbrev pub total : {X : Type 0} → (X → ℕ) → List X → ℕ
total much [] = 0
total much (x ∷ xs) = much x + total much xs

pub total-append : {X : Type 0} (much : X → ℕ) (xs ys : List X) → total much (xs ++ ys) ≡ total much xs + total much ys
total-append much [] ys = sym (zero-add (total much ys))
total-append much (x ∷ xs) ys = ap (λ n. much x + n) (total-append much xs ys) ∙ sym (add_assoc (much x) (total much xs) (total much ys))

pub total-along : {X : Type 0} (much more : X → ℕ) → ((x : X) → more x ≡ much x) → (xs : List X) → total more xs ≡ total much xs
total-along much more h [] = refl
total-along much more h (x ∷ xs) = ap (λ n. n + total more xs) (h x) ∙ ap (λ n. much x + n) (total-along much more h xs)

pub total-plus : {X : Type 0} (much more : X → ℕ) (xs : List X) → total (λ x. much x + more x) xs ≡ total much xs + total more xs
total-plus much more [] = sym (zero-add 0)
total-plus much more (x ∷ xs) =
    let again = total-plus much more xs in
    omega arith

pub length-flat_map : {X : Type 0} (text : X → List ℕ) (xs : List X) → length (flat_map text xs) ≡ total (λ x. length (text x)) xs
length-flat_map text [] = refl
length-flat_map text (x ∷ xs) = length-append (text x) (flat_map text xs) ∙ ap (λ n. length (text x) + n) (length-flat_map text xs)

pub total-flat_map : {X Y : Type 0} (much : Y → ℕ) (pieces : X → List Y) (xs : List X) → total much (flat_map pieces xs) ≡ total (λ x. total much (pieces x)) xs
total-flat_map much pieces [] = refl
total-flat_map much pieces (x ∷ xs) = total-append much (pieces x) (flat_map pieces xs) ∙ ap (λ n. total much (pieces x) + n) (total-flat_map much pieces xs)

-- ---- fields

total-placed : (much : Ordered → ℕ) (f : Ordered) (gs : List Ordered) → total much (placed f gs) ≡ much f + total much gs
total-placed much f [] = refl
total-placed much f (g ∷ gs) = go (nat_le f.order g.order) (total-placed much f gs)
  where
    go : (b : Bool) → total much (placed f gs) ≡ much f + total much gs → total much (cond b (f ∷ g ∷ gs) (g ∷ placed f gs)) ≡ much f + (much g + total much gs)
    go true again = refl
    go false again = omega arith

pub total-by_order : (much : Ordered → ℕ) (fs : List Ordered) → total much (by_order fs) ≡ total much fs
total-by_order much [] = refl
total-by_order much (f ∷ fs) = total-placed much f (by_order fs) ∙ ap (λ n. much f + n) (total-by_order much fs)

-- how long a field's line is
abbrev pub field_size : Ordered → ℕ
field_size f = length (field_line f.field)

field_lines-length : (fs : List Ordered) → length (flat_map field_line (map (λ f. f.field) fs)) ≡ total field_size fs
field_lines-length [] = refl
field_lines-length (f ∷ fs) = length-append (field_line f.field) (flat_map field_line (map (λ f. f.field) fs)) ∙ ap (λ n. field_size f + n) (field_lines-length fs)

-- ---- indexes

one_letter : (xs ys zs : List ℕ) (a b : ℕ) → length (xs ++ 32 ∷ a ∷ [] ++ ys ++ zs) ≡ length (xs ++ 32 ∷ b ∷ [] ++ ys ++ zs)
one_letter xs ys zs a b =
    length-append (xs ++ 32 ∷ a ∷ [] ++ ys) zs ∙ ap (λ n. n + length zs) (length-append (xs ++ 32 ∷ a ∷ []) ys ∙ ap (λ n. n + length ys) (length-append xs (32 ∷ a ∷ []) ∙ sym (length-append xs (32 ∷ b ∷ []))) ∙ sym (length-append (xs ++ 32 ∷ b ∷ []) ys))
    ∙ sym (length-append (xs ++ 32 ∷ b ∷ [] ++ ys) zs)

index_line-length : (fields : List FieldDef) (primary : Bool) (i : IndexDef) → length (index_line fields primary i) ≡ length (index_line fields false i)
index_line-length fields true i = one_letter (codes "I " ++ folded i.name ++ 32 ∷ letter i.unique 85 78) (flat_map (part_text fields) i.parts) (10 ∷ []) 80 78
index_line-length fields false i = refl

abbrev pub listed_size : List FieldDef → Listed → ℕ
listed_size fields l = length (index_line fields false l.index)

index_lines-length : (fields : List FieldDef) (primary : Option ℕ) (n : ℕ) (ls : List Listed) → length (index_lines fields primary n (map (λ l. l.index) ls)) ≡ total (listed_size fields) ls
index_lines-length fields primary n [] = refl
index_lines-length fields primary n (l ∷ ls) =
    length-append (index_line fields (is_number primary n) l.index) (index_lines fields primary (n + 1) (map (λ l. l.index) ls))
    ∙ ap (λ k. k + length (index_lines fields primary (n + 1) (map (λ l. l.index) ls))) (index_line-length fields (is_number primary n) l.index)
    ∙ ap (λ k. listed_size fields l + k) (index_lines-length fields primary (n + 1) ls)

-- an item's line as an index of this table
abbrev pub index_text : List FieldDef → List ℕ → List Attributed → Head → List ℕ
index_text fields t attributes (Index name table) = if same_name table t then own_index_line fields name attributes else []
index_text fields t attributes head = []

one_listed : (fields : List FieldDef) (name : List ℕ) (attributes : List Attributed) (same usable : Bool)
    → total (listed_size fields) (cond (same && usable) (listed_index fields name attributes ∷ []) []) ≡ length (cond same (cond usable (index_line fields false (listed_index fields name attributes).index) []) [])
one_listed fields name attributes true true = add-zero (listed_size fields (listed_index fields name attributes))
one_listed fields name attributes true false = refl
one_listed fields name attributes false usable = refl

index_said-length : (fields : List FieldDef) (t : List ℕ) (attributes : List Attributed) (head : Head) → total (listed_size fields) (index_said fields t attributes head) ≡ length (index_text fields t attributes head)
index_said-length fields t attributes (Index name table) = one_listed fields name attributes (same_name table t) (is_usable fields attributes)
index_said-length fields t attributes Malformed = refl
index_said-length fields t attributes (Table name) = refl
index_said-length fields t attributes (Field name table kind) = refl
index_said-length fields t attributes (Sequence name) = refl

-- how long the lines of these items are as indexes of this table
abbrev pub indexes_size : List FieldDef → List ℕ → List Item → ℕ
indexes_size fields t items = total (λ i. length (index_text fields t i.attributes i.head)) items

indexes_of-length : (fields : List FieldDef) (t : List ℕ) (items : List Item) → total (listed_size fields) (indexes_of items fields t) ≡ indexes_size fields t items
indexes_of-length fields t items =
    total-flat_map (listed_size fields) (λ (i : Item). index_said fields t i.attributes i.head) items
    ∙ total-along (λ (i : Item). length (index_text fields t i.attributes i.head)) (λ (i : Item). total (listed_size fields) (index_said fields t i.attributes i.head)) (λ i. index_said-length fields t i.attributes i.head) items

-- ---- tables

-- how long the lines of a table are
abbrev pub table_size : List Item → List ℕ → ℕ
table_size items t = 3 + (length t + (total field_size (fields_in_text items t) + indexes_size (fields_of items t) t items))

pub table_lines-length : (items : List Item) (t : List ℕ) → length (table_lines (table_def items t)) ≡ table_size items t
table_lines-length items t = joined (folded t) (flat_map field_line fields) (index_lines fields primary 0 (map (λ l. l.index) listed)) (length t) (total field_size (fields_in_text items t)) (indexes_size fields t items)
    (length-map t folded_byte) (field_lines-length (by_order (fields_in_text items t)) ∙ total-by_order field_size (fields_in_text items t)) (index_lines-length fields primary 0 listed ∙ indexes_of-length fields t items)
  where
    fields : List FieldDef
    fields = fields_of items t

    listed : List Listed
    listed = indexes_of items (fields_of items t) t

    primary : Option ℕ
    primary = primary_of (indexes_of items (fields_of items t) t)

    joined : (name lines more : List ℕ) (a b c : ℕ) → length name ≡ a → length lines ≡ b → length more ≡ c → length (codes "T " ++ name ++ 10 ∷ lines ++ more) ≡ 3 + (a + (b + c))
    joined name lines more a b c ha hb hc =
        let one = length-append (codes "T " ++ name ++ 10 ∷ lines) more in
        let two = length-append (codes "T " ++ name) (10 ∷ lines) in
        let three = length-append (codes "T ") name in
        omega arith
