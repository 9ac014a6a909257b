-- A file without violation means a sound schema.
use Rattle.std.proofs.Common.{◌≡◌, ℕ, ◌+◌, ◌<◌, ◌≤◌, Bool, true, false, not, ◌&&◌, ◌||◌, if◌then◌else◌, cond, List, [], ◌∷◌, ◌++◌, length, map, Option, Some, None, refl, sym, ap, subst, ◌∙◌, arith}
use Rattle.std.specs.Prelude.{IfSome, codes, count_by, is_some, nat_le, position}
use Rattle.std.specs.List.{AllByRecursion, flat_map, list_all}
use Rattle.std.proofs.lemmas.Bool.{and_parts, not_from_false, or_from, or_parts}
use Rattle.std.proofs.lemmas.List.{length-map}
use Rattle.std.proofs.lemmas.List.Elements.{All-from_recursion}
use Rattle.std.proofs.lemmas.List.Quantifiers.{position-Some}
use Rattle.abl_base.specs.declared.value.Kind.{Kind}
use Rattle.abl_values.specs.declared.schema.FieldDef.{FieldDef}
use Rattle.abl_values.specs.declared.schema.KeyPart.{KeyPart}
use Rattle.abl_values.specs.declared.schema.IndexDef.{IndexDef}
use Rattle.abl_values.specs.declared.schema.TableDef.{TableDef}
use Rattle.abl_values.specs.declared.schema.SequenceDef.{SequenceDef}
use Rattle.abl_values.specs.Schema.{field_names, number_of_name, same_name}
use Rattle.schema_lines.specs.declared.item.Component.{Component}
use Rattle.schema_lines.specs.declared.item.Head.{Head}
use Rattle.schema_lines.specs.declared.item.Head.TheVariants.{Malformed, Table, Field, Index, Sequence}
use Rattle.schema_lines.specs.declared.item.Attribute.{Attribute}
use Rattle.schema_lines.specs.declared.item.Attribute.TheVariants.{Initial, Format, Mandatory, Order, Extent, Unique, Primary, Word, IndexField, Increment}
use Rattle.schema_lines.specs.declared.item.Attributed.{Attributed}
use Rattle.schema_lines.specs.declared.item.Item.{Item}
use Rattle.schema_lines.specs.declared.item.Line.{Line}
use Rattle.schema_lines.specs.declared.item.Line.TheVariants.{Skipped, Begins, Says}
use Rattle.schema_lines.specs.Attributes.{format_of, kind_of}
use Rattle.schema_lines.specs.Files.{Lot, gathered, items_of, line_before}
use Rattle.schema_lines.specs.Forms.{added, attribute_line, component, given, said, text_given}
use Rattle.schema_lines.specs.Initials.{mask_of}
use Rattle.schema_lines.specs.Lines.{after_word, begins, lines_of, quote_of, word_of}
use Rattle.abl_values.specs.Names.{is_name}
use Rattle.schema_lines.specs.Numbers.{long_number, small_number}
use Rattle.schema_reader.specs.Meaning.{Listed, Ordered, by_order, fields_in_text, fields_of, field_said, first_number, index_said, indexes_of, is_usable, listed_index, order_said, ordered_field, part_named, part_of, part_said, parts_of, placed, primary_of, schema_of, sequence_said, table_def, table_said}
use Rattle.schema_reader.specs.Rules.{first_after, is_misnamed, violation_of}
use Rattle.abl_values.specs.Sound.{has_twice, is_among, IsSound, IsSoundField, IsSoundIndex, IsSoundSequence, IsSoundTable}
use Rattle.schema_reader.specs.Laws.{SchemasOfFilesAreSound}
use Rattle.schema_reader.proofs.SizesNames.{same_name-swap}
use Rattle.schema_reader.proofs.SizesSound.{IsSoundSoFar, all_more, grown, is_sound}
use Rattle.schema_reader.proofs.SizesFound.{field_in}
use Rattle.schema_reader.proofs.SizesAdded.{fields_in_text-names}
use Rattle.schema_reader.proofs.ObservableGiven.{AreGoodAttributes, IsGoodAttribute, increment_of-fits, initial_of-fits, long_fits, start_of-fits}
use Rattle.schema_reader.proofs.ObservableLines.{AreSoundFields, AreWithin}
use Rattle.schema_reader.proofs.ObservableTables.{AreSoundIndexes, one_more}
use Rattle.schema_reader.proofs.KeptItems.{within_limits}

-- ---- names

not_not : (b : Bool) → not (not b) ≡ true → b ≡ true
not_not true h = refl
not_not false h = h

-- the item's names are names
abbrev pub is_named : Item → Bool
is_named i = not (is_misnamed i.head)

pub are_named : (items : List Item) → first_after [] items ≡ None → list_all is_named items ≡ true
are_named items h =
    grown (λ before. list_all is_named before ≡ true) (λ before item p k. all_more is_named before item p (not_from_false (is_misnamed item.head) k.head.1.0)) [] items refl h

-- ---- what lines say

abbrev IsGoodLine : Line → Type 0
IsGoodLine (Says a) = IsGoodAttribute a
IsGoodLine line = Unit {0}

either_line : (b : Bool) (x y : Line) → IsGoodLine x → IsGoodLine y → IsGoodLine (cond b x y)
either_line true x y h k = h
either_line false x y h k = k

attribute_line-good : (line : List ℕ) → IsGoodLine (attribute_line line)
attribute_line-good line =
    let increment : Line = if begins (codes "INCREMENT") line then Says (Increment (long_number (text_given (given (after_word line))))) else Skipped in
    let increment_good : IsGoodLine increment = either_line (begins (codes "INCREMENT") line) (Says (Increment (long_number (text_given (given (after_word line)))))) Skipped (long_fits (text_given (given (after_word line)))) tt in
    let field : Line = if begins (codes "INDEX-FIELD") line then Says (IndexField (component (quote_of (after_word line)))) else increment in
    let field_good : IsGoodLine field = either_line (begins (codes "INDEX-FIELD") line) (Says (IndexField (component (quote_of (after_word line))))) increment tt increment_good in
    let word : Line = if begins (codes "WORD") line then Says Word else field in
    let word_good : IsGoodLine word = either_line (begins (codes "WORD") line) (Says Word) field tt field_good in
    let primary : Line = if begins (codes "PRIMARY") line then Says Primary else word in
    let primary_good : IsGoodLine primary = either_line (begins (codes "PRIMARY") line) (Says Primary) word tt word_good in
    let unique : Line = if begins (codes "UNIQUE") line then Says Unique else primary in
    let unique_good : IsGoodLine unique = either_line (begins (codes "UNIQUE") line) (Says Unique) primary tt primary_good in
    let extent : Line = if begins (codes "EXTENT") line then Says (Extent (small_number (word_of (after_word line)))) else unique in
    let extent_good : IsGoodLine extent = either_line (begins (codes "EXTENT") line) (Says (Extent (small_number (word_of (after_word line))))) unique tt unique_good in
    let order : Line = if begins (codes "ORDER") line then Says (Order (small_number (word_of (after_word line)))) else extent in
    let order_good : IsGoodLine order = either_line (begins (codes "ORDER") line) (Says (Order (small_number (word_of (after_word line))))) extent tt extent_good in
    let mandatory : Line = if begins (codes "MANDATORY") line then Says Mandatory else order in
    let mandatory_good : IsGoodLine mandatory = either_line (begins (codes "MANDATORY") line) (Says Mandatory) order tt order_good in
    let format : Line = if begins (codes "FORMAT") line then Says (Format (text_given (given (after_word line)))) else mandatory in
    let format_good : IsGoodLine format = either_line (begins (codes "FORMAT") line) (Says (Format (text_given (given (after_word line))))) mandatory tt mandatory_good in
    let initial : Line = if begins (codes "INITIAL") line then Says (Initial (given (after_word line))) else format in
    let initial_good : IsGoodLine initial = either_line (begins (codes "INITIAL") line) (Says (Initial (given (after_word line)))) format tt format_good in
    initial_good

said-good : (line : List ℕ) → IsGoodLine (said line)
unfolding said
said-good line =
    either_line (begins (codes "ADD") line) (Begins (added (after_word line))) (cond (begins (codes "UPDATE") line || (begins (codes "DROP") line || begins (codes "RENAME") line)) (Begins Malformed) (attribute_line line)) tt
    (either_line (begins (codes "UPDATE") line || (begins (codes "DROP") line || begins (codes "RENAME") line)) (Begins Malformed) (attribute_line line) tt (attribute_line-good line))

abbrev pub AreGoodItems : List Item → Type 0
AreGoodItems [] = Unit {0}
AreGoodItems (i ∷ is) = AreGoodAttributes i.attributes × AreGoodItems is

record IsGoodLot (lot : Lot) : Type 0 where
  loose : AreGoodAttributes lot.loose
  items : AreGoodItems lot.items

line_before-good : (n : ℕ) (line : Line) (lot : Lot) → IsGoodLine line → IsGoodLot lot → IsGoodLot (line_before n line lot)
line_before-good n Skipped lot h k = k
line_before-good n (Says a) lot h k = record { loose = (h, k.loose); items = k.items }
line_before-good n (Begins head) lot h k = record { loose = tt; items = (k.loose, k.items) }

gathered-good : (n : ℕ) (lines : List (List ℕ)) → IsGoodLot (gathered n (map said lines))
gathered-good n [] = record { loose = tt; items = tt }
gathered-good n (line ∷ lines) = line_before-good n (said line) (gathered (n + 1) (map said lines)) (said-good line) (gathered-good (n + 1) lines)

pub items_of-good : (text : List ℕ) → AreGoodItems (items_of text)
unfolding items_of
items_of-good text = (gathered-good 1 (lines_of text)).items

-- ---- fields

ordered_field-sound : (name : List ℕ) (kind : Option Kind) (attributes : List Attributed) → is_name name ≡ true → IsSoundField (ordered_field name kind attributes).field
ordered_field-sound name kind attributes h = record {
  name = h;
  initial = initial_of-fits (kind_of kind attributes) (mask_of (kind_of kind attributes) (format_of attributes)) attributes;
}

field_said-sound : (t : List ℕ) (attributes : List Attributed) (head : Head) (rest : List Ordered) → not (is_misnamed head) ≡ true → AreSoundFields (map field_in rest) → AreSoundFields (map field_in (field_said t attributes head ++ rest))
field_said-sound t attributes (Field name table kind) rest h k =
    go (same_name table t) (and_parts (is_name name) (is_name table) (not_not (is_name name && is_name table) h)).0
  where
    go : (b : Bool) → is_name name ≡ true → AreSoundFields (map field_in (cond b (ordered_field name kind attributes ∷ []) [] ++ rest))
    go true named = (ordered_field-sound name kind attributes named, k)
    go false named = k
field_said-sound t attributes (Table name) rest h k = k
field_said-sound t attributes (Index name table) rest h k = k
field_said-sound t attributes (Sequence name) rest h k = k
field_said-sound t attributes Malformed rest h k = k

fields_in_text-sound : (items : List Item) (t : List ℕ) → list_all is_named items ≡ true → AreSoundFields (map field_in (fields_in_text items t))
fields_in_text-sound [] t h = tt
fields_in_text-sound (i ∷ is) t h =
    let parts = and_parts (is_named i) (list_all is_named is) h in
    field_said-sound t i.attributes i.head (fields_in_text is t) parts.0 (fields_in_text-sound is t parts.1)

placed-sound : (f : Ordered) (gs : List Ordered) → IsSoundField f.field → AreSoundFields (map field_in gs) → AreSoundFields (map field_in (placed f gs))
placed-sound f [] hf hg = (hf, tt)
placed-sound f (g ∷ gs) hf hg = go (nat_le f.order g.order) (placed-sound f gs hf hg.1)
  where
    go : (b : Bool) → AreSoundFields (map field_in (placed f gs)) → AreSoundFields (map field_in (cond b (f ∷ g ∷ gs) (g ∷ placed f gs)))
    go true again = (hf, hg)
    go false again = (hg.0, again)

by_order-sound : (fs : List Ordered) → AreSoundFields (map field_in fs) → AreSoundFields (map field_in (by_order fs))
by_order-sound [] h = tt
by_order-sound (f ∷ fs) h = placed-sound f (by_order fs) h.0 (by_order-sound fs h.1)

or_swap : (a b c : Bool) → (a || (b || c)) ≡ (b || (a || c))
or_swap true true c = refl
or_swap true false c = refl
or_swap false true c = refl
or_swap false false c = refl

among-placed : (name : List ℕ) (f : Ordered) (gs : List Ordered) → is_among name (field_names (map field_in (placed f gs))) ≡ (same_name f.field.name name || is_among name (field_names (map field_in gs)))
among-placed name f [] = refl
among-placed name f (g ∷ gs) = go (nat_le f.order g.order) (among-placed name f gs)
  where
    go : (b : Bool) → is_among name (field_names (map field_in (placed f gs))) ≡ (same_name f.field.name name || is_among name (field_names (map field_in gs)))
        → is_among name (field_names (map field_in (cond b (f ∷ g ∷ gs) (g ∷ placed f gs)))) ≡ (same_name f.field.name name || is_among name (field_names (map field_in (g ∷ gs))))
    go true again = refl
    go false again = ap (λ b. same_name g.field.name name || b) again ∙ or_swap (same_name g.field.name name) (same_name f.field.name name) (is_among name (field_names (map field_in gs)))

among-by_order : (name : List ℕ) (fs : List Ordered) → is_among name (field_names (map field_in (by_order fs))) ≡ is_among name (field_names (map field_in fs))
among-by_order name [] = refl
among-by_order name (f ∷ fs) = among-placed name f (by_order fs) ∙ ap (λ b. same_name f.field.name name || b) (among-by_order name fs)

twice-placed : (f : Ordered) (gs : List Ordered) → is_among f.field.name (field_names (map field_in gs)) ≡ false → has_twice (field_names (map field_in gs)) ≡ false → has_twice (field_names (map field_in (placed f gs))) ≡ false
twice-placed f [] new once = refl
twice-placed f (g ∷ gs) new once =
    let others = or_parts (same_name g.field.name f.field.name) (is_among f.field.name (field_names (map field_in gs))) new in
    let parts = or_parts (is_among g.field.name (field_names (map field_in gs))) (has_twice (field_names (map field_in gs))) once in
    let here : is_among g.field.name (field_names (map field_in (placed f gs))) ≡ false =
    among-placed g.field.name f gs ∙ or_from (same_name f.field.name g.field.name) (is_among g.field.name (field_names (map field_in gs))) (same_name-swap f.field.name g.field.name ∙ others.0) parts.0 in
    go (nat_le f.order g.order) (or_from (is_among g.field.name (field_names (map field_in (placed f gs)))) (has_twice (field_names (map field_in (placed f gs)))) here (twice-placed f gs others.1 parts.1))
  where
    go : (b : Bool) → has_twice (field_names (map field_in (g ∷ placed f gs))) ≡ false → has_twice (field_names (map field_in (cond b (f ∷ g ∷ gs) (g ∷ placed f gs)))) ≡ false
    go true again = or_from (is_among f.field.name (field_names (map field_in (g ∷ gs)))) (has_twice (field_names (map field_in (g ∷ gs)))) new once
    go false again = again

twice-by_order : (fs : List Ordered) → has_twice (field_names (map field_in fs)) ≡ false → has_twice (field_names (map field_in (by_order fs))) ≡ false
twice-by_order [] h = refl
twice-by_order (f ∷ fs) h =
    let parts = or_parts (is_among f.field.name (field_names (map field_in fs))) (has_twice (field_names (map field_in fs))) h in
    twice-placed f (by_order fs) (among-by_order f.field.name fs ∙ parts.0) (twice-by_order fs parts.1)

-- ---- indexes

number-within : (n : ℕ) (fs : List FieldDef) (name : List ℕ) (descending : Bool) (count : ℕ) → n + length fs ≤ count → AreWithin count (part_named (number_of_name n (field_names fs) name) descending)
number-within n [] name descending count h = tt
number-within n (f ∷ fs) name descending count h = go (same_name f.name name) (number-within (n + 1) fs name descending count (omega arith))
  where
    go : (b : Bool) → AreWithin count (part_named (number_of_name (n + 1) (field_names fs) name) descending) → AreWithin count (part_named (cond b (Some n) (number_of_name (n + 1) (field_names fs) name)) descending)
    go true again = (omega arith, tt)
    go false again = again

AreWithin-append : (count : ℕ) (ps qs : List KeyPart) → AreWithin count ps → AreWithin count qs → AreWithin count (ps ++ qs)
AreWithin-append count [] qs hp hq = hq
AreWithin-append count (p ∷ ps) qs hp hq = (hp.0, AreWithin-append count ps qs hp.1 hq)

part_of-within : (fields : List FieldDef) (c : Option Component) → AreWithin (length fields) (part_of fields c)
part_of-within fields None = tt
part_of-within fields (Some c) = number-within 0 fields c.field c.descending (length fields) (omega arith)

part_said-within : (fields : List FieldDef) (a : Attribute) → AreWithin (length fields) (part_said fields a)
part_said-within fields (IndexField c) = part_of-within fields c
part_said-within fields (Initial g) = tt
part_said-within fields (Format g) = tt
part_said-within fields Mandatory = tt
part_said-within fields (Order g) = tt
part_said-within fields (Extent g) = tt
part_said-within fields Unique = tt
part_said-within fields Primary = tt
part_said-within fields Word = tt
part_said-within fields (Increment g) = tt

parts_of-within : (fields : List FieldDef) (attributes : List Attributed) → AreWithin (length fields) (parts_of fields attributes)
parts_of-within fields [] = tt
parts_of-within fields (a ∷ as_) = AreWithin-append (length fields) (part_said fields a.attribute) (parts_of fields as_) (part_said-within fields a.attribute) (parts_of-within fields as_)

abbrev index_in : Listed → IndexDef
index_in l = l.index

index_said-sound : (fields : List FieldDef) (t : List ℕ) (attributes : List Attributed) (head : Head) (rest : List Listed) → not (is_misnamed head) ≡ true → AreSoundIndexes (length fields) (map index_in rest)
    → AreSoundIndexes (length fields) (map index_in (index_said fields t attributes head ++ rest))
index_said-sound fields t attributes (Index name table) rest h k =
    go (same_name table t && is_usable fields attributes) (and_parts (is_name name) (is_name table) (not_not (is_name name && is_name table) h)).0
  where
    go : (b : Bool) → is_name name ≡ true → AreSoundIndexes (length fields) (map index_in (cond b (listed_index fields name attributes ∷ []) [] ++ rest))
    go true named = (record { name = named; parts = All-from_recursion (λ p. p.field < length fields) (parts_of fields attributes) (parts_of-within fields attributes) }, k)
    go false named = k
index_said-sound fields t attributes (Table name) rest h k = k
index_said-sound fields t attributes (Field name table kind) rest h k = k
index_said-sound fields t attributes (Sequence name) rest h k = k
index_said-sound fields t attributes Malformed rest h k = k

indexes_of-sound : (fields : List FieldDef) (t : List ℕ) (items : List Item) → list_all is_named items ≡ true → AreSoundIndexes (length fields) (map index_in (indexes_of items fields t))
indexes_of-sound fields t [] h = tt
indexes_of-sound fields t (i ∷ is) h =
    let parts = and_parts (is_named i) (list_all is_named is) h in
    index_said-sound fields t i.attributes i.head (indexes_of is fields t) parts.0 (indexes_of-sound fields t is parts.1)

no_listed : (ls : List Listed) → IfSome (first_number ls) (λ n. n < length ls)
no_listed [] = tt
no_listed (l ∷ ls) = omega arith

no_index : Listed
no_index = record { primary = false; index = record { name = []; unique = false; parts = [] } }

primary_of-within : (ls : List Listed) → IfSome (primary_of ls) (λ n. n < length ls)
primary_of-within ls = go (position (λ l. l.primary) ls) refl
  where
    go : (o : Option ℕ) → position (λ l. l.primary) ls ≡ o → IfSome (cond (is_some o) o (first_number ls)) (λ n. n < length ls)
    go None e = no_listed ls
    go (Some n) e = (position-Some (λ (l : Listed). l.primary) ls n no_index e).0

-- ---- tables and sequences

table_def-sound : (items : List Item) (name : List ℕ) → IsSoundSoFar items → list_all is_named items ≡ true → is_name name ≡ true → IsSoundTable (table_def items name)
table_def-sound items name s named h =
    let fs = fields_in_text items name in
    let fields = fields_of items name in
    let listed = indexes_of items fields name in
    record {
      name = h;
      fields = All-from_recursion IsSoundField fields (by_order-sound fs (fields_in_text-sound items name named));
      apart = twice-by_order fs (ap has_twice (fields_in_text-names items name) ∙ s.fields_once name);
      indexes = All-from_recursion (IsSoundIndex (length fields)) (map index_in listed) (indexes_of-sound fields name items named);
      primary = subst (λ k. IfSome (primary_of listed) (λ n. n < k)) (sym (length-map listed index_in)) (primary_of-within listed);
    }

table_said-sound : (items : List Item) (head : Head) (rest : List TableDef) → IsSoundSoFar items → list_all is_named items ≡ true → not (is_misnamed head) ≡ true → AllByRecursion IsSoundTable rest → AllByRecursion IsSoundTable (table_said items head ++ rest)
table_said-sound items (Table name) rest s named h k = (table_def-sound items name s named (not_not (is_name name) h), k)
table_said-sound items (Field name table kind) rest s named h k = k
table_said-sound items (Index name table) rest s named h k = k
table_said-sound items (Sequence name) rest s named h k = k
table_said-sound items Malformed rest s named h k = k

tables-sound : (items xs : List Item) → IsSoundSoFar items → list_all is_named items ≡ true → list_all is_named xs ≡ true → AllByRecursion IsSoundTable (flat_map (λ i. table_said items i.head) xs)
tables-sound items [] s named h = tt
tables-sound items (x ∷ xs) s named h =
    let parts = and_parts (is_named x) (list_all is_named xs) h in
    table_said-sound items x.head (flat_map (λ i. table_said items i.head) xs) s named parts.0 (tables-sound items xs s named parts.1)

sequence_said-sound : (attributes : List Attributed) (head : Head) (rest : List SequenceDef) → not (is_misnamed head) ≡ true → AreGoodAttributes attributes → AllByRecursion IsSoundSequence rest → AllByRecursion IsSoundSequence (sequence_said attributes head ++ rest)
sequence_said-sound attributes (Sequence name) rest h g k =
    (record { name = not_not (is_name name) h; initial = start_of-fits attributes; increment = increment_of-fits attributes g }, k)
sequence_said-sound attributes (Table name) rest h g k = k
sequence_said-sound attributes (Field name table kind) rest h g k = k
sequence_said-sound attributes (Index name table) rest h g k = k
sequence_said-sound attributes Malformed rest h g k = k

sequences-sound : (xs : List Item) → list_all is_named xs ≡ true → AreGoodItems xs → AllByRecursion IsSoundSequence (flat_map (λ i. sequence_said i.attributes i.head) xs)
sequences-sound [] h g = tt
sequences-sound (x ∷ xs) h g =
    let parts = and_parts (is_named x) (list_all is_named xs) h in
    sequence_said-sound x.attributes x.head (flat_map (λ i. sequence_said i.attributes i.head) xs) parts.0 g.0 (sequences-sound xs parts.1 g.1)

-- ---- the order

table_placed : (items : List Item) (head : Head) (order : List Bool) (ts : List TableDef) → count_by (λ b. b) order ≡ length ts → count_by (λ b. b) (order_said head ++ order) ≡ length (table_said items head ++ ts)
table_placed items (Table name) order ts h = omega (arith, one_more (λ b. b) true order)
table_placed items (Sequence name) order ts h = omega (arith, one_more (λ b. b) false order)
table_placed items (Field name table kind) order ts h = h
table_placed items (Index name table) order ts h = h
table_placed items Malformed order ts h = h

tables_placed : (items xs : List Item) → count_by (λ b. b) (flat_map (λ i. order_said i.head) xs) ≡ length (flat_map (λ i. table_said items i.head) xs)
tables_placed items [] = refl
tables_placed items (x ∷ xs) =
    table_placed items x.head (flat_map (λ i. order_said i.head) xs) (flat_map (λ i. table_said items i.head) xs) (tables_placed items xs)

sequence_placed : (attributes : List Attributed) (head : Head) (order : List Bool) (qs : List SequenceDef) → count_by not order ≡ length qs → count_by not (order_said head ++ order) ≡ length (sequence_said attributes head ++ qs)
sequence_placed attributes (Table name) order qs h = omega (arith, one_more not true order)
sequence_placed attributes (Sequence name) order qs h = omega (arith, one_more not false order)
sequence_placed attributes (Field name table kind) order qs h = h
sequence_placed attributes (Index name table) order qs h = h
sequence_placed attributes Malformed order qs h = h

sequences_placed : (xs : List Item) → count_by not (flat_map (λ i. order_said i.head) xs) ≡ length (flat_map (λ i. sequence_said i.attributes i.head) xs)
sequences_placed [] = refl
sequences_placed (x ∷ xs) =
    sequence_placed x.attributes x.head (flat_map (λ i. order_said i.head) xs) (flat_map (λ i. sequence_said i.attributes i.head) xs) (sequences_placed xs)

-- ---- the schema

schema_of-sound : (items : List Item) → AreGoodItems items → first_after [] items ≡ None → IsSound (schema_of items)
unfolding schema_of
schema_of-sound items g h =
    let named = are_named items h in
    record {
      limits = within_limits items h;
      tables = All-from_recursion IsSoundTable (flat_map (λ i. table_said items i.head) items) (tables-sound items items (is_sound items h) named named);
      sequences = All-from_recursion IsSoundSequence (flat_map (λ i. sequence_said i.attributes i.head) items) (sequences-sound items named g);
      table_places = tables_placed items items;
      sequence_places = sequences_placed items;
    }

pub files-sound : SchemasOfFilesAreSound
unfolding violation_of
files-sound text clean = schema_of-sound (items_of text) (items_of-good text) clean
