-- The census of the items before a line, and of one item more.
use Rattle.std.proofs.Common.{◌≡◌, ℕ, suc, ◌+◌, Bool, true, false, not, ◌&&◌, ◌||◌, if◌then◌else◌, cond, List, [], ◌∷◌, ◌++◌, length, map, Option, Some, None, refl, sym, ap, ◌∙◌, add-one, append-nil}
use Rattle.std.specs.Prelude.{is_some, option_map}
use Rattle.std.specs.List.{list_all, list_any}
use Rattle.std.proofs.lemmas.Bool.{and_parts, or_parts, not-true, not-false, both_ways, false_from_ne_true}
use Rattle.std.proofs.lemmas.List.{length-map, map-append}
use Rattle.std.proofs.lemmas.List.Concat.{flat_map-append}
use Rattle.std.proofs.lemmas.List.Folds.{list_any-append}
use Rattle.abl_values.specs.Schema.{number_of_name, same_name}
use Rattle.schema_lines.specs.declared.item.Head.{Head}
use Rattle.schema_lines.specs.declared.item.Head.TheVariants.{Malformed, Table, Field, Index, Sequence}
use Rattle.schema_lines.specs.declared.item.Attributed.{Attributed}
use Rattle.schema_lines.specs.declared.item.Item.{Item}
use Rattle.schema_lines.specs.Attributes.{has, is_primary, kind_of}
use Rattle.schema_reader.specs.declared.census.Counted.{Counted}
use Rattle.schema_reader.specs.declared.census.TableCensus.{TableCensus}
use Rattle.schema_reader.specs.declared.census.Census.{Census}
use Rattle.schema_reader.specs.Rules.{fields_in, field_name, index_name, indexes_in, is_index_of, is_primary_of, lacks_table, sequence_name, sequences_in, table_name, tables_in}
use Rattle.abl_values.specs.Sound.{has_twice, is_among}
use Rattle.schema_reader.specs.Census.{Counts, changed_at, counted_field, counted_name, fields_counted, has_name, names_after, names_of, no_census, sequences_after, table_at, table_counted, table_found, tables_after, with_field, with_index}
use Rattle.schema_reader.proofs.SizesNames.{is_among-same, same_name-right, same_name-swap}
use Rattle.schema_reader.proofs.SizesSound.{IsSoundSoFar, flat_map-along, has_its_table, tables_in-append}
use Rattle.schema_reader.proofs.SizesAdded.{Stands}

-- ---- looking names up

pub number_of_name-suc : (n : ℕ) (names : List (List ℕ)) (name : List ℕ) → number_of_name (n + 1) names name ≡ option_map suc (number_of_name n names name)
number_of_name-suc n [] name = refl
number_of_name-suc n (x ∷ xs) name = go (same_name x name) (number_of_name-suc (n + 1) xs name)
  where
    go : (b : Bool) → number_of_name (n + 1 + 1) xs name ≡ option_map suc (number_of_name (n + 1) xs name)
        → cond b (Some (n + 1)) (number_of_name (n + 1 + 1) xs name) ≡ option_map suc (cond b (Some n) (number_of_name (n + 1) xs name))
    go true again = ap Some (add-one n)
    go false again = again

pub is_some-number_of_name : (n : ℕ) (names : List (List ℕ)) (name : List ℕ) → is_some (number_of_name n names name) ≡ is_among name names
is_some-number_of_name n [] name = refl
is_some-number_of_name n (x ∷ xs) name = go (same_name x name) (is_some-number_of_name (n + 1) xs name)
  where
    go : (b : Bool) → is_some (number_of_name (n + 1) xs name) ≡ is_among name xs → is_some (cond b (Some n) (number_of_name (n + 1) xs name)) ≡ (b || is_among name xs)
    go true again = refl
    go false again = again

table_at-suc : (t : TableCensus) (ts : List TableCensus) (o : Option ℕ) → table_at (t ∷ ts) (option_map suc o) ≡ table_at ts o
table_at-suc t ts None = refl
table_at-suc t ts (Some k) = refl

changed_at-suc : (t : TableCensus) (ts : List TableCensus) (o : Option ℕ) (change : TableCensus → TableCensus) → changed_at (t ∷ ts) (option_map suc o) change ≡ t ∷ changed_at ts o change
changed_at-suc t ts None change = refl
changed_at-suc t ts (Some k) change = refl

-- what is found of a table by its name
table_at-map : (f : List ℕ → TableCensus) (name : List ℕ) → ((x : List ℕ) → same_name x name ≡ true → f x ≡ f name) → (names : List (List ℕ))
    → table_at (map f names) (number_of_name 0 names name) ≡ (if is_among name names then Some (f name) else None)
table_at-map f name h [] = refl
table_at-map f name h (x ∷ xs) = go (same_name x name) refl (table_at-map f name h xs)
  where
    go : (b : Bool) → same_name x name ≡ b → table_at (map f xs) (number_of_name 0 xs name) ≡ cond (is_among name xs) (Some (f name)) None
        → table_at (f x ∷ map f xs) (cond b (Some 0) (number_of_name 1 xs name)) ≡ cond (b || is_among name xs) (Some (f name)) None
    go true same again = ap Some (h x same)
    go false other again =
        ap (table_at (f x ∷ map f xs)) (number_of_name-suc 0 xs name) ∙ table_at-suc (f x) (map f xs) (number_of_name 0 xs name) ∙ again

map-apart : (f g : List ℕ → TableCensus) (name : List ℕ) → ((x : List ℕ) → same_name x name ≡ false → g x ≡ f x) → (names : List (List ℕ)) → is_among name names ≡ false → map g names ≡ map f names
map-apart f g name apart [] h = refl
map-apart f g name apart (x ∷ xs) h =
    let parts = or_parts (same_name x name) (is_among name xs) h in
    ap (λ t. t ∷ map g xs) (apart x parts.0) ∙ ap (λ ts. f x ∷ ts) (map-apart f g name apart xs parts.1)

map-along : (f g : List ℕ → TableCensus) → ((x : List ℕ) → g x ≡ f x) → (names : List (List ℕ)) → map g names ≡ map f names
map-along f g h [] = refl
map-along f g h (x ∷ xs) = ap (λ t. t ∷ map g xs) (h x) ∙ ap (λ ts. f x ∷ ts) (map-along f g h xs)

-- a change of the one table of a name
changed_at-map : (f g : List ℕ → TableCensus) (change : TableCensus → TableCensus) (name : List ℕ) → ((x : List ℕ) → same_name x name ≡ true → g x ≡ change (f x)) → ((x : List ℕ) → same_name x name ≡ false → g x ≡ f x)
    → (names : List (List ℕ)) → has_twice names ≡ false → changed_at (map f names) (number_of_name 0 names name) change ≡ map g names
changed_at-map f g change name at apart [] once = refl
changed_at-map f g change name at apart (x ∷ xs) once =
    let parts = or_parts (is_among x xs) (has_twice xs) once in
    go (same_name x name) refl parts.0 (changed_at-map f g change name at apart xs parts.1)
  where
    go : (b : Bool) → same_name x name ≡ b → is_among x xs ≡ false → changed_at (map f xs) (number_of_name 0 xs name) change ≡ map g xs
        → changed_at (f x ∷ map f xs) (cond b (Some 0) (number_of_name 1 xs name)) change ≡ g x ∷ map g xs
    go true same none again =
        ap (λ t. t ∷ map f xs) (sym (at x same))
        ∙ ap (λ ts. g x ∷ ts) (sym (map-apart f g name apart xs (sym (is_among-same x name same xs) ∙ none)))
    go false other none again =
        ap (λ o. changed_at (f x ∷ map f xs) o change) (number_of_name-suc 0 xs name) ∙ changed_at-suc (f x) (map f xs) (number_of_name 0 xs name) change
        ∙ ap (λ ts. f x ∷ ts) again ∙ ap (λ t. t ∷ map g xs) (sym (apart x other))

-- ---- what is counted of a table

abbrev counted_of : List Counted → List Counted → Bool → TableCensus
counted_of fields indexes primary = record { fields = fields; indexes = indexes; has_primary = primary }

counted_of-same : {f g i j : List Counted} {p q : Bool} → f ≡ g → i ≡ j → p ≡ q → counted_of f i p ≡ counted_of g j q
counted_of-same {f} {g} {i} {j} {p} {q} ef ei ep = ap (λ x. counted_of x i p) ef ∙ ap (λ x. counted_of g x p) ei ∙ ap (λ x. counted_of g j x) ep

list_any-along : (f g : Item → Bool) → ((i : Item) → f i ≡ g i) → (is : List Item) → list_any f is ≡ list_any g is
list_any-along f g h [] = refl
list_any-along f g h (i ∷ is) = ap (λ b. b || list_any f is) (h i) ∙ ap (λ b. g i || b) (list_any-along f g h is)

counted_field-same : (a b : List ℕ) → same_name a b ≡ true → (attributes : List Attributed) (head : Head) → counted_field a attributes head ≡ counted_field b attributes head
counted_field-same a b h attributes (Field name table kind) = ap (λ c. cond c (record { name = name; supported = is_some (kind_of kind attributes) } ∷ []) []) (same_name-right table a b h)
counted_field-same a b h attributes (Table name) = refl
counted_field-same a b h attributes (Index name table) = refl
counted_field-same a b h attributes Malformed = refl
counted_field-same a b h attributes (Sequence name) = refl

index_name-same : (a b : List ℕ) → same_name a b ≡ true → (head : Head) → index_name a head ≡ index_name b head
index_name-same a b h (Index name table) = ap (λ c. cond c (name ∷ []) []) (same_name-right table a b h)
index_name-same a b h (Table name) = refl
index_name-same a b h (Field name table kind) = refl
index_name-same a b h Malformed = refl
index_name-same a b h (Sequence name) = refl

-- tables whose names are the same have the same indexes
pub indexes_in-same : (items : List Item) (a b : List ℕ) → same_name a b ≡ true → indexes_in items a ≡ indexes_in items b
indexes_in-same items a b h = flat_map-along (λ (i : Item). index_name a i.head) (λ (i : Item). index_name b i.head) (λ i. index_name-same a b h i.head) items

is_index_of-same : (a b : List ℕ) → same_name a b ≡ true → (head : Head) → is_index_of a head ≡ is_index_of b head
is_index_of-same a b h (Index name table) = same_name-right table a b h
is_index_of-same a b h (Table name) = refl
is_index_of-same a b h (Field name table kind) = refl
is_index_of-same a b h Malformed = refl
is_index_of-same a b h (Sequence name) = refl

-- tables whose names are the same are one table
table_counted-same : (items : List Item) (a b : List ℕ) → same_name a b ≡ true → table_counted items a ≡ table_counted items b
table_counted-same items a b h =
    counted_of-same
    (flat_map-along (λ (i : Item). counted_field a i.attributes i.head) (λ (i : Item). counted_field b i.attributes i.head) (λ i. counted_field-same a b h i.attributes i.head) items)
    (ap (map counted_name) (indexes_in-same items a b h))
    (list_any-along (is_primary_of a) (is_primary_of b) (λ i. ap (λ c. c && has is_primary i.attributes) (is_index_of-same a b h i.head)) items)

names_of-fields : (items : List Item) (t : List ℕ) → names_of (fields_counted items t) ≡ fields_in items t
names_of-fields [] t = refl
names_of-fields (i ∷ is) t = one i.attributes i.head (names_of-fields is t)
  where
    one_field : (c : Counted) (b : Bool) → names_of (fields_counted is t) ≡ fields_in is t → names_of (cond b (c ∷ []) [] ++ fields_counted is t) ≡ cond b (c.name ∷ []) [] ++ fields_in is t
    one_field c true again = ap (λ (ns : List (List ℕ)). c.name ∷ ns) again
    one_field c false again = again

    one : (attributes : List Attributed) (head : Head) → names_of (fields_counted is t) ≡ fields_in is t → names_of (counted_field t attributes head ++ fields_counted is t) ≡ field_name t head ++ fields_in is t
    one attributes (Field name table kind) again = one_field (record { name = name; supported = is_some (kind_of kind attributes) }) (same_name table t) again
    one attributes (Table name) again = again
    one attributes (Index name table) again = again
    one attributes Malformed again = again
    one attributes (Sequence name) again = again

names_of-counted : (names : List (List ℕ)) → names_of (map counted_name names) ≡ names
names_of-counted [] = refl
names_of-counted (x ∷ xs) = ap (λ ns. x ∷ ns) (names_of-counted xs)

-- the fields and the indexes that are counted of a table
pub has_name-field : (items : List Item) (t name : List ℕ) → has_name (fields_counted items t) name ≡ is_among name (fields_in items t)
has_name-field items t name = is_some-number_of_name 0 (names_of (fields_counted items t)) name ∙ ap (is_among name) (names_of-fields items t)

pub length-fields_counted : (items : List Item) (t : List ℕ) → length (fields_counted items t) ≡ length (fields_in items t)
length-fields_counted items t = sym (length-map (fields_counted items t) (λ c. c.name)) ∙ ap length (names_of-fields items t)

pub has_name-index : (items : List Item) (t name : List ℕ) → has_name (map counted_name (indexes_in items t)) name ≡ is_among name (indexes_in items t)
has_name-index items t name = is_some-number_of_name 0 (names_of (map counted_name (indexes_in items t))) name ∙ ap (is_among name) (names_of-counted (indexes_in items t))

pub length-indexes_counted : (items : List Item) (t : List ℕ) → length (map counted_name (indexes_in items t)) ≡ length (indexes_in items t)
length-indexes_counted items t = length-map (indexes_in items t) counted_name

-- the table that is found by a name
pub table_found-is : (items : List Item) (census : Census) (t : List ℕ) → Counts items census → table_found census t ≡ (if is_among t (tables_in items) then Some (table_counted items t) else None)
table_found-is items census t h =
    ap (λ (ts : List TableCensus). table_at ts (number_of_name 0 (names_of census.names) t)) h.tables
    ∙ ap (λ (ns : List (List ℕ)). table_at (map (table_counted items) (tables_in items)) (number_of_name 0 ns t)) h.names
    ∙ table_at-map (table_counted items) t (λ x same. table_counted-same items x t same) (tables_in items)

-- ---- a new table has nothing yet

module _ (before : List Item) (name : List ℕ) (new : is_among name (tables_in before) ≡ false) where
  other_table : (table : List ℕ) → not (not (is_among table (tables_in before))) ≡ true → same_name table name ≡ false
  other_table table h =
      false_from_ne_true (same_name table name) (λ same. both_ways (is_among table (tables_in before)) (is_among-same table name same (tables_in before) ∙ new) (not-false (is_among table (tables_in before)) (not-true (not (is_among table (tables_in before))) h)))

  no_field : (attributes : List Attributed) (head : Head) → not (lacks_table before head) ≡ true → counted_field name attributes head ≡ []
  no_field attributes (Field f table kind) h = ap (λ b. cond b (record { name = f; supported = is_some (kind_of kind attributes) } ∷ []) []) (other_table table h)
  no_field attributes (Table t) h = refl
  no_field attributes (Index i table) h = refl
  no_field attributes Malformed h = refl
  no_field attributes (Sequence t) h = refl

  no_index : (head : Head) → not (lacks_table before head) ≡ true → index_name name head ≡ []
  no_index (Index i table) h = ap (λ b. cond b (i ∷ []) []) (other_table table h)
  no_index (Field f table kind) h = refl
  no_index (Table t) h = refl
  no_index Malformed h = refl
  no_index (Sequence t) h = refl

  no_primary : (attributes : List Attributed) (head : Head) → not (lacks_table before head) ≡ true → (is_index_of name head && has is_primary attributes) ≡ false
  no_primary attributes (Index i table) h = ap (λ b. b && has is_primary attributes) (other_table table h)
  no_primary attributes (Field f table kind) h = refl
  no_primary attributes (Table t) h = refl
  no_primary attributes Malformed h = refl
  no_primary attributes (Sequence t) h = refl

  nothing_counted : (xs : List Item) → list_all (has_its_table before) xs ≡ true → table_counted xs name ≡ no_census
  nothing_counted [] h = refl
  nothing_counted (x ∷ xs) h =
      let parts = and_parts (has_its_table before x) (list_all (has_its_table before) xs) h in
      counted_of-same (ap (λ cs. cs ++ fields_counted xs name) (no_field x.attributes x.head parts.0)) (ap (λ ns. map counted_name (ns ++ indexes_in xs name)) (no_index x.head parts.0))
      (ap (λ b. b || list_any (is_primary_of name) xs) (no_primary x.attributes x.head parts.0))
      ∙ nothing_counted xs parts.1

-- ---- one item more

or_none : (b : Bool) → (b || false) ≡ b
or_none true = refl
or_none false = refl

abbrev more_counted : List Item → List ℕ → List Attributed → Head → TableCensus
more_counted items t attributes head =
    counted_of (fields_counted items t ++ counted_field t attributes head) (map counted_name (indexes_in items t) ++ map counted_name (index_name t head))
    (list_any (is_primary_of t) items || (is_index_of t head && has is_primary attributes))

table_counted-more : (items : List Item) (item : Item) (t : List ℕ) → table_counted (items ++ item ∷ []) t ≡ more_counted items t item.attributes item.head
table_counted-more items item t =
    counted_of-same
    (flat_map-append (λ (i : Item). counted_field t i.attributes i.head) items (item ∷ []) ∙ ap (λ cs. fields_counted items t ++ cs) (append-nil (counted_field t item.attributes item.head)))
    (ap (map counted_name) (flat_map-append (λ (i : Item). index_name t i.head) items (item ∷ []) ∙ ap (λ ns. indexes_in items t ++ ns) (append-nil (index_name t item.head)))
    ∙ map-append counted_name (indexes_in items t) (index_name t item.head))
    (list_any-append (is_primary_of t) items (item ∷ []) ∙ ap (λ b. list_any (is_primary_of t) items || b) (or_none (is_primary_of t item)))

-- an item that is of no table, or of another
stays_counted : (items : List Item) (t : List ℕ) (attributes : List Attributed) (head : Head) → counted_field t attributes head ≡ [] → index_name t head ≡ [] → is_index_of t head ≡ false
    → more_counted items t attributes head ≡ table_counted items t
stays_counted items t attributes head f i p =
    counted_of-same (ap (λ cs. fields_counted items t ++ cs) f ∙ append-nil (fields_counted items t))
    (ap (λ ns. map counted_name (indexes_in items t) ++ map counted_name ns) i ∙ append-nil (map counted_name (indexes_in items t)))
    (ap (λ b. list_any (is_primary_of t) items || (b && has is_primary attributes)) p ∙ or_none (list_any (is_primary_of t) items))

tables_more : (items : List Item) (census : Census) (line : ℕ) (attributes : List Attributed) (head : Head) → IsSoundSoFar items → Counts items census → Stands items head
    → tables_after census attributes head ≡ map (table_counted (items ++ record { line = line; head = head; attributes = attributes } ∷ [])) (tables_in items ++ (table_name head ++ []))
tables_more items census line attributes Malformed s c k =
    let item : Item = record { line = line; head = Malformed; attributes = attributes } in
    c.tables ∙ sym (map-along (table_counted items) (table_counted (items ++ item ∷ [])) (λ t. table_counted-more items item t ∙ stays_counted items t attributes Malformed refl refl refl) (tables_in items))
    ∙ ap (map (table_counted (items ++ item ∷ []))) (sym (append-nil (tables_in items)))
tables_more items census line attributes (Sequence name) s c k =
    let item : Item = record { line = line; head = Sequence name; attributes = attributes } in
    c.tables ∙ sym (map-along (table_counted items) (table_counted (items ++ item ∷ [])) (λ t. table_counted-more items item t ∙ stays_counted items t attributes (Sequence name) refl refl refl) (tables_in items))
    ∙ ap (map (table_counted (items ++ item ∷ []))) (sym (append-nil (tables_in items)))
tables_more items census line attributes (Table name) s c k =
    let item : Item = record { line = line; head = Table name; attributes = attributes } in
    let stays : (t : List ℕ) → table_counted (items ++ item ∷ []) t ≡ table_counted items t = (λ t. table_counted-more items item t ∙ stays_counted items t attributes (Table name) refl refl refl) in
    ap (λ ts. ts ++ no_census ∷ []) (c.tables ∙ sym (map-along (table_counted items) (table_counted (items ++ item ∷ [])) stays (tables_in items)))
    ∙ ap (λ t. map (table_counted (items ++ item ∷ [])) (tables_in items) ++ t ∷ []) (sym (stays name ∙ nothing_counted items name k.new_table items s.tables_stand))
    ∙ sym (map-append (table_counted (items ++ item ∷ [])) (tables_in items) (name ∷ []))
tables_more items census line attributes (Field name table kind) s c k =
    let item : Item = record { line = line; head = Field name table kind; attributes = attributes } in
    let field : Counted = record { name = name; supported = is_some (kind_of kind attributes) } in
    ap (λ ts. changed_at ts (number_of_name 0 (names_of census.names) table) (with_field field)) c.tables
    ∙ ap (λ ns. changed_at (map (table_counted items) (tables_in items)) (number_of_name 0 ns table) (with_field field)) c.names
    ∙ changed_at-map (table_counted items) (table_counted (items ++ item ∷ [])) (with_field field) table
    (λ x same. table_counted-more items item x ∙ counted_of-same
    (ap (λ b. fields_counted items x ++ cond b (field ∷ []) []) (same_name-swap table x ∙ same)) (append-nil (map counted_name (indexes_in items x))) (or_none (list_any (is_primary_of x) items)))
    (λ x other. table_counted-more items item x ∙ stays_counted items x attributes (Field name table kind) (ap (λ b. cond b (field ∷ []) []) (same_name-swap table x ∙ other)) refl refl)
    (tables_in items) s.tables_once
    ∙ ap (map (table_counted (items ++ item ∷ []))) (sym (append-nil (tables_in items)))
tables_more items census line attributes (Index name table) s c k =
    let item : Item = record { line = line; head = Index name table; attributes = attributes } in
    ap (λ ts. changed_at ts (number_of_name 0 (names_of census.names) table) (with_index name (has is_primary attributes))) c.tables
    ∙ ap (λ ns. changed_at (map (table_counted items) (tables_in items)) (number_of_name 0 ns table) (with_index name (has is_primary attributes))) c.names
    ∙ changed_at-map (table_counted items) (table_counted (items ++ item ∷ [])) (with_index name (has is_primary attributes)) table
    (λ x same. table_counted-more items item x ∙ counted_of-same (append-nil (fields_counted items x))
    (ap (λ b. map counted_name (indexes_in items x) ++ map counted_name (cond b (name ∷ []) [])) (same_name-swap table x ∙ same))
    (ap (λ b. list_any (is_primary_of x) items || (b && has is_primary attributes)) (same_name-swap table x ∙ same)))
    (λ x other. table_counted-more items item x ∙ stays_counted items x attributes (Index name table) refl (ap (λ b. cond b (name ∷ []) []) (same_name-swap table x ∙ other)) (same_name-swap table x ∙ other))
    (tables_in items) s.tables_once
    ∙ ap (map (table_counted (items ++ item ∷ []))) (sym (append-nil (tables_in items)))

names_more : (items : List Item) (census : Census) (head : Head) → Counts items census → names_of (names_after census.names head) ≡ tables_in items ++ (table_name head ++ [])
names_more items census (Table name) c = map-append (λ (k : Counted). k.name) census.names (counted_name name ∷ []) ∙ ap (λ ns. ns ++ name ∷ []) c.names
names_more items census Malformed c = c.names ∙ sym (append-nil (tables_in items))
names_more items census (Field name table kind) c = c.names ∙ sym (append-nil (tables_in items))
names_more items census (Index name table) c = c.names ∙ sym (append-nil (tables_in items))
names_more items census (Sequence name) c = c.names ∙ sym (append-nil (tables_in items))

sequences_more : (items : List Item) (census : Census) (head : Head) → Counts items census → names_of (sequences_after census.sequences head) ≡ sequences_in items ++ (sequence_name head ++ [])
sequences_more items census (Sequence name) c = map-append (λ (k : Counted). k.name) census.sequences (counted_name name ∷ []) ∙ ap (λ ns. ns ++ name ∷ []) c.sequences
sequences_more items census Malformed c = c.sequences ∙ sym (append-nil (sequences_in items))
sequences_more items census (Field name table kind) c = c.sequences ∙ sym (append-nil (sequences_in items))
sequences_more items census (Index name table) c = c.sequences ∙ sym (append-nil (sequences_in items))
sequences_more items census (Table name) c = c.sequences ∙ sym (append-nil (sequences_in items))

-- the census after one item more, whose first line breaks no rule
pub counts_more : (items : List Item) (item : Item) (census after : Census) → IsSoundSoFar items → Counts items census → Stands items item.head
    → after.names ≡ names_after census.names item.head → after.tables.items ≡ tables_after census item.attributes item.head → after.sequences ≡ sequences_after census.sequences item.head
    → Counts (items ++ item ∷ []) after
counts_more items item census after s c k en et es = record {
  names = ap names_of en ∙ names_more items census item.head c ∙ sym (tables_in-append items (item ∷ []));
  tables =
      et ∙ tables_more items census item.line item.attributes item.head s c k
      ∙ ap (map (table_counted (items ++ item ∷ []))) (sym (tables_in-append items (item ∷ [])));
  sequences = ap names_of es ∙ sequences_more items census item.head c ∙ sym (flat_map-append (λ (i : Item). sequence_name i.head) items (item ∷ []));
}
