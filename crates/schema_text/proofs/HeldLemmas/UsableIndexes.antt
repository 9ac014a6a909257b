-- The usable indexes of a table are some of those that a file names: their names differ where those of the latter do.
use Rattle.std.proofs.Common.{◌≡◌, ℕ, ◌≤◌, Bool, true, false, ◌&&◌, cond, List, [], ◌∷◌, ◌++◌, length, map, None, refl, subst, arith}
use Rattle.std.proofs.lemmas.Bool.{or_from, or_parts}
use Rattle.std.proofs.lemmas.List.{take_all}
use Rattle.abl_base.specs.declared.limits.TheConstants.{MAX_INDEXES}
use Rattle.abl_values.specs.declared.schema.FieldDef.{FieldDef}
use Rattle.abl_values.specs.Schema.{same_name}
use Rattle.abl_values.specs.Sound.{has_twice, is_among}
use Rattle.schema_lines.specs.declared.item.Attributed.{Attributed}
use Rattle.schema_lines.specs.declared.item.Head.{Head}
use Rattle.schema_lines.specs.declared.item.Head.TheVariants.{Malformed, Table, Field, Index, Sequence}
use Rattle.schema_lines.specs.declared.item.Item.{Item}
use Rattle.schema_reader.specs.Meaning.{Listed, index_said, indexes_of, is_usable, listed_index}
use Rattle.schema_reader.specs.Rules.{first_after, index_name, indexes_in}
use Rattle.schema_reader.proofs.KeptItems.{indexes_few}
use Rattle.schema_text.specs.Written.{index_names}

abbrev names_of : List Listed → List (List ℕ)
names_of ls = index_names (map (λ l. l.index) ls)

module _ (fields : List FieldDef) (t : List ℕ) where
  -- a name that no index of the table has in the file is not that of a usable one
  none_usable : (n : List ℕ) (items : List Item) → is_among n (indexes_in items t) ≡ false → is_among n (names_of (indexes_of items fields t)) ≡ false
  none_usable n [] h = refl
  none_usable n (i ∷ is) h = one i.attributes i.head h (none_usable n is)
    where
      two : (name : List ℕ) (attributes : List Attributed) (b u : Bool) → is_among n (cond b (name ∷ []) [] ++ indexes_in is t) ≡ false
          → (is_among n (indexes_in is t) ≡ false → is_among n (names_of (indexes_of is fields t)) ≡ false)
          → is_among n (names_of (cond (b && u) (listed_index fields name attributes ∷ []) [] ++ indexes_of is fields t)) ≡ false
      two name attributes true true h again =
          let parts = or_parts (same_name name n) (is_among n (indexes_in is t)) h in
          or_from (same_name name n) (is_among n (names_of (indexes_of is fields t))) parts.0 (again parts.1)
      two name attributes true false h again = again (or_parts (same_name name n) (is_among n (indexes_in is t)) h).1
      two name attributes false u h again = again h

      one : (attributes : List Attributed) (head : Head) → is_among n (index_name t head ++ indexes_in is t) ≡ false
          → (is_among n (indexes_in is t) ≡ false → is_among n (names_of (indexes_of is fields t)) ≡ false)
          → is_among n (names_of (index_said fields t attributes head ++ indexes_of is fields t)) ≡ false
      one attributes (Index name table) h again = two name attributes (same_name table t) (is_usable fields attributes) h again
      one attributes (Table name) h again = again h
      one attributes (Field name table kind) h again = again h
      one attributes (Sequence name) h again = again h
      one attributes Malformed h again = again h

  pub usable_once : (items : List Item) → has_twice (indexes_in items t) ≡ false → has_twice (names_of (indexes_of items fields t)) ≡ false
  usable_once [] h = refl
  usable_once (i ∷ is) h = one i.attributes i.head h (usable_once is)
    where
      two : (name : List ℕ) (attributes : List Attributed) (b u : Bool) → has_twice (cond b (name ∷ []) [] ++ indexes_in is t) ≡ false
          → (has_twice (indexes_in is t) ≡ false → has_twice (names_of (indexes_of is fields t)) ≡ false)
          → has_twice (names_of (cond (b && u) (listed_index fields name attributes ∷ []) [] ++ indexes_of is fields t)) ≡ false
      two name attributes true true h again =
          let parts = or_parts (is_among name (indexes_in is t)) (has_twice (indexes_in is t)) h in
          or_from (is_among name (names_of (indexes_of is fields t))) (has_twice (names_of (indexes_of is fields t))) (none_usable name is parts.0) (again parts.1)
      two name attributes true false h again = again (or_parts (is_among name (indexes_in is t)) (has_twice (indexes_in is t)) h).1
      two name attributes false u h again = again h

      one : (attributes : List Attributed) (head : Head) → has_twice (index_name t head ++ indexes_in is t) ≡ false
          → (has_twice (indexes_in is t) ≡ false → has_twice (names_of (indexes_of is fields t)) ≡ false)
          → has_twice (names_of (index_said fields t attributes head ++ indexes_of is fields t)) ≡ false
      one attributes (Index name table) h again = two name attributes (same_name table t) (is_usable fields attributes) h again
      one attributes (Table name) h again = again h
      one attributes (Field name table kind) h again = again h
      one attributes (Sequence name) h again = again h
      one attributes Malformed h again = again h

  -- F12 bounds their number
  pub usable_few : (items : List Item) → first_after [] items ≡ None → length (map (λ (l : Listed). l.index) (indexes_of items fields t)) ≤ MAX_INDEXES
  usable_few items h =
      subst (λ (is : List Item). length (map (λ (l : Listed). l.index) (indexes_of is fields t)) ≤ MAX_INDEXES) (take_all (length items) items (omega arith)) (indexes_few items (length items) h fields t)
