-- The unique keys among the listed moves are those that only one of the two rows has.
use Rattle.std.proofs.Common.{◌≡◌, ◌⊎◌, ◌↔◌, ℕ, zero, suc, ◌+◌, ◌<◌, Bool, true, false, cond, not, ◌&&◌, ◌||◌, List, [], ◌∷◌, ◌++◌, length, get_or, Option, Some, None, inl, inr, refl, sym, ap, ◌∙◌, subst, eqb, eq-eqb, arith}
use Rattle.std.specs.Prelude.{IsTrue, nat_lt}
use Rattle.std.proofs.lemmas.Bool.{and_parts, or_cases, or_left, or_right}
use Rattle.std.proofs.lemmas.Bool.Decides.{nat_tests}
use Rattle.abl_base.specs.declared.value.Value.{Value}
use Rattle.abl_base.specs.declared.value.Kind.{Kind}
use Rattle.abl_values.specs.declared.schema.IndexDef.{IndexDef}
use Rattle.abl_values.specs.declared.schema.TableDef.{TableDef}
use Rattle.abl_values.specs.Keys.{key_bytes, unique_key}
use Rattle.abl_values.specs.Masks.{same_bytes}
use Rattle.abl_values.specs.Rows.{FitsFields}
use Rattle.abl_values.specs.Schema.{SchemaData, indexes_of, no_table}
use Rattle.database_meaning.specs.declared.state.StoredRow.{StoredRow}
use Rattle.database_meaning.specs.declared.state.Key.{Key}
use Rattle.database_meaning.specs.Setting.{HasIndex, HasTable, has_key, key_at, keys_from, keys_without, kinds_of, unique_keys}
use Rattle.database_meaning.specs.Waiting.{row_in}
use Rattle.database_meaning.proofs.Keys.{Has, has_cases, has_left, has_one, has_right, has_without, without_cases}
use Rattle.row_store.specs.Rows.{is_moved}
use Rattle.row_indexes.specs.declared.moves.Move.{Move}
use Rattle.row_indexes.specs.Places.{Keepers}
use Rattle.row_indexes.specs.Making.{kept_after}
use Rattle.row_indexes.proofs.Bytes.{same_bytes_refl}
use Rattle.row_keys.specs.Numbers.{first_of_table, number_of}
use Rattle.row_keys.specs.Entries.{FitsIfThere, stored_in}
use Rattle.row_keys.specs.Moves.{AreMovesOf, HasUniqueMove}
use Rattle.row_keys.specs.Listed.{is_unique_in, key_differs, move_in, moves_in, moves_in_one, moves_of_identity, moves_toward}
use Rattle.row_keys.specs.Reserved.{is_in_schema, reserved_at}
use Rattle.row_keys.proofs.Counted.{place_at_number}
use Rattle.row_keys.proofs.Delimited.{unknown_alike}
use Rattle.row_keys.proofs.Kept.{not_true, reserves_in}
use Rattle.row_keys.proofs.Listing.{Differs, change_apart, change_enters, change_leaves, change_within, changes, differs_from, differs_test, order_in}
use Rattle.row_keys.proofs.Placed.{none_is_none}

-- ---- unique keys by place

abbrev pub unique_in : List IndexDef → ℕ → List Value → Option (List ℕ)
unique_in [] k values = None
unique_in (x ∷ xs) zero values = unique_key x.unique x.parts values
unique_in (x ∷ xs) (suc k) values = unique_in xs k values

cond_some : (b : Bool) (x key : List ℕ) → cond b (Some x) None ≡ Some key → (b ≡ true) × (x ≡ key)
cond_some true x key e = let same : x ≡ key = cc in (refl, same)
cond_some false x key e = absurd (none_is_none key e)

unique_parts : (x : IndexDef) (values : List Value) (key : List ℕ) → unique_key x.unique x.parts values ≡ Some key → (is_unique_in x values ≡ true) × (key_bytes x.parts values ≡ key)
unfolding unique_key
unique_parts x values key e = cond_some (is_unique_in x values) (key_bytes x.parts values) key e

unique_from : (x : IndexDef) (values : List Value) (key : List ℕ) → is_unique_in x values ≡ true → key_bytes x.parts values ≡ key → unique_key x.unique x.parts values ≡ Some key
unfolding unique_key
unique_from x values key u e = ap (λ (b : Bool). cond b (Some (key_bytes x.parts values)) None) u ∙ ap (λ (k : List ℕ). Some k) e

pub unique_order : (xs : List IndexDef) (k : ℕ) (values : List Value) (key : List ℕ) → unique_in xs k values ≡ Some key → (k < length xs) × (order_in xs k values ≡ key)
unique_order [] k values key e = absurd (none_is_none key e)
unique_order (x ∷ xs) zero values key e = (omega arith, (unique_parts x values key e).1)
unique_order (x ∷ xs) (suc k) values key e = let again = unique_order xs k values key e in let lt = again.0 in (omega (arith, lt), again.1)

-- two rows of the table with one key in the index have it both as a unique key, or neither
pub unique_alike : (kinds : List (Option Kind)) (xs : List IndexDef) (k : ℕ) (a b : List Value) (key : List ℕ) → FitsFields kinds a → FitsFields kinds b
    → order_in xs k a ≡ order_in xs k b → unique_in xs k b ≡ Some key → unique_in xs k a ≡ Some key
unique_alike kinds [] k a b key fa fb e u = u
unique_alike kinds (x ∷ xs) zero a b key fa fb e u =
    let parts = unique_parts x b key u in
    unique_from x a key (ap (λ (t : Bool). x.unique && not t) (unknown_alike kinds x.parts a b fa fb e) ∙ parts.0) (e ∙ parts.1)
unique_alike kinds (x ∷ xs) (suc k) a b key fa fb e u = unique_alike kinds xs k a b key fa fb e u

-- ---- the moves

record IsListed (xs : List IndexDef) (n : ℕ) (from : Option (List Value)) (to : List Value) (j : ℕ) (key : List ℕ) : Type 0 where
  place : ℕ
  index : j ≡ n + place
  unique : unique_in xs place to ≡ Some key
  differs : Differs xs place from to

unique_left : (xs ys : List Move) (j : ℕ) (key : List ℕ) → HasUniqueMove xs j key → HasUniqueMove (xs ++ ys) j key
unique_left [] ys j key h = absurd h
unique_left (m ∷ xs) ys j key (inl is) = inl is
unique_left (m ∷ xs) ys j key (inr h) = inr (unique_left xs ys j key h)

unique_right : (xs ys : List Move) (j : ℕ) (key : List ℕ) → HasUniqueMove ys j key → HasUniqueMove (xs ++ ys) j key
unique_right [] ys j key h = h
unique_right (m ∷ xs) ys j key h = inr (unique_right xs ys j key h)

unique_cases : (xs ys : List Move) (j : ℕ) (key : List ℕ) → HasUniqueMove (xs ++ ys) j key → HasUniqueMove xs j key ⊎ HasUniqueMove ys j key
unique_cases [] ys j key h = inr h
unique_cases (m ∷ xs) ys j key (inl is) = inl (inl is)
unique_cases (m ∷ xs) ys j key (inr h) = elim (unique_cases xs ys j key h) [ inl l ↦ inl (inr l) | inr r ↦ inr r ]

identity_is_none : (n : ℕ) (from : Option (List Value)) (e : Bool) (j : ℕ) (key : List ℕ) → ¬ HasUniqueMove (moves_of_identity n from e) j key
identity_is_none n None e j key (inl is) = let clash : false ≡ true = is.0 in cc
identity_is_none n None e j key (inr h) = h
identity_is_none n (Some f) e j key h = h

listed_one : (x : IndexDef) (xs : List IndexDef) (n : ℕ) (from : Option (List Value)) (to : List Value) (e : Bool) (j : ℕ) (key : List ℕ) (b : Bool) → key_differs x from to ≡ b
    → HasUniqueMove (cond b (move_in n x to e ∷ []) []) j key → IsListed (x ∷ xs) n from to j key
listed_one x xs n from to e j key true d (inl is) =
    let at : n ≡ j = is.1 in
    record { place = 0; index = omega arith; unique = unique_from x to key is.0 is.2; differs = differs_from x from to d }
listed_one x xs n from to e j key true d (inr h) = absurd h
listed_one x xs n from to e j key false d h = absurd h

listed : (xs : List IndexDef) (n : ℕ) (from : Option (List Value)) (to : List Value) (e : Bool) (j : ℕ) (key : List ℕ) → HasUniqueMove (moves_in n xs from to e) j key → IsListed xs n from to j key
listed [] n from to e j key h = absurd (identity_is_none n from e j key h)
listed (x ∷ xs) n from to e j key h =
    elim (unique_cases (moves_in_one n x from to e) (moves_in (n + 1) xs from to e) j key h) [
      | inl one ↦ listed_one x xs n from to e j key (key_differs x from to) refl one
      | inr more ↦
          let l = listed xs (n + 1) from to e j key more in
          let i = l.index in
          record { place = suc l.place; index = omega (arith, i); unique = l.unique; differs = l.differs }
    ]

one_there : (x : IndexDef) (n : ℕ) (from : Option (List Value)) (to : List Value) (e : Bool) (j : ℕ) (key : List ℕ) → key_differs x from to ≡ true → n ≡ j → unique_key x.unique x.parts to ≡ Some key → HasUniqueMove (moves_in_one n x from to e) j key
one_there x n from to e j key d at u =
    let parts = unique_parts x to key u in
    subst (λ (b : Bool). HasUniqueMove (cond b (move_in n x to e ∷ []) []) j key) (sym d) (inl (parts.0, at, parts.1))

there : (xs : List IndexDef) (n : ℕ) (from : Option (List Value)) (to : List Value) (e : Bool) (k j : ℕ) (key : List ℕ) → j ≡ n + k → unique_in xs k to ≡ Some key → Differs xs k from to → HasUniqueMove (moves_in n xs from to e) j key
there [] n from to e k j key at u d = absurd (none_is_none key u)
there (x ∷ xs) n from to e zero j key at u d =
    unique_left (moves_in_one n x from to e) (moves_in (n + 1) xs from to e) j key (one_there x n from to e j key (differs_test x from to d) (omega arith) u)
there (x ∷ xs) n from to e (suc k) j key at u d =
    unique_right (moves_in_one n x from to e) (moves_in (n + 1) xs from to e) j key (there xs (n + 1) from to e k j key (omega arith) u d)

-- ---- the unique keys of a row

pub both_true : (a b : Bool) → a ≡ true → b ≡ true → (a && b) ≡ true
both_true true b h k = k
both_true false b h k = h

pub record IsKeyOf (table i : ℕ) (xs : List IndexDef) (values : List Value) (k : Key) : Type 0 where
  pub table_is : table ≡ k.table
  pub place : ℕ
  pub index : k.index ≡ i + place
  pub unique : unique_in xs place values ≡ Some k.bytes

one_key : (table i : ℕ) (x : IndexDef) (xs : List IndexDef) (values : List Value) (k : Key) (o : Option (List ℕ)) → unique_key x.unique x.parts values ≡ o → Has (key_at table i o) k → IsKeyOf table i (x ∷ xs) values k
one_key table i x xs values k None e h = let clash : false ≡ true = h in cc
one_key table i x xs values k (Some bytes) e h =
    let is = has_one (record { table = table; index = i; bytes = bytes }) k h in
    let at : i ≡ k.index = ap (λ (q : Key). q.index) is in
    record { table_is = ap (λ (q : Key). q.table) is; place = 0; index = omega (arith, at); unique = e ∙ ap (λ (q : Key). Some q.bytes) is }

pub keys_listed : (table i : ℕ) (xs : List IndexDef) (values : List Value) (k : Key) → Has (keys_from table i xs values) k → IsKeyOf table i xs values k
keys_listed table i [] values k h = let clash : false ≡ true = h in cc
keys_listed table i (x ∷ xs) values k h =
    elim (has_cases (key_at table i (unique_key x.unique x.parts values)) (keys_from table (i + 1) xs values) k h) [
      | inl one ↦ one_key table i x xs values k (unique_key x.unique x.parts values) refl one
      | inr more ↦
          let l = keys_listed table (i + 1) xs values k more in
          let at = l.index in
          record { table_is = l.table_is; place = suc l.place; index = omega (arith, at); unique = l.unique }
    ]

key_self : (k : Key) → Has (k ∷ []) k
key_self k =
    or_left (eqb k.table k.table && ((eqb k.index k.index) && same_bytes k.bytes k.bytes)) false
    (both_true (eqb k.table k.table) _ (eq-eqb k.table k.table refl) (both_true (eqb k.index k.index) _ (eq-eqb k.index k.index refl) (same_bytes_refl k.bytes)))

key_itself : (k : Key) (table i : ℕ) (bytes : List ℕ) → table ≡ k.table → i ≡ k.index → bytes ≡ k.bytes → Has (record { table = table; index = i; bytes = bytes } ∷ []) k
key_itself k table i bytes t e b = subst (λ (q : Key). Has (q ∷ []) k) (λ z. record { table = sym t z; index = sym e z; bytes = sym b z }) (key_self k)

pub keys_there : (table i : ℕ) (xs : List IndexDef) (values : List Value) (k : Key) → IsKeyOf table i xs values k → Has (keys_from table i xs values) k
keys_there table i xs values k l = at_place table i xs l.place values k l.table_is l.index l.unique
  where
    at_place : (table i : ℕ) (xs : List IndexDef) (place : ℕ) (values : List Value) (k : Key) → table ≡ k.table → k.index ≡ i + place → unique_in xs place values ≡ Some k.bytes → Has (keys_from table i xs values) k
    at_place table i [] place values k t e u = absurd (none_is_none k.bytes u)
    at_place table i (x ∷ xs) zero values k t e u =
        has_left (key_at table i (unique_key x.unique x.parts values)) (keys_from table (i + 1) xs values) k
        (subst (λ (o : Option (List ℕ)). Has (key_at table i o) k) (sym u) (key_itself k table i k.bytes t (omega arith) refl))
    at_place table i (x ∷ xs) (suc place) values k t e u =
        has_right (key_at table i (unique_key x.unique x.parts values)) (keys_from table (i + 1) xs values) k (at_place table (i + 1) xs place values k t (omega arith) u)

-- ---- a row toward another

abbrev keys_in : SchemaData → ℕ → Option (List Value) → List Key
keys_in schema table values = unique_keys schema (stored_in table values)

pub row_keys : (schema : SchemaData) (table : ℕ) (values : List Value) → unique_keys schema (row_in table values) ≡ keys_from table 0 (indexes_of schema table) values
unfolding unique_keys
row_keys schema table values = refl

pub no_keys : (schema : SchemaData) → unique_keys schema None ≡ []
unfolding unique_keys
no_keys schema = refl

pub key_listed : (schema : SchemaData) (table : ℕ) (values : List Value) (k : Key) → Has (unique_keys schema (row_in table values)) k → IsKeyOf table 0 (indexes_of schema table) values k
key_listed schema table values k h = keys_listed table 0 (indexes_of schema table) values k (subst (λ (ks : List Key). Has ks k) (row_keys schema table values) h)

pub key_there : (schema : SchemaData) (table : ℕ) (values : List Value) (k : Key) → IsKeyOf table 0 (indexes_of schema table) values k → Has (unique_keys schema (row_in table values)) k
key_there schema table values k l = subst (λ (ks : List Key). Has ks k) (sym (row_keys schema table values)) (keys_there table 0 (indexes_of schema table) values k l)

pub none_listed : (schema : SchemaData) (k : Key) → ¬ Has (unique_keys schema None) k
none_listed schema k h = let clash : false ≡ true = sym (ap (λ (ks : List Key). has_key ks k) (no_keys schema)) ∙ h in cc

lacks : (schema : SchemaData) (table : ℕ) (from : Option (List Value)) (to : List Value) (k : Key) (place : ℕ) → k.index ≡ place → unique_in (indexes_of schema table) place to ≡ Some k.bytes
    → Differs (indexes_of schema table) place from to → has_key (keys_in schema table from) k ≡ false
lacks schema table None to k place at u d = ap (λ (ks : List Key). has_key ks k) (no_keys schema)
lacks schema table (Some f) to k place at u d =
    not_true (has_key (keys_in schema table (Some f)) k) (λ h.
    let l = key_listed schema table f k h in
    let i = l.index in
    let same : l.place ≡ place = omega (arith, i, at) in
    let xs = indexes_of schema table in
    let own = unique_order xs place to k.bytes u in
    let other = unique_order xs l.place f k.bytes l.unique in
    d f refl (ap (λ (n : ℕ). order_in xs n f) (sym same) ∙ (other.1 ∙ sym own.1)))

toward_gained : (schema : SchemaData) (table : ℕ) (from to : Option (List Value)) (e : Bool) (k : Key) → HasTable schema table → HasTable schema k.table → HasIndex schema k.table k.index
    → HasUniqueMove (moves_toward schema table from to e) (number_of schema k.table (Some k.index)) k.bytes → Has (keys_in schema table to) k × (has_key (keys_in schema table from) k ≡ false)
toward_gained schema table from None e k htable ht hi h = absurd h
toward_gained schema table from (Some to) e k htable ht hi h =
    let xs = indexes_of schema table in
    let l = listed xs (first_of_table schema table) from to e (number_of schema k.table (Some k.index)) k.bytes h in
    let own = unique_order xs l.place to k.bytes l.unique in
    let lt = own.0 in
    let at = place_at_number schema k.table table (Some k.index) l.place ht htable hi (omega (arith, lt)) l.index in
    let place : k.index ≡ l.place = at.1 in
    let index : k.index ≡ 0 + l.place = omega (arith, place) in
    (key_there schema table to k (record { table_is = sym at.0; place = l.place; index = index; unique = l.unique }), lacks schema table from to k l.place place l.unique l.differs)

toward_entered : (schema : SchemaData) (table : ℕ) (from to : Option (List Value)) (e : Bool) (k : Key) → FitsIfThere schema table from → FitsIfThere schema table to
    → Has (keys_in schema table to) k → has_key (keys_in schema table from) k ≡ false → HasUniqueMove (moves_toward schema table from to e) (number_of schema k.table (Some k.index)) k.bytes
toward_entered schema table from None e k ff ft h lacks = absurd (none_listed schema k h)
toward_entered schema table from (Some to) e k ff ft h lacks =
    let xs = indexes_of schema table in
    let l = key_listed schema table to k h in
    let index = l.index in
    let at : k.index ≡ l.place = omega (arith, index) in
    let same_number : number_of schema k.table (Some k.index) ≡ first_of_table schema table + l.place =
    ap (λ (n : ℕ). first_of_table schema n + k.index) (sym l.table_is) ∙ ap (λ (n : ℕ). first_of_table schema table + n) at in
    there xs (first_of_table schema table) from to e l.place (number_of schema k.table (Some k.index)) k.bytes same_number l.unique (differs from ff lacks l.table_is l.place l.index l.unique)
  where
    differs : (from : Option (List Value)) → FitsIfThere schema table from → has_key (keys_in schema table from) k ≡ false → table ≡ k.table → (place : ℕ) → k.index ≡ 0 + place
        → unique_in (indexes_of schema table) place to ≡ Some k.bytes → Differs (indexes_of schema table) place from to
    differs None ff lacks t place i u = λ f is. absurd (none_is_none f is)
    differs (Some g) ff lacks t place i u = λ f is same.
        let gf : g ≡ f = cc in
        let has : Has (keys_in schema table (Some g)) k = key_there schema table g k
        (record { table_is = t; place = place; index = i; unique = unique_alike (kinds_of schema table) (indexes_of schema table) place g to k.bytes ff ft (ap (order_in (indexes_of schema table) place) gf ∙ same) u }) in
        let clash : true ≡ false = sym has ∙ lacks in
        cc

pub change_unique : (schema : SchemaData) (table : ℕ) (old new : Option (List Value)) (k : Key) → FitsIfThere schema table old → FitsIfThere schema table new → HasTable schema table → HasTable schema k.table → HasIndex schema k.table k.index
    → HasUniqueMove (changes schema table old new) (number_of schema k.table (Some k.index)) k.bytes ↔ IsTrue (is_moved schema (stored_in table old) (stored_in table new) k)
change_unique schema table old new k fo fn htable ht hi =
    let j = number_of schema k.table (Some k.index) in
    let a = moves_toward schema table old new true in
    let b = moves_toward schema table new old false in
    let u = keys_in schema table new in
    let v = keys_in schema table old in
    let gained = has_key (keys_without u v) k in
    let lost = has_key (keys_without v u) k in (
      λ h. elim (unique_cases a b j k.bytes h) [
        | inl l ↦ let p = toward_gained schema table old new true k htable ht hi l in or_left gained lost (has_without u v k p.0 p.1)
        | inr r ↦ let p = toward_gained schema table new old false k htable ht hi r in or_right gained lost (has_without v u k p.0 p.1)
      ],
      λ h. elim (or_cases gained lost h) [
        | inl l ↦ let p = without_cases u v k l in unique_left a b j k.bytes (toward_entered schema table old new true k fo fn p.0 p.1)
        | inr r ↦ let p = without_cases v u k r in unique_right a b j k.bytes (toward_entered schema table new old false k fn fo p.0 p.1)
      ],
    )

-- the listed moves are those of the change
pub are_moves : (schema : SchemaData) (table : ℕ) (old new : Option (List Value)) → HasTable schema table → FitsIfThere schema table old → FitsIfThere schema table new
    → AreMovesOf schema (stored_in table old) (stored_in table new) (changes schema table old new)
are_moves schema table old new htable fo fn = record {
  within = change_within schema table old new htable;
  apart = change_apart schema table old new;
  enters = λ t o key ht ho. change_enters schema table old new t o key htable ht ho;
  leaves = λ t o key ht ho. change_leaves schema table old new t o key htable ht ho;
  unique = λ k ht hi. change_unique schema table old new k fo fn htable ht hi;
}

-- ---- keys of the schema

pub is_of_table : (tables : List TableDef) (t n : ℕ) → n < length (get_or tables t no_table).indexes → t < length tables
is_of_table [] t n h = absurd (omega arith)
is_of_table (x ∷ xs) zero n h = omega arith
is_of_table (x ∷ xs) (suc t) n h = let again = is_of_table xs t n h in omega (arith, again)

lt_true : (a b : ℕ) → a < b → nat_lt a b ≡ true
lt_true a b h = grind (arith, nat_tests)

lt_from : (a b : ℕ) → nat_lt a b ≡ true → a < b
lt_from a b h = grind (arith, nat_tests)

pub in_schema : (schema : SchemaData) (k : Key) → HasTable schema k.table → HasIndex schema k.table k.index → is_in_schema schema k ≡ true
in_schema schema k ht hi = both_true (nat_lt k.table (length schema.tables)) _ (lt_true k.table (length schema.tables) ht) (lt_true k.index (length (indexes_of schema k.table)) hi)

pub schema_parts : (schema : SchemaData) (k : Key) → is_in_schema schema k ≡ true → HasTable schema k.table × HasIndex schema k.table k.index
schema_parts schema k e =
    let p = and_parts (nat_lt k.table (length schema.tables)) (nat_lt k.index (length (indexes_of schema k.table))) e in
    (lt_from k.table (length schema.tables) p.0, lt_from k.index (length (indexes_of schema k.table)) p.1)

key_in_schema : (schema : SchemaData) (stored : Option StoredRow) (k : Key) → Has (unique_keys schema stored) k → is_in_schema schema k ≡ true
key_in_schema schema None k h = absurd (none_listed schema k h)
key_in_schema schema (Some row) k h =
    let l = key_listed schema row.table row.values k h in
    let own = unique_order (indexes_of schema row.table) l.place row.values k.bytes l.unique in
    let lt = own.0 in
    let i = l.index in
    let here : k.index < length (indexes_of schema row.table) = omega (arith, lt, i) in
    let hi : HasIndex schema k.table k.index = subst (λ (n : ℕ). k.index < length (indexes_of schema n)) l.table_is here in
    in_schema schema k (is_of_table schema.tables k.table k.index hi) hi

moved_in_schema : (schema : SchemaData) (old new : Option StoredRow) (k : Key) → is_moved schema old new k ≡ true → is_in_schema schema k ≡ true
moved_in_schema schema old new k h =
    let u = unique_keys schema new in
    let v = unique_keys schema old in
    elim (or_cases (has_key (keys_without u v) k) (has_key (keys_without v u) k) h) [
      | inl l ↦ key_in_schema schema new k (without_cases u v k l).0
      | inr r ↦ key_in_schema schema old k (without_cases v u k r).0
    ]

-- the moves reserve the unique keys that only one of the two rows has
pub reserves_own : (schema : SchemaData) (old new : Option StoredRow) (moves : List Move) (client : ℕ) (keepers : Keepers) → AreMovesOf schema old new moves
    → reserved_at schema (kept_after client moves keepers) client ≡ (λ key. is_moved schema old new key || reserved_at schema keepers client key)
reserves_own schema old new moves client keepers are = λ i k. at_key k (is_in_schema schema k) refl i
  where
    outside : (s a b m : Bool) → s ≡ false → (m ≡ true → s ≡ true) → (s && a) ≡ (m || (s && b))
    outside true a b m e f = cc
    outside false a b true e f = let clash : false ≡ true = f refl in cc
    outside false a b false e f = refl

    inside : (s a b m : Bool) → s ≡ true → a ≡ (m || b) → (s && a) ≡ (m || (s && b))
    inside true a b m e f = f
    inside false a b m e f = cc

    at_key : (k : Key) (b : Bool) → is_in_schema schema k ≡ b → reserved_at schema (kept_after client moves keepers) client k ≡ (is_moved schema old new k || reserved_at schema keepers client k)
    at_key k false e = outside (is_in_schema schema k) _ _ (is_moved schema old new k) e (moved_in_schema schema old new k)
    at_key k true e = let p = schema_parts schema k e in inside (is_in_schema schema k) _ _ (is_moved schema old new k) e (reserves_in schema old new moves client keepers k are p.0 p.1)
