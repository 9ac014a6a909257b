-- The numbers of indexes.
use Rattle.std.proofs.Common.{◌≡◌, ℕ, zero, suc, ◌+◌, ◌<◌, ◌≤◌, List, [], ◌∷◌, length, take, get_or, Option, Some, None, refl, sym, ap, ◌∙◌, subst, arith}
use Rattle.abl_values.specs.declared.schema.TableDef.{TableDef}
use Rattle.abl_values.specs.Schema.{SchemaData, indexes_of, no_table}
use Rattle.database_meaning.specs.Setting.{HasTable}
use Rattle.row_keys.specs.Numbers.{HasOrder, count_in, first_of_table, index_count, number_of}

abbrev pub indexes_at : List TableDef → ℕ → ℕ
indexes_at tables k = length (get_or tables k no_table).indexes

pub counted_next : (tables : List TableDef) (k : ℕ) → k < length tables → count_in (take (suc k) tables) ≡ count_in (take k tables) + suc (indexes_at tables k)
counted_next [] k h = absurd (omega arith)
counted_next (t ∷ ts) zero h = omega arith
counted_next (t ∷ ts) (suc k) h = let again = counted_next ts k (omega arith) in omega (arith, again)

pub counted_more : (tables : List TableDef) (k : ℕ) → k < length tables → count_in (take (k + 1) tables) ≡ count_in (take k tables) + suc (indexes_at tables k)
counted_more tables k h =
    let one : suc k ≡ k + 1 = omega arith in
    subst (λ (n : ℕ). count_in (take n tables) ≡ count_in (take k tables) + suc (indexes_at tables k)) one (counted_next tables k h)

pub counted_all : (tables : List TableDef) (k : ℕ) → length tables ≤ k → count_in (take k tables) ≡ count_in tables
counted_all [] zero h = refl
counted_all [] (suc k) h = refl
counted_all (t ∷ ts) zero h = absurd (omega arith)
counted_all (t ∷ ts) (suc k) h = ap (λ (n : ℕ). suc (length t.indexes + n)) (counted_all ts k (omega arith))

pub counted_within : (tables : List TableDef) (k : ℕ) → k < length tables → count_in (take k tables) + suc (indexes_at tables k) ≤ count_in tables
counted_within [] k h = absurd (omega arith)
counted_within (t ∷ ts) zero h = omega arith
counted_within (t ∷ ts) (suc k) h = let again = counted_within ts k (omega arith) in omega (arith, again)

counted_apart : (tables : List TableDef) (s t i j : ℕ) → s < length tables → t < length tables → i ≤ indexes_at tables s → j ≤ indexes_at tables t
    → count_in (take s tables) + i ≡ count_in (take t tables) + j → (s ≡ t) × (i ≡ j)
counted_apart [] s t i j hs ht hi hj e = absurd (omega arith)
counted_apart (x ∷ xs) zero zero i j hs ht hi hj e = (refl, omega arith)
counted_apart (x ∷ xs) zero (suc t) i j hs ht hi hj e = absurd (omega arith)
counted_apart (x ∷ xs) (suc s) zero i j hs ht hi hj e = absurd (omega arith)
counted_apart (x ∷ xs) (suc s) (suc t) i j hs ht hi hj e =
    let again = counted_apart xs s t i j (omega arith) (omega arith) hi hj (omega arith) in (ap suc again.0, again.1)

-- ---- orders of a table

-- the place of an index or of the identities after the table's first index
abbrev pub place_in_table : SchemaData → ℕ → Option ℕ → ℕ
place_in_table schema table None = length (indexes_of schema table)
place_in_table schema table (Some index) = index

pub number_is : (schema : SchemaData) (table : ℕ) (o : Option ℕ) → number_of schema table o ≡ first_of_table schema table + place_in_table schema table o
number_is schema table None = refl
number_is schema table (Some index) = refl

pub place_within : (schema : SchemaData) (table : ℕ) (o : Option ℕ) → HasOrder schema table o → place_in_table schema table o ≤ length (indexes_of schema table)
place_within schema table None h = omega arith
place_within schema table (Some index) h = omega arith

pub number_within : (schema : SchemaData) (table : ℕ) (o : Option ℕ) → HasTable schema table → HasOrder schema table o → number_of schema table o < index_count schema
number_within schema table o ht ho =
    let whole = counted_within schema.tables table ht in
    let place = place_within schema table o ho in
    let e = number_is schema table o in
    omega (arith, whole, place, e)

same_order : (schema : SchemaData) (table : ℕ) (o p : Option ℕ) → HasOrder schema table o → HasOrder schema table p → place_in_table schema table o ≡ place_in_table schema table p → o ≡ p
same_order schema table None None ho hp e = refl
same_order schema table None (Some p) ho hp e = absurd (omega arith)
same_order schema table (Some o) None ho hp e = absurd (omega arith)
same_order schema table (Some o) (Some p) ho hp e = ap (λ (n : ℕ). Some n) e

-- the table and the place of a number among those of the table's indexes
pub place_at_number : (schema : SchemaData) (t table : ℕ) (o : Option ℕ) (k : ℕ) → HasTable schema t → HasTable schema table → HasOrder schema t o → k ≤ length (indexes_of schema table)
    → number_of schema t o ≡ first_of_table schema table + k → (t ≡ table) × (place_in_table schema t o ≡ k)
place_at_number schema t table o k ht htable ho hk e =
    counted_apart schema.tables t table (place_in_table schema t o) k ht htable (place_within schema t o ho) hk (sym (number_is schema t o) ∙ e)

-- two orders of one number are one
pub numbers_apart : (schema : SchemaData) (s t : ℕ) (o p : Option ℕ) → HasTable schema s → HasTable schema t → HasOrder schema s o → HasOrder schema t p
    → number_of schema s o ≡ number_of schema t p → (s ≡ t) × (o ≡ p)
numbers_apart schema s t o p hs ht ho hp e =
    let at = place_at_number schema s t o (place_in_table schema t p) hs ht ho (place_within schema t p hp) (e ∙ number_is schema t p) in
    let moved : HasOrder schema s p = subst (λ (n : ℕ). HasOrder schema n p) (sym at.0) hp in
    (at.0, same_order schema s o p ho moved (at.1 ∙ ap (λ (n : ℕ). place_in_table schema n p) (sym at.0)))
