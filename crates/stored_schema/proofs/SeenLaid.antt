-- What every stored schema has, from what a database has.
use Rattle.std.proofs.Common.{◌≡◌, ◌+◌, ℕ, zero, suc, ◌<◌, ◌≤◌, true, List, [], ◌∷◌, length, get_or, Option, Some, None, refl, sym, ap, ◌∙◌, subst, arith}
use Rattle.std.specs.Prelude.{All, IfSome, option_map}
use Rattle.std.proofs.lemmas.Bool.{and_parts}
use Rattle.abl_base.specs.declared.limits.TheConstants.{MAX_FIELDS}
use Rattle.abl_values.specs.declared.schema.TableDef.{TableDef}
use Rattle.abl_values.specs.Schema.{SchemaData, field_kinds, fields_of, no_table}
use Rattle.abl_values.specs.Sound.{IsSound, IsSoundTable}
use Rattle.stored_fields.specs.declared.field.StoredField.{StoredField}
use Rattle.stored_fields.specs.Changes.{relived}
use Rattle.stored_fields.specs.Rows.{AreStoredFor}
use Rattle.stored_schema.specs.Agreement.{agree, same_sequences, same_tables}
use Rattle.stored_schema.specs.Seen.{IsLaid, IsSeen, number_in}
use Rattle.stored_schema.specs.Stored.{IsOwn, Stored, stored_of}
use Rattle.stored_schema.proofs.Agreed.{AreNamed, fields-same, table-same, tables-length}
use Rattle.stored_schema.proofs.Itself.{own-seen}
use Rattle.stored_schema.proofs.Live.{numbered}
use Rattle.stored_schema.proofs.SeenFields.{seen-holds}

pub table_named : (t : TableDef) → IsSoundTable t → AreNamed t.fields
table_named t sound = record { names = λ k d lt. (sound.fields k d lt).name; once = sound.apart }

pub agreed-tables : (a b : SchemaData) → agree a b ≡ true → same_tables a.tables b.tables ≡ true
unfolding agree
agreed-tables a b h = (and_parts (same_tables a.tables b.tables) (same_sequences a.sequences b.sequences) h).0

relived-length : (live : Option ℕ → Option ℕ) (fs : List StoredField) → length (relived live fs) ≡ length fs
relived-length live [] = refl
relived-length live (f ∷ fs) = ap suc (relived-length live fs)

abbrev numbering : SchemaData → Stored → ℕ → ℕ → ℕ
numbering given own t = number_in (fields_of given t) (fields_of own.schema t)

-- what a schema sees of a database's own is laid
pub seen-laid : (given : SchemaData) (own s : Stored) → IsSound given → IsOwn own → IsSeen given own s → IsLaid s
seen-laid given own s sound is seen = record {
  sound = subst IsSound (sym seen.schema) sound;
  as_many = lengths;
  few = λ t lt. subst (λ (fs : List StoredField). length fs ≤ MAX_FIELDS) (sym (seen.fields t (inside t lt))) (omega (arith, relived-length (option_map (numbering given own t)) (stored_of own t), (is.stored t (inside t lt)).few));
  holds = λ t lt. subst (λ (schema : SchemaData). AreStoredFor (field_kinds (fields_of schema t)) (stored_of s t)) (sym seen.schema) (subst (AreStoredFor (field_kinds (fields_of given t))) (sym (seen.fields t (inside t lt))) (holds_at t (inside t lt)));
  own = ∣ (own, is, subst (λ (schema : SchemaData). IsSeen schema own s) (sym seen.schema) seen) ∣₁;
}
  where
    tables : same_tables given.tables own.schema.tables ≡ true
    tables = agreed-tables given own.schema seen.agrees

    lengths : length s.fields ≡ length s.schema.tables
    lengths = seen.as_many ∙ is.as_many ∙ sym (tables-length given.tables own.schema.tables tables) ∙ ap (λ (schema : SchemaData). length schema.tables) (sym seen.schema)

    inside : (t : ℕ) → t < length s.fields → t < length own.fields
    inside t lt = omega (arith, lt, seen.as_many)

    holds_at : (t : ℕ) → t < length own.fields → AreStoredFor (field_kinds (fields_of given t)) (relived (option_map (numbering given own t)) (stored_of own t))
    holds_at t lt =
        let low : t < length own.schema.tables = omega (arith, lt, is.as_many) in
        let there : t < length given.tables = omega (arith, low, tables-length given.tables own.schema.tables tables) in
        let of_own : IsSoundTable (get_or own.schema.tables t no_table) = is.sound.tables t no_table low in
        let of_given : IsSoundTable (get_or given.tables t no_table) = sound.tables t no_table there in
        seen-holds (fields_of given t) (fields_of own.schema t) (table_named (get_or given.tables t no_table) of_given) (table_named (get_or own.schema.tables t no_table) of_own)
        (fields-same (get_or given.tables t no_table) (get_or own.schema.tables t no_table) (table-same given.tables own.schema.tables t tables there)) of_own.fields (stored_of own t) (is.stored t lt)

-- so is a database's own
pub own-laid : (s : Stored) → IsOwn s → IsLaid s
own-laid s own = seen-laid s.schema s s own.sound own (own-seen s own)

-- ---- numbers that fit

abbrev pub IsSmall : StoredField → Type 0
IsSmall f = IfSome f.live (λ n. n ≤ MAX_FIELDS)

small_number : (live : Option ℕ) (m : ℕ) → m ≤ MAX_FIELDS → IfSome live (λ n. n < 0 + m) → IfSome live (λ n. n ≤ MAX_FIELDS)
small_number None m few h = tt
small_number (Some n) m few h = omega (arith, few, h)

any_default : {X : Type 0} (xs : List X) (k : ℕ) (d e : X) → k < length xs → get_or xs k d ≡ get_or xs k e
any_default [] k d e lt = absurd (omega (arith, lt))
any_default (x ∷ xs) zero d e lt = refl
any_default (x ∷ xs) (suc k) d e lt = any_default xs k d e (omega (arith, lt))

-- the live numbers of a database's own have 16 bits
pub own-small : (s : Stored) → IsOwn s → All (All IsSmall) s.fields
own-small s own k d lt =
    let few : length (fields_of s.schema k) ≤ MAX_FIELDS = own.sound.limits.1 k no_table (omega (arith, lt, own.as_many)) in
    let numbers = numbered 0 (length (fields_of s.schema k)) (stored_of s k) (own.stored k lt).numbers in
    subst (All IsSmall) (any_default s.fields k [] d lt) (λ i e low. small_number (get_or (stored_of s k) i e).live (length (fields_of s.schema k)) few (numbers.within i e low))
