-- The indexes of tables that agree have the same components, by the numbers of their fields.
use Rattle.std.proofs.Common.{◌≡◌, ℕ, ◌<◌, Bool, true, ◌&&◌, List, [], ◌∷◌, length, get_or, map, Option, Some, None, refl, sym, ap, ◌∙◌, arith}
use Rattle.std.specs.Prelude.{All}
use Rattle.std.specs.List.{list_all}
use Rattle.std.proofs.lemmas.Bool.{and_parts, false≢true}
use Rattle.std.proofs.lemmas.List.Elements.{All-head, All-tail}
use Rattle.abl_values.specs.declared.schema.FieldDef.{FieldDef}
use Rattle.abl_values.specs.declared.schema.KeyPart.{KeyPart}
use Rattle.abl_values.specs.declared.schema.IndexDef.{IndexDef}
use Rattle.abl_values.specs.declared.schema.TableDef.{TableDef}
use Rattle.abl_values.specs.Held.{index_names}
use Rattle.abl_values.specs.Schema.{no_field, no_index, number_of_name, same_name}
use Rattle.abl_values.specs.Sound.{IsSoundTable}
use Rattle.stored_schema.specs.Agreement.{has_index, same_fields, same_index_at, same_indexes, same_part, same_parts, same_primary_in, same_table, same_truth}
use Rattle.stored_schema.specs.Seen.{HasIndex, number_in, part_in}
use Rattle.stored_schema.proofs.Agreed.{AreNamed, all-at, fields-same, number-named, number-within, one_place}
use Rattle.stored_schema.proofs.Itself.{indexes-length}
use Rattle.stored_schema.proofs.Names.{found-place, same_name-along, same_name-back}
use Rattle.stored_schema.proofs.SeenLaid.{table_named}
use Rattle.stored_schema.proofs.Values.{same_truth-is}

abbrev part_as : ℕ → Bool → KeyPart
part_as field descending = record { field = field; descending = descending }

module _ (given own : List FieldDef) (named_given : AreNamed given) (named_own : AreNamed own) (agreed : same_fields given own ≡ true) where
  one_part : (p q : KeyPart) → same_part own given p q ≡ true → p.field < length own → q.field < length given → q ≡ part_in given own p
  one_part p q h ltp ltq =
      let both = and_parts (same_name (get_or own p.field no_field).name (get_or given q.field no_field).name) (same_truth p.descending q.descending) h in
      let named = number-named given own named_given named_own agreed p.field ltp in
      let field : q.field ≡ number_in given own p.field =
      one_place given q.field (number_in given own p.field) named_given.once ltq (number-within given own named_given named_own agreed p.field ltp)
      (same_name-along (get_or given q.field no_field).name (get_or own p.field no_field).name (get_or given (number_in given own p.field) no_field).name
      (same_name-back (get_or own p.field no_field).name (get_or given q.field no_field).name both.0)
      (same_name-back (get_or given (number_in given own p.field) no_field).name (get_or own p.field no_field).name named)) in
      ap (λ (n : ℕ). part_as n q.descending) field ∙ ap (λ (d : Bool). part_as (number_in given own p.field) d) (sym (same_truth-is p.descending q.descending both.1))

  parts_in : (ps qs : List KeyPart) → same_parts own given ps qs ≡ true → All (λ (p : KeyPart). p.field < length own) ps → All (λ (q : KeyPart). q.field < length given) qs → qs ≡ map (part_in given own) ps
  parts_in [] [] h hp hq = refl
  parts_in [] (q ∷ qs) h hp hq = absurd (false≢true h)
  parts_in (p ∷ ps) [] h hp hq = absurd (false≢true h)
  parts_in (p ∷ ps) (q ∷ qs) h hp hq =
      let both = and_parts (same_part own given p q) (same_parts own given ps qs) h in
      ap (λ (x : KeyPart). x ∷ qs) (one_part p q both.0 (All-head (λ (p : KeyPart). p.field < length own) p ps hp) (All-head (λ (q : KeyPart). q.field < length given) q qs hq))
      ∙ ap (λ (xs : List KeyPart). part_in given own p ∷ xs) (parts_in ps qs both.1 (All-tail (λ (p : KeyPart). p.field < length own) p ps hp) (All-tail (λ (q : KeyPart). q.field < length given) q qs hq))

index_of : (given own : TableDef) → IsSoundTable given → IsSoundTable own → same_table given own ≡ true → (j : IndexDef) → All (λ (p : KeyPart). p.field < length own.fields) j.parts
    → same_index_at own given j (number_of_name 0 (index_names given.indexes) j.name) ≡ true → HasIndex given own j
index_of given own sound_given sound_own h j low has = by_number (number_of_name 0 (index_names given.indexes) j.name) refl has
  where
    by_number : (o : Option ℕ) → number_of_name 0 (index_names given.indexes) j.name ≡ o → same_index_at own given j o ≡ true → HasIndex given own j
    by_number None is e = absurd (false≢true e)
    by_number (Some n) is e =
        let i : IndexDef = get_or given.indexes n no_index in
        let within : n < length given.indexes = omega (arith, (found-place (index_names given.indexes) j.name n is).0, indexes-length given.indexes) in
        let both = and_parts (same_truth j.unique i.unique) (same_parts own.fields given.fields j.parts i.parts) e in (
          n,
          is,
          within,
          record {
            unique = sym (same_truth-is j.unique i.unique both.0);
            parts = parts_in given.fields own.fields (table_named given sound_given) (table_named own sound_own) (fields-same given own h) j.parts i.parts both.1 low (sound_given.indexes n no_index within).parts;
          },
        )

-- the law: each index of a table is one of a table that agrees, with the same components
pub index-seen : (given own : TableDef) → IsSoundTable given → IsSoundTable own → same_table given own ≡ true → (k : ℕ) → k < length own.indexes → HasIndex given own (get_or own.indexes k no_index)
index-seen given own sound_given sound_own h k lt =
    let rest = (and_parts (same_name given.name own.name) (same_fields given.fields own.fields && same_indexes given own) h).1 in
    let indexes = (and_parts (same_fields given.fields own.fields) (same_indexes given own) rest).1 in
    let each = (and_parts (list_all (has_index given own) given.indexes && list_all (has_index own given) own.indexes) (same_primary_in given.indexes own.indexes given.primary own.primary) indexes).0 in
    let of_own = (and_parts (list_all (has_index given own) given.indexes) (list_all (has_index own given) own.indexes) each).1 in
    index_of given own sound_given sound_own h (get_or own.indexes k no_index) (sound_own.indexes k no_index lt).parts (all-at (has_index own given) own.indexes k no_index of_own lt)
