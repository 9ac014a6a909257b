-- The items of a file without violation name each sequence once, and each index of a table once.
use Rattle.std.proofs.Common.{◌≡◌, ℕ, Bool, true, false, cond, List, [], ◌∷◌, ◌++◌, None, refl, sym, ap, ◌∙◌, append-nil}
use Rattle.std.proofs.lemmas.List.Concat.{flat_map-append}
use Rattle.abl_values.specs.Schema.{same_name}
use Rattle.abl_values.specs.Sound.{has_twice, is_among}
use Rattle.schema_lines.specs.declared.item.Head.{Head}
use Rattle.schema_lines.specs.declared.item.Head.TheVariants.{Malformed, Table, Field, Index, Sequence}
use Rattle.schema_lines.specs.declared.item.Item.{Item}
use Rattle.schema_reader.specs.Rules.{first_after, index_name, indexes_in, repeats_index, repeats_sequence, sequence_name, sequences_in}
use Rattle.schema_reader.proofs.Counting.{indexes_in-same}
use Rattle.schema_reader.proofs.SizesNames.{has_twice_push}
use Rattle.schema_reader.proofs.SizesSound.{IsKept, grown}

-- no sequence is named twice, and no index of a table, in any case
pub record AreNamedOnce (items : List Item) : Type 0 where
  pub sequences : has_twice (sequences_in items) ≡ false
  pub indexes : (t : List ℕ) → has_twice (indexes_in items t) ≡ false

sequences-more : (before : List Item) (head : Head) → has_twice (sequences_in before) ≡ false → repeats_sequence before head ≡ false → has_twice (sequences_in before ++ (sequence_name head ++ [])) ≡ false
sequences-more before (Sequence name) h new = has_twice_push (sequences_in before) name h new
sequences-more before (Table name) h new = ap has_twice (append-nil (sequences_in before)) ∙ h
sequences-more before (Field name table kind) h new = ap has_twice (append-nil (sequences_in before)) ∙ h
sequences-more before (Index name table) h new = ap has_twice (append-nil (sequences_in before)) ∙ h
sequences-more before Malformed h new = ap has_twice (append-nil (sequences_in before)) ∙ h

-- `b`: the index is of the table `t`
index-more : (before : List Item) (name table t : List ℕ) (b : Bool) → same_name table t ≡ b → has_twice (indexes_in before t) ≡ false → is_among name (indexes_in before table) ≡ false
    → has_twice (indexes_in before t ++ (cond b (name ∷ []) [] ++ [])) ≡ false
index-more before name table t true same h new =
    has_twice_push (indexes_in before t) name h (ap (is_among name) (sym (indexes_in-same before table t same)) ∙ new)
index-more before name table t false other h new = ap has_twice (append-nil (indexes_in before t)) ∙ h

indexes-more : (before : List Item) (head : Head) (t : List ℕ) → has_twice (indexes_in before t) ≡ false → repeats_index before head ≡ false → has_twice (indexes_in before t ++ (index_name t head ++ [])) ≡ false
indexes-more before (Index name table) t h new = index-more before name table t (same_name table t) refl h new
indexes-more before (Table name) t h new = ap has_twice (append-nil (indexes_in before t)) ∙ h
indexes-more before (Field name table kind) t h new = ap has_twice (append-nil (indexes_in before t)) ∙ h
indexes-more before (Sequence name) t h new = ap has_twice (append-nil (indexes_in before t)) ∙ h
indexes-more before Malformed t h new = ap has_twice (append-nil (indexes_in before t)) ∙ h

-- one more item that breaks neither F6 nor F11
named_once-more : (before : List Item) (item : Item) → AreNamedOnce before → IsKept before item → AreNamedOnce (before ++ item ∷ [])
named_once-more before item s k = record {
  sequences =
      ap has_twice (flat_map-append (λ (i : Item). sequence_name i.head) before (item ∷ []))
      ∙ sequences-more before item.head s.sequences k.head.1.1.1.1.1.1.1.0;
  indexes = λ t. ap has_twice (flat_map-append (λ (i : Item). index_name t i.head) before (item ∷ [])) ∙ indexes-more before item.head t (s.indexes t) k.head.1.1.1.1.1.0;
}

pub are_named_once : (items : List Item) → first_after [] items ≡ None → AreNamedOnce items
are_named_once items h = grown AreNamedOnce named_once-more [] items (record { sequences = refl; indexes = λ t. refl }) h
