-- A file without violation names no more sequences than a schema may have.
use Rattle.std.proofs.Common.{◌≡◌, ℕ, ◌<◌, ◌≤◌, false, List, [], ◌∷◌, ◌++◌, length, None, sym, subst, arith, length-append}
use Rattle.std.specs.Prelude.{nat_le}
use Rattle.std.specs.List.{flat_map}
use Rattle.std.proofs.lemmas.Bool.{or_parts}
use Rattle.std.proofs.lemmas.Bool.Decides.{nat_tests}
use Rattle.std.proofs.lemmas.List.Concat.{flat_map-append}
use Rattle.abl_base.specs.declared.limits.TheConstants.{MAX_SEQUENCES}
use Rattle.schema_lines.specs.declared.item.Attributed.{Attributed}
use Rattle.schema_lines.specs.declared.item.Head.{Head}
use Rattle.schema_lines.specs.declared.item.Head.TheVariants.{Malformed, Table, Field, Index, Sequence}
use Rattle.schema_lines.specs.declared.item.Item.{Item}
use Rattle.schema_reader.specs.Rules.{first_after, is_past_limit, is_past_text, sequence_name, sequences_in}
use Rattle.schema_reader.proofs.SizesSound.{IsKept, grown}

abbrev HaveFew : List Item → Type 0
HaveFew items = length (sequences_in items) ≤ MAX_SEQUENCES

below : (m n : ℕ) → nat_le m n ≡ false → n < m
below m n h = grind (arith, nat_tests)

as_many : (names : List (List ℕ)) → length names ≤ MAX_SEQUENCES → length (names ++ []) ≤ MAX_SEQUENCES
as_many names h = omega (arith, h, length-append names [])

one_more : (before : List Item) (attributes : List Attributed) (head : Head) → HaveFew before → is_past_limit before attributes head ≡ false → length (sequences_in before ++ (sequence_name head ++ [])) ≤ MAX_SEQUENCES
one_more before attributes (Sequence name) h limit = omega (arith, below MAX_SEQUENCES (length (sequences_in before)) limit, length-append (sequences_in before) (name ∷ []))
one_more before attributes (Table name) h limit = as_many (sequences_in before) h
one_more before attributes (Field name table kind) h limit = as_many (sequences_in before) h
one_more before attributes (Index name table) h limit = as_many (sequences_in before) h
one_more before attributes Malformed h limit = as_many (sequences_in before) h

-- one more item that does not break F12
few_more : (before : List Item) (item : Item) → HaveFew before → IsKept before item → HaveFew (before ++ item ∷ [])
few_more before item h k =
    subst (λ (names : List (List ℕ)). length names ≤ MAX_SEQUENCES) (sym (flat_map-append (λ (i : Item). sequence_name i.head) before (item ∷ [])))
    (one_more before item.attributes item.head h (or_parts (is_past_limit before item.attributes item.head) (is_past_text before item) k.head.1.1.1.1.1.1.1.1.0).0)

pub few_sequences : (items : List Item) → first_after [] items ≡ None → length (sequences_in items) ≤ MAX_SEQUENCES
few_sequences items h = grown HaveFew few_more [] items (omega arith) h
