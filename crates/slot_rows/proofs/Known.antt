-- What is known of a row without its values, and which identities are free.
use Rattle.std.proofs.Common.{◌≡◌, ℕ, nat_lt, Bool, true, false, cond, List, length, drop, Option, Some, None, is_some, IfSome, refl, sym, ap, ◌∙◌, arith}
use Rattle.abl_base.specs.declared.value.Value.{Value}
use Rattle.storage.specs.Slots as storage
use Rattle.storage.specs.Slots.{SlotState, IsReadable}
use Rattle.storage.specs.declared.slots.Undo.{Undo}
use Rattle.abl_values.specs.Keys.{AreBytes}
use Rattle.abl_values.specs.Rows.{fragments_of}
use Rattle.abl_values.specs.Rows as bytes
use Rattle.abl_values.specs.Schema.{SchemaData}
use Rattle.abl_values.proofs.RowLaws.{row_in-back}
use Rattle.database_meaning.specs.Setting.{fragments, kinds_of}
use Rattle.row_fragments.specs.Fragments.{StoredBytes}
use Rattle.row_fragments.specs.Measures.{length_of, table_of}
use Rattle.row_store.specs.Questions.{table_in}
use Rattle.slot_rows.specs.declared.log.Undone.{Undone}
use Rattle.slot_rows.specs.Decoded.{AreRead, is_read, or_no_table, row_of, values_of}
use Rattle.slot_rows.specs.Mixes.{IsMixed, slots_of}
use Rattle.slot_rows.specs.Stored.{IsStored, has, mark_in}
use Rattle.slot_rows.proofs.Histories.{clash, not_true}
use Rattle.slot_rows.proofs.Lists.{dropped}
use Rattle.slot_rows.proofs.Marks.{mark_past}

-- wherever a row begins now it is a row of its table
pub all_read : (schema : SchemaData) (s : SlotState) (log : ℕ → List Undone) (touched : ℕ → List ℕ) → IsStored schema s log touched → IsReadable s → AreRead schema s.reads
all_read schema s log touched stored readable = (stored.mixes readable (λ c. length (log c)) s.reads present).1.read
  where
    present : IsMixed (slots_of s) (mark_in s log (λ c. length (log c))) s.reads
    present = record {
      of = λ c k w.
          let e : mark_in s log (λ c. length (log c)) c ≡ length (s.transaction c).undo = mark_past (log c) (length (log c)) (length (s.transaction c).undo) (omega arith) in
          sym (ap (λ (i : ℕ). storage.undone (drop i (s.transaction c).undo) s.reads k) e ∙ ap (λ (us : List Undo). storage.undone us s.reads k) (dropped (length (s.transaction c).undo) (s.transaction c).undo (omega arith)));
      rest = λ k none. refl;
    }

table_of_values : (schema : SchemaData) (table : ℕ) (values : Option (List Value)) → is_some values ≡ true → table_in (Some (or_no_table schema table values)) ≡ Some table
table_of_values schema table None e = absurd (cc e)
table_of_values schema table (Some vs) e = refl

pub table_known : (schema : SchemaData) (stored : Option StoredBytes) → is_read schema stored ≡ true → table_of stored ≡ table_in (row_of schema stored)
table_known schema None e = refl
table_known schema (Some stored) e = sym (table_of_values schema stored.table (values_of schema stored) e)

counts_values : (schema : SchemaData) (b : Bool) (stored : StoredBytes) → AreBytes stored.bytes → (values : Option (List Value)) → bytes.row_in (kinds_of schema stored.table) stored.bytes ≡ values
    → is_some (cond b values None) ≡ true → fragments_of (length stored.bytes) ≡ fragments (Some (or_no_table schema stored.table (cond b values None)))
counts_values schema false stored small values is e = absurd (cc e)
counts_values schema true stored small None is e = absurd (cc e)
counts_values schema true stored small (Some vs) is e = ap (λ (bs : List ℕ). fragments_of (length bs)) (sym (row_in-back (kinds_of schema stored.table) stored.bytes vs small is).0)

pub fragments_known : (schema : SchemaData) (stored : Option StoredBytes) (n : ℕ) → is_read schema stored ≡ true → IfSome stored (λ one. AreBytes one.bytes) → Some n ≡ length_of stored
    → fragments_of n ≡ fragments (row_of schema stored)
fragments_known schema None n e small is = absurd (cc is)
fragments_known schema (Some stored) n e small is =
    ap fragments_of (number n (length stored.bytes) is) ∙ counts_values schema (nat_lt stored.table (length schema.tables)) stored small (bytes.row_in (kinds_of schema stored.table) stored.bytes) refl e
  where
    number : (a b : ℕ) → Some a ≡ Some b → a ≡ b
    number a b e = cc

pub no_fragments : (schema : SchemaData) (stored : Option StoredBytes) → None ≡ length_of stored → 0 ≡ fragments (row_of schema stored)
no_fragments schema None is = refl
no_fragments schema (Some stored) is = absurd (cc is)

-- no transaction changed a row that begins where no open transaction wrote
pub untouched_free : (schema : SchemaData) (s : SlotState) (log : ℕ → List Undone) (touched : ℕ → List ℕ) → IsStored schema s log touched → s.failed ≡ false → (row : ℕ)
    → ((c : ℕ) → (s.transaction c).begun ≡ true → (s.transaction c).written row ≡ false) → (c : ℕ) → has (touched c) row ≡ false
untouched_free schema s log touched stored fine row unwritten c = by_begun (s.transaction c).begun refl
  where
    by_begun : (b : Bool) → (s.transaction c).begun ≡ b → has (touched c) row ≡ false
    by_begun true e = not_true (has (touched c) row) (λ is. clash ((s.transaction c).written row) (stored.written fine c row is) (unwritten c e))
    by_begun false e = ap (λ (l : List ℕ). has l row) (stored.idle c e).1
