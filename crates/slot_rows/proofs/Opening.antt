-- A store that is opened.
use Rattle.std.proofs.Common.{◌≡◌, inl, ℕ, ◌&&◌, not, eqb, Bool, true, false, List, [], length, Some, None, refl, sym, ap, ◌∙◌, subst, arith}
use Rattle.std.proofs.Math.Path.{fun_ext}
use Rattle.storage.specs.Slots.{SlotState, IsReadable, wrote}
use Rattle.storage.specs.declared.slots.Undo.{Undo}
use Rattle.abl_values.specs.Schema.{SchemaData}
use Rattle.row_fragments.specs.Chains.{AreChains}
use Rattle.row_fragments.specs.Fragments.{begins, ends, kind_in}
use Rattle.row_fragments.proofs.Chained.{no_row_at}
use Rattle.byte_rows.specs.Places.{HoldNothing}
use Rattle.slot_rows.specs.declared.open.Open.{Open}
use Rattle.slot_rows.specs.Opens.{OpenView, log_in, no_open, open_in, touched_in}
use Rattle.slot_rows.specs.Chained.{HoldRows}
use Rattle.slot_rows.specs.Decoded.{AreRead, decoded, is_read, row_of}
use Rattle.slot_rows.specs.Stored.{IsStored}
use Rattle.slot_rows.proofs.Histories.{clash}

-- no transaction is begun, and the slots are those that are committed
pub opened_stored : (schema : SchemaData) (s : SlotState) → ((c : ℕ) → (s.transaction c).undo ≡ []) → (IsReadable s → (k : ℕ) → s.committed k ≡ s.reads k) → (IsReadable s → HoldRows schema s.reads)
    → IsStored schema s (λ c. []) (λ c. [])
opened_stored schema s clean settled hold = record {
  marks = λ fine c. omega arith;
  first = λ fine c. ap length (clean c);
  low = λ fine c k e. none c k;
  written = λ fine c k e. absurd (cc e);
  kept = λ c k e. absurd (cc e);
  apart = λ c d k ne e. absurd (cc e);
  idle = λ c e. (refl, refl);
  mixes = λ readable at mixed m.
      let same : mixed ≡ s.reads = fun_ext (λ k. m.rest k (λ c. none c k)) in (
        record { of = λ c k e. absurd (cc e); rest = λ k e. ap (λ (f : ℕ → List ℕ). decoded schema f k) same },
        subst (HoldRows schema) (sym same) (hold readable),
      );
  weighed = λ readable c. tt;
  base = λ readable. record { of = λ c k e. clash (wrote (s.transaction c).undo k) e (none c k); rest = λ k e. settled readable k };
}
  where
    none : (c k : ℕ) → wrote (s.transaction c).undo k ≡ false
    none c k = ap (λ (us : List Undo). wrote us k) (clean c)

pub stored_nowhere : (schema : SchemaData) (s : SlotState) (os : List Open) → ((c : ℕ) → open_in os c ≡ no_open) → IsStored schema s (λ c. []) (λ c. []) → IsStored schema s (log_in os) (touched_in os)
stored_nowhere schema s os none stored = subst (λ (f : ℕ → OpenView). IsStored schema s (λ c. (f c).log) (λ c. (f c).touched)) (sym (fun_ext none)) stored

pub not_begins : (a b : Bool) → a ≡ true → (not a && b) ≡ false
not_begins true b e = refl
not_begins false b e = absurd (cc e)

-- ---- slots that hold nothing

none_begins : (slots : ℕ → List ℕ) → HoldNothing slots → (k : ℕ) → begins slots k ≡ false
none_begins slots empty k = by_end (ends k) refl
  where
    by_end : (b : Bool) → ends k ≡ b → begins slots k ≡ false
    by_end true e = not_begins (ends k) (eqb (kind_in (slots k)) 1) e
    by_end false e = ap (λ (b : Bool). not b && eqb (kind_in (slots k)) 1) e ∙ ap (λ (kind : ℕ). eqb kind 1) (empty k e)

pub holds_no_row : (schema : SchemaData) (slots : ℕ → List ℕ) → HoldNothing slots → (k : ℕ) → decoded schema slots k ≡ None
holds_no_row schema slots empty k = ap (row_of schema) (no_row_at slots k (none_begins slots empty k))

no_row_read : (schema : SchemaData) (slots : ℕ → List ℕ) → HoldNothing slots → AreRead schema slots
no_row_read schema slots empty k = ap (is_read schema) (no_row_at slots k (none_begins slots empty k))

pub nothing_is_chains : (slots : ℕ → List ℕ) → HoldNothing slots → AreChains slots
nothing_is_chains slots empty = record {
  chains = λ row stored is. let no : None ≡ Some stored = sym (no_row_at slots row (none_begins slots empty row)) ∙ is in absurd (cc no);
  each = λ slot inside. inl (empty slot inside);
}

pub nothing_is_held : (schema : SchemaData) (slots : ℕ → List ℕ) → HoldNothing slots → HoldRows schema slots
nothing_is_held schema slots empty = record { read = no_row_read schema slots empty; chains = ∣ nothing_is_chains slots empty ∣₁ }
