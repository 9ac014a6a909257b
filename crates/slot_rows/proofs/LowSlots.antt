-- Rows do not depend on slots outside those for rows.
use Rattle.std.proofs.Common.{◌≡◌, ◌⊎◌, inl, inr, ⊎_elim, ℕ, zero, suc, ◌<◌, ◌&&◌, not, eqb, Bool, true, false, cond, List, [], ◌∷◌, ◌++◌, length, drop, get_or, Some, None, refl, sym, ap, ◌∙◌, subst, arith}
use Rattle.std.specs.List.{Contains}
use Rattle.std.proofs.Math.Logic.{∥∥₁_map}
use Rattle.std.proofs.Math.Path.{fun_ext}
use Rattle.storage.specs.Slots as storage
use Rattle.storage.specs.Slots.{SlotState, IsReadable, wrote}
use Rattle.abl_values.specs.Schema.{SchemaData}
use Rattle.row_fragments.specs.Chains.{AreChains, IsChain, IsOfOneRow}
use Rattle.row_fragments.specs.Fragments.{StoredBytes, begins, bytes_from, chain_of, content_in, ends, kind_in, next_in, row_at, slots_from, table_in}
use Rattle.row_fragments.proofs.Chained.{no_row_at}
use Rattle.row_fragments.proofs.Composes.{undone_at}
use Rattle.row_store.specs.Changes.{RowsById}
use Rattle.slot_rows.specs.declared.log.Undone.{Undone}
use Rattle.slot_rows.specs.Chained.{HoldRows}
use Rattle.slot_rows.specs.Decoded.{decoded, is_read, row_of}
use Rattle.slot_rows.specs.Mixes.{IsMixed, rows_of, slots_of}
use Rattle.slot_rows.specs.Stored.{AreWeighed, IsStored, changes_of, mark_in}
use Rattle.slot_rows.proofs.Histories.{clash}
use Rattle.slot_rows.proofs.Opening.{not_begins}

-- the slots for rows have the same bytes
abbrev pub HaveSameRows : (ℕ → List ℕ) → (ℕ → List ℕ) → Type 0
HaveSameRows a b = (k : ℕ) → ends k ≡ false → a k ≡ b k

bytes_same : (n : ℕ) (a b : ℕ → List ℕ) (at : ℕ) → HaveSameRows a b → bytes_from n a at ≡ bytes_from n b at
unfolding bytes_from
bytes_same zero a b at same = refl
bytes_same (suc n) a b at same = by_end (bytes_same n a b (next_in (b at)) same) (ends at) refl
  where
    by_end : bytes_from n a (next_in (b at)) ≡ bytes_from n b (next_in (b at)) → (e : Bool) → ends at ≡ e → cond (ends at) [] (content_in (a at) ++ bytes_from n a (next_in (a at))) ≡ cond (ends at) [] (content_in (b at) ++ bytes_from n b (next_in (b at)))
    by_end later true is = ap (λ (v : Bool). cond v [] (content_in (a at) ++ bytes_from n a (next_in (a at)))) is ∙ sym (ap (λ (v : Bool). cond v [] (content_in (b at) ++ bytes_from n b (next_in (b at)))) is)
    by_end later false is =
        ap (λ (xs : List ℕ). cond (ends at) [] xs)
        (ap (λ (x : List ℕ). content_in x ++ bytes_from n a (next_in x)) (same at is) ∙ ap (λ (xs : List ℕ). content_in (b at) ++ xs) later)

pub row_same : (a b : ℕ → List ℕ) (row : ℕ) → HaveSameRows a b → row_at a row ≡ row_at b row
row_same a b row same = by_end (ends row) refl
  where
    by_end : (e : Bool) → ends row ≡ e → row_at a row ≡ row_at b row
    by_end true is = no_row_at a row (not_begins (ends row) (eqb (kind_in (a row)) 1) is) ∙ sym (no_row_at b row (not_begins (ends row) (eqb (kind_in (b row)) 1) is))
    by_end false is =
        ap (λ (x : List ℕ). cond (not (ends row) && eqb (kind_in x) 1) (Some (record { table = table_in x; bytes = content_in x ++ bytes_from 124 a (next_in x) })) None) (same row is)
        ∙ ap (λ (xs : List ℕ). cond (not (ends row) && eqb (kind_in (b row)) 1) (Some (record { table = table_in (b row); bytes = content_in (b row) ++ xs })) None) (bytes_same 124 a b (next_in (b row)) same)

pub decoded_same : (schema : SchemaData) (a b : ℕ → List ℕ) → HaveSameRows a b → decoded schema a ≡ decoded schema b
decoded_same schema a b same = fun_ext (λ k. ap (row_of schema) (row_same a b k same))

-- ---- chains

slots_same : (n : ℕ) (a b : ℕ → List ℕ) (at : ℕ) → HaveSameRows a b → slots_from n a at ≡ slots_from n b at
unfolding slots_from
slots_same zero a b at same = refl
slots_same (suc n) a b at same = by_end (slots_same n a b (next_in (b at)) same) (ends at) refl
  where
    by_end : slots_from n a (next_in (b at)) ≡ slots_from n b (next_in (b at)) → (e : Bool) → ends at ≡ e → cond (ends at) [] (at ∷ slots_from n a (next_in (a at))) ≡ cond (ends at) [] (at ∷ slots_from n b (next_in (b at)))
    by_end later true is = ap (λ (v : Bool). cond v [] (at ∷ slots_from n a (next_in (a at)))) is ∙ sym (ap (λ (v : Bool). cond v [] (at ∷ slots_from n b (next_in (b at)))) is)
    by_end later false is = ap (λ (xs : List ℕ). cond (ends at) [] (at ∷ xs)) (ap (λ (x : List ℕ). slots_from n a (next_in x)) (same at is) ∙ later)

chain_same : (a b : ℕ → List ℕ) (row : ℕ) → ends row ≡ false → HaveSameRows a b → chain_of a row ≡ chain_of b row
chain_same a b row inside same = ap (λ (xs : List ℕ). row ∷ xs) (ap (λ (x : List ℕ). slots_from 124 a (next_in x)) (same row inside) ∙ slots_same 124 a b (next_in (b row)) same)

-- the slot with this number is one for rows
abbrev Inside : List ℕ → ℕ → Type 0
Inside xs i = i < length xs → ends (get_or xs i 0) ≡ false

inside_more : (at : ℕ) (xs : List ℕ) → ends at ≡ false → ((j : ℕ) → Inside xs j) → (i : ℕ) → Inside (at ∷ xs) i
inside_more at xs is rest zero lt = is
inside_more at xs is rest (suc i) lt = rest i (omega (arith, lt))

inside_from : (n : ℕ) (a : ℕ → List ℕ) (at i : ℕ) → Inside (slots_from n a at) i
unfolding slots_from
inside_from zero a at i lt = absurd (omega (arith, lt))
inside_from (suc n) a at i lt = by_end (inside_from n a (next_in (a at))) (ends at) refl lt
  where
    by_end : ((j : ℕ) → Inside (slots_from n a (next_in (a at))) j) → (e : Bool) → ends at ≡ e → Inside (cond (ends at) [] (at ∷ slots_from n a (next_in (a at)))) i
    by_end later true is = subst (λ (v : Bool). Inside (cond v [] (at ∷ slots_from n a (next_in (a at)))) i) (sym is) (λ less. absurd (omega (arith, less)))
    by_end later false is = subst (λ (v : Bool). Inside (cond v [] (at ∷ slots_from n a (next_in (a at)))) i) (sym is) (inside_more at (slots_from n a (next_in (a at))) is later i)

inside_chain : (a : ℕ → List ℕ) (row i : ℕ) → ends row ≡ false → Inside (chain_of a row) i
inside_chain a row i inside = inside_more row (slots_from 124 a (next_in (a row))) inside (inside_from 124 a (next_in (a row))) i

inside_of : (a b : Bool) → (not a && b) ≡ true → a ≡ false
inside_of true b e = absurd (cc e)
inside_of false b e = refl

begun_of : (b : Bool) (row : StoredBytes) (stored : StoredBytes) → cond b (Some row) None ≡ Some stored → b ≡ true
begun_of true row stored e = refl
begun_of false row stored e = absurd (cc e)

begins_same : (a b : ℕ → List ℕ) (row : ℕ) → HaveSameRows a b → begins a row ≡ begins b row
begins_same a b row same = by_end (ends row) refl
  where
    by_end : (e : Bool) → ends row ≡ e → begins a row ≡ begins b row
    by_end true is = not_begins (ends row) (eqb (kind_in (a row)) 1) is ∙ sym (not_begins (ends row) (eqb (kind_in (b row)) 1) is)
    by_end false is = ap (λ (x : List ℕ). not (ends row) && eqb (kind_in x) 1) (same row is)

begins_inside : (a : ℕ → List ℕ) (row : ℕ) → begins a row ≡ true → ends row ≡ false
begins_inside a row begun = inside_of (ends row) (eqb (kind_in (a row)) 1) begun

pub chains_same : (a b : ℕ → List ℕ) → HaveSameRows a b → AreChains a → AreChains b
chains_same a b same are = record { chains = chains; each = each }
  where
    chains : (row : ℕ) (stored : StoredBytes) → row_at b row ≡ Some stored → IsChain b 1 2 stored.table (chain_of b row) stored.bytes
    chains row stored is =
        let was : row_at a row ≡ Some stored = row_same a b row same ∙ is in
        let inside : ends row ≡ false = begins_inside a row (begun_of (begins a row) (record { table = table_in (a row); bytes = content_in (a row) ++ bytes_from 124 a (next_in (a row)) }) stored was) in
        let there : IsChain a 1 2 stored.table (chain_of b row) stored.bytes = subst (λ (chain : List ℕ). IsChain a 1 2 stored.table chain stored.bytes) (chain_same a b row inside same) (are.chains row stored was) in
        record { count = there.count; each = λ i lt. sym (same (get_or (chain_of b row) i 0) (inside_chain b row i inside lt)) ∙ there.each i lt }

    one_row : (slot : ℕ) → IsOfOneRow a slot → IsOfOneRow b slot
    one_row slot one = record {
      row = one.row;
      begun = sym (begins_same a b one.row same) ∙ one.begun;
      there = subst (λ (chain : List ℕ). Contains chain slot) (chain_same a b one.row (begins_inside a one.row one.begun) same) one.there;
      only = λ other begun there.
          one.only other (begins_same a b other same ∙ begun) (subst (λ (chain : List ℕ). Contains chain slot) (sym (chain_same a b other (begins_inside b other begun) same)) there);
    }

    each : (slot : ℕ) → ends slot ≡ false → (kind_in (b slot) ≡ 0) ⊎ IsOfOneRow b slot
    each slot inside = ⊎_elim (λ (e : kind_in (a slot) ≡ 0). inl (ap kind_in (sym (same slot inside)) ∙ e)) (λ (one : IsOfOneRow a slot). inr (one_row slot one)) (are.each slot inside)

hold_same : (schema : SchemaData) (a b : ℕ → List ℕ) → HaveSameRows a b → HoldRows schema a → HoldRows schema b
hold_same schema a b same held = record {
  read = λ k. sym (ap (is_read schema) (row_same a b k same)) ∙ held.read k;
  chains = ∥∥₁_map held.chains (chains_same a b same);
}

-- ---- other slots

-- the state with other slots
abbrev pub with_slots : SlotState → (ℕ → List ℕ) → (ℕ → List ℕ) → SlotState
with_slots t reads committed = record {
  observable = t.observable;
  reads = reads;
  committed = committed;
  doubt = committed;
  transaction = t.transaction;
  failed = t.failed;
  faults = t.faults;
  moment = t.moment;
  since = t.since;
  short = t.short;
}

-- rows are stored in other slots too, if those for rows are the same and the others are as they are committed
module _ (schema : SchemaData) (t : SlotState) (reads committed : ℕ → List ℕ) (log : ℕ → List Undone) (touched : ℕ → List ℕ) (stored : IsStored schema (with_slots t reads committed) log touched)
    (same_reads : IsReadable t → HaveSameRows t.reads reads) (same_committed : IsReadable t → HaveSameRows t.committed committed) (settled : IsReadable t → (k : ℕ) → ends k ≡ true → t.committed k ≡ t.reads k) where
  module _ (readable : IsReadable t) where
    no_write : {W : Type 0} (c k : ℕ) → wrote (t.transaction c).undo k ≡ true → ends k ≡ true → W
    no_write c k w outside = clash (wrote (t.transaction c).undo k) w (stored.low readable.1 c k outside)

    rows_are : decoded schema t.reads ≡ decoded schema reads
    rows_are = decoded_same schema t.reads reads (same_reads readable)

    -- a mix of the slots, as one of the others
    abbrev mix_of : (ℕ → List ℕ) → ℕ → List ℕ
    mix_of mixed k = cond (ends k) (reads k) (mixed k)

    mix_is : (mixed : ℕ → List ℕ) → HaveSameRows (mix_of mixed) mixed
    mix_is mixed k inside = ap (λ (b : Bool). cond b (reads k) (mixed k)) inside

    mix_mixed : (at : ℕ → ℕ) (mixed : ℕ → List ℕ) → IsMixed (slots_of t) (mark_in t log at) mixed → IsMixed (slots_of (with_slots t reads committed)) (mark_in t log at) (mix_of mixed)
    mix_mixed at mixed m = record { of = λ c k w. of_end c k w (ends k) refl; rest = λ k none. rest_end k none (ends k) refl }
      where
        of_end : (c k : ℕ) → wrote (t.transaction c).undo k ≡ true → (b : Bool) → ends k ≡ b → mix_of mixed k ≡ storage.undone (drop (mark_in t log at c) (t.transaction c).undo) reads k
        of_end c k w true e = no_write c k w e
        of_end c k w false e = mix_is mixed k e ∙ (m.of c k w ∙ undone_at (drop (mark_in t log at c) (t.transaction c).undo) t.reads reads k (same_reads readable k e))

        rest_end : (k : ℕ) → ((c : ℕ) → wrote (t.transaction c).undo k ≡ false) → (b : Bool) → ends k ≡ b → mix_of mixed k ≡ reads k
        rest_end k none true e = ap (λ (b : Bool). cond b (reads k) (mixed k)) e
        rest_end k none false e = mix_is mixed k e ∙ (m.rest k none ∙ same_reads readable k e)

    mixes_there : (at : ℕ → ℕ) (mixed : ℕ → List ℕ) → IsMixed (slots_of t) (mark_in t log at) mixed → IsMixed (rows_of (λ c. changes_of (log c)) (decoded schema t.reads)) at (decoded schema mixed) × HoldRows schema mixed
    mixes_there at mixed m =
        let there = stored.mixes readable at (mix_of mixed) (mix_mixed at mixed m) in (
          subst (λ (f : RowsById). IsMixed (rows_of (λ c. changes_of (log c)) f) at (decoded schema mixed)) (sym rows_are)
              (subst (λ (f : RowsById). IsMixed (rows_of (λ c. changes_of (log c)) (decoded schema reads)) at f) (decoded_same schema (mix_of mixed) mixed (mix_is mixed)) there.0),
          hold_same schema (mix_of mixed) mixed (mix_is mixed) there.1,
        )

    base_there : IsMixed (slots_of t) (λ c. 0) t.committed
    base_there = record { of = λ c k w. of_end c k w (ends k) refl; rest = λ k none. rest_end k none (ends k) refl }
      where
        base : IsMixed (slots_of (with_slots t reads committed)) (λ c. 0) committed
        base = stored.base readable

        of_end : (c k : ℕ) → wrote (t.transaction c).undo k ≡ true → (b : Bool) → ends k ≡ b → t.committed k ≡ storage.undone (drop 0 (t.transaction c).undo) t.reads k
        of_end c k w true e = no_write c k w e
        of_end c k w false e = same_committed readable k e ∙ (base.of c k w ∙ undone_at (drop 0 (t.transaction c).undo) reads t.reads k (sym (same_reads readable k e)))

        rest_end : (k : ℕ) → ((c : ℕ) → wrote (t.transaction c).undo k ≡ false) → (b : Bool) → ends k ≡ b → t.committed k ≡ t.reads k
        rest_end k none true e = settled readable k e
        rest_end k none false e = same_committed readable k e ∙ (base.rest k none ∙ sym (same_reads readable k e))

  pub stored_there : IsStored schema t log touched
  stored_there = record {
    marks = stored.marks;
    first = stored.first;
    low = stored.low;
    written = stored.written;
    kept = stored.kept;
    apart = stored.apart;
    idle = stored.idle;
    mixes = mixes_there;
    weighed = λ readable c. subst (λ (f : RowsById). AreWeighed (log c) f) (sym (rows_are readable)) (stored.weighed readable c);
    base = base_there;
  }
