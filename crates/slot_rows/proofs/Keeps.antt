-- Rows stay stored where a client goes back, changes a row, or ends.
use Rattle.std.proofs.Common.{◌≡◌, ◌≢◌, inl, inr, ℕ, zero, suc, ◌+◌, ◌≤◌, min, Bool, true, false, List, [], ◌∷◌, length, take, drop, refl, sym, ap, ◌∙◌, subst, arith}
use Rattle.std.proofs.lemmas.Bool.{cases_eq}
use Rattle.storage.specs.Slots as storage
use Rattle.storage.specs.Slots.{SlotState, Transaction, IsReadable, wrote}
use Rattle.storage.specs.declared.slots.Undo.{Undo}
use Rattle.abl_values.specs.Schema.{SchemaData}
use Rattle.row_fragments.specs.Fragments.{ends}
use Rattle.byte_rows.specs.declared.places.Place.{Place as SlotPlace}
use Rattle.byte_rows.specs.Places.{IsKept}
use Rattle.row_store.specs.declared.store.RowChange.{RowChange}
use Rattle.row_store.specs.Changes.{RowsById, has_change, undone}
use Rattle.slot_rows.specs.declared.log.Undone.{Undone}
use Rattle.slot_rows.specs.Chained.{HoldRows}
use Rattle.slot_rows.specs.Decoded.{decoded}
use Rattle.slot_rows.specs.Mixes.{IsMixed, rows_of, slots_of}
use Rattle.slot_rows.specs.Stored.{IsStored, changes_of, has, mark_in, mark_or}
use Rattle.slot_rows.proofs.Histories.{IsApart, IsLowered, Place, Returns, clash, mixed_of, others_none, place_after, place_before, place_of}
use Rattle.slot_rows.proofs.Lists.{changed_drop, dropped, rows_rest, rows_return, slots_return, undone_rest, wrote_drop}
use Rattle.slot_rows.proofs.Marks.{changes_length, changes_take, is_lowered, lowered, mark_bound, mark_past, mark_taken, marks_taken}

-- no two transactions wrote one slot
pub slots_apart : (s : SlotState) (places : List SlotPlace) → IsKept s places → ((c : ℕ) → 16 ≤ c → (s.transaction c).begun ≡ false) → ((c k : ℕ) → ends k ≡ true → wrote (s.transaction c).undo k ≡ false) → IsApart (slots_of s)
slots_apart s places kept past low = record {
  few = λ c k le. ap (λ (us : List Undo). wrote us k) (kept.idle c (past c le));
  apart = λ c d k w v. by_end c d k w v (ends k) refl;
  other = λ c n k none. undone_rest (drop n (s.transaction c).undo) s.reads k (wrote_drop n (s.transaction c).undo k none);
}
  where
    by_end : (c d k : ℕ) → wrote (s.transaction c).undo k ≡ true → wrote (s.transaction d).undo k ≡ true → (b : Bool) → ends k ≡ b → c ≡ d
    by_end c d k w v true e = clash (wrote (s.transaction c).undo k) w (low c k e)
    by_end c d k w v false e = let one = kept.noted c k e w in let two = kept.noted d k e v in omega (arith, one, two)

-- no two transactions changed one row
pub rows_apart_by : (schema : SchemaData) (s : SlotState) (log : ℕ → List Undone) (touched : ℕ → List ℕ) (rows : RowsById) → ((c k : ℕ) → has_change (changes_of (log c)) k ≡ true → has (touched c) k ≡ true)
    → ((c d k : ℕ) → c ≢ d → has (touched c) k ≡ true → has (touched d) k ≡ false) → ((c : ℕ) → (s.transaction c).begun ≡ false → (log c ≡ []) × (touched c ≡ []))
    → ((c : ℕ) → 16 ≤ c → (s.transaction c).begun ≡ false) → IsApart (rows_of (λ c. changes_of (log c)) rows)
rows_apart_by schema s log touched rows kept apart idle past = record {
  few = λ c k le. ap (λ (us : List Undone). has_change (changes_of us) k) (idle c (past c le)).0;
  apart = λ c d k w v. elim (cases_eq c d) [
    | inl is ↦ is
    | inr ne ↦ clash (has (touched d) k) (kept d k v) (apart c d k ne (kept c k w))
  ];
  other = λ c n k none. rows_rest (drop n (changes_of (log c))) rows k (changed_drop n (changes_of (log c)) k none);
}

pub rows_apart : (schema : SchemaData) (s : SlotState) (log : ℕ → List Undone) (touched : ℕ → List ℕ) (rows : RowsById) → IsStored schema s log touched → ((c : ℕ) → 16 ≤ c → (s.transaction c).begun ≡ false) → IsApart (rows_of (λ c. changes_of (log c)) rows)
rows_apart schema s log touched rows stored past = rows_apart_by schema s log touched rows stored.kept stored.apart stored.idle past

-- the client went back to its change with the number n
pub record WentBack (s t : SlotState) (log left : ℕ → List Undone) (client n : ℕ) : Type 0 where
  pub observable : t.observable ≡ s.observable
  pub failed : t.failed ≡ s.failed
  pub committed : IsReadable s → t.committed ≡ s.committed
  pub undo : (t.transaction client).undo ≡ take (mark_or (log client) n (length (s.transaction client).undo)) (s.transaction client).undo
  pub undo_others : (c : ℕ) → c ≢ client → (t.transaction c).undo ≡ (s.transaction c).undo
  pub reads : IsReadable s → t.reads ≡ storage.undone (drop (mark_or (log client) n (length (s.transaction client).undo)) (s.transaction client).undo) s.reads
  pub log_own : left client ≡ take n (log client)
  pub log_others : (c : ℕ) → c ≢ client → left c ≡ log c

pub length_is : {X : Type 0} (n : ℕ) (xs : List X) → n ≤ length xs → length (take n xs) ≡ n
length_is zero xs le = refl
length_is (suc n) [] le = absurd (omega arith)
length_is (suc n) (x ∷ xs) le = let e = length_is n xs (omega arith) in omega (arith, e)

module _ (schema : SchemaData) (s t : SlotState) (log left : ℕ → List Undone) (touched : ℕ → List ℕ) (client n : ℕ) (stored : IsStored schema s log touched) (back : WentBack s t log left client n)
    (past : (c : ℕ) → 16 ≤ c → (s.transaction c).begun ≡ false) (apart_s : IsApart (slots_of s)) (apart_t : IsApart (slots_of t)) (readable : IsReadable s) where
  abbrev m : ℕ
  m = mark_or (log client) n (length (s.transaction client).undo)

  abbrev was : ℕ → List RowChange
  was c = changes_of (log c)

  abbrev rows : RowsById
  rows = decoded schema s.reads

  abbrev now : ℕ → List RowChange
  now c = changes_of (left c)

  failed_not : s.failed ≡ false
  failed_not = readable.1

  m_le : m ≤ length (s.transaction client).undo
  m_le = mark_bound 0 (length (s.transaction client).undo) (log client) (stored.marks failed_not client) n

  long : length (t.transaction client).undo ≡ m
  long = ap length back.undo ∙ length_is m (s.transaction client).undo m_le

  slots_back : Returns (slots_of s) (slots_of t) client m
  slots_back = slots_return s t client m back.undo back.undo_others (λ k. ap (λ (f : ℕ → List ℕ). f k) (back.reads readable))
      (λ c k ne w. ap (λ (f : ℕ → List ℕ). f k) (back.reads readable)
      ∙ undone_rest (drop m (s.transaction client).undo) s.reads k (wrote_drop m (s.transaction client).undo k (others_none (slots_of s) apart_s c k w client (λ e. ne (sym e)))))

  -- the marks of a mix after it are those of one before
  low_marks : (at : ℕ → ℕ) → IsLowered client m (mark_in s log (lowered client n at)) (mark_in t left at)
  low_marks at = record {
    own =
        let l = is_lowered client n at in
        let marks = stored.marks failed_not client in
        let after : mark_in t left at client ≡ mark_or (take n (log client)) (at client) m = ap (λ (us : List Undone). mark_or us (at client) (length (t.transaction client).undo)) back.log_own ∙ ap (mark_or (take n (log client)) (at client)) long in
        let before : mark_in s log (lowered client n at) client ≡ mark_or (log client) (min (at client) n) (length (s.transaction client).undo) = ap (λ (i : ℕ). mark_or (log client) i (length (s.transaction client).undo)) l.own in
        let same = mark_taken (at client) n (length (s.transaction client).undo) (log client) in
        let le = mark_bound 0 m (take n (log client)) (marks_taken 0 (length (s.transaction client).undo) (log client) marks n) (at client) in
        omega (arith, after, before, same, le);
    others = λ c ne.
        ap (λ (i : ℕ). mark_or (log c) i (length (s.transaction c).undo)) ((is_lowered client n at).others c ne)
        ∙ (ap (λ (us : List Undone). mark_or us (at c) (length (s.transaction c).undo)) (sym (back.log_others c ne)) ∙ ap (λ (us : List Undo). mark_or (left c) (at c) (length us)) (sym (back.undo_others c ne)));
  }

  before_back : (at : ℕ → ℕ) (mixed : ℕ → List ℕ) → IsMixed (slots_of t) (mark_in t left at) mixed → IsMixed (slots_of s) (mark_in s log (lowered client n at)) mixed
  before_back at mixed m = mixed_of (slots_of s) apart_s (mark_in s log (lowered client n at)) mixed
      (λ k. place_before (slots_of s) (slots_of t) client (mark_or (log client) n (length (s.transaction client).undo)) apart_s apart_t slots_back (mark_in s log (lowered client n at)) (mark_in t left at) (low_marks at) k (mixed k)
      (place_of (slots_of t) apart_t (mark_in t left at) mixed m k))

  rows_one : IsApart (rows_of was rows)
  rows_one = rows_apart schema s log touched rows stored past

  -- numbers past the last change, and n for the client
  abbrev full : ℕ → ℕ
  full c = n + length (left c)

  full_mixed : IsMixed (slots_of t) (mark_in t left full) t.reads
  full_mixed = record {
    of = λ c k w.
        let e : mark_in t left full c ≡ length (t.transaction c).undo = mark_past (left c) (full c) (length (t.transaction c).undo) (omega arith) in
        sym (ap (λ (i : ℕ). storage.undone (drop i (t.transaction c).undo) t.reads k) e ∙ undone_rest (drop (length (t.transaction c).undo) (t.transaction c).undo) t.reads k (ap (λ (us : List Undo). wrote us k) (dropped (length (t.transaction c).undo) (t.transaction c).undo (omega arith))));
    rest = λ k none. refl;
  }

  -- the rows are those with the later changes undone
  pub rows_back : (k : ℕ) → decoded schema t.reads k ≡ undone (drop n (was client)) rows k
  rows_back k = of_place (place_of (rows_of was rows) rows_one (lowered client n full) (decoded schema t.reads) (stored.mixes readable (lowered client n full) t.reads (before_back full t.reads full_mixed)).0 k)
    where
      own : lowered client n full client ≡ n
      own = let e = (is_lowered client n full).own in omega (arith, e)

      of_place : Place (rows_of was rows) (lowered client n full) k (decoded schema t.reads k) → decoded schema t.reads k ≡ undone (drop n (was client)) rows k
      of_place (inl (c, w, e)) = elim (cases_eq c client) [
        | inl is ↦ e ∙ (ap (λ (d : ℕ). undone (drop (lowered client n full d) (was d)) rows k) is ∙ ap (λ (i : ℕ). undone (drop i (was client)) rows k) own)
        | inr ne ↦
            let at_c : lowered client n full c ≡ n + length (left c) = (is_lowered client n full).others c ne in
            let many : length (was c) ≤ lowered client n full c = let one = changes_length (log c) in let two = ap length (back.log_others c ne) in omega (arith, one, two, at_c) in
            e ∙ (ap (λ (us : List RowChange). undone us rows k) (dropped (lowered client n full c) (was c) many)
            ∙ sym (rows_rest (drop n (was client)) rows k (changed_drop n (was client) k (others_none (rows_of was rows) rows_one c k w client (λ is. ne (sym is))))))
      ]
      of_place (inr (none, e)) = e ∙ sym (rows_rest (drop n (was client)) rows k (changed_drop n (was client) k (none client)))

  now_own : now client ≡ take n (was client)
  now_own = ap changes_of back.log_own ∙ changes_take n (log client)

  rows_return_back : Returns (rows_of was rows) (rows_of now (decoded schema t.reads)) client n
  rows_return_back = rows_return was now rows (decoded schema t.reads) client n now_own (λ c ne. ap changes_of (back.log_others c ne)) rows_back
      (λ c k ne w. rows_back k ∙ rows_rest (drop n (was client)) rows k (changed_drop n (was client) k (others_none (rows_of was rows) rows_one c k w client (λ is. ne (sym is)))))

  pub mixes_back : IsApart (rows_of now (decoded schema t.reads)) → (at : ℕ → ℕ) (mixed : ℕ → List ℕ) → IsMixed (slots_of t) (mark_in t left at) mixed
      → IsMixed (rows_of now (decoded schema t.reads)) at (decoded schema mixed) × HoldRows schema mixed
  mixes_back rows_two at mixed m =
      let all = stored.mixes readable (lowered client n at) mixed (before_back at mixed m) in (
        mixed_of (rows_of now (decoded schema t.reads)) rows_two at (decoded schema mixed) (λ k. place_after (rows_of was rows) (rows_of now (decoded schema t.reads)) client n rows_one rows_two rows_return_back (lowered client n at) at (is_lowered client n at) k (decoded schema mixed k)
            (place_of (rows_of was rows) rows_one (lowered client n at) (decoded schema mixed) all.0 k)),
        all.1,
      )

  pub base_back : IsMixed (slots_of t) (λ c. 0) t.committed
  base_back = subst (IsMixed (slots_of t) (λ c. 0)) (sym (back.committed readable))
      (mixed_of (slots_of t) apart_t (λ c. 0) s.committed (λ k. place_after (slots_of s) (slots_of t) client m apart_s apart_t slots_back (λ c. 0) (λ c. 0) (record { own = omega arith; others = λ c ne. refl }) k (s.committed k)
      (place_of (slots_of s) apart_s (λ c. 0) s.committed (stored.base readable) k)))
