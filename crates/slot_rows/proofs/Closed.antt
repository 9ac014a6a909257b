-- A transaction that is committed.
use Rattle.std.proofs.Common.{◌≡◌, ◌≢◌, inl, inr, ℕ, ◌≤◌, Bool, true, false, cond, List, [], length, drop, refl, sym, ap, ◌∙◌, subst, arith}
use Rattle.std.proofs.lemmas.Bool.{cases_eq}
use Rattle.storage.specs.Slots.{SlotState, Transaction, Commits, IsReadable, wrote}
use Rattle.storage.specs.Slots as storage
use Rattle.storage.specs.declared.slots.Undo.{Undo}
use Rattle.abl_values.specs.Schema.{SchemaData}
use Rattle.row_fragments.specs.Chains.{AreChains}
use Rattle.row_fragments.proofs.Composes.{readable_on, undone_at}
use Rattle.row_store.specs.declared.store.RowChange.{RowChange}
use Rattle.row_store.specs.Changes.{has_change, undone}
use Rattle.row_store.specs.Rows.{joined}
use Rattle.slot_rows.specs.declared.log.Undone.{Undone}
use Rattle.slot_rows.specs.Chained.{HoldRows}
use Rattle.slot_rows.specs.Decoded.{decoded}
use Rattle.slot_rows.specs.Mixes.{IsMixed, rows_of, slots_of}
use Rattle.slot_rows.specs.Stored.{AreMarks, AreWeighed, IsStored, changes_of, has, mark_in, mark_or}
use Rattle.slot_rows.proofs.Histories.{Closes, IsApart, Place, clash, closed_after, mixed_of, not_true, open_before, others_none, place_of}
use Rattle.slot_rows.proofs.Keeps.{rows_apart_by}
use Rattle.slot_rows.proofs.Lists.{dropped, rows_at}
use Rattle.slot_rows.proofs.Marks.{changes_length, chosen, mark_past, passed, raised}

module _ (schema : SchemaData) (s t : SlotState) (log left : ℕ → List Undone) (touched reached : ℕ → List ℕ) (client : ℕ) (stored : IsStored schema s log touched) (commits : Commits s t client)
    (same : t.failed ≡ s.failed) (log_own : left client ≡ []) (log_others : (c : ℕ) → c ≢ client → left c ≡ log c) (reached_own : reached client ≡ []) (reached_others : (c : ℕ) → c ≢ client → reached c ≡ touched c)
    (past : (c : ℕ) → 16 ≤ c → (s.transaction c).begun ≡ false) (past_now : (c : ℕ) → 16 ≤ c → (t.transaction c).begun ≡ false) (apart_s : IsApart (slots_of s)) where
  abbrev us : List Undo
  us = (s.transaction client).undo

  abbrev was : ℕ → List RowChange
  was c = changes_of (log c)

  abbrev now : ℕ → List RowChange
  now c = changes_of (left c)

  kept_now : (c k : ℕ) → has_change (changes_of (left c)) k ≡ true → has (reached c) k ≡ true
  kept_now c k e = elim (cases_eq c client) [
    | inl is ↦ clash (has_change (changes_of (left c)) k) e (ap (λ (d : ℕ). has_change (changes_of (left d)) k) is ∙ ap (λ (l : List Undone). has_change (changes_of l) k) log_own)
    | inr ne ↦ ap (λ (l : List ℕ). has l k) (reached_others c ne) ∙ stored.kept c k (sym (ap (λ (l : List Undone). has_change (changes_of l) k) (log_others c ne)) ∙ e)
  ]

  fewer : (c k : ℕ) → has (reached c) k ≡ true → has (touched c) k ≡ true
  fewer c k e = elim (cases_eq c client) [
    | inl is ↦ clash (has (reached c) k) e (ap (λ (d : ℕ). has (reached d) k) is ∙ ap (λ (l : List ℕ). has l k) reached_own)
    | inr ne ↦ sym (ap (λ (l : List ℕ). has l k) (reached_others c ne)) ∙ e
  ]

  apart_now : (c d k : ℕ) → c ≢ d → has (reached c) k ≡ true → has (reached d) k ≡ false
  apart_now c d k ne e = not_true (has (reached d) k) (λ is. clash (has (touched d) k) (fewer d k is) (stored.apart c d k ne (fewer c k e)))

  idle_now : (c : ℕ) → (t.transaction c).begun ≡ false → (left c ≡ []) × (reached c ≡ [])
  idle_now c e = elim (cases_eq c client) [
    | inl is ↦ subst (λ (d : ℕ). (left d ≡ []) × (reached d ≡ [])) (sym is) (log_own, reached_own)
    | inr ne ↦
        let old = stored.idle c (sym (ap (λ (x : Transaction). x.begun) (commits.transaction.others c ne)) ∙ e) in
        (log_others c ne ∙ old.0, reached_others c ne ∙ old.1)
  ]

  module _ (readable : IsReadable s) where
    reads_same : (k : ℕ) → t.reads k ≡ s.reads k
    reads_same k = ap (λ (f : ℕ → List ℕ). f k) (commits.reads readable)

    slots_close : Closes (slots_of s) (slots_of t) client
    slots_close = record {
      none = λ k. ap (λ (l : List Undo). wrote l k) commits.transaction.undo;
      same = λ c k ne. ap (λ (x : Transaction). wrote x.undo k) (commits.transaction.others c ne);
      now = reads_same;
      others = λ c i k ne. ap (λ (x : Transaction). storage.undone (drop i x.undo) t.reads k) (commits.transaction.others c ne) ∙ undone_at (drop i (s.transaction c).undo) t.reads s.reads k (reads_same k);
    }

    whole : (at : ℕ → ℕ) (k : ℕ) → storage.undone (drop (mark_in s log (raised client (length (log client)) at) client) (s.transaction client).undo) s.reads k ≡ s.reads k
    whole at k =
        let i : raised client (length (log client)) at client ≡ length (log client) = chosen client (length (log client)) (at client) in
        let e : mark_in s log (raised client (length (log client)) at) client ≡ length (s.transaction client).undo =
        ap (λ (n : ℕ). mark_or (log client) n (length (s.transaction client).undo)) i ∙ mark_past (log client) (length (log client)) (length (s.transaction client).undo) (omega arith) in
        ap (λ (l : List Undo). storage.undone l s.reads k) (dropped (mark_in s log (raised client (length (log client)) at) client) (s.transaction client).undo (omega (arith, e)))

    others_mark : (at : ℕ → ℕ) (c : ℕ) → c ≢ client → mark_in s log (raised client (length (log client)) at) c ≡ mark_in t left at c
    others_mark at c ne =
        ap (λ (n : ℕ). mark_or (log c) n (length (s.transaction c).undo)) (passed c client (length (log client)) (at c) ne)
        ∙ (ap (λ (l : List Undone). mark_or l (at c) (length (s.transaction c).undo)) (sym (log_others c ne)) ∙ ap (λ (x : Transaction). mark_or (left c) (at c) (length x.undo)) (sym (commits.transaction.others c ne)))

    rows_one : IsApart (rows_of was (decoded schema s.reads))
    rows_one = rows_apart_by schema s log touched (decoded schema s.reads) stored.kept stored.apart stored.idle past

    rows_two : IsApart (rows_of now (decoded schema t.reads))
    rows_two = rows_apart_by schema t left reached (decoded schema t.reads) kept_now apart_now idle_now past_now

    rows_same : (k : ℕ) → decoded schema t.reads k ≡ decoded schema s.reads k
    rows_same k = ap (λ (f : ℕ → List ℕ). decoded schema f k) (commits.reads readable)

    rows_close : Closes (rows_of was (decoded schema s.reads)) (rows_of now (decoded schema t.reads)) client
    rows_close = record {
      none = λ k. ap (λ (l : List Undone). has_change (changes_of l) k) log_own;
      same = λ c k ne. ap (λ (l : List Undone). has_change (changes_of l) k) (log_others c ne);
      now = rows_same;
      others = λ c i k ne. ap (λ (l : List Undone). undone (drop i (changes_of l)) (decoded schema t.reads) k) (log_others c ne) ∙ rows_at (drop i (was c)) (decoded schema t.reads) (decoded schema s.reads) k (rows_same k);
    }

    rows_whole : (at : ℕ → ℕ) (k : ℕ) → undone (drop (raised client (length (log client)) at client) (was client)) (decoded schema s.reads) k ≡ decoded schema s.reads k
    rows_whole at k =
        let i : raised client (length (log client)) at client ≡ length (log client) = chosen client (length (log client)) (at client) in
        let held = changes_length (log client) in
        ap (λ (l : List RowChange). undone l (decoded schema s.reads) k) (dropped (raised client (length (log client)) at client) (was client) (omega (arith, i, held)))

    pub mixes_closed : IsApart (slots_of t) → (at : ℕ → ℕ) (mixed : ℕ → List ℕ) → IsMixed (slots_of t) (mark_in t left at) mixed → IsMixed (rows_of now (decoded schema t.reads)) at (decoded schema mixed) × HoldRows schema mixed
    mixes_closed apart_t at mixed m =
        let old : IsMixed (slots_of s) (mark_in s log (raised client (length (log client)) at)) mixed = mixed_of (slots_of s) apart_s (mark_in s log (raised client (length (log client)) at)) mixed
        (λ k. open_before (slots_of s) (slots_of t) client apart_s slots_close (mark_in s log (raised client (length (log client)) at)) (mark_in t left at) (others_mark at) (whole at) k (mixed k) (place_of (slots_of t) apart_t (mark_in t left at) mixed m k)) in
        let all = stored.mixes readable (raised client (length (log client)) at) mixed old in (
          mixed_of (rows_of now (decoded schema t.reads)) rows_two at (decoded schema mixed)
              (λ k. closed_after (rows_of was (decoded schema s.reads)) (rows_of now (decoded schema t.reads)) client rows_one rows_close (raised client (length (log client)) at) at (λ c ne. passed c client (length (log client)) (at c) ne) (rows_whole at) k (decoded schema mixed k)
              (place_of (rows_of was (decoded schema s.reads)) rows_one (raised client (length (log client)) at) (decoded schema mixed) all.0 k)),
          all.1,
        )

    -- ---- what is committed

    committed_is : (k : ℕ) (b : Bool) → wrote (s.transaction client).undo k ≡ b → t.committed k ≡ cond b (s.reads k) (s.committed k)
    committed_is k b e = ap (λ (f : ℕ → List ℕ). f k) (commits.committed readable.0) ∙ ap (λ (v : Bool). cond v (s.reads k) (s.committed k)) e

    base_place : (k : ℕ) → Place (slots_of s) (λ c. 0) k (s.committed k)
    base_place k = place_of (slots_of s) apart_s (λ c. 0) s.committed (stored.base readable) k

    pub base_closed : IsApart (slots_of t) → IsMixed (slots_of t) (λ c. 0) t.committed
    base_closed apart_t = mixed_of (slots_of t) apart_t (λ c. 0) t.committed (λ k. by_wrote k (wrote (s.transaction client).undo k) refl)
      where
        none_of : (k : ℕ) → wrote (s.transaction client).undo k ≡ true → (c : ℕ) → wrote (t.transaction c).undo k ≡ false
        none_of k w c = elim (cases_eq c client) [
          | inl is ↦ ap (λ (d : ℕ). wrote (t.transaction d).undo k) is ∙ slots_close.none k
          | inr ne ↦ slots_close.same c k ne ∙ others_none (slots_of s) apart_s client k w c ne
        ]

        kept_place : (k : ℕ) → wrote (s.transaction client).undo k ≡ false → t.committed k ≡ s.committed k → Place (slots_of s) (λ c. 0) k (s.committed k) → Place (slots_of t) (λ c. 0) k (t.committed k)
        kept_place k none is (inl (c, w, e)) = elim (cases_eq c client) [
          | inl own ↦ clash (wrote (s.transaction client).undo k) (sym (ap (λ (d : ℕ). wrote (s.transaction d).undo k) own) ∙ w) none
          | inr ne ↦ inl (c, slots_close.same c k ne ∙ w, is ∙ (e ∙ sym (slots_close.others c 0 k ne)))
        ]
        kept_place k none is (inr (all, e)) = inr (
          λ c. elim (cases_eq c client) [
            | inl own ↦ ap (λ (d : ℕ). wrote (t.transaction d).undo k) own ∙ slots_close.none k
            | inr ne ↦ slots_close.same c k ne ∙ all c
          ],
          is ∙ (e ∙ sym (reads_same k)),
        )

        by_wrote : (k : ℕ) (b : Bool) → wrote (s.transaction client).undo k ≡ b → Place (slots_of t) (λ c. 0) k (t.committed k)
        by_wrote k true w = inr (none_of k w, committed_is k true w ∙ sym (reads_same k))
        by_wrote k false w = kept_place k w (committed_is k false w) (base_place k)

    -- all of the client's changes, and none of the others'
    abbrev ended : ℕ → ℕ
    ended = raised client (length (log client)) (λ c. 0)

    zero_mark : (c : ℕ) → mark_or (log c) 0 (length (s.transaction c).undo) ≡ 0
    zero_mark c = stored.first readable.1 c

    ended_mixed : IsMixed (slots_of s) (mark_in s log ended) t.committed
    ended_mixed = mixed_of (slots_of s) apart_s (mark_in s log ended) t.committed (λ k. by_wrote k (wrote (s.transaction client).undo k) refl)
      where
        kept_place : (k : ℕ) → wrote (s.transaction client).undo k ≡ false → t.committed k ≡ s.committed k → Place (slots_of s) (λ c. 0) k (s.committed k) → Place (slots_of s) (mark_in s log ended) k (t.committed k)
        kept_place k none is (inl (c, w, e)) = elim (cases_eq c client) [
          | inl own ↦ clash (wrote (s.transaction client).undo k) (sym (ap (λ (d : ℕ). wrote (s.transaction d).undo k) own) ∙ w) none
          | inr ne ↦ inl (
            c,
            w,
            is ∙ (e ∙ ap (λ (i : ℕ). storage.undone (drop i (s.transaction c).undo) s.reads k)
                (sym (ap (λ (i : ℕ). mark_or (log c) i (length (s.transaction c).undo)) (passed c client (length (log client)) 0 ne) ∙ zero_mark c))),
          )
        ]
        kept_place k none is (inr (all, e)) = inr (all, is ∙ e)

        by_wrote : (k : ℕ) (b : Bool) → wrote (s.transaction client).undo k ≡ b → Place (slots_of s) (mark_in s log ended) k (t.committed k)
        by_wrote k true w = inl (client, w, committed_is k true w ∙ sym (whole (λ c. 0) k))
        by_wrote k false w = kept_place k w (committed_is k false w) (base_place k)

    before_mixed : IsMixed (slots_of s) (mark_in s log (λ c. 0)) s.committed
    before_mixed = record {
      of = λ c k w. (stored.base readable).of c k w ∙ ap (λ (i : ℕ). storage.undone (drop i (s.transaction c).undo) s.reads k) (sym (zero_mark c));
      rest = (stored.base readable).rest;
    }

    pub committed_chains : ∥ AreChains t.committed ∥₁
    committed_chains = (stored.mixes readable ended t.committed ended_mixed).1.chains

    pub committed_rows : (k : ℕ) → decoded schema t.committed k ≡ joined (was client) (decoded schema s.reads) (decoded schema s.committed) k
    committed_rows k = by_changed (has_change (was client) k) refl
      where
        x : IsMixed (rows_of was (decoded schema s.reads)) ended (decoded schema t.committed)
        x = (stored.mixes readable ended t.committed ended_mixed).0

        y : IsMixed (rows_of was (decoded schema s.reads)) (λ c. 0) (decoded schema s.committed)
        y = (stored.mixes readable (λ c. 0) s.committed before_mixed).0

        same_place : has_change (was client) k ≡ false → Place (rows_of was (decoded schema s.reads)) ended k (decoded schema t.committed k) → decoded schema t.committed k ≡ decoded schema s.committed k
        same_place none (inl (c, w, e)) = elim (cases_eq c client) [
          | inl own ↦ clash (has_change (was client) k) (sym (ap (λ (d : ℕ). has_change (was d) k) own) ∙ w) none
          | inr ne ↦ e ∙ (ap (λ (i : ℕ). undone (drop i (was c)) (decoded schema s.reads) k) (passed c client (length (log client)) 0 ne) ∙ sym (y.of c k w))
        ]
        same_place none (inr (all, e)) = e ∙ sym (y.rest k all)

        by_changed : (b : Bool) → has_change (was client) k ≡ b → decoded schema t.committed k ≡ joined (was client) (decoded schema s.reads) (decoded schema s.committed) k
        by_changed true e = x.of client k e ∙ (rows_whole (λ c. 0) k ∙ sym (ap (λ (b : Bool). cond b (decoded schema s.reads k) (decoded schema s.committed k)) e))
        by_changed false e = same_place e (place_of (rows_of was (decoded schema s.reads)) rows_one ended (decoded schema t.committed) x k) ∙ sym (ap (λ (b : Bool). cond b (decoded schema s.reads k) (decoded schema s.committed k)) e)

  pub stored_closed : IsApart (slots_of t) → IsStored schema t left reached
  stored_closed apart_t = record {
    marks = λ fine c. elim (cases_eq c client) [
      | inl is ↦ subst (λ (d : ℕ). AreMarks 0 (left d) (length (t.transaction d).undo)) (sym is) (subst (λ (l : List Undone). AreMarks 0 l (length (t.transaction client).undo)) (sym log_own) (omega arith))
      | inr ne ↦ subst (λ (l : List Undone). AreMarks 0 l (length (t.transaction c).undo)) (sym (log_others c ne)) (subst (λ (x : Transaction). AreMarks 0 (log c) (length x.undo)) (sym (commits.transaction.others c ne)) (stored.marks (sym same ∙ fine) c))
    ];
    first = λ fine c. elim (cases_eq c client) [
      | inl is ↦
          ap (λ (d : ℕ). mark_or (left d) 0 (length (t.transaction d).undo)) is
          ∙ (ap (λ (l : List Undone). mark_or l 0 (length (t.transaction client).undo)) log_own ∙ ap length commits.transaction.undo)
      | inr ne ↦ ap (λ (l : List Undone). mark_or l 0 (length (t.transaction c).undo)) (log_others c ne) ∙ (ap (λ (x : Transaction). mark_or (log c) 0 (length x.undo)) (commits.transaction.others c ne) ∙ stored.first (sym same ∙ fine) c)
    ];
    low = λ fine c k e. elim (cases_eq c client) [
      | inl is ↦ ap (λ (d : ℕ). wrote (t.transaction d).undo k) is ∙ ap (λ (l : List Undo). wrote l k) commits.transaction.undo
      | inr ne ↦ ap (λ (x : Transaction). wrote x.undo k) (commits.transaction.others c ne) ∙ stored.low (sym same ∙ fine) c k e
    ];
    written = λ fine c k e. elim (cases_eq c client) [
      | inl is ↦ clash (has (reached c) k) e (ap (λ (d : ℕ). has (reached d) k) is ∙ ap (λ (l : List ℕ). has l k) reached_own)
      | inr ne ↦ ap (λ (x : Transaction). x.written k) (commits.transaction.others c ne) ∙ stored.written (sym same ∙ fine) c k (fewer c k e)
    ];
    kept = kept_now;
    apart = apart_now;
    idle = idle_now;
    mixes = λ readable. mixes_closed (before readable) apart_t;
    weighed = λ readable c. elim (cases_eq c client) [
      | inl is ↦ subst (λ (d : ℕ). AreWeighed (left d) (decoded schema t.reads)) (sym is) (subst (λ (l : List Undone). AreWeighed l (decoded schema t.reads)) (sym log_own) tt)
      | inr ne ↦
          let was = before readable in
          subst (λ (l : List Undone). AreWeighed l (decoded schema t.reads)) (sym (log_others c ne))
          (subst (λ (f : ℕ → List ℕ). AreWeighed (log c) (decoded schema f)) (sym (commits.reads was)) (stored.weighed was c))
    ];
    base = λ readable. base_closed (before readable) apart_t;
  }
    where
      before : IsReadable t → IsReadable s
      before h = readable_on t s (sym commits.observable) (sym same) h
