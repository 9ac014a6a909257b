-- What holds between two calls holds after a row was changed, and after a client went back.
use Rattle.std.proofs.Common.{◌≡◌, ◌≢◌, ◌⊎◌, inl, inr, ⊎_elim, ℕ, ◌≤◌, min, ◌||◌, Bool, true, false, eqb, eqb-true, List, [], ◌∷◌, ◌++◌, length, take, drop, Option, refl, sym, ap, ◌∙◌, subst, arith, length-append}
use Rattle.std.specs.List.{Contains}
use Rattle.std.proofs.lemmas.Bool.{cases_eq}
use Rattle.storage.specs.Slots.{SlotState, Transaction, IsReadable, wrote}
use Rattle.storage.specs.declared.slots.Undo.{Undo}
use Rattle.abl_values.specs.Schema.{SchemaData}
use Rattle.row_fragments.specs.Fragments.{StoredBytes, ends}
use Rattle.row_fragments.specs.Tied.{IsTied, IsValue}
use Rattle.row_fragments.proofs.Composes.{readable_on, wrote_append}
use Rattle.database_meaning.specs.Setting.{fragments}
use Rattle.byte_rows.proofs.Kept.{among}
use Rattle.byte_rows.proofs.Rewrites.{high_bound}
use Rattle.row_store.specs.declared.store.RowChange.{RowChange}
use Rattle.row_store.specs.Changes.{has_change}
use Rattle.slot_rows.specs.declared.log.Undone.{Undone}
use Rattle.slot_rows.specs.Decoded.{decoded, row_of}
use Rattle.slot_rows.specs.Mixes.{slots_of}
use Rattle.slot_rows.specs.Stored.{AreMarks, AreWeighed, IsStored, changes_of, has, mark_or}
use Rattle.slot_rows.proofs.Histories.{IsApart, clash, not_true}
use Rattle.slot_rows.proofs.Keeps.{WentBack, base_back, length_is, mixes_back, rows_apart_by, rows_back}
use Rattle.slot_rows.proofs.Lists.{changed_drop, or_cases, or_right, rows_rest, wrote_take}
use Rattle.slot_rows.proofs.Marks.{changes_added, eqb_here, mark_added, mark_bound, mark_taken, marks_added, marks_taken}
use Rattle.slot_rows.proofs.Weights.{weighed_added, weighed_on, weighed_taken}
use Rattle.slot_rows.proofs.Writes.{Added, base_added, mixes_added, not_row, one_undone, row_now, row_others}

has_added : (rows : List ℕ) (row k : ℕ) → has (rows ++ row ∷ []) k ≡ true → (has rows k ≡ true) ⊎ (k ≡ row)
has_added [] row k e = or_cases (eqb k row) false e (λ here. inr (eqb-true k row here)) (λ later. absurd (cc later))
has_added (r ∷ rows) row k e = or_cases (eqb k r) (has (rows ++ row ∷ []) k) e
    (λ here. inl (ap (λ (b : Bool). b || has rows k) here))
    (λ later. ⊎_elim (λ (l : has rows k ≡ true). inl (or_right (eqb k r) (has rows k) l)) (λ (is : k ≡ row). inr is) (has_added rows row k later))

has_left : (rows : List ℕ) (row k : ℕ) → has rows k ≡ true → has (rows ++ row ∷ []) k ≡ true
has_left [] row k e = absurd (cc e)
has_left (r ∷ rows) row k e = or_cases (eqb k r) (has rows k) e (λ here. ap (λ (b : Bool). b || has (rows ++ row ∷ []) k) here) (λ later. or_right (eqb k r) (has (rows ++ row ∷ []) k) (has_left rows row k later))

has_last : (rows : List ℕ) (row : ℕ) → has (rows ++ row ∷ []) row ≡ true
has_last [] row = ap (λ (b : Bool). b || false) (eqb_here row)
has_last (r ∷ rows) row = or_right (eqb row r) (has (rows ++ row ∷ []) row) (has_last rows row)

changed_added : (changes : List RowChange) (x : RowChange) (k : ℕ) → has_change (changes ++ x ∷ []) k ≡ true → (has_change changes k ≡ true) ⊎ (k ≡ x.row)
changed_added [] x k e = or_cases (eqb k x.row) false e (λ here. inr (eqb-true k x.row here)) (λ later. absurd (cc later))
changed_added (c ∷ changes) x k e = or_cases (eqb k c.row) (has_change (changes ++ x ∷ []) k) e
    (λ here. inl (ap (λ (b : Bool). b || has_change changes k) here))
    (λ later. ⊎_elim (λ (l : has_change changes k ≡ true). inl (or_right (eqb k c.row) (has_change changes k) l)) (λ (is : k ≡ x.row). inr is) (changed_added changes x k later))

or_none : (a b : Bool) → a ≡ false → b ≡ false → (a || b) ≡ false
or_none a b e f = ap (λ (x : Bool). x || b) e ∙ f

not_both : (b : Bool) → b ≡ true → b ≡ false → ⊥
not_both b t f = clash b t f

-- ---- a row was changed

module _ (schema : SchemaData) (s t : SlotState) (log left : ℕ → List Undone) (touched reached : ℕ → List ℕ) (client row : ℕ) (slots : List ℕ) (to : Option StoredBytes) (u : Undone)
    (stored : IsStored schema s log touched) (a : Added schema s t log left client row slots to u)
    (begun : (s.transaction client).begun ≡ true) (fine : s.failed ≡ false)
    (others : (c : ℕ) → c ≢ client → t.transaction c ≡ s.transaction c) (still_begun : (t.transaction client).begun ≡ true)
    (alone : (c : ℕ) → c ≢ client → has (touched c) row ≡ false)
    (reached_own : reached client ≡ touched client ++ row ∷ []) (reached_others : (c : ℕ) → c ≢ client → reached c ≡ touched c) where
  abbrev us : List Undo
  us = (s.transaction client).undo

  undo_is : (t.transaction client).undo ≡ (s.transaction client).undo ++ a.change.wrote.more
  undo_is = a.change.wrote.undo

  added_marks : (c : ℕ) → AreMarks 0 (left c) (length (t.transaction c).undo)
  added_marks c = elim (cases_eq c client) [
    | inl e ↦ subst (λ (d : ℕ). AreMarks 0 (left d) (length (t.transaction d).undo)) (sym e)
        (subst (λ (l : List Undone). AreMarks 0 l (length (t.transaction client).undo)) (sym a.log_own)
        (marks_added 0 (length us) (length (t.transaction client).undo) (log client) u (stored.marks fine client) a.mark
        (let long = ap length undo_is ∙ length-append us a.change.wrote.more in omega (arith, long))))
    | inr ne ↦ subst (λ (l : List Undone). AreMarks 0 l (length (t.transaction c).undo)) (sym (a.log_others c ne))
        (subst (λ (x : Transaction). AreMarks 0 (log c) (length x.undo)) (sym (others c ne)) (stored.marks fine c))
  ]

  added_first : (c : ℕ) → mark_or (left c) 0 (length (t.transaction c).undo) ≡ 0
  added_first c = elim (cases_eq c client) [
    | inl e ↦
        ap (λ (d : ℕ). mark_or (left d) 0 (length (t.transaction d).undo)) e
        ∙ (ap (λ (l : List Undone). mark_or l 0 (length (t.transaction client).undo)) a.log_own
        ∙ (mark_added (log client) u 0 (length (t.transaction client).undo) (omega arith)
        ∙ (ap (mark_or (log client) 0) a.mark ∙ stored.first fine client)))
    | inr ne ↦ ap (λ (l : List Undone). mark_or l 0 (length (t.transaction c).undo)) (a.log_others c ne) ∙ (ap (λ (x : Transaction). mark_or (log c) 0 (length x.undo)) (others c ne) ∙ stored.first fine c)
  ]

  pub added_low : (c k : ℕ) → ends k ≡ true → wrote (t.transaction c).undo k ≡ false
  added_low c k e = elim (cases_eq c client) [
    | inl is ↦
        ap (λ (d : ℕ). wrote (t.transaction d).undo k) is
        ∙ (ap (λ (l : List Undo). wrote l k) undo_is
        ∙ (wrote_append us a.change.wrote.more k
        ∙ or_none (wrote us k) (wrote a.change.wrote.more k) (stored.low fine client k e) (a.change.wrote.of k (λ there. not_both (ends k) e (a.change.inside k there)))))
    | inr ne ↦ ap (λ (x : Transaction). wrote x.undo k) (others c ne) ∙ stored.low fine c k e
  ]

  more_written : (k : ℕ) → (s.transaction client).written k ≡ true → (t.transaction client).written k ≡ true
  more_written k e = ⊎_elim (λ (there : Contains slots k). a.change.wrote.marked k there) (λ (out : ¬ Contains slots k). a.change.wrote.written k out ∙ e) (among slots k)

  added_written : (c k : ℕ) → has (reached c) k ≡ true → (t.transaction c).written k ≡ true
  added_written c k e = elim (cases_eq c client) [
    | inl is ↦
        let own : has (touched client ++ row ∷ []) k ≡ true = sym (ap (λ (l : List ℕ). has l k) reached_own) ∙ (sym (ap (λ (d : ℕ). has (reached d) k) is) ∙ e) in
        ap (λ (d : ℕ). (t.transaction d).written k) is
        ∙ ⊎_elim (λ (l : has (touched client) k ≡ true). more_written k (stored.written fine client k l)) (λ (r : k ≡ row). ap (λ (i : ℕ). (t.transaction client).written i) r ∙ a.change.wrote.marked row a.change.first) (has_added (touched client) row k own)
    | inr ne ↦ ap (λ (x : Transaction). x.written k) (others c ne) ∙ stored.written fine c k (sym (ap (λ (l : List ℕ). has l k) (reached_others c ne)) ∙ e)
  ]

  added_kept : (c k : ℕ) → has_change (changes_of (left c)) k ≡ true → has (reached c) k ≡ true
  added_kept c k e = elim (cases_eq c client) [
    | inl is ↦
        let own : has_change (changes_of (log client) ++ record { row = u.row; old = u.old } ∷ []) k ≡ true =
        sym (ap (λ (l : List RowChange). has_change l k) (ap changes_of a.log_own ∙ changes_added (log client) u)) ∙ (sym (ap (λ (d : ℕ). has_change (changes_of (left d)) k) is) ∙ e) in
        ap (λ (d : ℕ). has (reached d) k) is
        ∙ (ap (λ (l : List ℕ). has l k) reached_own
        ∙ ⊎_elim (λ (l : has_change (changes_of (log client)) k ≡ true). has_left (touched client) row k (stored.kept client k l))
        (λ (r : k ≡ u.row). ap (has (touched client ++ row ∷ [])) (r ∙ a.row_is) ∙ has_last (touched client) row)
        (changed_added (changes_of (log client)) (record { row = u.row; old = u.old }) k own))
    | inr ne ↦ ap (λ (l : List ℕ). has l k) (reached_others c ne) ∙ stored.kept c k (sym (ap (λ (l : List Undone). has_change (changes_of l) k) (a.log_others c ne)) ∙ e)
  ]

  one_apart : (d k : ℕ) → d ≢ client → has (reached client) k ≡ true → has (reached d) k ≡ false
  one_apart d k ne e =
      ap (λ (l : List ℕ). has l k) (reached_others d ne)
      ∙ ⊎_elim (λ (l : has (touched client) k ≡ true). stored.apart client d k (λ is. ne (sym is)) l) (λ (r : k ≡ row). ap (has (touched d)) r ∙ alone d ne)
      (has_added (touched client) row k (sym (ap (λ (l : List ℕ). has l k) reached_own) ∙ e))

  added_apart : (c d k : ℕ) → c ≢ d → has (reached c) k ≡ true → has (reached d) k ≡ false
  added_apart c d k ne e = elim (cases_eq c client) [
    | inl is ↦ one_apart d k (λ same. ne (is ∙ sym same)) (sym (ap (λ (i : ℕ). has (reached i) k) is) ∙ e)
    | inr out ↦ elim (cases_eq d client) [
      | inl is ↦ by_own is (has (reached client) k) refl
      | inr far ↦ ap (λ (l : List ℕ). has l k) (reached_others d far) ∙ stored.apart c d k ne (sym (ap (λ (l : List ℕ). has l k) (reached_others c out)) ∙ e)
    ]
  ]
    where
      by_own : d ≡ client → (b : Bool) → has (reached client) k ≡ b → has (reached d) k ≡ false
      by_own is true own = absurd (not_both (has (reached c) k) e (one_apart c k (λ same. ne (same ∙ sym is)) own))
      by_own is false own = ap (λ (i : ℕ). has (reached i) k) is ∙ own

  added_idle : (c : ℕ) → (t.transaction c).begun ≡ false → (left c ≡ []) × (reached c ≡ [])
  added_idle c e = elim (cases_eq c client) [
    | inl is ↦ absurd (not_both (t.transaction client).begun still_begun (sym (ap (λ (d : ℕ). (t.transaction d).begun) is) ∙ e))
    | inr ne ↦
        let old = stored.idle c (sym (ap (λ (x : Transaction). x.begun) (others c ne)) ∙ e) in
        (a.log_others c ne ∙ old.0, reached_others c ne ∙ old.1)
  ]

  weighed_now : IsReadable s → (past : (c : ℕ) → 16 ≤ c → (s.transaction c).begun ≡ false) → IsApart (slots_of s) → IsApart (slots_of t) → (row_of_slot : ℕ → ℕ) → IsTied (IsValue t) row_of_slot
      → (c : ℕ) → AreWeighed (left c) (decoded schema t.reads)
  weighed_now was past apart_s apart_t row_of_slot tied c = elim (cases_eq c client) [
    | inl is ↦
        let now : decoded schema t.reads row ≡ row_of schema to = row_now schema s t log left touched client row slots to u stored a past apart_s apart_t row_of_slot tied was in
        let after : u.after ≡ fragments (decoded schema t.reads u.row) = a.after was ∙ ap fragments (sym now ∙ ap (decoded schema t.reads) (sym a.row_is)) in
        let inside = high_bound row (a.change.inside row a.change.first) in
        let same = a.row_is in
        subst (λ (d : ℕ). AreWeighed (left d) (decoded schema t.reads)) (sym is)
        (subst (λ (l : List Undone). AreWeighed l (decoded schema t.reads)) (sym a.log_own)
        (weighed_added (log client) u (decoded schema s.reads) (decoded schema t.reads) (one_undone schema s t log left touched client row slots to u stored a past apart_s apart_t row_of_slot tied was)
        a.before after a.few (omega (arith, inside, same)) (stored.weighed was client)))
    | inr ne ↦ subst (λ (l : List Undone). AreWeighed l (decoded schema t.reads)) (sym (a.log_others c ne))
        (weighed_on (log c) (decoded schema s.reads) (decoded schema t.reads)
        (λ k e. row_others schema s t log left touched client row slots to u stored a past apart_s apart_t row_of_slot tied was k (not_row schema s t log left touched client row slots to u stored a past apart_s apart_t row_of_slot tied was c k ne e))
        (stored.weighed was c))
  ]

  pub stored_added : (past : (c : ℕ) → 16 ≤ c → (s.transaction c).begun ≡ false) (past_now : (c : ℕ) → 16 ≤ c → (t.transaction c).begun ≡ false) → IsApart (slots_of s) → IsApart (slots_of t)
      → (row_of_slot : ℕ → ℕ) → (IsReadable s → IsTied (IsValue t) row_of_slot) → IsStored schema t left reached
  stored_added past past_now apart_s apart_t row_of_slot tied = record {
    marks = λ f c. added_marks c;
    first = λ f c. added_first c;
    low = λ f c k e. added_low c k e;
    written = λ f c k e. added_written c k e;
    kept = added_kept;
    apart = added_apart;
    idle = added_idle;
    mixes = λ readable at mixed m.
        let was = before readable in
        mixes_added schema s t log left touched client row slots to u stored a past apart_s apart_t row_of_slot (tied was) was
        (rows_apart_by schema t left reached (decoded schema t.reads) added_kept added_apart added_idle past_now) at mixed m;
    weighed = λ readable. let was = before readable in weighed_now was past apart_s apart_t row_of_slot (tied was);
    base = λ readable.
        let was = before readable in
        base_added schema s t log left touched client row slots to u stored a past apart_s apart_t row_of_slot (tied was) was;
  }
    where
      before : IsReadable t → IsReadable s
      before h = readable_on t s (sym a.observable) (sym a.change.wrote.failed) h

-- ---- a client went back

module _ (schema : SchemaData) (s t : SlotState) (log left : ℕ → List Undone) (touched reached : ℕ → List ℕ) (client n : ℕ) (stored : IsStored schema s log touched) (back : WentBack s t log left client n)
    (fine : s.failed ≡ false) (idle : (c : ℕ) → (t.transaction c).begun ≡ false → (left c ≡ []) × (reached c ≡ []))
    (written : (c k : ℕ) → has (reached c) k ≡ true → (t.transaction c).written k ≡ true)
    (kept : (c k : ℕ) → has_change (changes_of (left c)) k ≡ true → has (reached c) k ≡ true)
    (fewer : (c k : ℕ) → has (reached c) k ≡ true → has (touched c) k ≡ true) where
  abbrev m : ℕ
  m = mark_or (log client) n (length (s.transaction client).undo)

  long : length (t.transaction client).undo ≡ m
  long = ap length back.undo ∙ length_is m (s.transaction client).undo (mark_bound 0 (length (s.transaction client).undo) (log client) (stored.marks fine client) n)

  back_marks : (c : ℕ) → AreMarks 0 (left c) (length (t.transaction c).undo)
  back_marks c = elim (cases_eq c client) [
    | inl e ↦ subst (λ (d : ℕ). AreMarks 0 (left d) (length (t.transaction d).undo)) (sym e)
        (subst (λ (l : List Undone). AreMarks 0 l (length (t.transaction client).undo)) (sym back.log_own)
        (subst (AreMarks 0 (take n (log client))) (sym long) (marks_taken 0 (length (s.transaction client).undo) (log client) (stored.marks fine client) n)))
    | inr ne ↦ subst (λ (l : List Undone). AreMarks 0 l (length (t.transaction c).undo)) (sym (back.log_others c ne))
        (subst (λ (l : List Undo). AreMarks 0 (log c) (length l)) (sym (back.undo_others c ne)) (stored.marks fine c))
  ]

  back_first : (c : ℕ) → mark_or (left c) 0 (length (t.transaction c).undo) ≡ 0
  back_first c = elim (cases_eq c client) [
    | inl e ↦
        ap (λ (d : ℕ). mark_or (left d) 0 (length (t.transaction d).undo)) e
        ∙ (ap (λ (l : List Undone). mark_or l 0 (length (t.transaction client).undo)) back.log_own
        ∙ (ap (mark_or (take n (log client)) 0) long
        ∙ (mark_taken 0 n (length (s.transaction client).undo) (log client)
        ∙ (ap (λ (i : ℕ). mark_or (log client) i (length (s.transaction client).undo)) zero_least ∙ stored.first fine client))))
    | inr ne ↦ ap (λ (l : List Undone). mark_or l 0 (length (t.transaction c).undo)) (back.log_others c ne) ∙ (ap (λ (l : List Undo). mark_or (log c) 0 (length l)) (back.undo_others c ne) ∙ stored.first fine c)
  ]
    where
      zero_least : min 0 n ≡ 0
      zero_least = omega arith

  pub back_low : (c k : ℕ) → ends k ≡ true → wrote (t.transaction c).undo k ≡ false
  back_low c k e = elim (cases_eq c client) [
    | inl is ↦
        ap (λ (d : ℕ). wrote (t.transaction d).undo k) is
        ∙ (ap (λ (l : List Undo). wrote l k) back.undo
        ∙ not_true (wrote (take m (s.transaction client).undo) k) (λ w. not_both (wrote (s.transaction client).undo k) (wrote_take m (s.transaction client).undo k w) (stored.low fine client k e)))
    | inr ne ↦ ap (λ (l : List Undo). wrote l k) (back.undo_others c ne) ∙ stored.low fine c k e
  ]

  back_apart : (c d k : ℕ) → c ≢ d → has (reached c) k ≡ true → has (reached d) k ≡ false
  back_apart c d k ne e = not_true (has (reached d) k) (λ is. not_both (has (touched d) k) (fewer d k is) (stored.apart c d k ne (fewer c k e)))

  weighed_back : (past : (c : ℕ) → 16 ≤ c → (s.transaction c).begun ≡ false) → IsApart (slots_of s) → IsApart (slots_of t) → IsReadable s → (c : ℕ) → AreWeighed (left c) (decoded schema t.reads)
  weighed_back past apart_s apart_t was c = elim (cases_eq c client) [
    | inl is ↦ subst (λ (d : ℕ). AreWeighed (left d) (decoded schema t.reads)) (sym is)
        (subst (λ (l : List Undone). AreWeighed l (decoded schema t.reads)) (sym back.log_own)
        (weighed_taken n (log client) (decoded schema s.reads) (decoded schema t.reads) (rows_back schema s t log left touched client n stored back past apart_s apart_t was) (stored.weighed was client)))
    | inr ne ↦ subst (λ (l : List Undone). AreWeighed l (decoded schema t.reads)) (sym (back.log_others c ne))
        (weighed_on (log c) (decoded schema s.reads) (decoded schema t.reads)
        (λ k e. rows_back schema s t log left touched client n stored back past apart_s apart_t was k
        ∙ rows_rest (drop n (changes_of (log client))) (decoded schema s.reads) k (changed_drop n (changes_of (log client)) k (none_own c k ne e)))
        (stored.weighed was c))
  ]
    where
      none_own : (c k : ℕ) → c ≢ client → has_change (changes_of (log c)) k ≡ true → has_change (changes_of (log client)) k ≡ false
      none_own c k ne e = not_true (has_change (changes_of (log client)) k) (λ is. not_both (has (touched client) k) (stored.kept client k is) (stored.apart c client k ne (stored.kept c k e)))

  pub stored_back : (past : (c : ℕ) → 16 ≤ c → (s.transaction c).begun ≡ false) (past_now : (c : ℕ) → 16 ≤ c → (t.transaction c).begun ≡ false) → IsApart (slots_of s) → IsApart (slots_of t) → IsStored schema t left reached
  stored_back past past_now apart_s apart_t = record {
    marks = λ f c. back_marks c;
    first = λ f c. back_first c;
    low = λ f c k e. back_low c k e;
    written = λ f c k e. written c k e;
    kept = kept;
    apart = back_apart;
    idle = idle;
    mixes = λ readable at mixed m.
        let was = before readable in
        mixes_back schema s t log left touched client n stored back past apart_s apart_t was (rows_apart_by schema t left reached (decoded schema t.reads) kept back_apart idle past_now) at mixed m;
    weighed = λ readable. weighed_back past apart_s apart_t (before readable);
    base = λ readable.
        let was = before readable in
        base_back schema s t log left touched client n stored back past apart_s apart_t was;
  }
    where
      before : IsReadable t → IsReadable s
      before h = readable_on t s (sym back.observable) (sym back.failed) h
