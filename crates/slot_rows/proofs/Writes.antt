-- Rows stay stored where a client changes one.
use Rattle.std.proofs.Common.{◌≡◌, ◌≢◌, inl, inr, ⊎_elim, ℕ, ◌<◌, ◌≤◌, Bool, true, false, cond, eqb, ◌||◌, List, [], ◌∷◌, ◌++◌, length, take, drop, Option, refl, sym, ap, ◌∙◌, subst, arith, length-append}
use Rattle.std.specs.List.{Contains}
use Rattle.std.proofs.Math.Logic.{∥∥₁_map}
use Rattle.std.proofs.lemmas.Bool.{cases_eq, cases_lt}
use Rattle.storage.specs.Slots as storage
use Rattle.storage.specs.Slots.{SlotState, Transaction, IsReadable, wrote}
use Rattle.storage.specs.declared.slots.Undo.{Undo}
use Rattle.abl_values.specs.Schema.{SchemaData}
use Rattle.database_meaning.specs.Setting.{fragments}
use Rattle.row_fragments.specs.Calls.{Covers, Wrote}
use Rattle.row_fragments.specs.Chains.{AreChains}
use Rattle.row_fragments.specs.Fragments.{StoredBytes, row_at}
use Rattle.row_fragments.specs.Tied.{IsTied, IsValue}
use Rattle.row_fragments.proofs.Ties.{covers_drop, undone_mix}
use Rattle.byte_rows.specs.Rows.{ChangesRow}
use Rattle.row_store.specs.declared.store.RowChange.{RowChange}
use Rattle.row_store.specs.Changes.{RowsById, has_change, undone}
use Rattle.slot_rows.specs.declared.log.Undone.{Undone}
use Rattle.slot_rows.specs.Chained.{HoldRows}
use Rattle.slot_rows.specs.Decoded.{AreRead, decoded, is_read, row_of}
use Rattle.slot_rows.specs.Mixes.{IsMixed, rows_of, slots_of}
use Rattle.slot_rows.specs.Stored.{IsStored, changes_of, mark_in, mark_or}
use Rattle.slot_rows.proofs.Histories.{IsApart, IsLowered, Place, Returns, clash, mixed_of, not_true, others_none, place_after, place_before, place_of}
use Rattle.slot_rows.proofs.Lists.{changed_append, changed_left, changed_or, drop_left, dropped, rows_at, rows_return, slots_return, take_left, undone_rest, wrote_drop}
use Rattle.slot_rows.proofs.Keeps.{rows_apart}
use Rattle.slot_rows.proofs.Marks.{changes_added, changes_length, chosen, eqb_here, eqb_not, mark_added, mark_bound, mark_past, passed}

-- the client changed a row, and noted what undoes that
pub record Added (schema : SchemaData) (s t : SlotState) (log left : ℕ → List Undone) (client row : ℕ) (slots : List ℕ) (to : Option StoredBytes) (u : Undone) : Type 0 where
  pub change : ChangesRow s t client row slots to
  pub observable : t.observable ≡ s.observable
  pub committed : IsReadable s → t.committed ≡ s.committed
  pub undo_others : (c : ℕ) → c ≢ client → (t.transaction c).undo ≡ (s.transaction c).undo
  pub elsewhere : (c k : ℕ) → c ≢ client → wrote (t.transaction c).undo k ≡ true → ¬ Contains slots k
  pub mark : u.mark ≡ length (s.transaction client).undo
  pub row_is : u.row ≡ row
  pub old : IsReadable s → u.old ≡ decoded schema s.reads row
  pub before : u.before ≡ fragments u.old
  pub after : IsReadable s → u.after ≡ fragments (row_of schema to)
  pub few : u.after ≤ 125
  pub read : IsReadable s → is_read schema to ≡ true
  pub alone : (c : ℕ) → c ≢ client → has_change (changes_of (log c)) row ≡ false
  pub log_own : left client ≡ log client ++ u ∷ []
  pub log_others : (c : ℕ) → c ≢ client → left c ≡ log c

covers_right : (xs ys : List Undo) (k : ℕ) (bytes : List ℕ) → Covers ys k bytes → Covers (xs ++ ys) k bytes
covers_right [] ys k bytes h = h
covers_right (u ∷ xs) ys k bytes h = inr (covers_right xs ys k bytes h)

module _ (schema : SchemaData) (s t : SlotState) (log left : ℕ → List Undone) (touched : ℕ → List ℕ) (client row : ℕ) (slots : List ℕ) (to : Option StoredBytes) (u : Undone)
    (stored : IsStored schema s log touched) (a : Added schema s t log left client row slots to u) (past : (c : ℕ) → 16 ≤ c → (s.transaction c).begun ≡ false)
    (apart_s : IsApart (slots_of s)) (apart_t : IsApart (slots_of t)) (row_of_slot : ℕ → ℕ) (tied : IsTied (IsValue t) row_of_slot) (readable : IsReadable s) where
  abbrev n : ℕ
  n = length (s.transaction client).undo

  abbrev was : ℕ → List RowChange
  was c = changes_of (log c)

  abbrev now : ℕ → List RowChange
  now c = changes_of (left c)

  abbrev rows : RowsById
  rows = decoded schema s.reads

  abbrev after : RowsById
  after = decoded schema t.reads

  abbrev m : ℕ
  m = length (changes_of (log client))

  w : Wrote s t client slots
  w = a.change.wrote

  failed_not : s.failed ≡ false
  failed_not = readable.1

  undo_is : (t.transaction client).undo ≡ (s.transaction client).undo ++ a.change.wrote.more
  undo_is = a.change.wrote.undo

  slots_before : Returns (slots_of t) (slots_of s) client n
  slots_before = slots_return t s client n
      (sym (ap (take n) undo_is ∙ take_left (s.transaction client).undo a.change.wrote.more))
      (λ c ne. sym (a.undo_others c ne))
      (λ k. sym (ap (λ (us : List Undo). storage.undone us t.reads k) (ap (drop n) undo_is ∙ drop_left (s.transaction client).undo a.change.wrote.more) ∙ a.change.wrote.back readable k))
      (λ c k ne is. sym (a.change.wrote.rest readable k (a.elsewhere c k ne is)))

  -- ---- the rows

  pub row_now : after row ≡ row_of schema to
  row_now = ap (row_of schema) (a.change.held readable t.reads (λ k there. refl))

  pub row_others : (k : ℕ) → k ≢ row → after k ≡ rows k
  row_others k ne = ap (row_of schema) (a.change.others readable k ne)

  now_own : now client ≡ was client ++ record { row = u.row; old = u.old } ∷ []
  now_own = ap changes_of a.log_own ∙ changes_added (log client) u

  now_others : (c : ℕ) → c ≢ client → now c ≡ was c
  now_others c ne = ap changes_of (a.log_others c ne)

  pub not_row : (c k : ℕ) → c ≢ client → has_change (was c) k ≡ true → k ≢ row
  not_row c k ne is e = clash (has_change (was c) row) (sym (ap (has_change (was c)) e) ∙ is) (a.alone c ne)

  pub one_undone : (k : ℕ) → undone (record { row = u.row; old = u.old } ∷ []) after k ≡ rows k
  one_undone k = elim (cases_eq k u.row) [
    | inl e ↦
        let is : k ≡ row = e ∙ a.row_is in
        ap (λ (i : ℕ). cond (eqb i u.row) u.old (after k)) e ∙ (chosen u.row u.old (after k) ∙ (a.old readable ∙ ap rows (sym is)))
    | inr ne ↦ passed k u.row u.old (after k) ne ∙ row_others k (λ is. ne (is ∙ sym a.row_is))
  ]

  rows_before : Returns (rows_of now after) (rows_of was rows) client m
  rows_before = rows_return now was after rows client m
      (sym (ap (take m) now_own ∙ take_left (was client) (record { row = u.row; old = u.old } ∷ [])))
      (λ c ne. sym (now_others c ne))
      (λ k. sym (ap (λ (us : List RowChange). undone us after k) (ap (drop m) now_own ∙ drop_left (was client) (record { row = u.row; old = u.old } ∷ [])) ∙ one_undone k))
      (λ c k ne is. sym (row_others k (not_row c k ne (sym (ap (λ (us : List RowChange). has_change us k) (now_others c ne)) ∙ is))))

  rows_one : IsApart (rows_of was rows)
  rows_one = rows_apart schema s log touched rows stored past

  pub base_added : IsMixed (slots_of t) (λ c. 0) t.committed
  base_added = subst (IsMixed (slots_of t) (λ c. 0)) (sym (a.committed readable))
      (mixed_of (slots_of t) apart_t (λ c. 0) s.committed (λ k. place_before (slots_of t) (slots_of s) client n apart_t apart_s slots_before (λ c. 0) (λ c. 0) (record { own = omega arith; others = λ c ne. refl }) k (s.committed k)
      (place_of (slots_of s) apart_s (λ c. 0) s.committed (stored.base readable) k)))

  module _ (rows_two : IsApart (rows_of now after)) (at : ℕ → ℕ) (mixed : ℕ → List ℕ) (mix : IsMixed (slots_of t) (mark_in t left at) mixed) where
    abbrev Held : Type 0
    Held = IsMixed (rows_of now after) at (decoded schema mixed) × HoldRows schema mixed

    others_mark : (c : ℕ) → c ≢ client → mark_in t left at c ≡ mark_in s log at c
    others_mark c ne = ap (λ (us : List Undone). mark_or us (at c) (length (t.transaction c).undo)) (a.log_others c ne) ∙ ap (λ (us : List Undo). mark_or (log c) (at c) (length us)) (a.undo_others c ne)

    -- ---- the change is undone

    module _ (le : at client ≤ length (log client)) where
      undone_low : IsLowered client n (mark_in t left at) (mark_in s log at)
      undone_low = record {
        own =
            let marks = stored.marks failed_not client in
            let one : mark_in t left at client ≡ mark_or (log client ++ u ∷ []) (at client) (length (t.transaction client).undo) = ap (λ (us : List Undone). mark_or us (at client) (length (t.transaction client).undo)) a.log_own in
            let two = mark_added (log client) u (at client) (length (t.transaction client).undo) le in
            let three : mark_or (log client) (at client) u.mark ≡ mark_in s log at client = ap (mark_or (log client) (at client)) a.mark in
            let bound = mark_bound 0 (length (s.transaction client).undo) (log client) marks (at client) in
            omega (arith, one, two, three, bound);
        others = λ c ne. others_mark c ne;
      }

      rows_low : IsLowered client m at at
      rows_low = record { own = let e = changes_length (log client) in omega (arith, e); others = λ c ne. refl }

      with_undone : Held
      with_undone =
          let old : IsMixed (slots_of s) (mark_in s log at) mixed = mixed_of (slots_of s) apart_s (mark_in s log at) mixed
          (λ k. place_after (slots_of t) (slots_of s) client n apart_t apart_s slots_before (mark_in t left at) (mark_in s log at) undone_low k (mixed k) (place_of (slots_of t) apart_t (mark_in t left at) mixed mix k)) in
          let all = stored.mixes readable at mixed old in (
            mixed_of (rows_of now after) rows_two at (decoded schema mixed) (λ k. place_before (rows_of now after) (rows_of was rows) client m rows_two rows_one rows_before at at rows_low k (decoded schema mixed k)
                (place_of (rows_of was rows) rows_one at (decoded schema mixed) all.0 k)),
            all.1,
          )

    -- ---- the change is not undone

    module _ (lt : length (log client) < at client) where
      now_full : (k : ℕ) → storage.undone (drop (mark_in t left at client) (t.transaction client).undo) t.reads k ≡ t.reads k
      now_full k =
          let many : length (left client) ≤ at client = let e = ap length a.log_own ∙ length-append (log client) (u ∷ []) in omega (arith, e, lt) in
          let e : mark_in t left at client ≡ length (t.transaction client).undo = mark_past (left client) (at client) (length (t.transaction client).undo) many in
          ap (λ (us : List Undo). storage.undone us t.reads k) (dropped (mark_in t left at client) (t.transaction client).undo (omega (arith, e)))

      was_full : (k : ℕ) → storage.undone (drop (mark_in s log at client) (s.transaction client).undo) s.reads k ≡ s.reads k
      was_full k =
          let e : mark_in s log at client ≡ length (s.transaction client).undo = mark_past (log client) (at client) (length (s.transaction client).undo) (omega arith) in
          ap (λ (us : List Undo). storage.undone us s.reads k) (dropped (mark_in s log at client) (s.transaction client).undo (omega (arith, e)))

      places : (k : ℕ) → Place (slots_of t) (mark_in t left at) k (mixed k)
      places k = place_of (slots_of t) apart_t (mark_in t left at) mixed mix k

      -- the same before the change
      abbrev before : ℕ → List ℕ
      before k = cond (wrote (t.transaction client).undo k) (s.reads k) (mixed k)

      stays : (k : ℕ) → wrote (t.transaction client).undo k ≡ false → t.reads k ≡ s.reads k
      stays k none =
          sym (undone_rest (drop n (t.transaction client).undo) t.reads k (wrote_drop n (t.transaction client).undo k none)) ∙ sym (slots_before.now k)

      place_was : (k : ℕ) → Place (slots_of s) (mark_in s log at) k (before k)
      place_was k = by_wrote (wrote (t.transaction client).undo k) refl
        where
          here : (b : Bool) → wrote (s.transaction client).undo k ≡ b → wrote (t.transaction client).undo k ≡ true → Place (slots_of s) (mark_in s log at) k (s.reads k)
          here true is w = inl (client, is, sym (was_full k))
          here false is w = inr (
            λ c. elim (cases_eq c client) [
              | inl e ↦ ap (λ (d : ℕ). wrote (s.transaction d).undo k) e ∙ is
              | inr ne ↦ slots_before.same c k ne ∙ others_none (slots_of t) apart_t client k w c ne
            ],
            refl,
          )

          not_here : wrote (t.transaction client).undo k ≡ false → Place (slots_of t) (mark_in t left at) k (mixed k) → Place (slots_of s) (mark_in s log at) k (mixed k)
          not_here none (inl (c, is, e)) = elim (cases_eq c client) [
            | inl same ↦ clash (wrote (t.transaction client).undo k) (sym (ap (λ (d : ℕ). wrote (t.transaction d).undo k) same) ∙ is) none
            | inr ne ↦ inl (c, slots_before.same c k ne ∙ is, e ∙ (sym (slots_before.others c (mark_in t left at c) k ne is) ∙ ap (λ (i : ℕ). storage.undone (drop i (s.transaction c).undo) s.reads k) (others_mark c ne)))
          ]
          not_here none (inr (all, e)) = inr (
            λ c. elim (cases_eq c client) [
              | inl same ↦ ap (λ (d : ℕ). wrote (s.transaction d).undo k) same ∙ not_true (wrote (s.transaction client).undo k) (λ is. clash (wrote (t.transaction client).undo k) (slots_before.fewer k is) none)
              | inr ne ↦ slots_before.same c k ne ∙ all c
            ],
            e ∙ stays k none,
          )

          by_wrote : (b : Bool) → wrote (t.transaction client).undo k ≡ b → Place (slots_of s) (mark_in s log at) k (before k)
          by_wrote true e = subst (Place (slots_of s) (mark_in s log at) k) (sym (ap (λ (b : Bool). cond b (s.reads k) (mixed k)) e)) (here (wrote (s.transaction client).undo k) refl e)
          by_wrote false e = subst (Place (slots_of s) (mark_in s log at) k) (sym (ap (λ (b : Bool). cond b (s.reads k) (mixed k)) e)) (not_here e (places k))

      value_now : (k : ℕ) (v : List ℕ) → Place (slots_of t) (mark_in t left at) k v → IsValue t k v
      value_now k v (inl (c, is, e)) = subst (IsValue t k) (sym e)
          (undone_mix (IsValue t) row_of_slot tied (drop (mark_in t left at c) (t.transaction c).undo) t.reads (λ k. inl refl) (λ k bytes there. inr (c, covers_drop (mark_in t left at c) (t.transaction c).undo k bytes there)) k)
      value_now k v (inr (none, e)) = inl e

      value_was : (k : ℕ) → IsValue t k (s.reads k)
      value_was k = subst (IsValue t k) (a.change.wrote.back readable k)
          (undone_mix (IsValue t) row_of_slot tied a.change.wrote.more t.reads (λ k. inl refl)
          (λ k bytes there. inr (client, subst (λ (us : List Undo). Covers us k bytes) (sym undo_is) (covers_right (s.transaction client).undo a.change.wrote.more k bytes there))) k)

      value_before : (k : ℕ) → IsValue t k (before k)
      value_before k = by_wrote (wrote (t.transaction client).undo k) refl
        where
          by_wrote : (b : Bool) → wrote (t.transaction client).undo k ≡ b → IsValue t k (before k)
          by_wrote true e = subst (IsValue t k) (sym (ap (λ (b : Bool). cond b (s.reads k) (mixed k)) e)) (value_was k)
          by_wrote false e = subst (IsValue t k) (sym (ap (λ (b : Bool). cond b (s.reads k) (mixed k)) e)) (value_now k (mixed k) (places k))

      same_out : (k : ℕ) → ¬ Contains slots k → mixed k ≡ before k
      same_out k out = by_wrote (wrote (t.transaction client).undo k) refl
        where
          by_wrote : (b : Bool) → wrote (t.transaction client).undo k ≡ b → mixed k ≡ before k
          by_wrote true e = mix.of client k e ∙ (now_full k ∙ (a.change.wrote.rest readable k out ∙ sym (ap (λ (b : Bool). cond b (s.reads k) (mixed k)) e)))
          by_wrote false e = sym (ap (λ (b : Bool). cond b (s.reads k) (mixed k)) e)

      same_in : (k : ℕ) → Contains slots k → mixed k ≡ t.reads k
      same_in k there = of_place (places k)
        where
          of_place : Place (slots_of t) (mark_in t left at) k (mixed k) → mixed k ≡ t.reads k
          of_place (inl (c, is, e)) = elim (cases_eq c client) [
            | inl same ↦ e ∙ (ap (λ (d : ℕ). storage.undone (drop (mark_in t left at d) (t.transaction d).undo) t.reads k) same ∙ now_full k)
            | inr ne ↦ absurd (a.elsewhere c k ne is there)
          ]
          of_place (inr (none, e)) = e

      row_mixed : row_at mixed row ≡ to
      row_mixed = a.change.held readable mixed same_in

      others_mixed : (k : ℕ) → k ≢ row → row_at mixed k ≡ row_at before k
      others_mixed k ne = a.change.apart readable before mixed value_before (λ k. value_now k (mixed k) (places k)) same_out k ne

      all_before : IsMixed (rows_of was rows) at (decoded schema before) × HoldRows schema before
      all_before = stored.mixes readable at before (mixed_of (slots_of s) apart_s (mark_in s log at) before place_was)

      read_mixed : AreRead schema mixed
      read_mixed k = elim (cases_eq k row) [
        | inl e ↦
            let is : row_at mixed k ≡ to = ap (row_at mixed) e ∙ row_mixed in
            ap (is_read schema) is ∙ a.read readable
        | inr ne ↦
            let is : row_at mixed k ≡ row_at before k = others_mixed k ne in
            ap (is_read schema) is ∙ all_before.1.read k
      ]

      before_in : (k : ℕ) → Contains slots k → before k ≡ s.reads k
      before_in k there = by_wrote (wrote (t.transaction client).undo k) refl
        where
          by_wrote : (b : Bool) → wrote (t.transaction client).undo k ≡ b → before k ≡ s.reads k
          by_wrote true e = ap (λ (b : Bool). cond b (s.reads k) (mixed k)) e
          by_wrote false e = ap (λ (b : Bool). cond b (s.reads k) (mixed k)) e ∙ (same_in k there ∙ stays k e)

      chains_mixed : ∥ AreChains mixed ∥₁
      chains_mixed = ∥∥₁_map all_before.1.chains (λ (were : AreChains before). a.change.chains readable before mixed were before_in same_in same_out)

      back_now : (k : ℕ) → undone (drop (at client) (now client)) after k ≡ after k
      back_now k =
          let many = ap length now_own ∙ length-append (was client) (record { row = u.row; old = u.old } ∷ []) in
          let held = changes_length (log client) in
          ap (λ (us : List RowChange). undone us after k) (dropped (at client) (now client) (omega (arith, many, held, lt)))

      back_was : (k : ℕ) → undone (drop (at client) (was client)) rows k ≡ rows k
      back_was k = let held = changes_length (log client) in ap (λ (us : List RowChange). undone us rows k) (dropped (at client) (was client) (omega (arith, held, lt)))

      place_row : (k : ℕ) → Place (rows_of now after) at k (decoded schema mixed k)
      place_row k = elim (cases_eq k row) [
        | inl e ↦
            let has_row : has_change (now client) k ≡ true = ap (λ (us : List RowChange). has_change us k) now_own ∙ changed_append (was client) (record { row = u.row; old = u.old } ∷ []) k (own_change k (e ∙ sym a.row_is)) in
            inl (client, has_row, ap (λ (r : Option StoredBytes). row_of schema r) (ap (row_at mixed) e ∙ row_mixed) ∙ (sym row_now ∙ (ap after (sym e) ∙ sym (back_now k))))
        | inr ne ↦ moved ne (place_of (rows_of was rows) rows_one at (decoded schema before) all_before.0 k)
      ]
        where
          own_change : (k : ℕ) → k ≡ u.row → has_change (record { row = u.row; old = u.old } ∷ []) k ≡ true
          own_change k e = ap (λ (i : ℕ). eqb i u.row || false) e ∙ chosen_or u.row
            where
              chosen_or : (i : ℕ) → (eqb i i || false) ≡ true
              chosen_or i = ap (λ (b : Bool). b || false) (eqb_here i)

          moved : k ≢ row → Place (rows_of was rows) at k (decoded schema before k) → Place (rows_of now after) at k (decoded schema mixed k)
          moved ne p = of_place p
            where
              x_is : decoded schema mixed k ≡ decoded schema before k
              x_is = ap (row_of schema) (others_mixed k ne)

              of_place : Place (rows_of was rows) at k (decoded schema before k) → Place (rows_of now after) at k (decoded schema mixed k)
              of_place (inl (c, is, e)) = elim (cases_eq c client) [
                | inl same ↦
                    let own : has_change (was client) k ≡ true = sym (ap (λ (d : ℕ). has_change (was d) k) same) ∙ is in
                    inl (
                      client,
                      ap (λ (us : List RowChange). has_change us k) now_own ∙ changed_left (was client) (record { row = u.row; old = u.old } ∷ []) k own,
                      x_is ∙ (e ∙ (ap (λ (d : ℕ). undone (drop (at d) (was d)) rows k) same ∙ (back_was k ∙ (sym (row_others k ne) ∙ sym (back_now k))))),
                    )
                | inr out ↦ inl (
                  c,
                  ap (λ (us : List RowChange). has_change us k) (now_others c out) ∙ is,
                  x_is ∙ (e ∙ (rows_at (drop (at c) (was c)) rows after k (sym (row_others k ne)) ∙ ap (λ (us : List RowChange). undone (drop (at c) us) after k) (sym (now_others c out)))),
                )
              ]
              of_place (inr (none, e)) = inr (
                λ c. elim (cases_eq c client) [
                  | inl same ↦ ap (λ (d : ℕ). has_change (now d) k) same ∙ (ap (λ (us : List RowChange). has_change us k) now_own ∙ changed_or (was client) (record { row = u.row; old = u.old } ∷ []) k (none client) (ap (λ (b : Bool). b || false) (not_own (λ is. ne (is ∙ a.row_is)))))
                  | inr out ↦ ap (λ (us : List RowChange). has_change us k) (now_others c out) ∙ none c
                ],
                x_is ∙ (e ∙ sym (row_others k ne)),
              )
                where
                  not_own : k ≢ u.row → eqb k u.row ≡ false
                  not_own out = eqb_not k u.row out

      with_change : Held
      with_change = (mixed_of (rows_of now after) rows_two at (decoded schema mixed) place_row, record { read = read_mixed; chains = chains_mixed })

    pub mixes_added : Held
    mixes_added = ⊎_elim (λ (lt : length (log client) < at client). with_change lt) (λ (le : at client ≤ length (log client)). with_undone le) (cases_lt (length (log client)) (at client))
