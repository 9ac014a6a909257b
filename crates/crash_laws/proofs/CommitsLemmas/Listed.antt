-- The rows of a map, listed as contents.
use Rattle.std.proofs.Common.{◌≡◌, ℕ, ◌<◌, ◌&&◌, Ordering, Less, Equal, Greater, T, Bool, true, false, cond, List, [], ◌∷◌, length, map, Option, Some, None, IsTrue, ℤ, inl, inr, refl, sym, ap, ◌∙◌, subst, arith, nat_cmp}
use Rattle.std.proofs.lemmas.Bool.{cases_eq}
use Rattle.std.specs.Cmp.{nat_cmp_total, ranked}
use Rattle.std.specs.FinMap.{entries, entries_sorted, find, get, get-entries, get-from_entries, is_sorted}
use Rattle.std.specs.FinMap.Entries.{below_all}
use Rattle.std.specs.Ordering.{is_lt}
use Rattle.database_meaning.specs.declared.contents.ContentRow.{ContentRow}
use Rattle.database_meaning.specs.declared.state.StoredRow.{StoredRow}
use Rattle.database_meaning.specs.declared.state.Key.{Key}
use Rattle.database_meaning.specs.Setting.{Setting, has_key, unique_keys}
use Rattle.database_meaning.specs.State.{Rows}
use Rattle.database_meaning.specs.Traces.{HasUniqueKeys, IsSoundContents, IsSoundRow, IsSoundRows, content_row, identity_of, rows_of, stored_of}
use Rattle.database_meaning.specs.Waiting.{IsAscending}
use Rattle.database_meaning.proofs.Maps.{tied_other, tied_same}

abbrev pub RowSound : Setting → Option StoredRow → Type 0
RowSound f None = Unit {0}
RowSound f (Some row) = IsSoundRow f row

abbrev entry : ContentRow → ℕ × StoredRow
entry r = (identity_of r, stored_of r)

-- ---- lists of entries that ascend

both : (a b : Bool) → T (a && b) → T a × T b
both true b h = (tt, h)
both false b h = absurd h

less : (o : Ordering) → T (is_lt o) → o ≡ Less
less Less h = refl
less Equal h = absurd h
less Greater h = absurd h

below : (k j : ℕ) → T (is_lt (nat_cmp k j)) → k < j
below k j h = ranked k j Less (sym (less (nat_cmp k j) h))

none_there : (k : ℕ) (es : List (ℕ × StoredRow)) → T (below_all nat_cmp k es) → find nat_cmp k es ≡ None
none_there k [] h = refl
none_there k (e ∷ es) h =
    let parts = both (is_lt (nat_cmp k e.0)) (below_all nat_cmp k es) h in
    let lt = below k e.0 parts.0 in
    ap (λ (b : Bool). cond b (Some e.1) (find nat_cmp k es)) (tied_other k e.0 (λ is. absurd (omega (arith, lt, is)))) ∙ none_there k es parts.1

ascending : (es : List (ℕ × StoredRow)) → T (is_sorted nat_cmp es) → IsAscending (map identity_of (map content_row es))
ascending [] h = tt
ascending (e ∷ []) h = tt
ascending (e ∷ d ∷ es) h =
    let parts = both (below_all nat_cmp e.0 (d ∷ es)) (is_sorted nat_cmp (d ∷ es)) h in
    (below e.0 d.0 (both (is_lt (nat_cmp e.0 d.0)) (below_all nat_cmp e.0 es) parts.0).0, ascending (d ∷ es) parts.1)

listed : (f : Setting) (es : List (ℕ × StoredRow)) → T (is_sorted nat_cmp es) → ((q : ℕ) → RowSound f (find nat_cmp q es)) → IsSoundRows f (map content_row es)
listed f [] h all = tt
listed f (e ∷ es) h all = (subst (λ (b : Bool). RowSound f (cond b (Some e.1) (find nat_cmp e.0 es))) (tied_same e.0) (all e.0), listed f es parts.1 later)
  where
    parts : T (below_all nat_cmp e.0 es) × T (is_sorted nat_cmp es)
    parts = both (below_all nat_cmp e.0 es) (is_sorted nat_cmp es) h

    later : (q : ℕ) → RowSound f (find nat_cmp q es)
    later q = elim (cases_eq q e.0) [
      | inl is ↦ subst (λ (n : ℕ). RowSound f (find nat_cmp n es)) (sym is) (subst (RowSound f) (sym (none_there e.0 es parts.0)) tt)
      | inr ne ↦ subst (λ (b : Bool). RowSound f (cond b (Some e.1) (find nat_cmp q es))) (tied_other q e.0 ne) (all q)
    ]

-- ---- a map of rows

back : (es : List (ℕ × StoredRow)) → map entry (map content_row es) ≡ es
back [] = refl
back (e ∷ es) = ap (λ (l : List (ℕ × StoredRow)). e ∷ l) (back es)

same_rows : (rows : Rows) (k : ℕ) → get (rows_of (map content_row (entries rows))) k ≡ get rows k
same_rows rows k = get-from_entries nat_cmp_total (map entry (map content_row (entries rows))) k ∙ (ap (find nat_cmp k) (back (entries rows)) ∙ sym (get-entries rows k))

pub contents_sound : (f : Setting) (rows : Rows) (sequences : List ℤ) → ((k : ℕ) → RowSound f (get rows k)) → HasUniqueKeys f rows → length sequences ≡ length f.schema.sequences
    → IsSoundContents f (record { rows = map content_row (entries rows); sequences = sequences })
contents_sound f rows sequences sound one long = record {
  ascending = ascending (entries rows) (entries_sorted rows);
  rows = listed f (entries rows) (entries_sorted rows) (λ q. subst (RowSound f) (get-entries rows q) (sound q));
  unique = λ r q k here there. one r q k (at r k here) (at q k there);
  sequences = long;
}
  where
    at : (r : ℕ) (k : Key) → IsTrue (has_key (unique_keys f.schema (get (rows_of (map content_row (entries rows))) r)) k) → IsTrue (has_key (unique_keys f.schema (get rows r)) k)
    at r k has = subst (λ (o : Option StoredRow). IsTrue (has_key (unique_keys f.schema o) k)) (same_rows rows r) has
