-- The contents of a database that rows are: in ascending order, with each row at its identity, and sound where the rows are.
use Rattle.std.proofs.Common.{◌≡◌, ◌⊎◌, inl, inr, ⊎_elim, ℕ, zero, suc, ◌<◌, ◌≤◌, ◌&&◌, Ordering, T, Bool, true, false, cond, eqb, eq-eqb, List, [], ◌∷◌, ◌++◌, length, map, Option, Some, None, IsTrue, ℤ, refl, sym, ap, ◌∙◌, subst, arith}
use Rattle.std.proofs.Math.Logic.{∥∥₁_map}
use Rattle.std.proofs.Math.Path.{fun_ext}
use Rattle.std.proofs.lemmas.Bool.{cases_eq, ne_eqb}
use Rattle.std.proofs.lemmas.List.{append-nil}
use Rattle.abl_values.proofs.Numbers.{nat_cmp-less}
use Rattle.std.specs.Cmp.{nat_cmp_total}
use Rattle.std.specs.FinMap.{find, get, get-from_entries, is_sorted, nat_cmp-IsAntisymmetric}
use Rattle.std.specs.FinMap.Entries.{below_all, find-append, same_entries}
use Rattle.std.specs.Ordering.{eq_by_cmp, is_lt, nat_cmp}
use Rattle.abl_base.specs.declared.limits.TheConstants.{ROW_LIMIT}
use Rattle.storage.specs.Slots.{SlotState}
use Rattle.abl_values.specs.Schema.{SchemaData}
use Rattle.byte_rows.specs.Still.{Still}
use Rattle.database_meaning.specs.declared.contents.ContentRow.{ContentRow}
use Rattle.database_meaning.specs.declared.contents.Contents.{Contents}
use Rattle.database_meaning.specs.declared.state.Key.{Key}
use Rattle.database_meaning.specs.declared.state.StoredRow.{StoredRow}
use Rattle.database_meaning.specs.Setting.{Setting, has_key, unique_keys}
use Rattle.database_meaning.specs.Traces.{IsSoundContents, IsSoundRows, content_row, identity_of, rows_of, stored_of}
use Rattle.database_meaning.specs.Waiting.{IsAscending}
use Rattle.database_meaning.proofs.Maps.{tied_other, tied_same}
use Rattle.row_store.specs.Changes.{RowsById}
use Rattle.row_store.specs.Rows.{Durable, RowState, durable_of}
use Rattle.slot_rows.specs.Decoded.{decoded}
use Rattle.slot_rows.specs.Durable.{durable_in, left_in, times_in}
use Rattle.indexed_store.specs.Contents.{contents_of, if_there, listed}
use Rattle.indexed_store.specs.Opened.{AreSoundRows, CanOpen, IsOpenedStore, rows_before}
use Rattle.indexed_store.proofs.Sound.{before_all, before_more, before_past, decoded_past}

-- ---- the rows of the list are these rows

row_more : (n : ℕ) (rows : RowsById) (k : ℕ) → rows_before (suc n) rows k ≡ cond (eqb k n) (rows n) (rows_before n rows k)
row_more n rows k = sym (ap (λ (f : RowsById). f k) (before_more n rows))

-- a row is found at its identity
module _ (n : ℕ) (rows : RowsById) (k : ℕ) where
  found_none : rows n ≡ None → rows_before n rows k ≡ rows_before (suc n) rows k
  found_none none = elim (cases_eq k n) [
    | inl is ↦ before_past n rows k (omega (arith, is)) ∙ (sym none ∙ sym (row_more n rows k ∙ ap (λ (b : Bool). cond b (rows n) (rows_before n rows k)) (eq-eqb k n is)))
    | inr ne ↦ sym (row_more n rows k ∙ ap (λ (b : Bool). cond b (rows n) (rows_before n rows k)) (ne_eqb k n ne))
  ]

  found_some : (row : StoredRow) → rows n ≡ Some row → cond (eq_by_cmp nat_cmp k n) (Some row) (rows_before n rows k) ≡ rows_before (suc n) rows k
  found_some row some = elim (cases_eq k n) [
    | inl is ↦
        ap (λ (b : Bool). cond b (Some row) (rows_before n rows k)) (ap (λ (i : ℕ). eq_by_cmp nat_cmp i n) is ∙ tied_same n)
        ∙ (sym some ∙ sym (row_more n rows k ∙ ap (λ (b : Bool). cond b (rows n) (rows_before n rows k)) (eq-eqb k n is)))
    | inr ne ↦
        ap (λ (b : Bool). cond b (Some row) (rows_before n rows k)) (tied_other k n ne)
        ∙ sym (row_more n rows k ∙ ap (λ (b : Bool). cond b (rows n) (rows_before n rows k)) (ne_eqb k n ne))
  ]

abbrev entry : ContentRow → ℕ × StoredRow
entry r = (identity_of r, stored_of r)

entries_both : (xs ys : List ContentRow) → map entry (xs ++ ys) ≡ map entry xs ++ map entry ys
entries_both [] ys = refl
entries_both (x ∷ xs) ys = ap (λ (es : List (ℕ × StoredRow)). entry x ∷ es) (entries_both xs ys)

found_listed : (n : ℕ) (rows : RowsById) (k : ℕ) → find nat_cmp k (map entry (listed n rows)) ≡ rows_before n rows k
unfolding listed
found_listed zero rows k = sym (before_past zero rows k (omega arith))
found_listed (suc n) rows k = by_row (rows n) refl (λ q. found_listed n rows q)
  where
    by_row : (row : Option StoredRow) → rows n ≡ row → ((q : ℕ) → find nat_cmp q (map entry (listed n rows)) ≡ rows_before n rows q) → find nat_cmp k (map entry (listed n rows ++ if_there n row)) ≡ rows_before (suc n) rows k
    by_row None e found = ap (λ (xs : List ContentRow). find nat_cmp k (map entry xs)) (append-nil (listed n rows)) ∙ (found k ∙ found_none n rows k e)
    by_row (Some row) e found =
        ap (find nat_cmp k) (entries_both (listed n rows) (if_there n (Some row)))
        ∙ (find-append nat_cmp nat_cmp_total (map entry (listed n rows)) n row k (found n ∙ before_past n rows n (omega arith))
        ∙ (ap (cond (eq_by_cmp nat_cmp k n) (Some row)) (found k) ∙ found_some n rows k row e))

pub rows_listed : (rows : RowsById) → ((k : ℕ) → 1048576 ≤ k → rows k ≡ None) → (k : ℕ) → get (rows_of (listed ROW_LIMIT rows)) k ≡ rows k
rows_listed rows none k = get-from_entries nat_cmp_total (map entry (listed ROW_LIMIT rows)) k ∙ (found_listed ROW_LIMIT rows k ∙ ap (λ (f : RowsById). f k) (before_all ROW_LIMIT rows none))

-- ---- the list ascends

abbrev AreBelow : ℕ → List ContentRow → Type 0
AreBelow n [] = Unit {0}
AreBelow n (x ∷ xs) = (identity_of x < n) × AreBelow n xs

below_later : (n : ℕ) (x : ContentRow) (xs : List ContentRow) → AreBelow n (x ∷ xs) → AreBelow n xs
below_later n x xs h = h.1

below_more : (n : ℕ) (xs : List ContentRow) → AreBelow n xs → AreBelow (suc n) xs
below_more n [] h = tt
below_more n (x ∷ xs) h = (let lt = h.0 in omega (arith, lt), below_more n xs h.1)

below_both : (n : ℕ) (xs ys : List ContentRow) → AreBelow n xs → AreBelow n ys → AreBelow n (xs ++ ys)
below_both n [] ys h k = k
below_both n (x ∷ xs) ys h k = (h.0, below_both n xs ys h.1 k)

below_there : (n : ℕ) (row : Option StoredRow) → AreBelow (suc n) (if_there n row)
below_there n None = tt
below_there n (Some row) = (omega arith, tt)

below_listed : (n : ℕ) (rows : RowsById) → AreBelow n (listed n rows)
unfolding listed
below_listed zero rows = tt
below_listed (suc n) rows = below_both (suc n) (listed n rows) (if_there n (rows n)) (below_more n (listed n rows) (below_listed n rows)) (below_there n (rows n))

ascending_push : (xs : List ContentRow) (x : ContentRow) → IsAscending (map identity_of xs) → AreBelow (identity_of x) xs → IsAscending (map identity_of (xs ++ x ∷ []))
ascending_push [] x up below = tt
ascending_push (y ∷ []) x up below = (below.0, tt)
ascending_push (y ∷ z ∷ xs) x up below = (up.0, ascending_push (z ∷ xs) x up.1 (below_later (identity_of x) y (z ∷ xs) below))

pub ascending_listed : (n : ℕ) (rows : RowsById) → IsAscending (map identity_of (listed n rows))
unfolding listed
ascending_listed zero rows = tt
ascending_listed (suc n) rows = by_row (rows n) (ascending_listed n rows)
  where
    by_row : (row : Option StoredRow) → IsAscending (map identity_of (listed n rows)) → IsAscending (map identity_of (listed n rows ++ if_there n row))
    by_row None up = subst (λ (xs : List ContentRow). IsAscending (map identity_of xs)) (sym (append-nil (listed n rows))) up
    by_row (Some row) up = ascending_push (listed n rows) (content_row (n, row)) up (below_listed n rows)

-- ---- no other ascending list has these rows

skip : (k x : ℕ) (ns : List ℕ) → IsAscending (k ∷ x ∷ ns) → IsAscending (k ∷ ns)
skip k x [] up = tt
skip k x (n ∷ ns) up = (let one = up.0 in let two = up.1.0 in omega (arith, one, two), up.1.1)

later : (x : ℕ) (ns : List ℕ) → IsAscending (x ∷ ns) → IsAscending ns
later x [] up = tt
later x (n ∷ ns) up = up.1

both_so : (a b : Bool) → T a → T b → T (a && b)
both_so true b p q = q
both_so false b p q = absurd p

first_below : (k : ℕ) (x : ContentRow) (ns : List ℕ) → IsAscending (k ∷ identity_of x ∷ ns) → k < identity_of x
first_below k x ns up = up.0

all_above : (k : ℕ) (xs : List ContentRow) → IsAscending (k ∷ map identity_of xs) → T (below_all nat_cmp k (map entry xs))
all_above k [] up = tt
all_above k (x ∷ xs) up =
    both_so (is_lt (nat_cmp k (identity_of x))) (below_all nat_cmp k (map entry xs)) (subst (λ (r : Ordering). T (is_lt r)) (sym (nat_cmp-less k (identity_of x) (first_below k x (map identity_of xs) up))) tt)
    (all_above k xs (skip k (identity_of x) (map identity_of xs) up))

sorted : (xs : List ContentRow) → IsAscending (map identity_of xs) → T (is_sorted nat_cmp (map entry xs))
sorted [] up = tt
sorted (x ∷ xs) up = both_so (below_all nat_cmp (identity_of x) (map entry xs)) (is_sorted nat_cmp (map entry xs)) (all_above (identity_of x) xs up) (sorted xs (later (identity_of x) (map identity_of xs) up))

rows_back : (xs : List ContentRow) → map content_row (map entry xs) ≡ xs
rows_back [] = refl
rows_back (x ∷ xs) = ap (λ (l : List ContentRow). x ∷ l) (rows_back xs)

pub only_contents : (contents : Contents) (durable : Durable) → IsAscending (map identity_of contents.rows) → ((k : ℕ) → 1048576 ≤ k → durable.rows k ≡ None) → ((k : ℕ) → get (rows_of contents.rows) k ≡ durable.rows k)
    → contents.sequences ≡ durable.sequences → contents ≡ contents_of durable
only_contents contents durable up none is sequences =
    let entries : map entry contents.rows ≡ map entry (listed ROW_LIMIT durable.rows) =
    same_entries nat_cmp nat_cmp_total nat_cmp-IsAntisymmetric (map entry contents.rows) (map entry (listed ROW_LIMIT durable.rows)) (sorted contents.rows up) (sorted (listed ROW_LIMIT durable.rows) (ascending_listed ROW_LIMIT durable.rows))
    (λ k. sym (get-from_entries nat_cmp_total (map entry contents.rows) k) ∙ (is k ∙ (sym (rows_listed durable.rows none k) ∙ get-from_entries nat_cmp_total (map entry (listed ROW_LIMIT durable.rows)) k))) in
    let rows : contents.rows ≡ listed ROW_LIMIT durable.rows = sym (rows_back contents.rows) ∙ (ap (map content_row) entries ∙ rows_back (listed ROW_LIMIT durable.rows)) in
    λ i. record { rows = rows i; sequences = sequences i }

-- ---- sound contents

sound_both : (f : Setting) (xs ys : List ContentRow) → IsSoundRows f xs → IsSoundRows f ys → IsSoundRows f (xs ++ ys)
sound_both f [] ys h k = k
sound_both f (x ∷ xs) ys h k = (h.0, sound_both f xs ys h.1 k)

sound_listed : (f : Setting) (rows : RowsById) → AreSoundRows f.schema rows → (n : ℕ) → IsSoundRows f (listed n rows)
unfolding listed
sound_listed f rows sound zero = tt
sound_listed f rows sound (suc n) = sound_both f (listed n rows) (if_there n (rows n)) (sound_listed f rows sound n) (by_row (rows n) refl)
  where
    by_row : (row : Option StoredRow) → rows n ≡ row → IsSoundRows f (if_there n row)
    by_row None e = tt
    by_row (Some row) e = let is = sound.each n row e in ((is.table, is.fits, is.short), tt)

pub sound_of : (schema : SchemaData) (clients : ℕ) (rows : RowsById) (sequences : List ℤ) → AreSoundRows schema rows → ((k : ℕ) → 1048576 ≤ k → rows k ≡ None) → length sequences ≡ length schema.sequences
    → IsSoundContents (record { schema = schema; clients = clients }) (contents_of (record { rows = rows; sequences = sequences }))
sound_of schema clients rows sequences sound none long = record {
  ascending = ascending_listed ROW_LIMIT rows;
  rows = sound_listed (record { schema = schema; clients = clients }) rows sound ROW_LIMIT;
  unique = λ r q k has also. sound.apart r q k (at r k has) (at q k also);
  sequences = long;
}
  where
    at : (r : ℕ) (k : Key) → IsTrue (has_key (unique_keys schema (get (rows_of (listed ROW_LIMIT rows)) r)) k) → IsTrue (has_key (unique_keys schema (rows r)) k)
    at r k has = subst (λ (row : Option StoredRow). IsTrue (has_key (unique_keys schema row) k)) (rows_listed rows none r) has

-- ---- an opened store

module _ (s : RowState) (schema : SchemaData) (slots : SlotState) (opened : IsOpenedStore s schema slots) where
  committed_are : IsTrue slots.observable → s.committed ≡ decoded schema slots.reads
  committed_are seen = ap (λ (d : Durable). d.rows) (opened.durable seen)

  past : IsTrue slots.observable → (k : ℕ) → 1048576 ≤ k → s.committed k ≡ None
  past seen k le = ap (λ (f : RowsById). f k) (committed_are seen) ∙ decoded_past schema slots.reads k le

  pub store_contents : IsTrue s.observable → (k : ℕ) → s.committed k ≡ get (rows_of (contents_of (durable_of s)).rows) k
  store_contents seen k = sym (rows_listed s.committed (past (subst (λ (v : Bool). IsTrue v) opened.observable seen)) k)

  pub sound_contents : IsTrue slots.observable → (clients : ℕ) → IsSoundContents (record { schema = schema; clients = clients }) (contents_of (durable_of s))
  sound_contents seen clients =
      sound_of schema clients s.committed s.sequences (subst (AreSoundRows schema) (sym (committed_are seen)) (opened.held seen).rows) (past seen) opened.count

-- ---- stops of an opened store

-- up to the moment of the call they are those of the slots, and later they leave what the slots hold
module _ (schema : SchemaData) (a t : SlotState) (at_a at_t : ℕ → (ℕ → List ℕ) → Type 0) (can : CanOpen a) (still : Still a t at_a at_t) where
  pub left_before : (m : ℕ) (durable : Durable) → m ≤ a.moment → left_in schema at_t m durable → left_in schema at_a m durable
  left_before m durable past left = (left.0, still.time.nothing_else m left.0 past left.1, left.2)

  settled : IsTrue a.observable → a.committed ≡ a.reads
  settled seen = fun_ext (can.settled (seen, can.fine))

  doubt_reads : IsTrue a.observable → t.doubt ≡ a.reads
  doubt_reads seen = still.rests.keeps.doubt seen ∙ (fun_ext (can.certain (seen, can.fine)) ∙ settled seen)

  -- no commit is in doubt
  pub doubt_opened : IsTrue a.observable → (times_in schema t).doubt ≡ durable_in schema a.reads
  doubt_opened seen = ap (durable_in schema) (doubt_reads seen)

  pub left_later : IsTrue a.observable → (m : ℕ) (durable : Durable) → a.moment < m → left_in schema at_t m durable → ∥ durable ≡ durable_in schema a.reads ∥₁
  left_later seen m durable now left = ∥∥₁_map (still.time.here m left.0 now left.1) (λ (which : (left.0 ≡ a.committed) ⊎ (left.0 ≡ t.doubt)).
      left.2 ∙ ap (durable_in schema) (⊎_elim (λ (is : left.0 ≡ a.committed). is ∙ settled seen) (λ (is : left.0 ≡ t.doubt). is ∙ doubt_reads seen) which))
