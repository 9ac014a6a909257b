-- What the changes of a log do to the number of fragments.
use Rattle.std.proofs.Common.{◌≡◌, ◌≢◌, inl, inr, ℕ, zero, suc, ◌+◌, ◌*◌, ◌<◌, ◌≤◌, ◌||◌, ◌-◌, ◌^◌, ◌&&◌, Bool, true, false, T, cond, eqb, eqb-true, List, [], ◌∷◌, ◌++◌, length, map, sum, take, drop, Option, Some, None, refl, sym, ap, ◌∙◌, subst, nat_cmp, Equal, arith}
use Rattle.std.specs.FinMap.{get, values, entries, entries_sorted, find, is_sorted, get-entries}
use Rattle.std.specs.FinMap.Entries.{below_all}
use Rattle.std.specs.Ordering.{is_lt, eq_by_cmp}
use Rattle.std.proofs.lemmas.Cmp.{tied_itself, nat_cmp_total}
use Rattle.std.proofs.lemmas.Bool.{cases_eq, cases_lt}
use Rattle.std.proofs.lemmas.List.{take-append-drop}
use Rattle.std.proofs.lemmas.List.Sums.{sum_by-cons}
use Rattle.database_meaning.specs.declared.state.StoredRow.{StoredRow}
use Rattle.database_meaning.specs.Setting.{fragments}
use Rattle.database_meaning.specs.State.{Rows}
use Rattle.database_meaning.proofs.Maps.{tied_same, tied_other}
use Rattle.row_store.specs.declared.store.RowChange.{RowChange}
use Rattle.row_store.specs.Changes.{RowsById, has_change, undone, with_row}
use Rattle.row_store.specs.Rows.{joined}
use Rattle.slot_rows.specs.declared.log.Undone.{Undone}
use Rattle.slot_rows.specs.Counted.{AreCounted, after_all, before_all, fragments_below}
use Rattle.slot_rows.specs.Stored.{AreWeighed, changes_of}
use Rattle.slot_rows.proofs.Histories.{clash}
use Rattle.slot_rows.proofs.Lists.{or_cases, or_right, rows_append, rows_at, rows_rest}
use Rattle.slot_rows.proofs.Marks.{changes_added, changes_take, chosen, eqb_here, passed}

-- ---- the fragments below a number

pub below_same : (n : ℕ) (f g : RowsById) → ((k : ℕ) → k < n → f k ≡ g k) → fragments_below n f ≡ fragments_below n g
unfolding fragments_below
below_same zero f g same = refl
below_same (suc n) f g same =
    let here : fragments (f n) ≡ fragments (g n) = ap fragments (same n (omega arith)) in
    let rest = below_same n f g (λ k lt. same k (omega (arith, lt))) in
    omega (arith, here, rest)

pub below_with : (n : ℕ) (rows : RowsById) (at : ℕ) (to : Option StoredRow) → at < n → fragments_below n (with_row rows at to) + fragments (rows at) ≡ fragments_below n rows + fragments to
unfolding fragments_below
below_with zero rows at to lt = absurd (omega (arith, lt))
below_with (suc n) rows at to lt = elim (cases_eq n at) [
  | inl e ↦
      let here : fragments (with_row rows at to n) ≡ fragments to = ap (λ (i : ℕ). fragments (cond (eqb n i) to (rows n))) (sym e) ∙ ap fragments (chosen n to (rows n)) in
      let was : fragments (rows n) ≡ fragments (rows at) = ap (λ (i : ℕ). fragments (rows i)) e in
      let rest = below_same n (with_row rows at to) rows (λ k less. passed k at to (rows k) (λ is. omega (arith, less, is, e))) in
      omega (arith, here, was, rest)
  | inr ne ↦
      let here : fragments (with_row rows at to n) ≡ fragments (rows n) = ap fragments (passed n at to (rows n) ne) in
      let rest = below_with n rows at to (omega (arith, lt, ne)) in
      omega (arith, here, rest)
]

pub below_few : (n : ℕ) (rows : RowsById) → ((k : ℕ) → fragments (rows k) ≤ 125) → fragments_below n rows ≤ 125 * n
unfolding fragments_below
below_few zero rows few = omega arith
below_few (suc n) rows few = let here = few n in let rest = below_few n rows few in omega (arith, here, rest)

pub below_none : (n : ℕ) (rows : RowsById) → ((k : ℕ) → k < n → rows k ≡ None) → fragments_below n rows ≡ 0
unfolding fragments_below
below_none zero rows none = refl
below_none (suc n) rows none =
    let here : fragments (rows n) ≡ 0 = ap fragments (none n (omega arith)) in
    let rest = below_none n rows (λ k lt. none k (omega (arith, lt))) in
    omega (arith, here, rest)

-- where there is no row from a number on, the fragments are those below it
pub below_end : (n end : ℕ) (rows : RowsById) → end ≤ n → ((k : ℕ) → end ≤ k → rows k ≡ None) → fragments_below n rows ≡ fragments_below end rows
unfolding fragments_below
below_end zero end rows le none = let is : end ≡ 0 = omega (arith, le) in ap (λ (m : ℕ). fragments_below m rows) (sym is)
below_end (suc n) end rows le none = elim (cases_eq end (suc n)) [
  | inl e ↦ ap (λ (m : ℕ). fragments_below m rows) (sym e)
  | inr ne ↦
      let here = ap fragments (none n (omega (arith, le, ne))) in
      let rest = below_end n end rows (omega (arith, le, ne)) none in
      omega (arith, here, rest)
]

pub below_more : (n : ℕ) (rows : RowsById) → fragments_below (n + 1) rows ≡ fragments_below n rows + fragments (rows n)
unfolding fragments_below
below_more n rows =
    let step : fragments_below (suc n) rows ≡ fragments (rows n) + fragments_below n rows = refl in
    let is : n + 1 ≡ suc n = omega arith in
    let moved = ap (λ (m : ℕ). fragments_below m rows) is in
    omega (arith, step, moved)

-- ---- the fragments of a map of rows

t_both : (a b : Bool) → T (a && b) → T a × T b
t_both true b h = (tt, h)
t_both false b h = absurd h

apart : (x y : ℕ) → T (is_lt (nat_cmp x y)) → y ≢ x
apart x y h e =
    let same : nat_cmp x y ≡ Equal = ap (nat_cmp x) e ∙ tied_itself nat_cmp_total x in
    subst (λ o. T (is_lt o)) same h

not_later : (x : ℕ) (es : List (ℕ × StoredRow)) → T (below_all nat_cmp x es) → find nat_cmp x es ≡ None
not_later x [] h = refl
not_later x (e ∷ es) h =
    let b = t_both (is_lt (nat_cmp x e.0)) (below_all nat_cmp x es) h in
    ap (λ (t : Bool). cond t (Some e.1) (find nat_cmp x es)) (tied_other x e.0 (λ is. apart x e.0 b.0 (sym is))) ∙ not_later x es b.1

-- the first entry is the row at its key, over the later ones
first_row : (e : ℕ × StoredRow) (es : List (ℕ × StoredRow)) (k : ℕ) → find nat_cmp k (e ∷ es) ≡ with_row (λ i. find nat_cmp i es) e.0 (Some e.1) k
first_row e es k = elim (cases_eq k e.0) [
  | inl is ↦
      ap (λ (t : Bool). cond t (Some e.1) (find nat_cmp k es)) (ap (λ (i : ℕ). eq_by_cmp nat_cmp i e.0) is ∙ tied_same e.0)
      ∙ sym (ap (λ (t : Bool). cond t (Some e.1) (find nat_cmp k es)) (ap (λ (i : ℕ). eqb i e.0) is ∙ eqb_here e.0))
  | inr ne ↦ ap (λ (t : Bool). cond t (Some e.1) (find nat_cmp k es)) (tied_other k e.0 ne) ∙ sym (passed k e.0 (Some e.1) (find nat_cmp k es) ne)
]

list_sum : (n : ℕ) (es : List (ℕ × StoredRow)) → T (is_sorted nat_cmp es) → ((k : ℕ) → n ≤ k → find nat_cmp k es ≡ None)
    → sum (map (λ r. fragments (Some r)) (map (λ e. e.1) es)) ≡ fragments_below n (λ k. find nat_cmp k es)
list_sum n [] h past = sym (below_none n (λ k. find nat_cmp k []) (λ k lt. refl))
list_sum n (e ∷ es) h past =
    let b = t_both (below_all nat_cmp e.0 es) (is_sorted nat_cmp es) h in
    let whole : fragments_below n (λ k. find nat_cmp k (e ∷ es)) ≡ fragments_below n (with_row (λ i. find nat_cmp i es) e.0 (Some e.1)) = below_same n (λ k. find nat_cmp k (e ∷ es)) (with_row (λ i. find nat_cmp i es) e.0 (Some e.1)) (λ k lt. first_row e es k) in
    let step = below_with n (λ i. find nat_cmp i es) e.0 (Some e.1) within in
    let none : fragments (find nat_cmp e.0 es) ≡ 0 = ap fragments (not_later e.0 es b.0) in
    let rest = list_sum n es b.1 (λ k le. sym (first_row e es k ∙ passed k e.0 (Some e.1) (find nat_cmp k es) (λ is. omega (arith, le, is, within))) ∙ past k le) in
    let more : sum (map (λ (r : StoredRow). fragments (Some r)) (map (λ (d : ℕ × StoredRow). d.1) (e ∷ es))) ≡ fragments (Some e.1) + sum (map (λ (r : StoredRow). fragments (Some r)) (map (λ (d : ℕ × StoredRow). d.1) es)) =
    sum_by-cons (λ (x : ℕ). x) (fragments (Some e.1)) (map (λ (r : StoredRow). fragments (Some r)) (map (λ (d : ℕ × StoredRow). d.1) es)) in
    omega (arith, whole, step, none, rest, more)
  where
    within : e.0 < n
    within = elim (cases_lt e.0 n) [
      | inl lt ↦ lt
      | inr le ↦
          let here : Some e.1 ≡ None = sym (ap (λ (t : Bool). cond t (Some e.1) (find nat_cmp e.0 es)) (tied_same e.0)) ∙ past e.0 le in
          absurd (cc here)
    ]

pub map_sum : (n : ℕ) (rows : Rows) (f : RowsById) → ((k : ℕ) → get rows k ≡ f k) → ((k : ℕ) → n ≤ k → f k ≡ None)
    → sum (map (λ r. fragments (Some r)) (values rows)) ≡ fragments_below n f
map_sum n rows f same past =
    list_sum n (entries rows) (entries_sorted rows) (λ k le. sym (get-entries rows k) ∙ (same k ∙ past k le))
    ∙ below_same n (λ k. find nat_cmp k (entries rows)) f (λ k lt. sym (get-entries rows k) ∙ same k)

-- ---- the changes of a log

-- what a log notes is of the rows that it changed alone
pub weighed_on : (log : List Undone) (f g : RowsById) → ((k : ℕ) → has_change (changes_of log) k ≡ true → g k ≡ f k) → AreWeighed log f → AreWeighed log g
weighed_on [] f g same w = tt
weighed_on (u ∷ later) f g same w =
    let own : g u.row ≡ f u.row = same u.row (ap (λ (b : Bool). b || has_change (changes_of later) u.row) (eqb_here u.row)) in (
      w.0,
      w.1 ∙ ap fragments (sym (rows_at (changes_of later) g f u.row own)),
      w.2,
      w.3,
      weighed_on later f g (λ k e. same k (or_right (eqb k u.row) (has_change (changes_of later) k) e)) w.4,
    )

pub weighed_added : (log : List Undone) (u : Undone) (f g : RowsById) → ((k : ℕ) → undone (record { row = u.row; old = u.old } ∷ []) g k ≡ f k)
    → u.before ≡ fragments u.old → u.after ≡ fragments (g u.row) → u.after ≤ 125 → u.row ≤ 1048575 → AreWeighed log f → AreWeighed (log ++ u ∷ []) g
weighed_added [] u f g back before after few inside w = (before, after, few, inside, tt)
weighed_added (v ∷ later) u f g back before after few inside w =
    let same : undone (changes_of (later ++ u ∷ [])) g v.row ≡ undone (changes_of later) f v.row =
    ap (λ (us : List RowChange). undone us g v.row) (changes_added later u)
    ∙ (rows_append (changes_of later) (record { row = u.row; old = u.old } ∷ []) g v.row ∙ rows_at (changes_of later) (undone (record { row = u.row; old = u.old } ∷ []) g) f v.row (back v.row)) in
    (w.0, w.1 ∙ ap fragments (sym same), w.2, w.3, weighed_added later u f g back before after few inside w.4)

pub weighed_taken : (n : ℕ) (log : List Undone) (f g : RowsById) → ((k : ℕ) → g k ≡ undone (drop n (changes_of log)) f k) → AreWeighed log f → AreWeighed (take n log) g
weighed_taken zero log f g back w = tt
weighed_taken (suc n) [] f g back w = tt
weighed_taken (suc n) (u ∷ later) f g back w =
    let same : undone (changes_of (take n later)) g u.row ≡ undone (changes_of later) f u.row =
    ap (λ (us : List RowChange). undone us g u.row) (changes_take n later)
    ∙ (rows_at (take n (changes_of later)) g (undone (drop n (changes_of later)) f) u.row (back u.row)
    ∙ (sym (rows_append (take n (changes_of later)) (drop n (changes_of later)) f u.row) ∙ ap (λ (us : List RowChange). undone us f u.row) (take-append-drop n (changes_of later)))) in
    (w.0, w.1 ∙ ap fragments (sym same), w.2, w.3, weighed_taken n later f g back w.4)

pub weighed_few : (log : List Undone) (rows : RowsById) → AreWeighed log rows → (k : ℕ) → has_change (changes_of log) k ≡ true → fragments (rows k) ≤ 125
weighed_few [] rows w k e = absurd (cc e)
weighed_few (u ∷ later) rows w k e = by_later (has_change (changes_of later) k) refl (λ f. weighed_few later rows w.4 k f)
  where
    by_later : (b : Bool) → has_change (changes_of later) k ≡ b → (has_change (changes_of later) k ≡ true → fragments (rows k) ≤ 125) → fragments (rows k) ≤ 125
    by_later true f again = again f
    by_later false f again =
        let is : k ≡ u.row = or_cases (eqb k u.row) (has_change (changes_of later) k) e (λ here. eqb-true k u.row here) (λ there. clash (has_change (changes_of later) k) there f) in
        let own : undone (changes_of later) rows u.row ≡ rows k = rows_rest (changes_of later) rows u.row (ap (has_change (changes_of later)) (sym is) ∙ f) ∙ ap rows (sym is) in
        let after : u.after ≡ fragments (rows k) = w.1 ∙ ap fragments own in
        let few = w.2 in
        omega (arith, after, few)

pub after_few : (log : List Undone) (rows : RowsById) → AreWeighed log rows → after_all log ≤ 125 * length log
after_few [] rows w = omega arith
after_few (u ∷ later) rows w =
    let more = sum_by-cons (λ (v : Undone). v.after) u later in
    let few = w.2 in
    let rest = after_few later rows w.4 in
    omega (arith, more, few, rest)

-- undoing the changes takes what they added, and gives what they took
weigh_sum : (n : ℕ) (log : List Undone) (rows : RowsById) → 1048576 ≤ n → AreWeighed log rows → fragments_below n rows + before_all log ≡ fragments_below n (undone (changes_of log) rows) + after_all log
weigh_sum n [] rows all w = refl
weigh_sum n (u ∷ later) rows all w =
    let inside = w.3 in
    let lt : u.row < n = omega (arith, inside, all) in
    let step = below_with n (undone (changes_of later) rows) u.row u.old lt in
    let rest = weigh_sum n later rows all w.4 in
    let first = sum_by-cons (λ (v : Undone). v.before) u later in
    let last = sum_by-cons (λ (v : Undone). v.after) u later in
    let before = w.0 in
    let after = w.1 in
    omega (arith, step, rest, first, last, before, after)

-- ---- a commit

module _ (log : List Undone) (rows committed : RowsById) (weighed : AreWeighed log rows) (back : (k : ℕ) → has_change (changes_of log) k ≡ true → committed k ≡ undone (changes_of log) rows k) where
  abbrev all : RowsById
  all = joined (changes_of log) rows committed

  changed : (k : ℕ) → has_change (changes_of log) k ≡ true → all k ≡ rows k
  changed k e = ap (λ (b : Bool). cond b (rows k) (committed k)) e

  rest : (k : ℕ) → has_change (changes_of log) k ≡ false → all k ≡ committed k
  rest k e = ap (λ (b : Bool). cond b (rows k) (committed k)) e

  all_weighed : AreWeighed log all
  all_weighed = weighed_on log rows all changed weighed

  all_back : (k : ℕ) → undone (changes_of log) all k ≡ committed k
  all_back k = by_changed (has_change (changes_of log) k) refl
    where
      by_changed : (b : Bool) → has_change (changes_of log) k ≡ b → undone (changes_of log) all k ≡ committed k
      by_changed true e = rows_at (changes_of log) all rows k (changed k e) ∙ sym (back k e)
      by_changed false e = rows_rest (changes_of log) all k e ∙ rest k e

  joined_sum : (n : ℕ) → 1048576 ≤ n → fragments_below n all + before_all log ≡ fragments_below n committed + after_all log
  joined_sum n le =
      let moved = weigh_sum n log all le all_weighed in
      let same = below_same n (undone (changes_of log) all) committed (λ k lt. all_back k) in
      omega (arith, moved, same)

  joined_few : ((k : ℕ) → fragments (committed k) ≤ 125) → (k : ℕ) → fragments (all k) ≤ 125
  joined_few few k = by_changed (has_change (changes_of log) k) refl
    where
      by_changed : (b : Bool) → has_change (changes_of log) k ≡ b → fragments (all k) ≤ 125
      by_changed true e = subst (λ (r : Option StoredRow). fragments r ≤ 125) (sym (changed k e)) (weighed_few log rows weighed k e)
      by_changed false e = subst (λ (r : Option StoredRow). fragments r ≤ 125) (sym (rest k e)) (few k)

  pub counted_joined : (was now : ℕ) → length log ≤ 7989 → AreCounted committed was → (was + after_all log < 2 ^ 64 → now ≡ was + after_all log - before_all log) → AreCounted all now
  counted_joined was now short counted is =
      let sum = counted.sum in
      let most = below_few 1048576 committed counted.few in
      let more = after_few log rows weighed in
      let moved = joined_sum 1048576 (omega arith) in
      let now_is : now ≡ was + after_all log - before_all log = is (omega (arith, sum, most, more, short)) in
      record { few = joined_few counted.few; sum = omega (arith, sum, moved, now_is) }
