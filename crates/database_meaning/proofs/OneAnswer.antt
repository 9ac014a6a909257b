-- The table gives one answer, save where it leaves a choice.
use Rattle.std.proofs.Common.{◌≡◌, ◌⊎◌, ℕ, ◌+◌, ◌<◌, Bool, true, false, List, [], ◌∷◌, Option, Some, None, refl, sym, ap, ◌∙◌, subst, inl, inr, arith, nat_cmp, Ordering, Less, Equal, Greater}
use Rattle.std.specs.List.{Contains}
use Rattle.std.specs.FinMap.{get}
use Rattle.std.specs.Ordering.{ordering_then, ordering_reverse}
use Rattle.std.specs.Cmp.{nat_cmp_total}
use Rattle.std.specs.Cmp.Lexicographic.{slice_cmp, nat_list_cmp_total}
use Rattle.std.proofs.lemmas.Bool.{cases_eq, cases_lt}
use Rattle.abl_base.specs.declared.value.Value.{Value}
use Rattle.abl_base.specs.declared.row.RowId.{RowId}
use Rattle.database_protocol.specs.declared.row_order.Cursor.{Cursor}
use Rattle.abl_values.specs.declared.schema.IndexDef.{IndexDef}
use Rattle.abl_values.specs.Keys.{unique_key}
use Rattle.abl_values.specs.Schema.{indexes_of}
use Rattle.database_meaning.specs.declared.state.StoredRow.{StoredRow}
use Rattle.database_meaning.specs.declared.state.Key.{Key}
use Rattle.database_meaning.specs.declared.contents.Contents.{Contents}
use Rattle.database_meaning.specs.Setting.{Setting, key_at, keys_from, unique_keys}
use Rattle.database_meaning.specs.State.{State, view, over}
use Rattle.database_meaning.specs.Waiting.{row_in, IsAscending, IsHolders}
use Rattle.database_meaning.specs.Search.{IsNext, place_cmp, direction, order_key}
use Rattle.database_meaning.specs.Counts.{HasRoom}
use Rattle.database_meaning.specs.Answers.{when◌comes◌otherwise◌, ByTable, FromGone, Succeeds, HasLongKey, IsFirstLongKey, entered, IsFirstDuplicate}
use Rattle.database_meaning.specs.Traces.{IsLegal, left_by}
use Rattle.database_meaning.specs.Laws.{IsChoice, HasOneAnswer}
use Rattle.database_protocol.specs.declared.event.Event.{Event}
use Rattle.database_protocol.specs.declared.operation.Op.{Op}
use Rattle.database_protocol.specs.declared.operation.Op.TheVariants.{Enter, Leave, Back, Next, Get, Lock, Insert, Put, Delete, Drop as DropLock, NextValue, CurrentValue, End}
use Rattle.database_protocol.specs.declared.answer.Answer.{Answer}
use Rattle.database_protocol.specs.declared.answer.Answer.TheVariants.{TraceFull, KeyTooLong, Busy, Blocked, Deadlock, Duplicate, Committed, Found, Row as RowAnswer, Inserted}
use Rattle.database_meaning.proofs.Keys.{Has, has_cases, has_one}
use Rattle.database_meaning.proofs.Shortest.{here, there, uncons}
use Rattle.database_meaning.proofs.Good.{Good, good_legal}
use Rattle.database_meaning.proofs.LockedReads.{others_lack}
use Rattle.database_meaning.proofs.ReservedKeys.{GoodKeys, view_cases, Named, Bare, keys_legal}
use Rattle.database_meaning.proofs.AnswersFit.{index_at, index_within}

-- ---- ascending lists

tail_ascending : (x : ℕ) (xs : List ℕ) → IsAscending (x ∷ xs) → IsAscending xs
tail_ascending x [] h = tt
tail_ascending x (y ∷ ys) h = h.1

above : (x : ℕ) (xs : List ℕ) (d : ℕ) → IsAscending (x ∷ xs) → Contains xs d → x < d
above x [] d h p = absurd (omega (arith, p.1))
above x (y ∷ ys) d h p =
    elim (uncons d y ys p) [
      | inl e ↦ let first : x < y = h.0 in omega arith
      | inr q ↦ let first : x < y = h.0 in let rest : y < d = above y ys d h.1 q in omega arith
    ]

-- an element of both lists that is no head is in both tails
in_tail : (x y : ℕ) (ys : List ℕ) (d : ℕ) → x ≡ y → x < d → Contains (y ∷ ys) d → Contains ys d
in_tail x y ys d same later p = elim (uncons d y ys p) [ inl e ↦ absurd (omega arith) | inr q ↦ q ]

same_head : (x : ℕ) (xs : List ℕ) (y : ℕ) (ys : List ℕ) → IsAscending (x ∷ xs) → IsAscending (y ∷ ys) → Contains (y ∷ ys) x → Contains (x ∷ xs) y → x ≡ y
same_head x xs y ys hx hy px py =
    elim (uncons x y ys px) [
      | inl e ↦ sym e
      | inr later ↦ elim (uncons y x xs py) [
        | inl e ↦ e
        | inr more ↦ let one : y < x = above y ys x hy later in let two : x < y = above x xs y hx more in absurd (omega arith)
      ]
    ]

ascending_same : (xs ys : List ℕ) → IsAscending xs → IsAscending ys → ((d : ℕ) → Contains xs d → Contains ys d) → ((d : ℕ) → Contains ys d → Contains xs d) → xs ≡ ys
ascending_same [] [] hx hy there_x there_y = refl
ascending_same [] (y ∷ ys) hx hy there_x there_y = absurd (omega (arith, (there_y y (here y ys)).1))
ascending_same (x ∷ xs) [] hx hy there_x there_y = absurd (omega (arith, (there_x x (here x xs)).1))
ascending_same (x ∷ xs) (y ∷ ys) hx hy there_x there_y =
    let head : x ≡ y = same_head x xs y ys hx hy (there_x x (here x xs)) (there_y y (here y ys)) in
    let rest : xs ≡ ys = ascending_same xs ys (tail_ascending x xs hx) (tail_ascending y ys hy)
    (λ d p. in_tail x y ys d head (above x xs d hx p) (there_x d (there d x xs p)))
    (λ d p. in_tail y x xs d (sym head) (above y ys d hy p) (there_y d (there d y ys p))) in
    cc

same_holders : (f : Setting) (s : State) (c : ℕ) (op : Op) (xs ys : List ℕ) → IsHolders f s c op xs → IsHolders f s c op ys → xs ≡ ys
same_holders f s c op xs ys hx hy = ascending_same xs ys hx.0 hy.0 (λ d p. (hy.1 d).1 ((hx.1 d).0 p)) (λ d p. (hx.1 d).1 ((hy.1 d).0 p))

-- ---- the least number with a property

same_least : (P : ℕ → Type 0) (i j : ℕ) → P i → P j → ((k : ℕ) → k < i → ¬ P k) → ((k : ℕ) → k < j → ¬ P k) → i ≡ j
same_least P i j pi pj least_i least_j =
    elim (cases_lt i j) [
      | inl lt ↦ absurd (least_j i lt pi)
      | inr ge ↦ elim (cases_lt j i) [ inl lt ↦ absurd (least_i j lt pj) | inr le ↦ omega arith ]
    ]

-- ---- keys of one index, and rows with one key

same_here : (table i : ℕ) (bytes : Option (List ℕ)) (k q : Key) → Has (key_at table i bytes) k → Has (key_at table i bytes) q → k ≡ q
same_here table i None k q hk hq = cc
same_here table i (Some bytes) k q hk hq = sym (has_one (record { table = table; index = i; bytes = bytes }) k hk) ∙ has_one (record { table = table; index = i; bytes = bytes }) q hq

same_from : (table i : ℕ) (indexes : List IndexDef) (values : List Value) (k q : Key) → Has (keys_from table i indexes values) k → Has (keys_from table i indexes values) q → k.index ≡ q.index → k ≡ q
same_from table i [] values k q hk hq e = cc
same_from table i (index ∷ indexes) values k q hk hq e =
    elim (has_cases (key_at table i (unique_key index.unique index.parts values)) _ k hk) [
      | inl first ↦
          let at : k.index ≡ i = index_at table i (unique_key index.unique index.parts values) k first in
          elim (has_cases (key_at table i (unique_key index.unique index.parts values)) _ q hq) [
            | inl second ↦ same_here table i (unique_key index.unique index.parts values) k q first second
            | inr later ↦ let within = index_within table (i + 1) indexes values q later in absurd (omega arith)
          ]
      | inr later ↦
          let within = index_within table (i + 1) indexes values k later in
          elim (has_cases (key_at table i (unique_key index.unique index.parts values)) _ q hq) [
            | inl second ↦ let at : q.index ≡ i = index_at table i (unique_key index.unique index.parts values) q second in absurd (omega arith)
            | inr more ↦ same_from table (i + 1) indexes values k q later more e
          ]
    ]

module _ (f : Setting) (s : State) (g : Good f s) (gk : GoodKeys f s) where
  abbrev has : Option StoredRow → Key → Type 0
  has o k = Has (unique_keys f.schema o) k

  abbrev own_row_of : ℕ → ℕ → Option StoredRow
  own_row_of e row = over (get (s.client e).overlay row) (get s.committed row)

  -- two rows that differ, one changed by e and the other not by e
  named_other : (e : ℕ) (r q : ℕ) (k : Key) → has (own_row_of e r) k → get (s.client e).overlay q ≡ None → has (get s.committed q) k → r ≡ q
  named_other e r q k mine lacks below = (gk.own e).now.one r q k mine (subst (λ o. has (over o (get s.committed q)) k) (sym lacks) below)

  own_shown : (e row : ℕ) (change : Option StoredRow) (k : Key) → get (s.client e).overlay row ≡ Some change → has change k → has (own_row_of e row) k
  own_shown e row change k at h = subst (λ o. has (over o (get s.committed row)) k) (sym at) h

  both_named : (r q : ℕ) (k : Key) → Named f.clients s.client s.committed r → Named f.clients s.client s.committed q → has (view f s r) k → has (view f s q) k → r ≡ q
  unfolding Named
  both_named r q k x y hr hq =
      let at_r : has x.2 k = subst (λ o. has o k) x.4 hr in
      let at_q : has y.2 k = subst (λ o. has o k) y.4 hq in
      elim (cases_eq x.0 y.0) [
        | inl same ↦ (gk.own x.0).now.one r q k (own_shown x.0 r x.2 k x.3 at_r) (own_shown x.0 q y.2 k (ap (λ e. get (s.client e).overlay q) same ∙ y.3) at_q)
        | inr differ ↦
            let lacks_q : get (s.client x.0).overlay q ≡ None = others_lack f s g y.0 q true ((g.own y.0).covers q y.2 y.3) x.0 differ in
            let lacks_r : get (s.client y.0).overlay r ≡ None = others_lack f s g x.0 r true ((g.own x.0).covers r x.2 x.3) y.0 (λ e. differ (sym e)) in
            elim ((gk.own y.0).now.adds q y.2 k y.3 at_q) [
              | inl below ↦ named_other x.0 r q k (own_shown x.0 r x.2 k x.3 at_r) lacks_q below
              | inr theirs ↦ elim ((gk.own x.0).now.adds r x.2 k x.3 at_r) [
                | inl below ↦ sym (named_other y.0 q r k (own_shown y.0 q y.2 k y.3 at_q) lacks_r below)
                | inr ours ↦ absurd (gk.apart x.0 y.0 k differ ours theirs)
              ]
            ]
      ]

  one_named : (r q : ℕ) (k : Key) → Named f.clients s.client s.committed r → Bare f.clients s.client s.committed q → has (view f s r) k → has (view f s q) k → r ≡ q
  unfolding Named Bare
  one_named r q k x y hr hq =
      named_other x.0 r q k (own_shown x.0 r x.2 k x.3 (subst (λ o. has o k) x.4 hr)) (y.0 x.0 x.1) (subst (λ o. has o k) y.1 hq)

  both_bare : (r q : ℕ) (k : Key) → Bare f.clients s.client s.committed r → Bare f.clients s.client s.committed q → has (view f s r) k → has (view f s q) k → r ≡ q
  unfolding Bare
  both_bare r q k x y hr hq = gk.one_each r q k (subst (λ o. has o k) x.1 hr) (subst (λ o. has o k) y.1 hq)

  -- no two rows of the view have one unique key
  pub view_one : (r q : ℕ) (k : Key) → has (view f s r) k → has (view f s q) k → r ≡ q
  view_one r q k hr hq =
      elim (view_cases f.clients s.client s.committed r) [
        | inl x ↦ elim (view_cases f.clients s.client s.committed q) [ inl y ↦ both_named r q k x y hr hq | inr y ↦ one_named r q k x y hr hq ]
        | inr x ↦ elim (view_cases f.clients s.client s.committed q) [ inl y ↦ sym (one_named q r k y x hq hr) | inr y ↦ both_bare r q k x y hr hq ]
      ]

  same_entered : (o : Option StoredRow) (k q : Key) → has o k → has o q → k.index ≡ q.index → k ≡ q
  unfolding unique_keys
  same_entered None k q hk hq e = cc
  same_entered (Some row) k q hk hq e = same_from row.table 0 (indexes_of f.schema row.table) row.values k q hk hq e

  first_duplicates_agree : (op : Op) (index : ℕ) (row other : RowId) → IsFirstDuplicate f s op index row → IsFirstDuplicate f s op index other → row ≡ other
  first_duplicates_agree op index row other x y =
      let same : x.0.0 ≡ y.0.0 = same_entered (entered op) x.0.0 y.0.0 x.0.2 y.0.2 (x.0.1 ∙ sym y.0.1) in
      let at : row.0 ≡ other.0 = view_one row.0 other.0 x.0.0 x.0.4 (subst (λ k. has (view f s other.0) k) (sym same) y.0.4) in
      λ z. record { 0 = at z }

-- ---- the row that a Next finds

then_reverse : (a b : Ordering) → ordering_then (ordering_reverse a) (ordering_reverse b) ≡ ordering_reverse (ordering_then a b)
then_reverse Less b = refl
then_reverse Equal b = refl
then_reverse Greater b = refl

pub place_reverse : (key : List ℕ) (row : RowId) (other : List ℕ) (q : RowId) → place_cmp key row other q ≡ ordering_reverse (place_cmp other q key row)
place_reverse key row other q =
    ap (λ o. ordering_then o (nat_cmp row.0 q.0)) (nat_list_cmp_total.antisymm key other)
    ∙ ap (λ o. ordering_then (ordering_reverse (slice_cmp nat_cmp other key)) o) (nat_cmp_total.antisymm row.0 q.0)
    ∙ then_reverse (slice_cmp nat_cmp other key) (nat_cmp q.0 row.0)

not_both : (forward : Bool) (o : Ordering) → o ≡ direction forward → ordering_reverse o ≡ direction forward → ⊥
not_both true o e r = let t : Less ≡ Greater = ap ordering_reverse (sym e) ∙ r in cc
not_both false o e r = let t : Greater ≡ Less = ap ordering_reverse (sym e) ∙ r in cc

values_in : Option StoredRow → List Value
values_in None = []
values_in (Some row) = row.values

values_in_row : (table : ℕ) (values : List Value) → values_in (row_in table values) ≡ values
unfolding values_in
values_in_row table values = refl

pub same_values : (f : Setting) (s : State) (row : ℕ) (table : ℕ) (values other : List Value) → view f s row ≡ row_in table values → view f s row ≡ row_in table other → values ≡ other
same_values f s row table values other x y = sym (values_in_row table values) ∙ ap values_in (sym x ∙ y) ∙ values_in_row table other

module _ (f : Setting) (s : State) (table : ℕ) (index : Option ℕ) (prefix : List Value) (cursor : Option Cursor) (forward : Bool) where
  same_row : (row q : RowId) (key other : List ℕ) (values more : List Value) → IsNext f s (Next table index prefix cursor forward) row key values → IsNext f s (Next table index prefix cursor forward) q other more → row ≡ q
  same_row row q key other values more x y =
      elim (x.1 q other more y.0) [
        | inl e ↦ sym e
        | inr beyond ↦ elim (y.1 row key values x.0) [
          | inl e ↦ e
          | inr back ↦ absurd (not_both forward (place_cmp other q key row) beyond (sym (place_reverse key row other q) ∙ back))
        ]
      ]

  same_found : (row q : RowId) (key other : List ℕ) (values more : List Value) → IsNext f s (Next table index prefix cursor forward) row key values → IsNext f s (Next table index prefix cursor forward) q other more → Found row key values ≡ Found q other more
  same_found row q key other values more x y =
      let rows : row ≡ q = same_row row q key other values more x y in
      let alike : values ≡ more = same_values f s row.0 table values more x.0.0 (ap (λ (r : RowId). view f s r.0) rows ∙ y.0.0) in
      let keys : key ≡ other = x.0.1 ∙ ap (λ vs. order_key f.schema table index vs) alike ∙ sym y.0.1 in
      cc

-- ---- two answers of one place in the table

BothInserted : Answer → Answer → Type 0
BothInserted a b = (row : RowId) × (q : RowId) × (a ≡ Inserted row) × (b ≡ Inserted q)

BothCommitted : Answer → Answer → Type 0
BothCommitted a b = (moment : ℕ) × (other : ℕ) × (a ≡ Committed moment) × (b ≡ Committed other)

BothDeadlock : Answer → Answer → Type 0
BothDeadlock a b = (cycle : List ℕ) × (other : List ℕ) × (a ≡ Deadlock cycle) × (b ≡ Deadlock other)

Alike : Answer → Answer → Type 0
Alike a b = (a ≡ b) ⊎ (BothInserted a b ⊎ (BothCommitted a b ⊎ BothDeadlock a b))

equal : (a b x y : Answer) → a ≡ x → b ≡ y → x ≡ y → Alike a b
unfolding Alike
equal a b x y ax by xy = inl (ax ∙ xy ∙ sym by)

both : {applies answer below answer' below' same : Type 0} → (applies → answer → answer' → same) → (¬ applies → below → below' → same) → (when applies comes answer otherwise below) → (when applies comes answer' otherwise below') → same
both here later (inl p) (inl q) = here p.0 p.1 q.1
both here later (inl p) (inr q) = absurd (q.0 p.0)
both here later (inr p) (inl q) = absurd (p.0 q.0)
both here later (inr p) (inr q) = later p.0 p.1 q.1

module _ (f : Setting) (s : State) (c : ℕ) (a b : Answer) where
  succeeds_alike : (op : Op) → Succeeds f s c op a → Succeeds f s c op b → Alike a b
  unfolding Alike BothInserted BothCommitted
  succeeds_alike Enter x y = inl (x ∙ sym y)
  succeeds_alike (Leave keep) (inl x) (inl y) = inr (inr (inl (x.1, y.1, x.2, y.2)))
  succeeds_alike (Leave keep) (inl x) (inr y) = absurd (y.0 x.0)
  succeeds_alike (Leave keep) (inr x) (inl y) = absurd (x.0 y.0)
  succeeds_alike (Leave keep) (inr x) (inr y) = inl (x.1 ∙ sym y.1)
  succeeds_alike (Back depth) x y = inl (x ∙ sym y)
  succeeds_alike (Next table index prefix cursor forward) x y =
      inl (x.3 ∙ same_found f s table index prefix cursor forward x.0 y.0 x.1 y.1 x.2 y.2 x.4 y.4 ∙ sym y.3)
  succeeds_alike (Get table row) x y = inl (x.1 ∙ ap RowAnswer (same_values f s row.0 table x.0 y.0 x.2 y.2) ∙ sym y.1)
  succeeds_alike (Lock table row exclusive wait) x y = inl (x ∙ sym y)
  succeeds_alike (Insert table values) x y = inr (inl (x.0, y.0, x.1, y.1))
  succeeds_alike (Put table row values) x y = inl (x ∙ sym y)
  succeeds_alike (Delete table row) x y = inl (x ∙ sym y)
  succeeds_alike (DropLock row) x y = inl (x ∙ sym y)
  succeeds_alike (NextValue sequence) x y = inl (x ∙ sym y)
  succeeds_alike (CurrentValue sequence) x y = inl (x ∙ sym y)
  succeeds_alike End x y = inl (x ∙ sym y)

  module _ (op : Op) where
    same_long : (o : Option StoredRow) (i j : ℕ) → IsFirstLongKey f o i → IsFirstLongKey f o j → i ≡ j
    same_long None i j x y = absurd x
    same_long (Some row) i j x y = same_least (λ k. HasLongKey f row k) i j x.0 y.0 x.1 y.1

    duplicate_index : (i j : ℕ) (row other : RowId) → IsFirstDuplicate f s op i row → IsFirstDuplicate f s op j other → i ≡ j
    duplicate_index i j row other x y =
        elim (cases_lt i j) [
          | inl lt ↦ absurd (y.1 i row lt x.0)
          | inr ge ↦ elim (cases_lt j i) [ inl lt ↦ absurd (x.1 j other lt y.0) | inr le ↦ omega arith ]
        ]

    same_duplicate : Good f s → GoodKeys f s → (i j : ℕ) (row other : RowId) → IsFirstDuplicate f s op i row → IsFirstDuplicate f s op j other → Duplicate i row ≡ Duplicate j other
    same_duplicate g gk i j row other x y =
        let indexes : i ≡ j = duplicate_index i j row other x y in
        let rows : row ≡ other = first_duplicates_agree f s g gk op j row other (subst (λ k. IsFirstDuplicate f s op k row) indexes x) y in
        cc

    from_gone_alike : Good f s → GoodKeys f s → FromGone f s c op a → FromGone f s c op b → Alike a b
    unfolding Alike BothDeadlock
    from_gone_alike g gk =
        both (λ h x y. inl (x ∙ sym y)) (λ n1.
        both (λ h x y. equal a b _ _ x.2 y.2 (ap KeyTooLong (same_long (entered op) x.0 y.0 x.1 y.1))) (λ n2.
        both (λ h x y. equal a b _ _ x.2 y.2 (ap Busy (same_holders f s c op x.0 y.0 x.1 y.1))) (λ n3.
        both (λ h x y. equal a b _ _ x.2 y.2 (ap Blocked (same_holders f s c op x.0 y.0 x.1 y.1))) (λ n4.
        both (λ h x y. inr (inr (inr (x.0, y.0, x.2, y.2)))) (λ n5.
        both (λ h x y. equal a b _ _ x.3 y.3 (same_duplicate g gk x.0 y.0 x.1 y.1 x.2 y.2)) (λ n6.
        both (λ h x y. inl (x ∙ sym y)) (λ n7.
        both (λ h x y. inl (x ∙ sym y)) (λ n8.
        both (λ h x y. inl (x ∙ sym y)) (λ n9.
        both (λ h x y. inl (x ∙ sym y)) (λ n10. succeeds_alike op))))))))))

-- ---- the whole table

choice : (a b : Answer) → Alike a b → (a ≡ b) ⊎ IsChoice a b
unfolding Alike BothInserted BothCommitted BothDeadlock
choice a b (inl e) = inl e
choice a b (inr (inl p)) = inr (subst (λ x. IsChoice x b) (sym p.2) (subst (λ y. IsChoice (Inserted p.0) y) (sym p.3) tt))
choice a b (inr (inr (inl p))) = inr (subst (λ x. IsChoice x b) (sym p.2) (subst (λ y. IsChoice (Committed p.0) y) (sym p.3) tt))
choice a b (inr (inr (inr p))) = inr (subst (λ x. IsChoice x b) (sym p.2) (subst (λ y. IsChoice (Deadlock p.0) y) (sym p.3) tt))

-- one of two alike answers has room and the other has not: they are cycles
room_differs : (s : State) (op : Op) (a b : Answer) → Alike a b → HasRoom s op a → ¬ HasRoom s op b → (cycle : List ℕ) × (a ≡ Deadlock cycle)
unfolding Alike BothInserted BothCommitted BothDeadlock
room_differs s op a b (inl e) room full = absurd (full (subst (λ x. HasRoom s op x) e room))
room_differs s op a b (inr (inl p)) room full =
    absurd (full (subst (λ x. HasRoom s op x) (sym p.3) (subst (λ x. HasRoom s op x) p.2 room)))
room_differs s op a b (inr (inr (inl p))) room full =
    absurd (full (subst (λ x. HasRoom s op x) (sym p.3) (subst (λ x. HasRoom s op x) p.2 room)))
room_differs s op a b (inr (inr (inr p))) room full = (p.0, p.2)

Roomy : Setting → State → ℕ → Op → Answer → Type 0
Roomy f s c op a = (HasRoom s op a × FromGone f s c op a) ⊎ ((a ≡ TraceFull) × (b : Answer) × FromGone f s c op b × ¬ HasRoom s op b)

cycle_or_full : (a b : Answer) → (cycle : List ℕ) × (a ≡ Deadlock cycle) → b ≡ TraceFull → IsChoice a b × IsChoice b a
cycle_or_full a b p e =
    (subst (λ x. IsChoice x b) (sym p.1) (subst (λ y. IsChoice (Deadlock p.0) y) (sym e) tt), subst (λ x. IsChoice b x) (sym p.1) (subst (λ y. IsChoice y (Deadlock p.0)) (sym e) tt))

module _ (f : Setting) (s : State) (c : ℕ) (op : Op) (g : Good f s) (gk : GoodKeys f s) where
  roomy_alike : (a b : Answer) → Roomy f s c op a → Roomy f s c op b → (a ≡ b) ⊎ IsChoice a b
  unfolding Roomy
  roomy_alike a b (inl x) (inl y) = choice a b (from_gone_alike f s c a b op g gk x.1 y.1)
  roomy_alike a b (inl x) (inr y) = inr (cycle_or_full a b (room_differs s op a y.1 (from_gone_alike f s c a y.1 op g gk x.1 y.2) x.0 y.3) y.0).0
  roomy_alike a b (inr x) (inl y) = inr (cycle_or_full b a (room_differs s op b x.1 (from_gone_alike f s c b x.1 op g gk y.1 x.2) y.0 x.3) x.0).1
  roomy_alike a b (inr x) (inr y) = inl (x.0 ∙ sym y.0)

  one_answer : (a b : Answer) → ByTable f s c op a → ByTable f s c op b → (a ≡ b) ⊎ IsChoice a b
  unfolding Roomy
  one_answer a b = both (λ h x y. inl (x ∙ sym y)) (λ n1. both (λ h x y. inl (x ∙ sym y)) (λ n2. roomy_alike a b))

pub one_answer_legal : (f : Setting) (contents : Contents) (trace : List Event) → IsLegal f contents trace → HasOneAnswer f (left_by f contents trace)
one_answer_legal f contents trace legal c op a b x y =
    one_answer f (left_by f contents trace) c op (good_legal f contents trace legal) (keys_legal f contents trace legal) a b x y
