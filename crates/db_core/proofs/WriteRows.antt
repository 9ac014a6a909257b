-- The rows of the table of answers that an Insert, Put or Delete can come to.
use Rattle.std.proofs.Common.{◌≡◌, ◌≢◌, ℕ, zero, suc, ◌+◌, ◌-◌, ◌≤◌, max, Bool, true, false, List, [], ◌∷◌, length, Option, Some, None, refl, sym, ap, ◌∙◌, subst, inl, inr, arith}
use Rattle.std.specs.Prelude.{IfSome, IsTrue, map, sum}
use Rattle.std.specs.FinMap.{values}
use Rattle.std.proofs.lemmas.Bool.{cases_lt}
use Rattle.std.proofs.lemmas.Option.{slice_get_past}
use Rattle.abl_base.specs.declared.row.RowId.{RowId}
use Rattle.abl_base.specs.declared.value.Value.{Value}
use Rattle.abl_base.specs.declared.limits.TheConstants.{MAX_CLIENTS}
use Rattle.abl_values.specs.Schema.{SchemaData}
use Rattle.database_protocol.specs.declared.operation.Op.{Op}
use Rattle.database_protocol.specs.declared.operation.Op.TheVariants.{Insert, Put, Delete}
use Rattle.database_protocol.specs.declared.answer.Answer.{Answer}
use Rattle.database_protocol.specs.declared.answer.Answer.TheVariants.{Inserted}
use Rattle.database_meaning.specs.declared.state.StoredRow.{StoredRow}
use Rattle.database_meaning.specs.Setting.{Setting, fragments}
use Rattle.database_meaning.specs.State.{State, view}
use Rattle.database_meaning.specs.Waiting.{row_in, Closes, IsCycle}
use Rattle.database_meaning.specs.Counts.{draws, sum_below, used, writes}
use Rattle.database_meaning.specs.Answers.{FromGone, HasDuplicates, HasTooLongKey, IsDrawing, IsDuplicateIn, IsFirstDuplicate, IsFirstLongKey, IsGone, IsNextOp, IsThere, IsWrite, MayWait, PassesEnd, Succeeds, entered, own_row}
use Rattle.database_meaning.specs.Steps.{is_success}
use Rattle.row_store.specs.answers.Stages.{FromBusy}
use Rattle.row_store.proofs.AnswersLemmas.TableLaws.{long_row, wait_row, from_duplicate_row}
use Rattle.row_store.specs.Changes.{RowsById}
use Rattle.row_store.specs.Rows.{RowState, RowTransaction, IsObservable, IsConsistent}
use Rattle.row_store.specs.Questions.{IsLeastDuplicate, IsLongKey, IsUsed, setting_of, table_in, table_at}
use Rattle.db_core.specs.declared.control.Control.{Control}
use Rattle.db_core.specs.Represents.{Represents, IsSound, is_open, marks_in}
use Rattle.db_core.specs.Waits.{AnswersConflict}
use Rattle.db_core.specs.Writes.{AnswersKeys, AnswersRoom}
use Rattle.db_core.proofs.GetRows.{no_key}
use Rattle.db_core.proofs.Views.{rows_viewed}

-- ---- from the stages to the table

cycle_closes : (f : Setting) (s : State) (c : ℕ) (op : Op) (cycle : List ℕ) → IsCycle f s c op cycle → Closes f s c op
cycle_closes f s c op [] h = absurd h
cycle_closes f s c op (first ∷ others) h = (others, h.2)

module _ (f : Setting) (s : State) (c : ℕ) (op : Op) (a : Answer) (there : ¬ IsGone f s c op) where
  busy : MayWait op → AnswersConflict f s c op a → FromBusy f s c op a
  busy may h = elim h.1 [
    | inl blocked ↦ inr ((λ p. p.1 may), inl ((h.0, blocked.0), blocked.1))
    | inr deadlock ↦ inr ((λ p. p.1 may), inr ((λ p. p.1 (cycle_closes f s c op deadlock.0 deadlock.1)), inl (h.0, deadlock)))
  ]

  pub from_keys : MayWait op → AnswersKeys f s c op (Some a) → FromGone f s c op a
  from_keys may h = elim h [
    | inl long ↦ long_row f s c op a long.0 there long.1 long.2
    | inr rest ↦ elim rest [
      | inl conflict ↦ wait_row f s c op a there conflict.0 (busy may conflict.1)
      | inr twice ↦ from_duplicate_row f s c op a there twice.0 twice.1 (inl ((twice.2.0, twice.2.1, twice.2.2), (twice.2.0, twice.2.1, twice.2.2, twice.2.3)))
    ]
  ]

  pub from_room : AnswersKeys f s c op None → AnswersRoom f s c op (Some a) → FromGone f s c op a
  from_room keys room =
      from_duplicate_row f s c op a there keys.0 keys.1 (inr (
        keys.2,
        elim room [
          | inl full ↦ inl (full.0, full.1)
          | inr tx ↦ inr (tx.0, inl (tx.1, tx.2))
        ],
      ))

  pub from_success : AnswersKeys f s c op None → AnswersRoom f s c op None → ¬ PassesEnd f s op → ¬ IsNextOp op → Succeeds f s c op a → FromGone f s c op a
  from_success keys room ends next success =
      from_duplicate_row f s c op a there keys.0 keys.1 (inr (keys.2, inr (room.0, inr (room.1, inr (ends, inr ((λ p. next p.0), success))))))

-- ---- Delete enters nothing

pub delete_keys : (f : Setting) (s : State) (c table : ℕ) (row : RowId) → AnswersKeys f s c (Delete table row) None
delete_keys f s c table row = ((λ h. h.1), (λ h. h.1), λ h. no_key f.schema h.2.0.0 h.2.0.2)

pub never_ends : (f : Setting) (s : State) (op : Op) → IsWrite op → ¬ PassesEnd f s op
never_ends f s op is (sequence, e, past) = subst IsWrite e is

-- ---- whether the row is there

module _ (f : Setting) (rows : RowState) (control : Control) (s : State) (represents : Represents f rows control s) (sound : IsSound rows control) (settled : IsConsistent rows) (seen : IsObservable rows) where
  viewed : (k : ℕ) → rows.rows k ≡ view f s k
  viewed = rows_viewed f rows control s represents sound settled seen

  rows_are : rows.rows ≡ view f s
  rows_are = λ i k. viewed k i

  there_from : (table k : ℕ) (o : Option StoredRow) → view f s k ≡ o → table_in o ≡ Some table → IsThere f s table k
  there_from table k None is e = cc
  there_from table k (Some r) is e = (r, is, (cc))

  pub is_there : (table k : ℕ) → table_at rows.rows k ≡ Some table → IsThere f s table k
  is_there table k e = there_from table k (view f s k) refl (ap table_in (sym (viewed k)) ∙ e)

  pub not_there : (table k : ℕ) → table_at rows.rows k ≢ Some table → ¬ IsThere f s table k
  not_there table k apart (r, is, e) = apart (ap table_in (viewed k ∙ is) ∙ ap Some e)

  -- ---- keys

  module _ (op : Op) (table : ℕ) (values : List Value) (enters : entered op ≡ row_in table values) where
    pub first_long : (index : ℕ) → IsLongKey rows.schema table values index → IsFirstLongKey f (entered op) index
    first_long index h =
        let here : IsFirstLongKey f (row_in table values) index = subst (λ (x : SchemaData). IsFirstLongKey (setting_of x) (row_in table values) index) (sym represents.schema) h in
        subst (λ (o : Option StoredRow). IsFirstLongKey f o index) (sym enters) here

    pub none_long : ((index : ℕ) → ¬ IsLongKey rows.schema table values index) → ¬ HasTooLongKey f op
    none_long none (index, h) =
        let here : IsFirstLongKey f (row_in table values) index = subst (λ (o : Option StoredRow). IsFirstLongKey f o index) enters h in
        none index (subst (λ (x : SchemaData). IsFirstLongKey (setting_of x) (row_in table values) index) represents.schema here)

    module _ (replaced : Option RowId) (owns : own_row op ≡ replaced) where
      duplicate_to : (index : ℕ) (row : RowId) → IsDuplicateIn rows.schema rows.rows replaced (row_in table values) index row → IsDuplicateIn f.schema (view f s) (own_row op) (entered op) index row
      duplicate_to index row h =
          subst (λ (o : Option StoredRow). IsDuplicateIn f.schema (view f s) (own_row op) o index row) (sym enters)
          (subst (λ (o : Option RowId). IsDuplicateIn f.schema (view f s) o (row_in table values) index row) (sym owns)
          (subst (λ (r : RowsById). IsDuplicateIn f.schema r replaced (row_in table values) index row) rows_are
          (subst (λ (x : SchemaData). IsDuplicateIn x rows.rows replaced (row_in table values) index row) (sym represents.schema) h)))

      duplicate_from : (index : ℕ) (row : RowId) → IsDuplicateIn f.schema (view f s) (own_row op) (entered op) index row → IsDuplicateIn rows.schema rows.rows replaced (row_in table values) index row
      duplicate_from index row h =
          subst (λ (x : SchemaData). IsDuplicateIn x rows.rows replaced (row_in table values) index row) represents.schema
          (subst (λ (r : RowsById). IsDuplicateIn f.schema r replaced (row_in table values) index row) (sym rows_are)
          (subst (λ (o : Option RowId). IsDuplicateIn f.schema (view f s) o (row_in table values) index row) owns
          (subst (λ (o : Option StoredRow). IsDuplicateIn f.schema (view f s) (own_row op) o index row) enters h)))

      pub first_duplicate : (index : ℕ) (row : RowId) → IsLeastDuplicate rows replaced (row_in table values) index row → IsFirstDuplicate f s op index row
      first_duplicate index row h =
          (duplicate_to index row h.0, λ j other lt is. h.1 j other lt (duplicate_from j other is))

      pub no_duplicates : ((index : ℕ) (other : RowId) → ¬ IsLeastDuplicate rows replaced (row_in table values) index other) → ¬ HasDuplicates f s op
      no_duplicates none (index, row, h) =
          none index row (duplicate_from index row h.0, λ j other lt is. h.1 j other lt (duplicate_to j other is))

-- ---- room

sum_same : (n : ℕ) (g h : ℕ → ℕ) → ((c : ℕ) → g c ≡ h c) → sum_below n g ≡ sum_below n h
sum_same zero g h e = refl
sum_same (suc n) g h e = let first : g n ≡ h n = e n in let rest : sum_below n g ≡ sum_below n h = sum_same n g h e in omega arith

sum_past : (n m : ℕ) (g : ℕ → ℕ) → n ≤ m → ((c : ℕ) → n ≤ c → g c ≡ 0) → sum_below m g ≡ sum_below n g
sum_past n zero g le none = let is : n ≡ 0 = omega arith in ap (λ (k : ℕ). sum_below k g) (sym is)
sum_past n (suc m) g le none = elim (cases_lt m n) [
  | inl lt ↦ let is : n ≡ suc m = omega arith in ap (λ (k : ℕ). sum_below k g) (sym is)
  | inr past ↦ let first : g m ≡ 0 = none m past in let rest : sum_below m g ≡ sum_below n g = sum_past n m g past none in omega arith
]

module _ (f : Setting) (rows : RowState) (control : Control) (s : State) (represents : Represents f rows control s) (sound : IsSound rows control) (settled : IsConsistent rows) (seen : IsObservable rows) (few : length control.sessions.items ≤ 16) where
  drawn_past : (c : ℕ) → length control.sessions.items ≤ c → (rows.transaction c).drawn ≡ 0
  drawn_past c past =
      let closed : (rows.transaction c).begun ≡ false = (sound.client c).begun ∙ ap (λ m. is_open (marks_in m)) (slice_get_past control.sessions.items c past) in
      ap (λ (t : RowTransaction). t.drawn) (settled.idle c closed)

  drawn_is : sum_below MAX_CLIENTS (λ c. (rows.transaction c).drawn) ≡ sum_below f.clients (λ c. (s.client c).drawn)
  drawn_is =
      sum_past (length control.sessions.items) 16 (λ c. (rows.transaction c).drawn) few drawn_past
      ∙ (sum_same (length control.sessions.items) (λ c. (rows.transaction c).drawn) (λ c. (s.client c).drawn) (λ c. (represents.client c).drawn seen)
      ∙ ap (λ (n : ℕ). sum_below n (λ c. (s.client c).drawn)) (sym represents.clients))

  pub used_is : (n : ℕ) → IsUsed rows n → n ≡ used f s
  used_is n h = h s.committed (λ k. represents.committed seen.0 k) ∙ ap (λ (m : ℕ). sum (map (λ r. fragments (Some r)) (values s.committed)) + m) drawn_is

  pub draws_path : (op : Op) (n drawn : ℕ) → IsUsed rows n → draws f s op ≡ drawn → n + drawn ≡ used f s + draws f s op
  draws_path op n drawn h e = ap (λ (k : ℕ). k + drawn) (used_is n h) ∙ ap (λ (k : ℕ). used f s + k) (sym e)

  pub writes_path : (c : ℕ) (op : Op) (before more : ℕ) → before ≡ (rows.transaction c).written → writes f s op ≡ more → before + more ≡ (s.client c).written + writes f s op
  writes_path c op before more is e = ap (λ (k : ℕ). k + more) (is ∙ (represents.client c).written seen) ∙ ap (λ (k : ℕ). (s.client c).written + k) (sym e)

pub drawing_writes : (op : Op) → IsDrawing op → IsWrite op
drawing_writes (Insert table values) is = tt
drawing_writes (Put table row values) is = tt
drawing_writes _ is = absurd is

-- the state is represented by equal rows
pub at_rows : (f : Setting) (rows new : RowState) (control : Control) (s : State) → new ≡ rows → Represents f rows control s → Represents f new control s
at_rows f rows new control s same h = subst (λ (r : RowState). Represents f r control s) (sym same) h

pub seen_rows : (rows new : RowState) → new ≡ rows → IsObservable rows → IsObservable new
seen_rows rows new same seen = subst IsObservable (sym same) seen

-- the fragments of the row that the view has
pub old_fragments : (f : Setting) (rows new : RowState) (control : Control) (s : State) → Represents f rows control s → IsSound rows control → IsConsistent rows → IsObservable rows → new ≡ rows → (k n : ℕ)
    → (IsObservable new → n ≡ fragments (new.rows k)) → n ≡ fragments (view f s k)
old_fragments f rows new control s represents sound settled seen same k n found =
    found (seen_rows rows new same seen) ∙ (ap (λ (r : RowState). fragments (r.rows k)) same ∙ ap fragments (rows_viewed f rows control s represents sound settled seen k))

pub not_so : (b : Bool) → b ≡ false → ¬ IsTrue b
not_so b e is = let clash : true ≡ false = sym is ∙ e in cc

pub so_if : (b : Bool) → b ≡ true → IsTrue b
so_if b e = e

pub put_draws : (f : Setting) (s : State) (table : ℕ) (row : RowId) (values : List Value) (new old : ℕ) → new ≡ fragments (row_in table values) → old ≡ fragments (view f s row.0) → draws f s (Put table row values) ≡ new - old
put_draws f s table row values new old is was = ap (λ (n : ℕ). n - fragments (view f s row.0)) (sym is) ∙ ap (λ (n : ℕ). new - n) (sym was)

pub put_writes : (f : Setting) (s : State) (table : ℕ) (row : RowId) (values : List Value) (new old : ℕ) → new ≡ fragments (row_in table values) → old ≡ fragments (view f s row.0) → writes f s (Put table row values) ≡ max new old
put_writes f s table row values new old is was = ap (λ (n : ℕ). max n (fragments (view f s row.0))) (sym is) ∙ ap (λ (n : ℕ). max new n) (sym was)

less_none : (n : ℕ) → n ≡ n - 0
less_none n = omega arith

more_none : (n : ℕ) → n ≡ max n 0
more_none n = omega arith

pub insert_draws : (f : Setting) (s : State) (table : ℕ) (values : List Value) (new : ℕ) → new ≡ fragments (row_in table values) → draws f s (Insert table values) ≡ new - 0
insert_draws f s table values new is = sym is ∙ less_none new

pub insert_writes : (f : Setting) (s : State) (table : ℕ) (values : List Value) (new : ℕ) → new ≡ fragments (row_in table values) → writes f s (Insert table values) ≡ max new 0
insert_writes f s table values new is = sym is ∙ more_none new

-- a refusal is no Inserted
pub never_inserted : (a : Answer) (row : RowId) → is_success a ≡ false → a ≢ Inserted row
never_inserted a row fails is = let clash : true ≡ false = ap is_success (sym is) ∙ fails in cc

pub some_at : {A : Type 0} (o : Option A) (x : A) (P : A → Type 0) → o ≡ Some x → IfSome o P → P x
some_at (Some y) x P e h = let same : y ≡ x = cc in subst P same h
some_at None x P e h = cc
