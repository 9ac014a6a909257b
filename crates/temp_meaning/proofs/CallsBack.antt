-- Over every list of calls, going back to a mark restores each table.
use Rattle.std.proofs.Common.{◌≡◌, ◌≢◌, ◌⊎◌, inl, inr, refl, ap, sym, ◌∙◌, subst, ℕ, ◌+◌, ◌<◌, ◌≤◌, ◌-◌, Bool, true, false, List, [], ◌∷◌, ◌++◌, length, get_or, set, zero, suc, arith}
use Rattle.std.specs.Prelude.{nat_le, is_some, if◌then◌else◌}
use Rattle.std.proofs.lemmas.Bool.{cases_eq, cases_lt}
use Rattle.std.proofs.lemmas.List.{append_assoc, ext_get_or, get_or_past, length-set}
use Rattle.abl_base.specs.declared.value.Value.{Value}
use Rattle.temp_meaning.specs.Rows.{AscendAbove, TempRow, row_of, with_row, without_row}
use Rattle.temp_meaning.specs.Tables.{TempTable, Temps, no_temp, table_of, with_table}
use Rattle.temp_meaning.specs.Undo.{Undone, rows_back, table_restored, tables_restored, taken_back, taken_back_one, temps_restored}
use Rattle.temp_meaning.specs.Calls.{TempCall, TempView, Insert, Put, Delete, Back, AreKept, AreOfRows, StayAfter, StaysAfter, after_call, after_calls, back_to, if_there, noted_unless, oldest, with_deleted, with_inserted, with_put}
use Rattle.temp_meaning.proofs.RowsBack.{put_back, delete_back}
use Rattle.temp_meaning.proofs.Ascending.{back_ascends, delete_ascends, kept_at, put_ascends, set_kept, there_above}
use Rattle.temp_meaning.proofs.TablesBack.{NoneOf, Parted, all_back, apart, equal, all_back_at, all_back_first, all_back_kept, all_back_length, all_back_others, at, back_in_parts, later_of_rows, none_after, none_back, parted, rows_all_back, set_here, set_there, whole_back, whole_oldest}

-- what holds between a mark and later
record Since (v w : TempView) : Type 0 where
  newer : List Undone
  log : w.log ≡ newer ++ v.log
  first : w.now.first ≡ v.now.first
  count : length w.now.tables ≡ length v.now.tables
  marks : (k : ℕ) → (at w.now k).no_undo ≡ (at v.now k).no_undo
  undone : (k : ℕ) → k < length v.now.tables → (at v.now k).no_undo ≡ false → rows_all_back v.now.first k newer (at w.now k).rows ≡ (at v.now k).rows
  others : (k : ℕ) → (at v.now k).no_undo ≡ true → NoneOf v.now.first k newer
  kept : AreKept w.now.tables
  of_rows : AreOfRows w.log

at_mark : (v : TempView) → AreKept v.now.tables → AreOfRows v.log → Since v v
at_mark v kept of = record { newer = []; log = refl; first = refl; count = refl; marks = λ k. refl; undone = λ k lt e. refl; others = λ k e. tt; kept = kept; of_rows = of }

truth : true ≡ false → ⊥
truth h = cc

abbrev view : Temps → List Undone → TempView
view now log = record { now = now; log = log }

-- ---- a change

module _ (v w : TempView) (since : Since v w) (t n : ℕ) (x : TempTable) where
  abbrev place : ℕ
  place = t - w.now.first

  abbrev changed : Temps
  changed = with_table t x w.now

  abbrev entry : Undone
  entry = record { table = t; row = n; had = row_of (at w.now place).rows n }

  here : (k : ℕ) → place ≡ k → k < length w.now.tables → at changed k ≡ x
  here k e lt = set_here w.now.tables place k x e lt

  there : (k : ℕ) → place ≢ k → at changed k ≡ at w.now k
  there k ne = set_there w.now.tables place k x ne

  same_marks : x.no_undo ≡ (at w.now place).no_undo → (k : ℕ) → (at changed k).no_undo ≡ (at w.now k).no_undo
  same_marks same k = by (cases_eq place k)
    where
      inside : place ≡ k → (k < length w.now.tables) ⊎ (length w.now.tables ≤ k) → (at changed k).no_undo ≡ (at w.now k).no_undo
      inside e (inl lt) = ap (λ (y : TempTable). y.no_undo) (here k e lt) ∙ same ∙ ap (λ i. (at w.now i).no_undo) e
      inside e (inr past) = ap (λ (y : TempTable). y.no_undo) (beyond w.now.tables place k x past)
        where
          beyond : (ts : List TempTable) (i k : ℕ) (y : TempTable) → length ts ≤ k → get_or (set ts i y) k no_temp ≡ get_or ts k no_temp
          beyond [] i k y le = refl
          beyond (z ∷ zs) i zero y le = absurd (omega (arith, le))
          beyond (z ∷ zs) zero (suc k) y le = refl
          beyond (z ∷ zs) (suc i) (suc k) y le = beyond zs i k y (omega (arith, le))

      by : (place ≡ k) ⊎ (place ≢ k) → (at changed k).no_undo ≡ (at w.now k).no_undo
      by (inl e) = inside e (cases_lt k (length w.now.tables))
      by (inr ne) = ap (λ (y : TempTable). y.no_undo) (there k ne)

  stays_marked : (flag : Bool) → (at w.now place).no_undo ≡ flag → x.no_undo ≡ (at w.now place).no_undo → rows_back n (row_of (at w.now place).rows n) x.rows ≡ (at w.now place).rows
      → AscendAbove 0 x.rows → 0 < n → Since v (record { now = changed; log = noted_unless flag entry w.log })
  stays_marked true is same back up lt = record {
    newer = since.newer;
    log = since.log;
    first = since.first;
    count = length-set w.now.tables place x ∙ since.count;
    marks = λ k. same_marks same k ∙ since.marks k;
    undone = λ k inside no. ap (λ (y : TempTable). rows_all_back v.now.first k since.newer y.rows) (there k (λ e. truth (sym is ∙ ap (λ i. (at w.now i).no_undo) e ∙ since.marks k ∙ no))) ∙ since.undone k inside no;
    others = since.others;
    kept = set_kept w.now.tables place x since.kept up;
    of_rows = since.of_rows;
  }
  stays_marked false is same back up lt = record {
    newer = entry ∷ since.newer;
    log = ap (λ (us : List Undone). entry ∷ us) since.log;
    first = since.first;
    count = length-set w.now.tables place x ∙ since.count;
    marks = λ k. same_marks same k ∙ since.marks k;
    undone = λ k inside no. step k inside (cases_eq (t - v.now.first) k) ∙ since.undone k inside no;
    others = λ k yes. ((λ e. truth (sym (since.marks k ∙ yes) ∙ ap (λ i. (at w.now i).no_undo) (sym e ∙ sym moved) ∙ is)), since.others k yes);
    kept = set_kept w.now.tables place x since.kept up;
    of_rows = (lt, since.of_rows);
  }
    where
      moved : place ≡ t - v.now.first
      moved = ap (λ f. t - f) since.first

      step : (k : ℕ) → k < length v.now.tables → ((t - v.now.first) ≡ k) ⊎ ((t - v.now.first) ≢ k)
          → rows_all_back v.now.first k (entry ∷ since.newer) (at changed k).rows ≡ rows_all_back v.now.first k since.newer (at w.now k).rows
      step k inside (inl e) =
          ap (λ (b : Bool). rows_all_back v.now.first k since.newer (if b then rows_back n entry.had (at changed k).rows else (at changed k).rows)) (equal (t - v.now.first) k e)
          ∙ ap (λ (y : TempTable). rows_all_back v.now.first k since.newer (rows_back n entry.had y.rows)) (here k (moved ∙ e) (subst (λ m. k < m) (sym since.count) inside))
          ∙ ap (rows_all_back v.now.first k since.newer) (back ∙ ap (λ i. (at w.now i).rows) (moved ∙ e))
      step k inside (inr ne) =
          ap (λ (b : Bool). rows_all_back v.now.first k since.newer (if b then rows_back n entry.had (at changed k).rows else (at changed k).rows)) (apart (t - v.now.first) k ne)
          ∙ ap (λ (y : TempTable). rows_all_back v.now.first k since.newer y.rows) (there k (λ e. ne (sym moved ∙ e)))

-- ---- each call

inserts : (v w : TempView) (t : ℕ) (values : List Value) → Since v w → Since v (with_inserted t values w)
inserts v w t values s =
    let x : TempTable = record (table_of w.now t) { given = (table_of w.now t).given + 1; rows = with_row ((table_of w.now t).given + 1) values (table_of w.now t).rows } in
    let up = kept_at w.now.tables (t - w.now.first) s.kept in
    let n : ℕ = (table_of w.now t).given + 1 in
    let pos : 0 < (table_of w.now t).given + 1 = omega arith in
    stays_marked v w s t n x (table_of w.now t).no_undo refl refl (put_back n values (table_of w.now t).rows 0 up pos) (put_ascends n values (table_of w.now t).rows 0 up pos) pos

puts : (v w : TempView) (t n : ℕ) (values : List Value) → Since v w → is_some (row_of (table_of w.now t).rows n) ≡ true → Since v (with_put t n values w)
puts v w t n values s there =
    let x : TempTable = record (table_of w.now t) { rows = with_row n values (table_of w.now t).rows } in
    let up = kept_at w.now.tables (t - w.now.first) s.kept in
    let pos : 0 < n = there_above n (table_of w.now t).rows 0 up there in
    stays_marked v w s t n x (table_of w.now t).no_undo refl refl (put_back n values (table_of w.now t).rows 0 up pos) (put_ascends n values (table_of w.now t).rows 0 up pos) pos

deletes : (v w : TempView) (t n : ℕ) → Since v w → is_some (row_of (table_of w.now t).rows n) ≡ true → Since v (with_deleted t n w)
deletes v w t n s there =
    let x : TempTable = record (table_of w.now t) { rows = without_row n (table_of w.now t).rows } in
    let up = kept_at w.now.tables (t - w.now.first) s.kept in
    let pos : 0 < n = there_above n (table_of w.now t).rows 0 up there in
    stays_marked v w s t n x (table_of w.now t).no_undo refl refl (delete_back n (table_of w.now t).rows 0 up pos) (delete_ascends n (table_of w.now t).rows 0 up) pos

if_there_since : (v w x : TempView) (b : Bool) → Since v w → (b ≡ true → Since v x) → Since v (if_there b x w)
if_there_since v w x true s h = h refl
if_there_since v w x false s h = s

goes_back : (v w : TempView) (m : ℕ) → length v.log ≤ m → Since v w → Since v (back_to m w)
goes_back v w m le s = at_parts (parted m s.newer v.log w.now le)
  where
    at_parts : Parted m s.newer v.log w.now → Since v (back_to m w)
    at_parts p = subst (λ (x : TempView). Since v x) (sym same) (record {
      newer = p.left;
      log = refl;
      first = all_back_first p.taken w.now ∙ s.first;
      count = all_back_length p.taken w.now ∙ s.count;
      marks = λ k. marked k (cases_lt k (length w.now.tables)) ∙ s.marks k;
      undone = λ k inside no.
          ap (λ (y : TempTable). rows_all_back v.now.first k p.left y.rows) (all_back_at p.taken w.now k (subst (λ c. k < c) (sym s.count) inside))
          ∙ ap (λ f. rows_all_back v.now.first k p.left (rows_all_back f k p.taken (at w.now k).rows)) s.first
          ∙ sym (back_in_parts v.now.first k p.taken p.left (at w.now k).rows)
          ∙ ap (λ (us : List Undone). rows_all_back v.now.first k us (at w.now k).rows) (sym p.are)
          ∙ s.undone k inside no;
      others = λ k yes. none_after v.now.first k p.taken p.left (subst (λ (us : List Undone). NoneOf v.now.first k us) p.are (s.others k yes));
      kept = all_back_kept p.taken (p.left ++ v.log) w.now of s.kept;
      of_rows = later_of_rows p.taken (p.left ++ v.log) of;
    })
      where
        of : AreOfRows (p.taken ++ (p.left ++ v.log))
        of = subst AreOfRows (s.log ∙ ap (λ (us : List Undone). us ++ v.log) p.are ∙ append_assoc p.taken p.left v.log) s.of_rows

        same : back_to m w ≡ view (all_back p.taken w.now) (p.left ++ v.log)
        same =
            ap (λ (us : List Undone). view (taken_back m us w.now) (oldest m us)) s.log
            ∙ (λ z. view (p.now z) (p.log z))

        past : (ts : List TempTable) (k : ℕ) → length ts ≤ k → get_or ts k no_temp ≡ no_temp
        past ts k le = get_or_past ts k no_temp le

        marked : (k : ℕ) → (k < length w.now.tables) ⊎ (length w.now.tables ≤ k) → (at (all_back p.taken w.now) k).no_undo ≡ (at w.now k).no_undo
        marked k (inl lt) = ap (λ (y : TempTable). y.no_undo) (all_back_at p.taken w.now k lt)
        marked k (inr ge) =
            ap (λ (y : TempTable). y.no_undo) (past (all_back p.taken w.now).tables k (subst (λ c. c ≤ k) (sym (all_back_length p.taken w.now)) ge) ∙ sym (past w.now.tables k ge))

one_call : (v w : TempView) (c : TempCall) → StaysAfter (length v.log) c → Since v w → Since v (after_call c w)
one_call v w (Insert t values) stays s = inserts v w t values s
one_call v w (Put t n values) stays s = if_there_since v w (with_put t n values w) (is_some (row_of (table_of w.now t).rows n)) s (λ there. puts v w t n values s there)
one_call v w (Delete t n) stays s = if_there_since v w (with_deleted t n w) (is_some (row_of (table_of w.now t).rows n)) s (λ there. deletes v w t n s there)
one_call v w (Back m) stays s = goes_back v w m stays s

all_calls : (v w : TempView) (cs : List TempCall) → StayAfter (length v.log) cs → Since v w → Since v (after_calls cs w)
all_calls v w [] stay s = s
all_calls v w (c ∷ cs) stay s = all_calls v (after_call c w) cs stay.1 (one_call v w c stay.0 s)

-- ---- at the mark again

restored_length : (cs ts : List TempTable) → length ts ≡ length cs → length (tables_restored cs ts) ≡ length ts
restored_length [] ts e = refl
restored_length (c ∷ cs) [] e = refl
restored_length (c ∷ cs) (t ∷ ts) e = ap suc (restored_length cs ts (omega (arith, e)))

restored_at : (cs ts : List TempTable) (k : ℕ) → length ts ≡ length cs → k < length ts → get_or (tables_restored cs ts) k no_temp ≡ table_restored (get_or cs k no_temp) (get_or ts k no_temp)
restored_at [] ts k e lt = absurd (omega (arith, e, lt))
restored_at (c ∷ cs) [] k e lt = absurd (omega (arith, lt))
restored_at (c ∷ cs) (t ∷ ts) zero e lt = refl
restored_at (c ∷ cs) (t ∷ ts) (suc k) e lt = restored_at cs ts k (omega (arith, e)) (omega (arith, lt))

restores : (v w : TempView) → Since v w → back_to (length v.log) w ≡ record { now = temps_restored v.now w.now; log = v.log }
restores v w s =
    ap (λ (us : List Undone). view (taken_back (length v.log) us w.now) (oldest (length v.log) us)) s.log
    ∙ (λ z. view (now_back z) (whole_oldest s.newer v.log z))
  where
    one : (k : ℕ) → k < length w.now.tables → (b : Bool) → (at w.now k).no_undo ≡ b → record (at w.now k) { rows = rows_all_back w.now.first k s.newer (at w.now k).rows } ≡ (if b then at w.now k else record (at w.now k) { rows = (at v.now k).rows })
    one k lt true e =
        ap (λ (rs : List TempRow). record (at w.now k) { rows = rs })
        (ap (λ f. rows_all_back f k s.newer (at w.now k).rows) s.first ∙ none_back v.now.first k s.newer (at w.now k).rows (s.others k (sym (s.marks k) ∙ e)))
    one k lt false e =
        ap (λ (rs : List TempRow). record (at w.now k) { rows = rs })
        (ap (λ f. rows_all_back f k s.newer (at w.now k).rows) s.first ∙ s.undone k (subst (λ c. k < c) s.count lt) (sym (s.marks k) ∙ e))

    tables : (all_back s.newer w.now).tables ≡ tables_restored v.now.tables w.now.tables
    tables =
        ext_get_or no_temp (all_back s.newer w.now).tables (tables_restored v.now.tables w.now.tables)
        (all_back_length s.newer w.now ∙ sym (restored_length v.now.tables w.now.tables s.count))
        (λ k lt. let inside : k < length w.now.tables = subst (λ c. k < c) (all_back_length s.newer w.now) lt in
        all_back_at s.newer w.now k inside ∙ one k inside (at w.now k).no_undo refl ∙ sym (restored_at v.now.tables w.now.tables k s.count inside))

    now_back : taken_back (length v.log) (s.newer ++ v.log) w.now ≡ temps_restored v.now w.now
    now_back = whole_back s.newer v.log w.now ∙ all_back_others s.newer w.now ∙ ap (λ (ts : List TempTable). record w.now { tables = ts }) tables

pub restores_each_table : (v : TempView) (calls : List TempCall) → AreKept v.now.tables → AreOfRows v.log → StayAfter (length v.log) calls
    → back_to (length v.log) (after_calls calls v) ≡ record { now = temps_restored v.now (after_calls calls v).now; log = v.log }
restores_each_table v calls kept of stay = restores v (after_calls calls v) (all_calls v v calls stay (at_mark v kept of))

-- ---- without a mark

back_kept : (m : ℕ) (us : List Undone) (ts : Temps) → AreKept ts.tables → AreOfRows us → AreKept (taken_back m us ts).tables × AreOfRows (oldest m us)
back_kept m [] ts kept of = (kept, of)
back_kept m (u ∷ us) ts kept of =
    by (nat_le (suc (length us)) m)
    (back_kept m us (taken_back_one u ts) (set_kept ts.tables (u.table - ts.first) (record (at ts (u.table - ts.first)) { rows = rows_back u.row u.had (at ts (u.table - ts.first)).rows }) kept
    (back_ascends u.row u.had (at ts (u.table - ts.first)).rows (kept_at ts.tables (u.table - ts.first) kept) of.0)) of.1)
  where
    by : (b : Bool) → AreKept (taken_back m us (taken_back_one u ts)).tables × AreOfRows (oldest m us)
        → AreKept (if b then ts else taken_back m us (taken_back_one u ts)).tables × AreOfRows (if b then u ∷ us else oldest m us)
    by true rest = (kept, of)
    by false rest = rest

one_kept : (v : TempView) (c : TempCall) → AreKept v.now.tables → AreOfRows v.log → AreKept (after_call c v).now.tables × AreOfRows (after_call c v).log
one_kept v (Insert t values) kept of = let s = inserts v v t values (at_mark v kept of) in (s.kept, s.of_rows)
one_kept v (Put t n values) kept of = let s = one_call v v (Put t n values) tt (at_mark v kept of) in (s.kept, s.of_rows)
one_kept v (Delete t n) kept of = let s = one_call v v (Delete t n) tt (at_mark v kept of) in (s.kept, s.of_rows)
one_kept v (Back m) kept of = back_kept m v.log v.now kept of

pub stay_kept : (v : TempView) (calls : List TempCall) → AreKept v.now.tables → AreOfRows v.log → AreKept (after_calls calls v).now.tables × AreOfRows (after_calls calls v).log
stay_kept v [] kept of = (kept, of)
stay_kept v (c ∷ cs) kept of = let s = one_kept v c kept of in stay_kept (after_call c v) cs s.0 s.1
