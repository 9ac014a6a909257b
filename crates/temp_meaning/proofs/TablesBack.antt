-- What taking changes back does to each table.
use Rattle.std.proofs.Common.{◌≡◌, ◌≢◌, ◌⊎◌, inl, inr, refl, ap, sym, ◌∙◌, subst, ℕ, ◌<◌, ◌≤◌, ◌-◌, Bool, true, false, List, [], ◌∷◌, ◌++◌, length, get_or, set, suc, arith}
use Rattle.std.specs.Prelude.{◌==◌, nat_le, if◌then◌else◌}
use Rattle.std.proofs.lemmas.Bool.{cases_eq}
use Rattle.std.proofs.lemmas.List.{get_or-set_same, get_or-set_other, length-set}
use Rattle.temp_meaning.specs.Rows.{TempRow}
use Rattle.temp_meaning.specs.Tables.{TempTable, Temps, no_temp}
use Rattle.temp_meaning.specs.Undo.{Undone, rows_back, taken_back, taken_back_one}
use Rattle.temp_meaning.specs.Calls.{AreKept, AreOfRows, oldest}
use Rattle.temp_meaning.proofs.Ascending.{back_ascends, kept_at, set_kept}

abbrev pub at : Temps → ℕ → TempTable
at ts k = get_or ts.tables k no_temp

-- the rows of the k-th table with its changes taken back
abbrev pub rows_all_back : ℕ → ℕ → List Undone → List TempRow → List TempRow
rows_all_back first k [] rs = rs
rows_all_back first k (u ∷ us) rs = rows_all_back first k us (if (u.table - first) == k then rows_back u.row u.had rs else rs)

-- all changes taken back
abbrev pub all_back : List Undone → Temps → Temps
all_back [] ts = ts
all_back (u ∷ us) ts = all_back us (taken_back_one u ts)

-- none of the changes is of the k-th table
abbrev pub NoneOf : ℕ → ℕ → List Undone → Type 0
NoneOf first k [] = Unit {0}
NoneOf first k (u ∷ us) = ((u.table - first) ≢ k) × NoneOf first k us

pub equal : (a b : ℕ) → a ≡ b → (a == b) ≡ true
equal a b e = grind (arith, e)

pub apart : (a b : ℕ) → a ≢ b → (a == b) ≡ false
apart a b ne = grind (arith, ne)

pub set_here : (ts : List TempTable) (i k : ℕ) (x : TempTable) → i ≡ k → k < length ts → get_or (set ts i x) k no_temp ≡ x
set_here ts i k x e lt = ap (λ j. get_or (set ts j x) k no_temp) e ∙ get_or-set_same ts k x no_temp lt

pub set_there : (ts : List TempTable) (i k : ℕ) (x : TempTable) → i ≢ k → get_or (set ts i x) k no_temp ≡ get_or ts k no_temp
set_there ts i k x ne = get_or-set_other ts i k x no_temp (λ e. ne (sym e))

abbrev one_changed : Undone → Temps → ℕ → TempTable
one_changed u ts i = record (at ts i) { rows = rows_back u.row u.had (at ts i).rows }

one_back_at : (u : Undone) (ts : Temps) (k : ℕ) → k < length ts.tables
    → at (taken_back_one u ts) k ≡ record (at ts k) { rows = if (u.table - ts.first) == k then rows_back u.row u.had (at ts k).rows else (at ts k).rows }
one_back_at u ts k lt = by (cases_eq (u.table - ts.first) k)
  where
    by : ((u.table - ts.first) ≡ k) ⊎ ((u.table - ts.first) ≢ k)
        → at (taken_back_one u ts) k ≡ record (at ts k) { rows = if (u.table - ts.first) == k then rows_back u.row u.had (at ts k).rows else (at ts k).rows }
    by (inl e) =
        set_here ts.tables (u.table - ts.first) k (one_changed u ts (u.table - ts.first)) e lt ∙ ap (one_changed u ts) e
        ∙ sym (ap (λ (b : Bool). record (at ts k) { rows = if b then rows_back u.row u.had (at ts k).rows else (at ts k).rows }) (equal (u.table - ts.first) k e))
    by (inr ne) =
        set_there ts.tables (u.table - ts.first) k (one_changed u ts (u.table - ts.first)) ne
        ∙ sym (ap (λ (b : Bool). record (at ts k) { rows = if b then rows_back u.row u.had (at ts k).rows else (at ts k).rows }) (apart (u.table - ts.first) k ne))

one_back_length : (u : Undone) (ts : Temps) → length (taken_back_one u ts).tables ≡ length ts.tables
one_back_length u ts = length-set ts.tables (u.table - ts.first) (record (at ts (u.table - ts.first)) { rows = rows_back u.row u.had (at ts (u.table - ts.first)).rows })

pub all_back_length : (us : List Undone) (ts : Temps) → length (all_back us ts).tables ≡ length ts.tables
all_back_length [] ts = refl
all_back_length (u ∷ us) ts = all_back_length us (taken_back_one u ts) ∙ one_back_length u ts

pub all_back_others : (us : List Undone) (ts : Temps) → all_back us ts ≡ record ts { tables = (all_back us ts).tables }
all_back_others [] ts = refl
all_back_others (u ∷ us) ts = all_back_others us (taken_back_one u ts)

pub all_back_first : (us : List Undone) (ts : Temps) → (all_back us ts).first ≡ ts.first
all_back_first us ts = ap (λ (x : Temps). x.first) (all_back_others us ts)

pub all_back_at : (us : List Undone) (ts : Temps) (k : ℕ) → k < length ts.tables → at (all_back us ts) k ≡ record (at ts k) { rows = rows_all_back ts.first k us (at ts k).rows }
all_back_at [] ts k lt = refl
all_back_at (u ∷ us) ts k lt =
    all_back_at us (taken_back_one u ts) k (subst (λ n. k < n) (sym (one_back_length u ts)) lt)
    ∙ ap (λ (x : TempTable). record x { rows = rows_all_back ts.first k us x.rows }) (one_back_at u ts k lt)

pub none_back : (first k : ℕ) (us : List Undone) (rs : List TempRow) → NoneOf first k us → rows_all_back first k us rs ≡ rs
none_back first k [] rs none = refl
none_back first k (u ∷ us) rs none =
    ap (λ (b : Bool). rows_all_back first k us (if b then rows_back u.row u.had rs else rs)) (apart (u.table - first) k none.0) ∙ none_back first k us rs none.1

pub back_in_parts : (first k : ℕ) (us ws : List Undone) (rs : List TempRow) → rows_all_back first k (us ++ ws) rs ≡ rows_all_back first k ws (rows_all_back first k us rs)
back_in_parts first k [] ws rs = refl
back_in_parts first k (u ∷ us) ws rs = back_in_parts first k us ws (if (u.table - first) == k then rows_back u.row u.had rs else rs)

pub none_after : (first k : ℕ) (us ws : List Undone) → NoneOf first k (us ++ ws) → NoneOf first k ws
none_after first k [] ws none = none
none_after first k (u ∷ us) ws none = none_after first k us ws none.1

pub later_of_rows : (us ws : List Undone) → AreOfRows (us ++ ws) → AreOfRows ws
later_of_rows [] ws of = of
later_of_rows (u ∷ us) ws of = later_of_rows us ws of.1

-- the tables stay in order
pub all_back_kept : (us ws : List Undone) (ts : Temps) → AreOfRows (us ++ ws) → AreKept ts.tables → AreKept (all_back us ts).tables
all_back_kept [] ws ts of kept = kept
all_back_kept (u ∷ us) ws ts of kept =
    all_back_kept us ws (taken_back_one u ts) of.1
    (set_kept ts.tables (u.table - ts.first) (record (at ts (u.table - ts.first)) { rows = rows_back u.row u.had (at ts (u.table - ts.first)).rows }) kept
    (back_ascends u.row u.had (at ts (u.table - ts.first)).rows (kept_at ts.tables (u.table - ts.first) kept) of.0))

-- ---- back to a mark

test_true : (a b : ℕ) → a ≤ b → nat_le a b ≡ true
test_true a b le = grind (arith, le)

test_false : (a b : ℕ) → b < a → nat_le a b ≡ false
test_false a b lt = grind (arith, lt)

none_to_take : (m : ℕ) (us : List Undone) (ts : Temps) → length us ≤ m → taken_back m us ts ≡ ts
none_to_take m [] ts le = refl
none_to_take m (u ∷ us) ts le = ap (λ (b : Bool). if b then ts else taken_back m us (taken_back_one u ts)) (test_true (suc (length us)) m le)

all_oldest : (m : ℕ) (us : List Undone) → length us ≤ m → oldest m us ≡ us
all_oldest m [] le = refl
all_oldest m (u ∷ us) le = ap (λ (b : Bool). if b then u ∷ us else oldest m us) (test_true (suc (length us)) m le)

longer : (rest us : List Undone) → length us ≤ length (rest ++ us)
longer [] us = omega arith
longer (u ∷ rest) us = let more = longer rest us in omega (arith, more)

pub whole_back : (newer us : List Undone) (ts : Temps) → taken_back (length us) (newer ++ us) ts ≡ all_back newer ts
whole_back [] us ts = none_to_take (length us) us ts (omega arith)
whole_back (u ∷ rest) us ts =
    ap (λ (b : Bool). if b then ts else taken_back (length us) (rest ++ us) (taken_back_one u ts)) (test_false (suc (length (rest ++ us))) (length us) (let more = longer rest us in omega (arith, more)))
    ∙ whole_back rest us (taken_back_one u ts)

pub whole_oldest : (newer us : List Undone) → oldest (length us) (newer ++ us) ≡ us
whole_oldest [] us = all_oldest (length us) us (omega arith)
whole_oldest (u ∷ rest) us =
    ap (λ (b : Bool). if b then u ∷ rest ++ us else oldest (length us) (rest ++ us)) (test_false (suc (length (rest ++ us))) (length us) (let more = longer rest us in omega (arith, more)))
    ∙ whole_oldest rest us

-- the changes after a mark in two parts: those that go back to a later mark takes, and the others
pub record Parted (m : ℕ) (newer us : List Undone) (ts : Temps) : Type 0 where
  pub taken : List Undone
  pub left : List Undone
  pub are : newer ≡ taken ++ left
  pub log : oldest m (newer ++ us) ≡ left ++ us
  pub now : taken_back m (newer ++ us) ts ≡ all_back taken ts

pub parted : (m : ℕ) (newer us : List Undone) (ts : Temps) → length us ≤ m → Parted m newer us ts
parted m [] us ts le = record { taken = []; left = []; are = refl; log = all_oldest m us le; now = none_to_take m us ts le }
parted m (u ∷ rest) us ts le = by (nat_le (suc (length (rest ++ us))) m) refl (parted m rest us (taken_back_one u ts) le)
  where
    by : (b : Bool) → nat_le (suc (length (rest ++ us))) m ≡ b → Parted m rest us (taken_back_one u ts) → Parted m (u ∷ rest) us ts
    by true e p = record {
      taken = [];
      left = u ∷ rest;
      are = refl;
      log = ap (λ (b : Bool). if b then u ∷ rest ++ us else oldest m (rest ++ us)) e;
      now = ap (λ (b : Bool). if b then ts else taken_back m (rest ++ us) (taken_back_one u ts)) e;
    }
    by false e p = record {
      taken = u ∷ p.taken;
      left = p.left;
      are = ap (λ (xs : List Undone). u ∷ xs) p.are;
      log = ap (λ (b : Bool). if b then u ∷ rest ++ us else oldest m (rest ++ us)) e ∙ p.log;
      now = ap (λ (b : Bool). if b then ts else taken_back m (rest ++ us) (taken_back_one u ts)) e ∙ p.now;
    }
