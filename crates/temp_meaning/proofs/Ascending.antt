-- Changes keep rows in the order of their numbers.
use Rattle.std.proofs.Common.{◌≡◌, refl, subst, ℕ, ◌<◌, ◌≤◌, Bool, true, false, List, [], ◌∷◌, Option, Some, None, get_or, set, zero, suc, arith}
use Rattle.std.specs.Prelude.{◌==◌, nat_lt, is_some, if◌then◌else◌}
use Rattle.std.proofs.lemmas.Bool.{ltb-true, ltb-false}
use Rattle.abl_base.specs.declared.value.Value.{Value}
use Rattle.temp_meaning.specs.Rows.{AscendAbove, TempRow, row_of, with_row, without_row}
use Rattle.temp_meaning.specs.Tables.{TempTable, no_temp}
use Rattle.temp_meaning.specs.Undo.{rows_back}
use Rattle.temp_meaning.specs.Calls.{AreKept}

lt_true : (a b : ℕ) → a < b → nat_lt a b ≡ true
lt_true a b lt = grind (arith, lt)

same_number : (a b : ℕ) → (a == b) ≡ true → a ≡ b
same_number a b e = grind (arith, e)

other_above : (n m : ℕ) → (m == n) ≡ false → nat_lt n m ≡ false → m < n
other_above n m e l = let ge = ltb-false n m l in grind (arith, e, ge)

lower : (low more : ℕ) (rs : List TempRow) → low ≤ more → AscendAbove more rs → AscendAbove low rs
lower low more [] le up = tt
lower low more (r ∷ rs) le up = let lt : more < r.number = ltb-true more r.number up.0 in (lt_true low r.number (omega (arith, lt, le)), up.1)

pub put_ascends : (n : ℕ) (vs : List Value) (rs : List TempRow) (low : ℕ) → AscendAbove low rs → low < n → AscendAbove low (with_row n vs rs)
put_ascends n vs [] low up lt = (lt_true low n lt, tt)
put_ascends n vs (r ∷ rs) low up lt = by (r.number == n) refl (nat_lt n r.number) refl (λ above. put_ascends n vs rs r.number up.1 above)
  where
    by : (b : Bool) → (r.number == n) ≡ b → (c : Bool) → nat_lt n r.number ≡ c → (r.number < n → AscendAbove r.number (with_row n vs rs))
        → AscendAbove low (if b then record { number = n; values = vs } ∷ rs else if c then record { number = n; values = vs } ∷ r ∷ rs else r ∷ with_row n vs rs)
    by true e c f rest = (lt_true low n lt, subst (λ m. AscendAbove m rs) (same_number r.number n e) up.1)
    by false e true f rest = (lt_true low n lt, (f, up.1))
    by false e false f rest = (up.0, rest (other_above n r.number e f))

pub delete_ascends : (n : ℕ) (rs : List TempRow) (low : ℕ) → AscendAbove low rs → AscendAbove low (without_row n rs)
delete_ascends n [] low up = tt
delete_ascends n (r ∷ rs) low up = by (r.number == n) refl (delete_ascends n rs r.number up.1)
  where
    by : (b : Bool) → (r.number == n) ≡ b → AscendAbove r.number (without_row n rs) → AscendAbove low (if b then rs else r ∷ without_row n rs)
    by true e rest = let lt : low < r.number = ltb-true low r.number up.0 in lower low r.number rs (omega (arith, lt)) up.1
    by false e rest = (up.0, rest)

pub back_ascends : (n : ℕ) (had : Option (List Value)) (rs : List TempRow) → AscendAbove 0 rs → 0 < n → AscendAbove 0 (rows_back n had rs)
back_ascends n None rs up lt = delete_ascends n rs 0 up
back_ascends n (Some vs) rs up lt = put_ascends n vs rs 0 up lt

-- a row that is there has a number above all that are not
pub there_above : (n : ℕ) (rs : List TempRow) (low : ℕ) → AscendAbove low rs → is_some (row_of rs n) ≡ true → low < n
there_above n [] low up there = absurd (let clash : false ≡ true = there in cc)
there_above n (r ∷ rs) low up there = by (r.number == n) refl there (λ more. there_above n rs r.number up.1 more)
  where
    lt : low < r.number
    lt = ltb-true low r.number up.0

    by : (b : Bool) → (r.number == n) ≡ b → is_some (if b then Some r.values else row_of rs n) ≡ true → (is_some (row_of rs n) ≡ true → r.number < n) → low < n
    by true e is rest = let same = same_number r.number n e in let below = lt in omega (arith, same, below)
    by false e is rest = let above = rest is in let below = lt in omega (arith, above, below)

-- ---- of all tables

pub kept_at : (ts : List TempTable) (k : ℕ) → AreKept ts → AscendAbove 0 (get_or ts k no_temp).rows
kept_at [] k kept = tt
kept_at (t ∷ ts) zero kept = kept.0
kept_at (t ∷ ts) (suc k) kept = kept_at ts k kept.1

pub set_kept : (ts : List TempTable) (k : ℕ) (x : TempTable) → AreKept ts → AscendAbove 0 x.rows → AreKept (set ts k x)
set_kept [] k x kept up = tt
set_kept (t ∷ ts) zero x kept up = (up, kept.1)
set_kept (t ∷ ts) (suc k) x kept up = (kept.0, set_kept ts k x kept.1 up)
