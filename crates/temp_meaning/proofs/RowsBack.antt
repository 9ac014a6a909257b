-- What a row had takes its change back.
use Rattle.std.proofs.Common.{◌≡◌, refl, ap, ◌∙◌, subst, ℕ, ◌<◌, ◌≤◌, Bool, true, false, List, [], ◌∷◌, Option, Some, None, arith}
use Rattle.std.specs.Prelude.{◌==◌, nat_lt, if◌then◌else◌}
use Rattle.std.proofs.lemmas.Bool.{ltb-true, ltb-false}
use Rattle.abl_base.specs.declared.value.Value.{Value}
use Rattle.temp_meaning.specs.Rows.{AscendAbove, TempRow, row_of, with_row, without_row}
use Rattle.temp_meaning.specs.Undo.{rows_back}

itself : (n : ℕ) → (n == n) ≡ true
itself n = grind (arith)

not_below : (n m : ℕ) → n < m → (m == n) ≡ false
not_below n m lt = grind (arith, lt)

-- no row has a number below all
pub none_below : (n low : ℕ) (rs : List TempRow) → AscendAbove low rs → n ≤ low → row_of rs n ≡ None
none_below n low [] up le = refl
none_below n low (r ∷ rs) up le =
    let lt : low < r.number = ltb-true low r.number up.0 in
    ap (λ (b : Bool). if b then Some r.values else row_of rs n) (not_below n r.number (omega (arith, lt, le))) ∙ none_below n r.number rs up.1 (omega (arith, lt, le))

pub absent_back : (n low : ℕ) (rs : List TempRow) → AscendAbove low rs → n ≤ low → without_row n rs ≡ rs
absent_back n low [] up le = refl
absent_back n low (r ∷ rs) up le =
    let lt : low < r.number = ltb-true low r.number up.0 in
    ap (λ (b : Bool). if b then rs else r ∷ without_row n rs) (not_below n r.number (omega (arith, lt, le))) ∙ ap (λ ws. r ∷ ws) (absent_back n r.number rs up.1 (omega (arith, lt, le)))

abbrev one_back : ℕ → Bool → TempRow → List TempRow → List TempRow
one_back n b r ws = if b then ws else r ∷ without_row n ws

-- a change of a later row
later : (n : ℕ) (r : TempRow) (had : Option (List Value)) (ws rs : List TempRow) → (r.number == n) ≡ false → nat_lt n r.number ≡ false → rows_back n had ws ≡ rs → rows_back n had (r ∷ ws) ≡ r ∷ rs
later n r None ws rs e l back = ap (λ (b : Bool). if b then ws else r ∷ without_row n ws) e ∙ ap (λ xs. r ∷ xs) back
later n r (Some vs) ws rs e l back =
    ap (λ (b : Bool). if b then record { number = n; values = vs } ∷ ws else if nat_lt n r.number then record { number = n; values = vs } ∷ r ∷ ws else r ∷ with_row n vs ws) e
    ∙ ap (λ (b : Bool). if b then record { number = n; values = vs } ∷ r ∷ ws else r ∷ with_row n vs ws) l
    ∙ ap (λ xs. r ∷ xs) back

pub put_back : (n : ℕ) (vs : List Value) (rs : List TempRow) (low : ℕ) → AscendAbove low rs → low < n → rows_back n (row_of rs n) (with_row n vs rs) ≡ rs
put_back n vs [] low up lt = ap (λ (b : Bool). if b then [] else record { number = n; values = vs } ∷ []) (itself n)
put_back n vs (r ∷ rs) low up lt = by (r.number == n) refl (nat_lt n r.number) refl (λ above. put_back n vs rs r.number up.1 above)
  where
    by : (b : Bool) → (r.number == n) ≡ b → (c : Bool) → nat_lt n r.number ≡ c →
        (r.number < n → rows_back n (row_of rs n) (with_row n vs rs) ≡ rs) →
        rows_back n (if b then Some r.values else row_of rs n) (if b then record { number = n; values = vs } ∷ rs else if c then record { number = n; values = vs } ∷ r ∷ rs else r ∷ with_row n vs rs) ≡ r ∷ rs
    by true e c f rest =
        ap (λ (b : Bool). if b then record { number = n; values = r.values } ∷ rs else if nat_lt n n then record { number = n; values = r.values } ∷ record { number = n; values = vs } ∷ rs else record { number = n; values = vs } ∷ with_row n r.values rs) (itself n)
        ∙ ap (λ m. record { number = m; values = r.values } ∷ rs) (grind (arith, e))
    by false e true f rest =
        let below : n < r.number = ltb-true n r.number f in
        ap (λ had. rows_back n had (record { number = n; values = vs } ∷ r ∷ rs)) (none_below n r.number rs up.1 (omega (arith, below)))
        ∙ ap (λ (b : Bool). if b then r ∷ rs else record { number = n; values = vs } ∷ without_row n (r ∷ rs)) (itself n)
    by false e false f rest = later n r (row_of rs n) (with_row n vs rs) rs e f (rest (let ge = ltb-false n r.number f in grind (arith, e, ge)))

pub delete_back : (n : ℕ) (rs : List TempRow) (low : ℕ) → AscendAbove low rs → low < n → rows_back n (row_of rs n) (without_row n rs) ≡ rs
delete_back n [] low up lt = refl
delete_back n (r ∷ rs) low up lt = by (r.number == n) refl (nat_lt n r.number) refl (λ above. delete_back n rs r.number up.1 above)
  where
    first_again : (vs : List Value) (ws : List TempRow) (m : ℕ) → AscendAbove m ws → m ≡ n → with_row n vs ws ≡ record { number = n; values = vs } ∷ ws
    first_again vs [] m up e = refl
    first_again vs (w ∷ ws) m up e =
        let low : m < w.number = ltb-true m w.number up.0 in
        ap (λ (b : Bool). if b then record { number = n; values = vs } ∷ ws else if nat_lt n w.number then record { number = n; values = vs } ∷ w ∷ ws else w ∷ with_row n vs ws) (not_below n w.number (omega (arith, low, e)))
        ∙ ap (λ (b : Bool). if b then record { number = n; values = vs } ∷ w ∷ ws else w ∷ with_row n vs ws) (subst (λ k. nat_lt k w.number ≡ true) e up.0)

    by : (b : Bool) → (r.number == n) ≡ b → (c : Bool) → nat_lt n r.number ≡ c → (r.number < n → rows_back n (row_of rs n) (without_row n rs) ≡ rs) → rows_back n (if b then Some r.values else row_of rs n) (if b then rs else r ∷ without_row n rs) ≡ r ∷ rs
    by true e c f rest = first_again r.values rs r.number up.1 (grind (arith, e)) ∙ ap (λ m. record { number = m; values = r.values } ∷ rs) (grind (arith, e))
    by false e true f rest =
        let below : n < r.number = ltb-true n r.number f in
        ap (λ had. rows_back n had (r ∷ without_row n rs)) (none_below n r.number rs up.1 (omega (arith, below)))
        ∙ ap (λ (b : Bool). if b then without_row n rs else r ∷ without_row n (without_row n rs)) e
        ∙ ap (λ ws. r ∷ without_row n ws) (absent_back n r.number rs up.1 (omega (arith, below)))
        ∙ ap (λ ws. r ∷ ws) (absent_back n r.number rs up.1 (omega (arith, below)))
    by false e false f rest = later n r (row_of rs n) (without_row n rs) rs e f (rest (let ge = ltb-false n r.number f in grind (arith, e, ge)))
