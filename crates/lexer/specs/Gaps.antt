-- White space and comments.
use Rattle.std.specs.Prelude.{ℕ, zero, suc, ◌+◌, ◌≡◌, true, false, ◌&&◌, ◌==◌, if◌then◌else◌, List, [], ◌∷◌, drop, Option, Some, None}
use Rattle.lexer.specs.Bytes.{star, slash, is_white, starts_gap}
use Rattle.lexer.specs.Forms.{plus}

-- The number of bytes up to the end of d open comments, nested ones included; None if one is still open at the end of the text.
unfoldable pub comment : ℕ → List ℕ → Option ℕ
comment zero text = Some 0
comment (suc d) [] = None
comment (suc d) (b ∷ []) = None
comment (suc d) (b ∷ c ∷ bs) =
    if b == slash && c == star then plus 2 (comment (suc (suc d)) bs)
    else if b == star && c == slash then plus 2 (comment d bs)
    else plus 1 (comment (suc d) (c ∷ bs))

-- the first n bytes are white space and whole comments, and no more of these follow
pub data Gap : List ℕ → ℕ → Type 0 where
  nothing : {text : List ℕ} → starts_gap text ≡ false → Gap text 0
  white : {b : ℕ} {text : List ℕ} {n : ℕ} → is_white b ≡ true → Gap text n → Gap (b ∷ text) (suc n)
  commented : {b c : ℕ} {text : List ℕ} {n : ℕ} (m : ℕ) → b ≡ slash → c ≡ star → comment 1 text ≡ Some m → Gap (drop m text) n → Gap (b ∷ c ∷ text) (suc (suc (m + n)))

-- after n such bytes a comment begins that is open at the end
pub data OpenGap : List ℕ → ℕ → Type 0 where
  opens : {b c : ℕ} {text : List ℕ} → b ≡ slash → c ≡ star → comment 1 text ≡ None → OpenGap (b ∷ c ∷ text) 0
  white_open : {b : ℕ} {text : List ℕ} {n : ℕ} → is_white b ≡ true → OpenGap text n → OpenGap (b ∷ text) (suc n)
  commented_open : {b c : ℕ} {text : List ℕ} {n : ℕ} (m : ℕ) → b ≡ slash → c ≡ star → comment 1 text ≡ Some m → OpenGap (drop m text) n → OpenGap (b ∷ c ∷ text) (suc (suc (m + n)))
