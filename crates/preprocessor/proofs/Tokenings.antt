-- One byte more of the tokens of a condition, outside a TEXT.
use Rattle.std.proofs.Common.{◌≡◌, ℕ, ◌≤◌, Bool, true, false, ◌||◌, if◌then◌else◌, List, [], ◌∷◌, ◌++◌, refl, ap, sym, ◌∙◌, append_assoc, arith}
use Rattle.std.specs.Prelude.{◌==◌}
use Rattle.preprocessor.specs.declared.tokens.Token.{Token}
use Rattle.preprocessor.specs.Conditions.{is_sign, sign_of, sign_rest, tokens, word_before}
use Rattle.preprocessor.specs.Modes.{next_byte}
use Rattle.preprocessor.specs.Words.{is_blank}

-- a byte that is outside, after the word that is open: a blank, a quotation mark, a sign, or another
abbrev read : List ℕ → ℕ → List ℕ → Bool → Bool → Bool → List Token
read held b bs blank mark sign =
    if blank then word_before held (tokens 0 0 [] bs)
    else if mark then word_before held (tokens b 0 [] bs)
    else if sign then word_before held (sign_of b (next_byte bs) ∷ tokens 0 (sign_rest b (next_byte bs)) [] bs)
    else tokens 0 0 (held ++ b ∷ []) bs

read_is : (quote skip : ℕ) (held : List ℕ) (b : ℕ) (bs : List ℕ) → skip ≤ 0 → quote ≤ 0 → tokens quote skip held (b ∷ bs) ≡ read held b bs (is_blank b) (b == 34 || b == 39) (is_sign b)
read_is quote skip held b bs k h =
    let z : skip ≡ 0 = omega (arith, k) in
    let y : quote ≡ 0 = omega (arith, h) in
    ap (λ q. tokens q skip held (b ∷ bs)) y ∙ ap (λ s. tokens 0 s held (b ∷ bs)) z

word_first : (held : List ℕ) (ts : List Token) → word_before held ts ≡ word_before held [] ++ ts
word_first [] ts = refl
word_first (b ∷ bs) ts = refl

pub mark_more : (all done done2 : List Token) (quote skip : ℕ) (held held2 rest : List ℕ) (b : ℕ) (tail : List ℕ) → done ++ tokens quote skip held rest ≡ all → rest ≡ b ∷ tail → skip ≤ 0 → quote ≤ 0 → is_blank b ≡ false → (b == 34 || b == 39) ≡ true → done2 ≡ done ++ word_before held [] → held2 ≡ [] → done2 ++ tokens b skip held2 tail ≡ all
mark_more all done done2 quote skip held held2 rest b tail h e k q n m d g =
    let z : skip ≡ 0 = omega (arith, k) in
    let step : tokens quote skip held (b ∷ tail) ≡ word_before held (tokens b 0 [] tail) = read_is quote skip held b tail k q ∙ ap (λ t. read held b tail t (b == 34 || b == 39) (is_sign b)) n ∙ ap (λ t. read held b tail false t (is_sign b)) m in
    ap (λ x. x ++ tokens b skip held2 tail) d
    ∙ ap (λ x. (done ++ word_before held []) ++ tokens b x held2 tail) z
    ∙ ap (λ x. (done ++ word_before held []) ++ tokens b 0 x tail) g
    ∙ append_assoc done (word_before held []) (tokens b 0 [] tail)
    ∙ ap (λ x. done ++ x) (sym (word_first held (tokens b 0 [] tail)) ∙ sym step ∙ ap (λ r. tokens quote skip held r) (sym e))
    ∙ h

pub sign_more : (all done done2 done3 : List Token) (token : Token) (quote skip skip2 : ℕ) (held held2 rest : List ℕ) (b next : ℕ) (tail : List ℕ) → done ++ tokens quote skip held rest ≡ all → rest ≡ b ∷ tail → skip ≤ 0 → quote ≤ 0 → is_blank b ≡ false → (b == 34 || b == 39) ≡ false → is_sign b ≡ true → done2 ≡ done ++ word_before held [] → held2 ≡ [] → next ≡ next_byte tail → token ≡ sign_of b next → done3 ≡ done2 ++ token ∷ [] → skip2 ≡ sign_rest b next → done3 ++ tokens quote skip2 held2 tail ≡ all
sign_more all done done2 done3 token quote skip skip2 held held2 rest b next tail h e k q n m s d g x t c r =
    let y : quote ≡ 0 = omega (arith, q) in
    let sign : Token = sign_of b (next_byte tail) in
    let after : List Token = tokens 0 (sign_rest b (next_byte tail)) [] tail in
    let step : tokens quote skip held (b ∷ tail) ≡ word_before held (sign ∷ after) = read_is quote skip held b tail k q ∙ ap (λ u. read held b tail u (b == 34 || b == 39) (is_sign b)) n ∙ ap (λ u. read held b tail false u (is_sign b)) m ∙ ap (λ u. read held b tail false false u) s in
    let all_done : done3 ≡ (done ++ word_before held []) ++ sign ∷ [] = c ∙ ap (λ u. u ++ token ∷ []) d ∙ ap (λ u. (done ++ word_before held []) ++ u ∷ []) (t ∙ ap (λ u. sign_of b u) x) in
    let rest_is : tokens quote skip2 held2 tail ≡ after = ap (λ u. tokens u skip2 held2 tail) y ∙ ap (λ u. tokens 0 u held2 tail) (r ∙ ap (λ u. sign_rest b u) x) ∙ ap (λ u. tokens 0 (sign_rest b (next_byte tail)) u tail) g in
    ap (λ u. u ++ tokens quote skip2 held2 tail) all_done
    ∙ ap (λ u. ((done ++ word_before held []) ++ sign ∷ []) ++ u) rest_is
    ∙ append_assoc (done ++ word_before held []) (sign ∷ []) after
    ∙ append_assoc done (word_before held []) (sign ∷ after)
    ∙ ap (λ u. done ++ u) (sym (word_first held (sign ∷ after)) ∙ sym step ∙ ap (λ u. tokens quote skip held u) (sym e))
    ∙ h

pub byte_more : (all done : List Token) (quote skip : ℕ) (held held2 rest : List ℕ) (b : ℕ) (tail : List ℕ) → done ++ tokens quote skip held rest ≡ all → rest ≡ b ∷ tail → skip ≤ 0 → quote ≤ 0 → is_blank b ≡ false → (b == 34 || b == 39) ≡ false → is_sign b ≡ false → held2 ≡ held ++ b ∷ [] → done ++ tokens quote skip held2 tail ≡ all
byte_more all done quote skip held held2 rest b tail h e k q n m s g =
    let z : skip ≡ 0 = omega (arith, k) in
    let y : quote ≡ 0 = omega (arith, q) in
    let step : tokens quote skip held (b ∷ tail) ≡ tokens 0 0 (held ++ b ∷ []) tail = read_is quote skip held b tail k q ∙ ap (λ t. read held b tail t (b == 34 || b == 39) (is_sign b)) n ∙ ap (λ t. read held b tail false t (is_sign b)) m ∙ ap (λ t. read held b tail false false t) s in
    ap (λ x. done ++ tokens x skip held2 tail) y
    ∙ ap (λ x. done ++ tokens 0 x held2 tail) z
    ∙ ap (λ x. done ++ tokens 0 0 x tail) g
    ∙ ap (λ x. done ++ x) (sym step ∙ ap (λ r. tokens quote skip held r) (sym e))
    ∙ h
