-- A word has one form, and no word is the end of the source.
use Rattle.std.proofs.Common.{ℕ, ◌≡◌, Bool, true, false, not, ◌&&◌, cond, List, [], ◌∷◌, length, take, drop, Option, Some, None, refl, sym, ◌∙◌, ap, subst, arith, inl, inr}
use Rattle.std.specs.Prelude.{◌==◌, unwrap_or}
use Rattle.std.specs.List.{list_all, prefix_len}
use Rattle.std.proofs.Math.Seq.{drop-length}
use Rattle.parse_tree.specs.Keywords.{keyword_of, reserved, abbreviated, spelled_in_full, spelled_short, spells, capitals, abbreviation, first_of}
use Rattle.parse_tree.specs.Tokens.{is_end}
use Rattle.parse_tree.specs.declared.token.TokenKind.{TokenKind}
use Rattle.parse_tree.specs.declared.token.TokenKind.TheVariants.{Name, Colon, Comma, LeftParenthesis, RightParenthesis, Equals, NotEqual, Less, Greater, LessOrEqual, GreaterOrEqual, Plus, Minus, Star, Slash, QuestionMark, Caret, Period}
use Rattle.lexer.specs.declared.form.Form.{Form}
use Rattle.lexer.specs.declared.form.Form.TheVariants.{Word, Qualified, Digits, Fractional, Dated, Quoted, Symbol}
use Rattle.lexer.specs.Bytes.{point, slash, is_letter, is_digit, is_name_byte, is_quote, is_symbol_byte, starts}
use Rattle.lexer.specs.Forms.{form, leading, parted, is_name, is_digits, is_dated, one_or_two}
use Rattle.lexer.specs.Meanings.{kind_of, symbol_kind, single_kind}
use Rattle.std.proofs.lemmas.Bool.{cond-true, cond-false, and_from, both_ways, false_from_ne_true, cases_Bool, not-true}
use Rattle.abl_base.proofs.Bools.{left_of_and, right_of_and}
use Rattle.lexer.proofs.Prefixes.{all_take, prefix_within, starts_one}
use Rattle.lexer.proofs.Shapes.{started, no_empty, letter_no_digit, letter_no_quote, letter_no_symbol, digit_no_quote, digit_no_symbol, quote_no_symbol, letter_byte}

-- ONE FORM
abbrev shape : ℕ → List ℕ → Form
shape b w =
    cond (is_letter b) (cond (parted is_name_byte point w) Qualified Word)
    (cond (is_digit b) (cond (parted is_digit point w) Fractional (cond (parted is_digit slash w) Dated Digits))
    (cond (is_quote b) Quoted Symbol))

take_all : (xs : List ℕ) → take (length xs) xs ≡ xs
take_all [] = refl
take_all (x ∷ xs) = ap (λ l. x ∷ l) (take_all xs)

all_alone : (p : ℕ → Bool) (c : ℕ) (w : List ℕ) → list_all p w ≡ true → parted p c w ≡ false
all_alone p c w e =
    let h = all_take p w (length w) (omega arith) (ap (list_all p) (take_all w) ∙ e) in
    let l = prefix_within p w in
    let q : prefix_len p w ≡ length w = omega arith in
    ap (λ n. starts c (drop n w)) q ∙ ap (starts c) (drop-length w)

digit_no_letter : (b : ℕ) → is_digit b ≡ true → is_letter b ≡ false
digit_no_letter b e = false_from_ne_true (is_letter b) (λ t. both_ways (is_digit b) (letter_no_digit b t) e)

quote_no_letter : (b : ℕ) → is_quote b ≡ true → is_letter b ≡ false
quote_no_letter b e = false_from_ne_true (is_letter b) (λ t. both_ways (is_quote b) (letter_no_quote b t) e)

quote_no_digit : (b : ℕ) → is_quote b ≡ true → is_digit b ≡ false
quote_no_digit b e = false_from_ne_true (is_digit b) (λ t. both_ways (is_quote b) (digit_no_quote b t) e)

symbol_no_letter : (b : ℕ) → is_symbol_byte b ≡ true → is_letter b ≡ false
symbol_no_letter b e = false_from_ne_true (is_letter b) (λ t. both_ways (is_symbol_byte b) (letter_no_symbol b t) e)

symbol_no_digit : (b : ℕ) → is_symbol_byte b ≡ true → is_digit b ≡ false
symbol_no_digit b e = false_from_ne_true (is_digit b) (λ t. both_ways (is_symbol_byte b) (digit_no_symbol b t) e)

symbol_no_quote : (b : ℕ) → is_symbol_byte b ≡ true → is_quote b ≡ false
symbol_no_quote b e = false_from_ne_true (is_quote b) (λ t. both_ways (is_symbol_byte b) (quote_no_symbol b t) e)

no_point : (w : List ℕ) → parted is_digit slash w ≡ true → parted is_digit point w ≡ false
no_point w e = false_from_ne_true (parted is_digit point w) (λ t. (let q = starts_one slash point (drop (prefix_len is_digit w) w) e t in absurd (omega arith)))

shape_is : (f : Form) (b : ℕ) (bs a : List ℕ) → form f (b ∷ bs) a ≡ true → shape b (b ∷ bs) ≡ f
unfolding form
shape_is Word b bs a e =
    let l = left_of_and (is_letter b) _ e in
    cond-true (is_letter b) _ _ l ∙ cond-false (parted is_name_byte point (b ∷ bs)) _ _ (all_alone is_name_byte point (b ∷ bs) (and_from (is_name_byte b) _ (letter_byte b l) (right_of_and (is_letter b) _ e)))
shape_is Qualified b bs a e =
    cond-true (is_letter b) _ _ (started Qualified b bs a e)
    ∙ cond-true (parted is_name_byte point (b ∷ bs)) _ _ (left_of_and (parted is_name_byte point (b ∷ bs)) _ (left_of_and (parted is_name_byte point (b ∷ bs) && is_name (leading is_name_byte (b ∷ bs))) _ e))
shape_is Digits b bs a e =
    let d = left_of_and (is_digit b) _ e in
    cond-false (is_letter b) _ _ (digit_no_letter b d) ∙ cond-true (is_digit b) _ _ d
    ∙ cond-false (parted is_digit point (b ∷ bs)) _ _ (all_alone is_digit point (b ∷ bs) e)
    ∙ cond-false (parted is_digit slash (b ∷ bs)) _ _ (all_alone is_digit slash (b ∷ bs) e)
shape_is Fractional b bs a e =
    let d = started Fractional b bs a e in
    cond-false (is_letter b) _ _ (digit_no_letter b d) ∙ cond-true (is_digit b) _ _ d
    ∙ cond-true (parted is_digit point (b ∷ bs)) _ _ (left_of_and (parted is_digit point (b ∷ bs)) _ (left_of_and (parted is_digit point (b ∷ bs) && is_digits (leading is_digit (b ∷ bs))) _ e))
shape_is Dated b bs a e =
    let d = started Dated b bs a e in
    let s = left_of_and (parted is_digit slash (b ∷ bs)) _ (left_of_and (parted is_digit slash (b ∷ bs) && one_or_two (leading is_digit (b ∷ bs))) _ (left_of_and (is_dated (b ∷ bs)) _ e)) in
    cond-false (is_letter b) _ _ (digit_no_letter b d) ∙ cond-true (is_digit b) _ _ d
    ∙ cond-false (parted is_digit point (b ∷ bs)) _ _ (no_point (b ∷ bs) s)
    ∙ cond-true (parted is_digit slash (b ∷ bs)) _ _ s
shape_is Quoted b bs a e =
    let q = started Quoted b bs a e in
    cond-false (is_letter b) _ _ (quote_no_letter b q) ∙ cond-false (is_digit b) _ _ (quote_no_digit b q) ∙ cond-true (is_quote b) _ _ q
shape_is Symbol b bs a e =
    let s = started Symbol b bs a e in
    cond-false (is_letter b) _ _ (symbol_no_letter b s) ∙ cond-false (is_digit b) _ _ (symbol_no_digit b s) ∙ cond-false (is_quote b) _ _ (symbol_no_quote b s)

pub one_form : (f g : Form) (w a : List ℕ) → form f w a ≡ true → form g w a ≡ true → f ≡ g
one_form f g [] a e h = absurd (no_empty f a e)
one_form f g (b ∷ bs) a e h = sym (shape_is f b bs a e) ∙ shape_is g b bs a h

-- NO END
full_no_end : (ks : List TokenKind) (w : List ℕ) (k : TokenKind) → list_all (λ x. not (is_end x)) ks ≡ true → spelled_in_full ks w ≡ Some k → is_end k ≡ false
unfolding spelled_in_full
full_no_end [] w k e h = cc
full_no_end (x ∷ ks) w k e h = elim (cases_Bool (spells (capitals x) w)) [
  | inl t ↦ (
      let q : Some x ≡ Some k = sym (cond-true (spells (capitals x) w) (Some x) _ t) ∙ h in
      let i : x ≡ k = cc in
      subst (λ y. is_end y ≡ false) i (not-true _ (left_of_and (not (is_end x)) _ e)))
  | inr t ↦ full_no_end ks w k (right_of_and (not (is_end x)) _ e) (sym (cond-false (spells (capitals x) w) (Some x) _ t) ∙ h)
]

short_no_end : (ks : List TokenKind) (w : List ℕ) (k : TokenKind) → list_all (λ x. not (is_end x)) ks ≡ true → spelled_short ks w ≡ Some k → is_end k ≡ false
unfolding spelled_short
short_no_end [] w k e h = cc
short_no_end (x ∷ ks) w k e h = elim (cases_Bool (spells (abbreviation x) w)) [
  | inl t ↦ (
      let q : Some x ≡ Some k = sym (cond-true (spells (abbreviation x) w) (Some x) _ t) ∙ h in
      let i : x ≡ k = cc in
      subst (λ y. is_end y ≡ false) i (not-true _ (left_of_and (not (is_end x)) _ e)))
  | inr t ↦ short_no_end ks w k (right_of_and (not (is_end x)) _ e) (sym (cond-false (spells (abbreviation x) w) (Some x) _ t) ∙ h)
]

reserved_no_end : list_all (λ x. not (is_end x)) reserved ≡ true
unfolding reserved
reserved_no_end = refl

abbreviated_no_end : list_all (λ x. not (is_end x)) abbreviated ≡ true
unfolding abbreviated
abbreviated_no_end = refl

first_no_end : (o p : Option TokenKind) (k : TokenKind) → ((j : TokenKind) → o ≡ Some j → is_end j ≡ false) → ((j : TokenKind) → p ≡ Some j → is_end j ≡ false) → first_of o p ≡ Some k → is_end k ≡ false
first_no_end None p k f g e = g k e
first_no_end (Some j) p k f g e = f k e

keyword_no_end : (w : List ℕ) (k : TokenKind) → keyword_of w ≡ Some k → is_end k ≡ false
unfolding keyword_of
keyword_no_end w k e = first_no_end (spelled_in_full reserved w) (spelled_short abbreviated w) k (λ j h. full_no_end reserved w j reserved_no_end h) (λ j h. short_no_end abbreviated w j abbreviated_no_end h) e

name_no_end : (o : Option TokenKind) → ((k : TokenKind) → o ≡ Some k → is_end k ≡ false) → is_end (unwrap_or o Name) ≡ false
name_no_end None f = refl
name_no_end (Some k) f = f k refl

choice : (b : Bool) (k l : TokenKind) → is_end k ≡ false → is_end l ≡ false → is_end (cond b k l) ≡ false
choice true k l e f = e
choice false k l e f = f

single_no_end : (b : ℕ) → is_end (single_kind b) ≡ false
single_no_end b =
    choice (b == 40) LeftParenthesis _ refl (choice (b == 41) RightParenthesis _ refl (choice (b == 42) Star _ refl (choice (b == 43) Plus _ refl
    (choice (b == 44) Comma _ refl (choice (b == 45) Minus _ refl (choice (b == 46) Period _ refl (choice (b == 47) Slash _ refl
    (choice (b == 58) Colon _ refl (choice (b == 60) Less _ refl (choice (b == 61) Equals _ refl (choice (b == 62) Greater _ refl
    (choice (b == 63) QuestionMark Caret refl refl))))))))))))

symbol_no_end : (w : List ℕ) → is_end (symbol_kind w) ≡ false
symbol_no_end [] = refl
symbol_no_end (b ∷ []) = single_no_end b
symbol_no_end (b ∷ c ∷ bs) = choice (b == 62) GreaterOrEqual _ refl (choice (c == 62) NotEqual LessOrEqual refl refl)

pub no_end : (f : Form) (w : List ℕ) → is_end (kind_of f w) ≡ false
unfolding kind_of
no_end Word w = name_no_end (keyword_of w) (keyword_no_end w)
no_end Qualified w = refl
no_end Digits w = refl
no_end Fractional w = refl
no_end Dated w = refl
no_end Quoted w = refl
no_end Symbol w = symbol_no_end w
