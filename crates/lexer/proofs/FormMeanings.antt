-- What words of each form are and denote, and what their forms grant.
use Rattle.std.proofs.Common.{ℕ, ◌<◌, ◌≤◌, ◌≡◌, true, ◌&&◌, List, length, Some, None, refl, sym, ◌∙◌, ap, subst, arith}
use Rattle.std.specs.Prelude.{unwrap_or}
use Rattle.std.specs.List.{list_all, prefix_len}
use Rattle.std.proofs.Math.Decide.{dec_lt}
use Rattle.abl_base.specs.declared.rule.Rule.TheVariants.{L5}
use Rattle.parse_tree.specs.Keywords.{keyword_of}
use Rattle.parse_tree.specs.declared.token.TokenKind.{TokenKind}
use Rattle.parse_tree.specs.declared.token.TokenKind.TheVariants.{Name, QualifiedName, WholeNumber, DecimalNumber, DateLiteral, TextLiteral}
use Rattle.parse_tree.specs.declared.token.Meaning.{Meaning}
use Rattle.parse_tree.specs.declared.token.Meaning.TheVariants.{KindAlone, Spelling, Parts, Whole, Scaled, Day, TextBytes}
use Rattle.parse_tree.specs.declared.token.CivilDate.{CivilDate}
use Rattle.lexer.specs.declared.form.Form.{Form}
use Rattle.lexer.specs.declared.form.Form.TheVariants.{Word, Qualified, Digits, Fractional, Dated, Quoted, Symbol}
use Rattle.lexer.specs.Bytes.{point, is_digit, is_name_byte}
use Rattle.lexer.specs.Forms.{form, leading, after_separator, parted, is_name, is_digits}
use Rattle.lexer.specs.Meanings.{kind_of, meaning_of, word_meaning, number_of, scaled_of, date_of, text_of, symbol_kind}
use Rattle.lexer.specs.Texts.{IsFit, long_whole, long_before, long_fraction}
use Rattle.abl_base.proofs.Bools.{left_of_and, right_of_and}
use Rattle.lexer.proofs.Prefixes.{leading_length, starts_inside}
use Rattle.lexer.proofs.Values.{digits_all}

-- KINDS
pub reserved_kind : (f : Form) (w : List ℕ) (k : TokenKind) → f ≡ Word → Some k ≡ keyword_of w → k ≡ kind_of f w
unfolding kind_of
reserved_kind f w k e h = subst (λ g. k ≡ kind_of g w) (sym e) (ap (λ o. unwrap_or o Name) h)

pub name_kind : (f : Form) (w : List ℕ) → f ≡ Word → None ≡ keyword_of w → Name ≡ kind_of f w
unfolding kind_of
name_kind f w e h = subst (λ g. Name ≡ kind_of g w) (sym e) (ap (λ o. unwrap_or o Name) h)

pub qualified_kind : (f : Form) (w : List ℕ) → f ≡ Qualified → QualifiedName ≡ kind_of f w
unfolding kind_of
qualified_kind f w e = subst (λ g. QualifiedName ≡ kind_of g w) (sym e) refl

pub digits_kind : (f : Form) (w : List ℕ) → f ≡ Digits → WholeNumber ≡ kind_of f w
unfolding kind_of
digits_kind f w e = subst (λ g. WholeNumber ≡ kind_of g w) (sym e) refl

pub fractional_kind : (f : Form) (w : List ℕ) → f ≡ Fractional → DecimalNumber ≡ kind_of f w
unfolding kind_of
fractional_kind f w e = subst (λ g. DecimalNumber ≡ kind_of g w) (sym e) refl

pub dated_kind : (f : Form) (w : List ℕ) → f ≡ Dated → DateLiteral ≡ kind_of f w
unfolding kind_of
dated_kind f w e = subst (λ g. DateLiteral ≡ kind_of g w) (sym e) refl

pub quoted_kind : (f : Form) (w : List ℕ) → f ≡ Quoted → TextLiteral ≡ kind_of f w
unfolding kind_of
quoted_kind f w e = subst (λ g. TextLiteral ≡ kind_of g w) (sym e) refl

pub symbol_kind_is : (f : Form) (w : List ℕ) (k : TokenKind) → f ≡ Symbol → k ≡ symbol_kind w → k ≡ kind_of f w
unfolding kind_of
symbol_kind_is f w k e h = subst (λ g. k ≡ kind_of g w) (sym e) h

-- MEANINGS
pub reserved_meaning : (f : Form) (w : List ℕ) (k : TokenKind) → f ≡ Word → Some k ≡ keyword_of w → KindAlone ≡ meaning_of f w
unfolding meaning_of
reserved_meaning f w k e h = subst (λ g. KindAlone ≡ meaning_of g w) (sym e) (ap (λ o. word_meaning o w) h)

pub name_meaning : (f : Form) (w name : List ℕ) → f ≡ Word → None ≡ keyword_of w → name ≡ w → Spelling name ≡ meaning_of f w
unfolding meaning_of
name_meaning f w name e h n = subst (λ g. Spelling name ≡ meaning_of g w) (sym e) (ap (λ v. Spelling v) n ∙ ap (λ o. word_meaning o w) h)

pub qualified_meaning : (f : Form) (w : List ℕ) (m : Meaning) → f ≡ Qualified → m ≡ Parts (leading is_name_byte w) (after_separator is_name_byte w) → m ≡ meaning_of f w
unfolding meaning_of
qualified_meaning f w m e h = subst (λ g. m ≡ meaning_of g w) (sym e) h

pub digits_meaning : (f : Form) (w : List ℕ) (n : ℕ) → f ≡ Digits → n ≡ number_of w → Whole n ≡ meaning_of f w
unfolding meaning_of
digits_meaning f w n e h = subst (λ g. Whole n ≡ meaning_of g w) (sym e) (ap (λ k. Whole k) h)

pub fractional_meaning : (f : Form) (w : List ℕ) (m : Meaning) → f ≡ Fractional → m ≡ Scaled (scaled_of (leading is_digit w) (after_separator is_digit w)) → m ≡ meaning_of f w
unfolding meaning_of
fractional_meaning f w m e h = subst (λ g. m ≡ meaning_of g w) (sym e) h

pub dated_meaning : (f : Form) (w : List ℕ) (d : CivilDate) → f ≡ Dated → d ≡ date_of w → Day d ≡ meaning_of f w
unfolding meaning_of
dated_meaning f w d e h = subst (λ g. Day d ≡ meaning_of g w) (sym e) (ap (λ k. Day k) h)

pub quoted_meaning : (f : Form) (w bytes : List ℕ) → f ≡ Quoted → bytes ≡ text_of w → TextBytes bytes ≡ meaning_of f w
unfolding meaning_of
quoted_meaning f w bytes e h = subst (λ g. TextBytes bytes ≡ meaning_of g w) (sym e) (ap (λ k. TextBytes k) h)

pub symbol_meaning : (f : Form) (w : List ℕ) → f ≡ Symbol → KindAlone ≡ meaning_of f w
unfolding meaning_of
symbol_meaning f w e = subst (λ g. KindAlone ≡ meaning_of g w) (sym e) refl

-- WHAT THE FORMS GRANT
abbrev pub Formed : Form → List ℕ → Type 0
Formed f w = (after : List ℕ) × (form f w after ≡ true)

pub qualified_point : (f : Form) (w : List ℕ) → f ≡ Qualified → Formed f w → prefix_len is_name_byte w < length w
unfolding form
qualified_point f w e p =
    let q : form Qualified w p.0 ≡ true = subst (λ g. form g w p.0 ≡ true) e p.1 in
    starts_inside point (prefix_len is_name_byte w) w (left_of_and (parted is_name_byte point w) _ (left_of_and (parted is_name_byte point w && is_name (leading is_name_byte w)) _ q))

pub digits_few : (f : Form) (w : List ℕ) → f ≡ Digits → IsFit f w → length w ≤ 18
digits_few f w e fit = elim (dec_lt 18 (length w)) [
  | yes h ↦ absurd (subst (λ g. IsFit g w) e fit L5 0 (long_whole h))
  | no h ↦ omega arith
]

pub digits_only : (f : Form) (w : List ℕ) → f ≡ Digits → Formed f w → list_all is_digit w ≡ true
unfolding form
digits_only f w e p =
    let q : form Digits w p.0 ≡ true = subst (λ g. form g w p.0 ≡ true) e p.1 in
    digits_all w q

fraction : (f : Form) (w : List ℕ) → f ≡ Fractional → Formed f w → ((parted is_digit point w && is_digits (leading is_digit w)) && is_digits (after_separator is_digit w)) ≡ true
unfolding form
fraction f w e p =
    let q : form Fractional w p.0 ≡ true = subst (λ g. form g w p.0 ≡ true) e p.1 in
    q

pub fraction_point : (f : Form) (w : List ℕ) → f ≡ Fractional → Formed f w → prefix_len is_digit w < length w
fraction_point f w e p = starts_inside point (prefix_len is_digit w) w (left_of_and (parted is_digit point w) _ (left_of_and (parted is_digit point w && is_digits (leading is_digit w)) _ (fraction f w e p)))

pub fraction_after : (f : Form) (w : List ℕ) → f ≡ Fractional → Formed f w → list_all is_digit (after_separator is_digit w) ≡ true
fraction_after f w e p = digits_all (after_separator is_digit w) (right_of_and (parted is_digit point w && is_digits (leading is_digit w)) _ (fraction f w e p))

pub fraction_few_before : (f : Form) (w : List ℕ) → f ≡ Fractional → IsFit f w → prefix_len is_digit w ≤ 18
fraction_few_before f w e fit =
    let l = leading_length is_digit w in
    elim (dec_lt 18 (length (leading is_digit w))) [
      | yes h ↦ absurd (subst (λ g. IsFit g w) e fit L5 0 (long_before h))
      | no h ↦ omega arith
    ]

pub fraction_few_after : (f : Form) (w : List ℕ) → f ≡ Fractional → IsFit f w → length (after_separator is_digit w) ≤ 10
fraction_few_after f w e fit = elim (dec_lt 10 (length (after_separator is_digit w))) [
  | yes h ↦ absurd (subst (λ g. IsFit g w) e fit L5 0 (long_fraction h))
  | no h ↦ omega arith
]
