-- Worked rows of the definitions.
use Rattle.std.specs.Prelude.{ℕ, ◌≡◌, Bool, true, false, List, [], ◌∷◌, ◌++◌, Option, Some, None, codes, refl}
use Rattle.parse_tree.specs.Keywords.{keyword_of, reserved, abbreviated, spelled_in_full, spelled_short, spells}
use Rattle.parse_tree.specs.declared.token.Meaning.TheVariants.{Day, Scaled, Parts}
use Rattle.parse_tree.specs.declared.token.TokenKind.TheVariants.{LessOrEqual}
use Rattle.lexer.specs.declared.form.Form.TheVariants.{Word, Qualified, Digits, Fractional, Dated, Quoted, Symbol}
use Rattle.lexer.specs.Forms.{form, closing}
use Rattle.lexer.specs.Gaps.{comment}
use Rattle.lexer.specs.Meanings.{inside, is_date, date_of, kind_of, meaning_of, number_of, text_of}
use Rattle.lexer.specs.Texts.{place_of}

-- after /* a comment inside is closed first
pub comments_nest : comment 1 (codes " a /* b */ c */ d") ≡ Some 15
unfolding comment
comments_nest = refl

-- /*/ opens a comment and closes none
pub slash_closes_nothing : comment 1 (codes "/") ≡ None
unfolding comment
slash_closes_nothing = refl

pub date_before_digit : form Dated (codes "1/2/2024") (codes "5") ≡ false
unfolding form
date_before_digit = refl

pub date_before_point : form Dated (codes "1/2/34") (codes ".5") ≡ true
unfolding form
date_before_point = refl

-- a minus may be in a name and at its end
pub minus_in_name : form Word (codes "i-1-") [] ≡ true
unfolding form
minus_in_name = refl

pub period_before_name : form Symbol (codes ".") (codes "x") ≡ false
unfolding form
period_before_name = refl

pub doubled_quote : closing 34 false (34 ∷ 34 ∷ 98 ∷ 34 ∷ []) ≡ Some 4
unfolding closing
doubled_quote = refl

-- "a~102~n""" without its opening quote
pub escapes : inside 34 0 (codes "a~102~n" ++ (34 ∷ 34 ∷ 34 ∷ [])) ≡ 97 ∷ 66 ∷ 10 ∷ 34 ∷ []
unfolding inside
escapes = refl

-- 400 is no byte, so ~4 denotes 4
pub octal_above_377 : inside 34 0 (codes "~400" ++ (34 ∷ [])) ≡ codes "400"
unfolding inside
octal_above_377 = refl

pub two_digit_years : meaning_of Dated (codes "12/31/49") ≡ Day (record { month = 12; day = 31; year = 2049 })
unfolding meaning_of
two_digit_years = refl

pub leap_days : is_date (date_of (codes "2/29/1900")) ≡ false
leap_days = refl

pub ten_decimals : meaning_of Fractional (codes "2.5") ≡ Scaled 25000000000
unfolding meaning_of
ten_decimals = refl

pub two_parts : meaning_of Qualified (codes "customer.num") ≡ Parts (codes "customer") (codes "num")
unfolding meaning_of
two_parts = refl

pub pair_of_bytes : kind_of Symbol (codes "<=") ≡ LessOrEqual
unfolding kind_of
pair_of_bytes = refl

-- after a line feed and two bytes
pub line_and_column : place_of (codes "a\nbcd") 4 ≡ record { line = 2; column = 3 }
unfolding place_of
line_and_column = refl
