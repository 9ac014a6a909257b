-- Words that break a rule.
use Rattle.std.proofs.Common.{ℕ, ◌+◌, ◌-◌, ◌<◌, ◌≤◌, ◌≡◌, true, false, List, length, refl, sym, ◌∙◌, ap, subst, arith}
use Rattle.std.specs.List.{prefix_len}
use Rattle.abl_base.specs.declared.rule.Rule.{Rule}
use Rattle.abl_base.specs.declared.rule.Rule.TheVariants.{L4, L5}
use Rattle.lexer.specs.declared.form.Form.{Form}
use Rattle.lexer.specs.declared.form.Form.TheVariants.{Word, Qualified, Digits, Fractional, Dated, Quoted, Symbol}
use Rattle.lexer.specs.Bytes.{is_digit, is_name_byte}
use Rattle.parse_tree.specs.declared.token.CivilDate.{CivilDate}
use Rattle.lexer.specs.Forms.{form, is_dated}
use Rattle.lexer.specs.Meanings.{is_date, date_of}
use Rattle.lexer.specs.Texts.{Misfit, long_name, long_first, long_second, long_whole, long_before, long_fraction, no_date, IsFirstMisfit, number, IsFit}
use Rattle.std.proofs.lemmas.Bool.{both_ways}
use Rattle.abl_base.proofs.Bools.{left_of_and}
use Rattle.lexer.proofs.Prefixes.{leading_length, after_separator_length}

-- the rule that words of a form break
abbrev pub rule_of : Form → Rule
rule_of Word = L4
rule_of Qualified = L4
rule_of Digits = L5
rule_of Fractional = L5
rule_of Dated = L5
rule_of Quoted = L5
rule_of Symbol = L5

pub one_rule : (f : Form) (w : List ℕ) (rule : Rule) (at : ℕ) → Misfit f w rule at → rule ≡ rule_of f
one_rule f w rule at (long_name h) = refl
one_rule f w rule at (long_first h) = refl
one_rule f w rule at (long_second h) = refl
one_rule f w rule at (long_whole h) = refl
one_rule f w rule at (long_before h) = refl
one_rule f w rule at (long_fraction h) = refl
one_rule f w rule at (no_date h) = refl

no_later : (f : Form) (w : List ℕ) (rule other : Rule) (a b : ℕ) → Misfit f w rule a → Misfit f w other b → number rule ≤ number other
no_later f w rule other a b m n =
    let e : rule ≡ other = one_rule f w rule a m ∙ sym (one_rule f w other b n) in
    subst (λ r. number rule ≤ number r) e (omega arith)

pub at_start : (f : Form) (w : List ℕ) (rule : Rule) → Misfit f w rule 0 → IsFirstMisfit f w rule 0
at_start f w rule m = record { breaks = m; first = λ other at n. (omega arith, no_later f w rule other 0 at m n) }

pub long_name_part : (w : List ℕ) (n : ℕ) → n ≡ prefix_len is_name_byte w → 32 < n → IsFirstMisfit Qualified w L4 0
long_name_part w n e h = at_start Qualified w L4 (long_first (let l = leading_length is_name_byte w in omega arith))

second_place : (w : List ℕ) (other : Rule) (at : ℕ) → prefix_len is_name_byte w ≤ 32 → Misfit Qualified w other at → at ≡ prefix_len is_name_byte w + 1
second_place w other at h (long_first l) = absurd (let k = leading_length is_name_byte w in omega arith)
second_place w other at h (long_second l) = refl

pub long_second_part : (w : List ℕ) (n k : ℕ) → n ≡ prefix_len is_name_byte w → n ≤ 32 → k ≡ length w - (n + 1) → 32 < k → IsFirstMisfit Qualified w L4 (n + 1)
long_second_part w n k e h l m =
    let b = after_separator_length is_name_byte w in
    let s : Misfit Qualified w L4 (prefix_len is_name_byte w + 1) = long_second (omega arith) in
    let i : prefix_len is_name_byte w + 1 ≡ n + 1 = omega arith in
    let t = subst (λ a. Misfit Qualified w L4 a) i s in
    record {
      breaks = t;
      first = λ other at q. (let p = second_place w other at (omega arith) q in omega arith, no_later Qualified w L4 other (n + 1) at t q);
    }

pub long_digits : (w : List ℕ) (n : ℕ) → n ≡ prefix_len is_digit w → 18 < n → IsFirstMisfit Fractional w L5 0
long_digits w n e h = at_start Fractional w L5 (long_before (let l = leading_length is_digit w in omega arith))

pub long_decimals : (w : List ℕ) (n k : ℕ) → n ≡ prefix_len is_digit w → k ≡ length w - (n + 1) → 10 < k → IsFirstMisfit Fractional w L5 0
long_decimals w n k e l m = at_start Fractional w L5 (long_fraction (let b = after_separator_length is_digit w in omega arith))

pub fit_name : (w : List ℕ) → length w ≤ 32 → IsFit Word w
fit_name w h rule at (long_name l) = omega arith

pub fit_parts : (w : List ℕ) (n k : ℕ) → n ≡ prefix_len is_name_byte w → n ≤ 32 → k ≡ length w - (n + 1) → k ≤ 32 → IsFit Qualified w
fit_parts w n k e h l m rule at (long_first i) = (let f = leading_length is_name_byte w in omega arith)
fit_parts w n k e h l m rule at (long_second i) = (let b = after_separator_length is_name_byte w in omega arith)

pub fit_digits : (w : List ℕ) → length w ≤ 18 → IsFit Digits w
fit_digits w h rule at (long_whole l) = omega arith

pub fit_fraction : (w : List ℕ) (n k : ℕ) → n ≡ prefix_len is_digit w → n ≤ 18 → k ≡ length w - (n + 1) → k ≤ 10 → IsFit Fractional w
fit_fraction w n k e h l m rule at (long_before i) = (let f = leading_length is_digit w in omega arith)
fit_fraction w n k e h l m rule at (long_fraction i) = (let b = after_separator_length is_digit w in omega arith)

pub fit_date : (w : List ℕ) → is_date (date_of w) ≡ true → IsFit Dated w
fit_date w e rule at (no_date f) = both_ways (is_date (date_of w)) f e

pub fit_text : (w : List ℕ) → IsFit Quoted w
fit_text w rule at m = elim m [ ]

pub fit_symbol : (w : List ℕ) → IsFit Symbol w
fit_symbol w rule at m = elim m [ ]

-- a rule is broken inside its word
pub inside_word : (f : Form) (w : List ℕ) (rule : Rule) (at : ℕ) → 0 < length w → Misfit f w rule at → at < length w
inside_word f w rule at p (long_name h) = p
inside_word f w rule at p (long_first h) = p
inside_word f w rule at p (long_second h) = (let b = after_separator_length is_name_byte w in omega arith)
inside_word f w rule at p (long_whole h) = p
inside_word f w rule at p (long_before h) = p
inside_word f w rule at p (long_fraction h) = p
inside_word f w rule at p (no_date h) = p

-- AS THE CODE FINDS THEM
pub dated_word : (f : Form) (w : List ℕ) → f ≡ Dated → (after : List ℕ) × (form f w after ≡ true) → is_dated w ≡ true
unfolding form
dated_word f w e p =
    let q : form Dated w p.0 ≡ true = subst (λ g. form g w p.0 ≡ true) e p.1 in
    left_of_and (is_dated w) _ q

pub long_word : (f : Form) (w : List ℕ) → f ≡ Word → 32 < length w → IsFirstMisfit f w L4 0
long_word f w e h = subst (λ g. IsFirstMisfit g w L4 0) (sym e) (at_start Word w L4 (long_name h))

pub long_number : (f : Form) (w : List ℕ) → f ≡ Digits → 18 < length w → IsFirstMisfit f w L5 0
long_number f w e h = subst (λ g. IsFirstMisfit g w L5 0) (sym e) (at_start Digits w L5 (long_whole h))

pub false_date : (f : Form) (w : List ℕ) (d : CivilDate) → f ≡ Dated → d ≡ date_of w → is_date d ≡ false → IsFirstMisfit f w L5 0
false_date f w d e h n = subst (λ g. IsFirstMisfit g w L5 0) (sym e) (at_start Dated w L5 (no_date (ap is_date (sym h) ∙ n)))

pub true_date : (f : Form) (w : List ℕ) (d : CivilDate) → f ≡ Dated → d ≡ date_of w → is_date d ≡ true → IsFit f w
true_date f w d e h n = subst (λ g. IsFit g w) (sym e) (fit_date w (ap is_date (sym h) ∙ n))
