use Rattle.lexer.proofs.Misfits.{dated_word}
use Rattle.lexer.proofs.FormMeanings.{dated_kind, dated_meaning, digits_few, digits_kind, digits_meaning, digits_only, fraction_after, fraction_few_after, fraction_few_before, fraction_point, fractional_kind, fractional_meaning, name_kind, name_meaning, qualified_kind, qualified_meaning, qualified_point, quoted_kind, quoted_meaning, reserved_kind, reserved_meaning, symbol_kind_is, symbol_meaning}
use Rattle.std.proofs.Common.{◌∙◌}
use Rattle.lexer.proofs.meaning.meaning.Goals as goal

pub qualified-requires : goal.qualified-requires
qualified-requires c = qualified_point _ _ c.in-Qualified.is c.requires.form

pub number-requires-clause-few : goal.number-requires-clause-few
number-requires-clause-few c = digits_few _ _ c.in-Digits.is c.requires.fit

pub number-requires-clause-digits : goal.number-requires-clause-digits
number-requires-clause-digits c = digits_only _ _ c.in-Digits.is c.requires.form

pub fractional-requires-clause-point : goal.fractional-requires-clause-point
fractional-requires-clause-point c = fraction_point _ _ c.in-Fractional.is c.requires.form

pub fractional-requires-clause-few_before : goal.fractional-requires-clause-few_before
fractional-requires-clause-few_before c = fraction_few_before _ _ c.in-Fractional.is c.requires.fit

pub fractional-requires-clause-few_after : goal.fractional-requires-clause-few_after
fractional-requires-clause-few_after c = fraction_few_after _ _ c.in-Fractional.is c.requires.fit

pub fractional-requires-clause-digits_after : goal.fractional-requires-clause-digits_after
fractional-requires-clause-digits_after c = fraction_after _ _ c.in-Fractional.is c.requires.form

pub date-requires : goal.date-requires
date-requires c = dated_word _ _ c.in-Dated.is c.requires.form

pub returns-in-Some-clause-kind : goal.returns-in-Some-clause-kind
returns-in-Some-clause-kind c = reserved_kind _ _ _ c.in-Word.is c.in-Some.ensures

pub returns-in-Some-clause-meaning : goal.returns-in-Some-clause-meaning
returns-in-Some-clause-meaning c = reserved_meaning _ _ _ c.in-Word.is c.in-Some.ensures

pub returns-in_ok-of-in-None-clause-kind : goal.returns-in_ok-of-in-None-clause-kind
returns-in_ok-of-in-None-clause-kind c = name_kind _ _ c.in-Word.is c.in-None.ensures

pub returns-in_ok-of-in-None-clause-meaning : goal.returns-in_ok-of-in-None-clause-meaning
returns-in_ok-of-in-None-clause-meaning c = name_meaning _ _ _ c.in-Word.is c.in-None.ensures c.in_ok-of-in-None.ensures

pub returns-in_ok-qualified-in-Qualified-clause-kind : goal.returns-in_ok-qualified-in-Qualified-clause-kind
returns-in_ok-qualified-in-Qualified-clause-kind c = qualified_kind _ _ c.in-Qualified.is

pub returns-in_ok-qualified-in-Qualified-clause-meaning : goal.returns-in_ok-qualified-in-Qualified-clause-meaning
returns-in_ok-qualified-in-Qualified-clause-meaning c = qualified_meaning _ _ _ c.in-Qualified.is c.in_ok-qualified-in-Qualified.ensures

pub returns-in-Digits-clause-kind : goal.returns-in-Digits-clause-kind
returns-in-Digits-clause-kind c = digits_kind _ _ c.in-Digits.is

pub returns-in-Digits-clause-meaning : goal.returns-in-Digits-clause-meaning
returns-in-Digits-clause-meaning c = digits_meaning _ _ _ c.in-Digits.is c.number.ensures.value

pub returns-in-Fractional-clause-kind : goal.returns-in-Fractional-clause-kind
returns-in-Fractional-clause-kind c = fractional_kind _ _ c.in-Fractional.is

pub returns-in-Fractional-clause-meaning : goal.returns-in-Fractional-clause-meaning
returns-in-Fractional-clause-meaning c = fractional_meaning _ _ _ c.in-Fractional.is c.fractional.ensures

pub returns-in-Dated-clause-kind : goal.returns-in-Dated-clause-kind
returns-in-Dated-clause-kind c = dated_kind _ _ c.in-Dated.is

pub returns-in-Dated-clause-meaning : goal.returns-in-Dated-clause-meaning
returns-in-Dated-clause-meaning c = dated_meaning _ _ _ c.in-Dated.is c.date.ensures

pub returns-in_ok-text-in-Quoted-clause-kind : goal.returns-in_ok-text-in-Quoted-clause-kind
returns-in_ok-text-in-Quoted-clause-kind c = quoted_kind _ _ c.in-Quoted.is

pub returns-in_ok-text-in-Quoted-clause-meaning : goal.returns-in_ok-text-in-Quoted-clause-meaning
returns-in_ok-text-in-Quoted-clause-meaning c = quoted_meaning _ _ _ c.in-Quoted.is (c.from_vec.ensures ∙ c.in_ok-text-in-Quoted.ensures)

pub returns-in-Symbol-clause-kind : goal.returns-in-Symbol-clause-kind
returns-in-Symbol-clause-kind c = symbol_kind_is _ _ _ c.in-Symbol.is c.symbol_kind.ensures

pub returns-in-Symbol-clause-meaning : goal.returns-in-Symbol-clause-meaning
returns-in-Symbol-clause-meaning c = symbol_meaning _ _ c.in-Symbol.is
