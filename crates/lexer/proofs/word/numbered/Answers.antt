use Rattle.std.proofs.Common.{sym, ◌∙◌}
use Rattle.lexer.proofs.Numbers.{dated_longest, digits_alone, digits_point, found_fraction}
use Rattle.lexer.proofs.word.numbered.Goals as goal

pub returns-then-m-gt0 : goal.returns-then-m-gt0
returns-then-m-gt0 c = found_fraction _ _ _ _ c.requires c.digits_len-n.ensures.is (sym c.has_byte_at.ensures ∙ c.if-has_byte_at.true) c.rest_from.ensures c.digits_len-m.ensures.is c.if-m-gt0.true

pub returns-else-m-gt0 : goal.returns-else-m-gt0
returns-else-m-gt0 c = digits_point _ _ _ _ c.requires c.digits_len-n.ensures.is (sym c.has_byte_at.ensures ∙ c.if-has_byte_at.true) c.rest_from.ensures c.digits_len-m.ensures.is c.if-m-gt0.false

pub returns-in-Some : goal.returns-in-Some
returns-in-Some c = dated_longest _ _ c.requires c.in-Some.ensures.found

pub returns-in-None : goal.returns-in-None
returns-in-None c = digits_alone _ _ c.requires c.digits_len-n.ensures.is (sym c.has_byte_at.ensures ∙ c.if-has_byte_at.false) c.in-None.ensures.none
