use Rattle.std.proofs.Common.{sym, ◌∙◌, arith}
use Rattle.lexer.specs.Bytes.{is_digit}
use Rattle.lexer.proofs.Prefixes.{prefix_within}
use Rattle.lexer.proofs.Numbers.{slash_few, slash_none}
use Rattle.lexer.proofs.word.ends_in_slash.Goals as goal

pub returns-then-has_byte_at : goal.returns-then-has_byte_at
returns-then-has_byte_at c = c.is_one_or_two.ensures ∙ slash_few _ _ c.requires (sym c.has_byte_at.ensures ∙ c.if-has_byte_at.true)

pub returns-else-has_byte_at : goal.returns-else-has_byte_at
returns-else-has_byte_at c = slash_none _ _ c.requires (sym c.has_byte_at.ensures ∙ c.if-has_byte_at.false)

pub has_byte_at-requires : goal.has_byte_at-requires
has_byte_at-requires c = omega (arith, c.requires, prefix_within is_digit c.args.rest.now)
