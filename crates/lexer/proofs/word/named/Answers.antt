use Rattle.std.proofs.Common.{sym, ◌∙◌, ap}
use Rattle.std.specs.Prelude.{is_some, not}
use Rattle.lexer.proofs.Names.{found_qualified, word_no_letter, word_no_point, word_reserved}
use Rattle.lexer.proofs.word.named.Goals.{else-starts_letter-via-then-starts_letter+else-is_none, else-starts_letter-via-else-starts_letter}
use Rattle.lexer.proofs.word.named.Goals as goal

pub returns-then-is_none : goal.returns-then-is_none
returns-then-is_none c =
    found_qualified _ _ _ _ _ c.requires c.name_len-n.ensures.is (sym c.has_byte_at.ensures ∙ c.if-has_byte_at.true) c.rest_from-second.ensures (sym c.starts_letter.ensures ∙ c.if-starts_letter.true) c.piece.ensures (ap is_some (sym c.keyword_of.ensures) ∙ c.is_none.ensures ∙ ap not c.if-is_none.true) c.name_len.ensures.is

pub returns-else-starts_letter : goal.returns-else-starts_letter
returns-else-starts_letter c =
    elim c.else-starts_letter.branch [
      | else-starts_letter-via-then-starts_letter+else-is_none w ↦ word_reserved _ _ _ c.requires c.name_len-n.ensures.is w.piece.ensures (ap is_some (sym w.keyword_of.ensures) ∙ w.is_none.ensures ∙ ap not w.if-is_none.false)
      | else-starts_letter-via-else-starts_letter w ↦ word_no_letter _ _ _ c.requires c.name_len-n.ensures.is c.rest_from-second.ensures (sym c.starts_letter.ensures ∙ w.if-starts_letter.false)
    ]

pub returns-else-has_byte_at : goal.returns-else-has_byte_at
returns-else-has_byte_at c = word_no_point _ _ c.requires c.name_len-n.ensures.is (sym c.has_byte_at.ensures ∙ c.if-has_byte_at.false)
