use Rattle.std.proofs.Common.{sym, ◌∙◌}
use Rattle.std.proofs.lemmas.Bool.{ne_eqb, eq-eqb}
use Rattle.lexer.proofs.Closings.{at_doubled, at_end, at_last, at_plain, at_start, at_tilde}
use Rattle.lexer.proofs.word.closing_len.Goals as goal

pub loop-i-init : goal.loop-i-init
loop-i-init c = at_start _ _

pub loop-i-preserved-then-rest-i-eq126 : goal.loop-i-preserved-then-rest-i-eq126
loop-i-preserved-then-rest-i-eq126 c = at_tilde _ _ _ c.loop-i.invariant c.loop-i-test.true c.if-rest-i-eq126.true

pub loop-i-preserved-then-rest-i : goal.loop-i-preserved-then-rest-i
loop-i-preserved-then-rest-i c = at_plain _ _ _ c.loop-i.invariant c.loop-i-test.true (ne_eqb _ _ c.if-rest-i-eq126.false) (ne_eqb _ _ c.if-rest-i.true)

pub loop-i-preserved : goal.loop-i-preserved
loop-i-preserved c = at_doubled _ _ _ c.loop-i.invariant c.loop-i-test.true (ne_eqb _ _ c.if-rest-i-eq126.false) (eq-eqb _ _ c.if-rest-i.false) (sym c.has_byte_at.ensures ∙ c.if-has_byte_at.true)

pub returns-else-has_byte_at-clause-is : goal.returns-else-has_byte_at-clause-is
returns-else-has_byte_at-clause-is c = at_last _ _ _ c.loop-i.invariant c.loop-i-test.true (ne_eqb _ _ c.if-rest-i-eq126.false) (eq-eqb _ _ c.if-rest-i.false) (sym c.has_byte_at.ensures ∙ c.if-has_byte_at.false)

pub returns-clause-is : goal.returns-clause-is
returns-clause-is c = at_end _ _ _ c.loop-i.invariant c.loop-i-test.false
