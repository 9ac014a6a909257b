use Rattle.std.proofs.Common.{sym, ◌∙◌}
use Rattle.std.proofs.lemmas.Bool.{ne_eqb, eq-eqb}
use Rattle.lexer.proofs.Insides.{at_doubled, at_end, at_last, at_plain, at_start, at_tilde}
use Rattle.lexer.proofs.meaning.inside.Goals as goal

pub loop-i-init : goal.loop-i-init
loop-i-init c = at_start _ _ _ c.in_ok-bytes.ensures.items

pub loop-i-preserved-then-b-eq126 : goal.loop-i-preserved-then-b-eq126
loop-i-preserved-then-b-eq126 c = at_tilde _ _ _ _ _ _ _ c.loop-i.invariant c.loop-i-test.true (eq-eqb _ _ c.if-b-eq126.true) c.rest_from.ensures c.in_ok-i.ensures.length c.in_ok-i.ensures.bytes

pub loop-i-preserved-then-b-quote : goal.loop-i-preserved-then-b-quote
loop-i-preserved-then-b-quote c = at_plain _ _ _ _ _ c.loop-i.invariant c.loop-i-test.true (ne_eqb _ _ c.if-b-eq126.false) (ne_eqb _ _ c.if-b-quote.true) c.in_ok-push.ensures.items

pub loop-i-preserved : goal.loop-i-preserved
loop-i-preserved c = at_doubled _ _ _ _ _ c.loop-i.invariant c.loop-i-test.true (ne_eqb _ _ c.if-b-eq126.false) (eq-eqb _ _ c.if-b-quote.false) (sym c.has_byte_at.ensures ∙ c.if-has_byte_at.true) c.in_ok-push-2.ensures.items

pub returns-else-has_byte_at : goal.returns-else-has_byte_at
returns-else-has_byte_at c = at_last _ _ _ _ c.loop-i.invariant c.loop-i-test.true (ne_eqb _ _ c.if-b-eq126.false) (eq-eqb _ _ c.if-b-quote.false) (sym c.has_byte_at.ensures ∙ c.if-has_byte_at.false)

pub returns : goal.returns
returns c = at_end _ _ _ _ c.loop-i.invariant c.loop-i-test.false
