use Rattle.std.proofs.Common.{sym, ◌∙◌, ap, length, ◌≤◌, subst}
use Rattle.lexer.specs.Gaps.{comment}
use Rattle.lexer.proofs.Gaps.{white_next, comment_next, comment_opens, stops, ends}
use Rattle.lexer.proofs.gap.gap.Goals as goal

pub loop-i-preserved-then-is_white : goal.loop-i-preserved-then-is_white
loop-i-preserved-then-is_white c = white_next _ _ c.loop-i.invariant c.loop-i-test.true (sym c.is_white.ensures ∙ c.if-is_white.true)

pub loop-i-preserved : goal.loop-i-preserved
loop-i-preserved c = comment_next _ _ c.in-Some.m c.loop-i.invariant (sym c.comment_at.ensures ∙ c.if-comment_at.true) (sym (ap (comment 1) c.rest_from.ensures) ∙ sym c.in-Some.ensures.is) (subst (λ t. c.in-Some.m ≤ length t) c.rest_from.ensures c.in-Some.ensures.within)

pub returns-in-None-clause-open : goal.returns-in-None-clause-open
returns-in-None-clause-open c = (comment_opens _ _ c.loop-i.invariant (sym c.comment_at.ensures ∙ c.if-comment_at.true) (sym (ap (comment 1) c.rest_from.ensures) ∙ sym c.in-None.ensures.is), c.loop-i.invariant.within)

pub returns-else-comment_at-clause-gap : goal.returns-else-comment_at-clause-gap
returns-else-comment_at-clause-gap c = (stops _ _ c.loop-i.invariant c.loop-i-test.true (sym c.is_white.ensures ∙ c.if-is_white.false) (sym c.comment_at.ensures ∙ c.if-comment_at.false), c.loop-i.invariant.within)

pub returns-clause-gap : goal.returns-clause-gap
returns-clause-gap c = (ends _ _ c.loop-i.invariant c.loop-i-test.false, c.loop-i.invariant.within)
