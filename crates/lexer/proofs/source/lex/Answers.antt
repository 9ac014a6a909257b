use Rattle.std.proofs.Common.{◌≡◌, sym, subst}
use Rattle.lexer.specs.Texts.{HasTokens}
use Rattle.lexer.proofs.Places.{begin}
use Rattle.lexer.proofs.Runs.{at_place, begin_with, clean, finished, go_on, refused, rule_inside, tokens_end}
use Rattle.lexer.proofs.source.lex.Goals as goal

pub loop-rule-init : goal.loop-rule-init
loop-rule-init c = record { run = begin_with _ _ c.new-list.ensures.items; known = begin c.args.text.now }

pub moved-requires-clause-order : goal.moved-requires-clause-order
moved-requires-clause-order c = at_place _ _ _ _ c.in-Err.ensures.broken.breaks

pub moved-requires-clause-within : goal.moved-requires-clause-within
moved-requires-clause-within c = rule_inside _ _ _ _ c.loop-rule.invariant.run.within c.in-Err.ensures.broken.breaks

pub returns-in-Err-clause-refused : goal.returns-in-Err-clause-refused
returns-in-Err-clause-refused c = λ rule place e.
    let a : c.in-Err.rule ≡ rule = cc in
    let b : c.moved.result ≡ place = cc in
    refused _ _ _ _ rule _ _ place c.loop-rule.invariant.run c.in-Err.ensures.broken c.moved.ensures a b

pub from_vec-requires : goal.from_vec-requires
from_vec-requires c = tokens_end c.args.text.now _ (finished _ _ _ _ _ c.loop-rule.invariant.run (rw c.in-Ok-None.field-0-is at c.in-Ok-None.ensures.end) c.end.ensures c.in_ok-push-in-Ok-None.ensures.items)

pub returns-in-Ok-None-clause-tokens : goal.returns-in-Ok-None-clause-tokens
returns-in-Ok-None-clause-tokens c =
    subst (HasTokens c.args.text.now) (sym c.from_vec.ensures) (finished _ _ _ _ _ c.loop-rule.invariant.run (rw c.in-Ok-None.field-0-is at c.in-Ok-None.ensures.end) c.end.ensures c.in_ok-push-in-Ok-None.ensures.items)

pub returns-in-Ok-None-clause-clean : goal.returns-in-Ok-None-clause-clean
returns-in-Ok-None-clause-clean c = clean _ _ _ c.loop-rule.invariant.run (rw c.in-Ok-None.field-0-is at c.in-Ok-None.ensures.end)

pub loop-rule-preserved : goal.loop-rule-preserved
loop-rule-preserved c =
    let w = rw c.in-Ok-Some.field-0-is at c.in-Ok-Some.ensures.word in
    record {
      run = go_on _ _ _ _ _ _ _ _ c.loop-rule.invariant.run w.0 w.1 c.in_ok-token-in-Ok-Some.ensures c.in_ok-push-in-Ok-Some.ensures.items;
      known = c.moved-place.ensures;
    }
