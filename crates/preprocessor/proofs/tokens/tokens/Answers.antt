use Rattle.std.proofs.Common.{◌∙◌, ◌-◌, [], drop, get_or, length, sym, take}
use Rattle.preprocessor.specs.Conditions.{tokens}
use Rattle.preprocessor.proofs.Machines.{split_front}
use Rattle.preprocessor.proofs.Tokenings.{byte_more, mark_more, sign_more}
use Rattle.preprocessor.proofs.tokens.tokens.Goals as goal

pub loop-rest-preserved-in_ok-done-2 : goal.loop-rest-preserved-in_ok-done-2
loop-rest-preserved-in_ok-done-2 c =
    let l = c.loop-rest in
    let rest = c.loop-rest.rest.now in
    let b = get_or rest 0 0 in
    let tail = take (length rest - 1) (drop 1 rest) in
    mark_more (tokens 0 0 [] c.args.bytes.now) l.done c.in_ok-done-2.done l.quote l.skip l.held c.empty-held-then-is_mark.result rest b tail l.invariant (split_front rest c.in-len1-up.len_at_least) c.if-skip-gt0.false c.if-quote-gt0.false (sym c.is_blank.ensures ∙ c.if-is_blank.false) (sym c.is_mark.ensures ∙ c.if-is_mark.true) c.in_ok-done-2.ensures c.empty-held-then-is_mark.ensures

pub loop-rest-preserved-in_ok-push-4 : goal.loop-rest-preserved-in_ok-push-4
loop-rest-preserved-in_ok-push-4 c =
    let l = c.loop-rest in
    let rest = c.loop-rest.rest.now in
    let b = get_or rest 0 0 in
    let tail = take (length rest - 1) (drop 1 rest) in
    sign_more (tokens 0 0 [] c.args.bytes.now) l.done c.in_ok-done-3.done c.push-then-is_sign.new.self c.sign_of.result l.quote l.skip c.sign_rest-skip.result l.held c.empty-held-then-is_sign.result rest b c.next_byte-next.result tail l.invariant (split_front rest c.in-len1-up.len_at_least) c.if-skip-gt0.false c.if-quote-gt0.false (sym c.is_blank.ensures ∙ c.if-is_blank.false) (sym c.is_mark.ensures ∙ c.if-is_mark.false) (sym c.is_sign.ensures ∙ c.if-is_sign.true) c.in_ok-done-3.ensures c.empty-held-then-is_sign.ensures c.next_byte-next.ensures c.sign_of.ensures c.in_ok-push-4.ensures.ok c.sign_rest-skip.ensures

pub loop-rest-preserved : goal.loop-rest-preserved
loop-rest-preserved c =
    let l = c.loop-rest in
    let rest = c.loop-rest.rest.now in
    let b = get_or rest 0 0 in
    let tail = take (length rest - 1) (drop 1 rest) in
    byte_more (tokens 0 0 [] c.args.bytes.now) l.done l.quote l.skip l.held c.push-else-is_sign.new.self rest b tail l.invariant (split_front rest c.in-len1-up.len_at_least) c.if-skip-gt0.false c.if-quote-gt0.false (sym c.is_blank.ensures ∙ c.if-is_blank.false) (sym c.is_mark.ensures ∙ c.if-is_mark.false) (sym c.is_sign.ensures ∙ c.if-is_sign.false) c.in_ok-push-5.ensures.ok
