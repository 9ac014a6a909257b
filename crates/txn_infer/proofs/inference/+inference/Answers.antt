use Rattle.std.proofs.Common.{◌≡◌, ◌<◌, length, get_or, sym, ◌∙◌, arith}
use Rattle.bound_tree.specs.Bound.{stmt_of}
use Rattle.txn_infer.specs.Flags.{flagged_stmt}
use Rattle.txn_infer.specs.Updates.{updates}
use Rattle.txn_infer.specs.Retry.{names_retry}
use Rattle.txn_infer.proofs.EachOne.{all_visited, none_left_tested, one_more_tested, unvisited_next, visited_next}
use Rattle.txn_infer.proofs.Flagged.{all_flagged, retries_are, updates_are, block_flagged, block_does_update, block_does_retry, if_flagged, if_does_update, if_does_retry}
use Rattle.txn_infer.proofs.inference.+inference.Goals as goal

pub infer_stmt-returns-in-Block-clause-stmt : goal.infer_stmt-returns-in-Block-clause-stmt
infer_stmt-returns-in-Block-clause-stmt t c =
    let b = c.in-Block in let i = c.infer_body-inside in let s = c.set_flags in
    block_flagged _ _ b.header (record b.header { value = s.new.header }) _ _ b.body i.new.body _ _ b.is b.header-is b.body-is c.deref_mut.ensures.value
    s.ensures.header i.ensures.body i.ensures.updates i.ensures.names_retry

pub infer_stmt-returns-in-Block-clause-updates : goal.infer_stmt-returns-in-Block-clause-updates
infer_stmt-returns-in-Block-clause-updates t c =
    let b = c.in-Block in
    block_does_update _ _ b.header _ _ b.body _ _ b.is b.header-is b.body-is c.deref_mut.ensures.value c.infer_body-inside.ensures.updates c.set_flags.ensures.updates

pub infer_stmt-returns-in-Block-clause-names_retry : goal.infer_stmt-returns-in-Block-clause-names_retry
infer_stmt-returns-in-Block-clause-names_retry t c =
    let b = c.in-Block in
    block_does_retry _ _ b.header _ _ b.body _ _ b.is b.header-is b.body-is c.deref_mut.ensures.value c.infer_body-inside.ensures.names_retry c.set_flags.ensures.names_retry

pub infer_stmt-returns-in-If-clause-stmt : goal.infer_stmt-returns-in-If-clause-stmt
infer_stmt-returns-in-If-clause-stmt t c =
    let i = c.in-If in
    if_flagged _ _ i.test _ i.then_body c.infer_body-then_facts.new.body _ i.else_body c.infer_body-else_facts.new.body i.is i.test-is i.then_body-is i.else_body-is
    c.infer_body-then_facts.ensures.body c.infer_body-else_facts.ensures.body

pub infer_stmt-returns-in-If-clause-updates : goal.infer_stmt-returns-in-If-clause-updates
infer_stmt-returns-in-If-clause-updates t c =
    let i = c.in-If in
    if_does_update _ _ i.test _ i.then_body _ i.else_body _ _ _ _ i.is i.test-is i.then_body-is i.else_body-is
    c.infer_body-then_facts.ensures.updates c.infer_body-else_facts.ensures.updates c.joined.ensures.updates c.of_if.ensures.updates

pub infer_stmt-returns-in-If-clause-names_retry : goal.infer_stmt-returns-in-If-clause-names_retry
infer_stmt-returns-in-If-clause-names_retry t c =
    let i = c.in-If in
    if_does_retry _ _ i.test _ i.then_body _ i.else_body _ _ _ _ _ i.is i.test-is i.then_body-is i.else_body-is c.asks_retry-asks.ensures
    c.infer_body-then_facts.ensures.names_retry c.infer_body-else_facts.ensures.names_retry c.joined.ensures.names_retry c.of_if.ensures.names_retry

pub infer_body-loop-i-preserved : goal.infer_body-loop-i-preserved
infer_body-loop-i-preserved t c =
    let l = c.loop-i in let ys = c.args.body.now.items in let u = c.index_mut.result.now in let e = c.infer_stmt.ensures in
    let same : length l.body.items ≡ length ys = l.invariant.rest.0 in
    let within : l.i < length ys = omega (arith, c.loop-i-test.true, c.len-i-end.ensures) in
    let is : u ≡ get_or ys l.i u = c.index_mut.ensures.value ∙ l.invariant.rest.1 l.i u (omega arith) in
    record {
      rest = unvisited_next l.body.items ys l.i c.infer_stmt.new.stmt l.invariant.rest;
      done = visited_next stmt_of flagged_stmt l.body.items ys l.i c.infer_stmt.new.stmt u within same is e.stmt l.invariant.done;
      updates = one_more_tested (λ s. updates (stmt_of s)) ys l.i u _ _ _ _ within is l.invariant.updates e.updates c.joined-facts.ensures.updates;
      retries = one_more_tested (λ s. names_retry (stmt_of s)) ys l.i u _ _ _ _ within is l.invariant.retries e.names_retry c.joined-facts.ensures.names_retry;
    }

pub infer_body-returns-clause-body : goal.infer_body-returns-clause-body
infer_body-returns-clause-body t c =
    let l = c.loop-i in let ys = c.args.body.now.items in
    all_flagged l.body.items ys (all_visited stmt_of flagged_stmt l.body.items ys l.invariant.rest.0
    (λ k d below. l.invariant.done k d (omega (arith, below, c.loop-i-test.false, c.len-i-end.ensures))))

pub infer_body-returns-clause-updates : goal.infer_body-returns-clause-updates
infer_body-returns-clause-updates t c =
    let l = c.loop-i in let ys = c.args.body.now.items in
    sym (updates_are ys ∙ none_left_tested _ ys l.i _ _ (omega (arith, c.loop-i-test.false, c.len-i-end.ensures)) l.invariant.updates)

pub infer_body-returns-clause-names_retry : goal.infer_body-returns-clause-names_retry
infer_body-returns-clause-names_retry t c =
    let l = c.loop-i in let ys = c.args.body.now.items in
    sym (retries_are ys ∙ none_left_tested _ ys l.i _ _ (omega (arith, c.loop-i-test.false, c.len-i-end.ensures)) l.invariant.retries)
