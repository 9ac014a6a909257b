use Rattle.std.proofs.Common.{◌≢◌, ℕ, List, length, ◌∙◌, sym, subst}
use Rattle.record_locks.specs.declared.locks.KeyWait.{KeyWait}
use Rattle.row_store.specs.Rows.{RowState, IsObservable}
use Rattle.db_core.specs.Waits.{ListsWaits}
use Rattle.db_core.proofs.LockRows.{found_none, found_some}
use Rattle.db_core.proofs.KeyRows.{none_conflict, no_conflict, key_blocked, key_deadlock}
use Rattle.db_core.proofs.decide.decide_keys.Goals as goal

pub returns-in-None-clause-answer : goal.returns-in-None-clause-answer
returns-in-None-clause-answer g c = λ f s represents seen.
    none_conflict f (g.R.RowStore.state c.args.rows.now) c.args.control.now s represents c.requires.sound (g.met.R.RowStore.consistent c.args.rows.now) seen c.args.client c.args.op.now c.requires.brings
    (found_none c.in_ok-against.field-0 _ _ c.in-None.is (c.in_ok-against.ensures.found seen))

pub returns-then-len-eq0-clause-answer : goal.returns-then-len-eq0-clause-answer
returns-then-len-eq0-clause-answer g c = λ f s represents seen.
    no_conflict f (g.R.RowStore.state c.args.rows.now) c.args.control.now s represents c.requires.sound (g.met.R.RowStore.consistent c.args.rows.now) seen c.args.client c.args.op.now c.requires.brings
    c.in-Some.against (found_some c.in_ok-against.field-0 c.in-Some.against _ _ c.in-Some.is (c.in_ok-against.ensures.found seen)) (sym c.len.ensures ∙ c.if-len-eq0.true)

pub returns-in-Ok-None-clause-answer : goal.returns-in-Ok-None-clause-answer
returns-in-Ok-None-clause-answer g c = λ f s represents seen.
    let rows = g.R.RowStore.state c.args.rows.now in
    let some : length c.in-Some.against ≢ 0 = λ none. c.if-len-eq0.false (c.len.ensures ∙ none) in
    let observable : IsObservable rows → ListsWaits rows c.args.control.now c.args.client c.len-count.result c.in_ok-list_key_waits.field-0.items =
    subst (λ (r : RowState). IsObservable r → ListsWaits r c.args.control.now c.args.client c.len-count.result c.in_ok-list_key_waits.field-0.items) c.in_ok-against.ensures.same c.in_ok-list_key_waits.ensures.found in
    let count : ListsWaits rows c.args.control.now c.args.client (length c.args.control.now.sessions.items) c.in_ok-list_key_waits.field-0.items =
    subst (λ (n : ℕ). ListsWaits rows c.args.control.now c.args.client n c.in_ok-list_key_waits.field-0.items) (c.len-count.ensures ∙ c.args.control.now.sessions.ok.0) (observable seen) in
    let lists : ListsWaits rows c.args.control.now c.args.client (length c.args.control.now.sessions.items) c.from_vec-waits.result =
    subst (λ (xs : List KeyWait). ListsWaits rows c.args.control.now c.args.client (length c.args.control.now.sessions.items) xs) (sym c.from_vec-waits.ensures) count in
    key_blocked f rows c.args.control.now s represents c.requires.sound (g.met.R.RowStore.consistent c.args.rows.now) seen c.args.client c.args.op.now c.requires.brings
    c.in-Some.against (found_some c.in_ok-against.field-0 c.in-Some.against _ _ c.in-Some.is (c.in_ok-against.ensures.found seen)) some c.from_vec-waits.result lists
    (found_none c.in-Ok-None.field-0 _ _ c.in-Ok-None.field-0-is c.in-Ok-None.ensures)

pub returns-in-Ok-Some-clause-answer : goal.returns-in-Ok-Some-clause-answer
returns-in-Ok-Some-clause-answer g c = λ f s represents seen.
    let rows = g.R.RowStore.state c.args.rows.now in
    let some : length c.in-Some.against ≢ 0 = λ none. c.if-len-eq0.false (c.len.ensures ∙ none) in
    let observable : IsObservable rows → ListsWaits rows c.args.control.now c.args.client c.len-count.result c.in_ok-list_key_waits.field-0.items =
    subst (λ (r : RowState). IsObservable r → ListsWaits r c.args.control.now c.args.client c.len-count.result c.in_ok-list_key_waits.field-0.items) c.in_ok-against.ensures.same c.in_ok-list_key_waits.ensures.found in
    let count : ListsWaits rows c.args.control.now c.args.client (length c.args.control.now.sessions.items) c.in_ok-list_key_waits.field-0.items =
    subst (λ (n : ℕ). ListsWaits rows c.args.control.now c.args.client n c.in_ok-list_key_waits.field-0.items) (c.len-count.ensures ∙ c.args.control.now.sessions.ok.0) (observable seen) in
    let lists : ListsWaits rows c.args.control.now c.args.client (length c.args.control.now.sessions.items) c.from_vec-waits.result =
    subst (λ (xs : List KeyWait). ListsWaits rows c.args.control.now c.args.client (length c.args.control.now.sessions.items) xs) (sym c.from_vec-waits.ensures) count in
    key_deadlock f rows c.args.control.now s represents c.requires.sound (g.met.R.RowStore.consistent c.args.rows.now) seen c.args.client c.args.op.now c.requires.brings
    c.in-Some.against (found_some c.in_ok-against.field-0 c.in-Some.against _ _ c.in-Some.is (c.in_ok-against.ensures.found seen)) some c.from_vec-waits.result lists
    c.in-Ok-Some.cycle (found_some c.in-Ok-Some.field-0 c.in-Ok-Some.cycle _ _ c.in-Ok-Some.field-0-is c.in-Ok-Some.ensures)
