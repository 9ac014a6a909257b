use Rattle.std.proofs.Common.{◌≡◌, ◌≢◌, ℕ, List, length, inl, inr, ◌∙◌, sym, subst}
use Rattle.database_protocol.specs.declared.operation.Op.TheVariants.{Lock}
use Rattle.database_protocol.specs.declared.answer.Answer.{Answer}
use Rattle.database_protocol.specs.declared.answer.Answer.TheVariants.{Gone, Granted}
use Rattle.database_meaning.specs.Answers.{FromGone}
use Rattle.record_locks.specs.declared.locks.KeyWait.{KeyWait}
use Rattle.db_core.specs.Waits.{ListsWaits}
use Rattle.db_core.proofs.LockRows.{ok_more, found_none, found_some, granted_row, gone_row, busy_row, blocked_row, deadlock_row, no_lock}
use Rattle.db_core.proofs.decide.decide_lock.Goals as goal

pub returns-then-len-eq0-clause-answer : goal.returns-then-len-eq0-clause-answer
returns-then-len-eq0-clause-answer g c =
    let rows = g.R.RowStore.state c.args.rows.now in
    let settled = g.met.R.RowStore.consistent c.args.rows.now in
    let none : length c.in-Ok.against ≡ 0 = sym c.len.ensures ∙ c.if-len-eq0.true in
    ok_more c.decide_free.result _ _
    (λ a observable f s represents seen. elim (observable seen) [
      | inl granted ↦ subst (λ (x : Answer). FromGone f s c.args.client (Lock c.args.table c.args.row c.args.exclusive c.args.wait) x) (sym granted.0)
          (granted_row f rows c.args.control.now s represents c.requires.sound settled seen c.args.client c.args.table c.args.row c.args.exclusive c.args.wait c.in-Ok.against c.in-Ok.ensures none granted.1)
      | inr gone ↦ subst (λ (x : Answer). FromGone f s c.args.client (Lock c.args.table c.args.row c.args.exclusive c.args.wait) x) (sym gone.0)
          (gone_row f rows c.args.control.now s represents c.requires.sound settled seen c.args.client c.args.table c.args.row c.args.exclusive c.args.wait c.in-Ok.against c.in-Ok.ensures none gone.1)
    ])
    c.decide_free.ensures.found

pub returns-then-not-wait-clause-answer : goal.returns-then-not-wait-clause-answer
returns-then-not-wait-clause-answer g c = λ f s represents seen.
    let some : length c.in-Ok.against ≢ 0 = λ none. c.if-len-eq0.false (c.len.ensures ∙ none) in
    busy_row f (g.R.RowStore.state c.args.rows.now) c.args.control.now s represents c.requires.sound (g.met.R.RowStore.consistent c.args.rows.now) seen c.args.client c.args.table c.args.row c.args.exclusive c.args.wait c.in-Ok.against c.in-Ok.ensures some c.if-not-wait.true

pub returns-in-Ok-None-clause-answer : goal.returns-in-Ok-None-clause-answer
returns-in-Ok-None-clause-answer g c = λ f s represents seen.
    let rows = g.R.RowStore.state c.args.rows.now in
    let some : length c.in-Ok.against ≢ 0 = λ none. c.if-len-eq0.false (c.len.ensures ∙ none) in
    let count : ListsWaits rows c.args.control.now c.args.client (length c.args.control.now.sessions.items) c.in_ok-list_key_waits.field-0.items =
    subst (λ (n : ℕ). ListsWaits rows c.args.control.now c.args.client n c.in_ok-list_key_waits.field-0.items) (c.len-count.ensures ∙ c.args.control.now.sessions.ok.0) (c.in_ok-list_key_waits.ensures.found seen) in
    let lists : ListsWaits rows c.args.control.now c.args.client (length c.args.control.now.sessions.items) c.from_vec-waits.result =
    subst (λ (xs : List KeyWait). ListsWaits rows c.args.control.now c.args.client (length c.args.control.now.sessions.items) xs) (sym c.from_vec-waits.ensures) count in
    blocked_row f rows c.args.control.now s represents c.requires.sound (g.met.R.RowStore.consistent c.args.rows.now) seen c.args.client c.args.table c.args.row c.args.exclusive c.args.wait c.in-Ok.against c.in-Ok.ensures some c.if-not-wait.false
    c.from_vec-waits.result lists (found_none c.in-Ok-None.field-0 _ _ c.in-Ok-None.field-0-is c.in-Ok-None.ensures)

pub returns-in-Ok-Some-clause-answer : goal.returns-in-Ok-Some-clause-answer
returns-in-Ok-Some-clause-answer g c = λ f s represents seen.
    let rows = g.R.RowStore.state c.args.rows.now in
    let some : length c.in-Ok.against ≢ 0 = λ none. c.if-len-eq0.false (c.len.ensures ∙ none) in
    let count : ListsWaits rows c.args.control.now c.args.client (length c.args.control.now.sessions.items) c.in_ok-list_key_waits.field-0.items =
    subst (λ (n : ℕ). ListsWaits rows c.args.control.now c.args.client n c.in_ok-list_key_waits.field-0.items) (c.len-count.ensures ∙ c.args.control.now.sessions.ok.0) (c.in_ok-list_key_waits.ensures.found seen) in
    let lists : ListsWaits rows c.args.control.now c.args.client (length c.args.control.now.sessions.items) c.from_vec-waits.result =
    subst (λ (xs : List KeyWait). ListsWaits rows c.args.control.now c.args.client (length c.args.control.now.sessions.items) xs) (sym c.from_vec-waits.ensures) count in
    deadlock_row f rows c.args.control.now s represents c.requires.sound (g.met.R.RowStore.consistent c.args.rows.now) seen c.args.client c.args.table c.args.row c.args.exclusive c.args.wait c.in-Ok.against c.in-Ok.ensures some c.if-not-wait.false
    c.from_vec-waits.result lists c.in-Ok-Some.cycle (found_some c.in-Ok-Some.field-0 c.in-Ok-Some.cycle _ _ c.in-Ok-Some.field-0-is c.in-Ok-Some.ensures)

pub returns-then-len-eq0-clause-granted : goal.returns-then-len-eq0-clause-granted
returns-then-len-eq0-clause-granted g c =
    let none : length c.in-Ok.against ≡ 0 = sym c.len.ensures ∙ c.if-len-eq0.true in
    ok_more c.decide_free.result _ _
    (λ a observable is. (
      no_lock c.args.control.now.locks c.args.client c.args.row.0 c.args.exclusive c.in-Ok.against c.in-Ok.ensures none,
      λ seen. elim (observable seen) [
        | inl granted ↦ granted.1
        | inr gone ↦ let clash : Granted ≡ Gone = sym is ∙ gone.0 in cc
      ],
    ))
    c.decide_free.ensures.found
