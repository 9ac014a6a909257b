use Rattle.std.proofs.Common.{◌≡◌, ◌≢◌, ℕ, ◌+◌, ◌-◌, List, inl, inr, refl, sym, subst, arith}
use Rattle.record_locks.specs.declared.locks.KeyWait.{KeyWait}
use Rattle.db_core.specs.Waits.{ListsWaits}
use Rattle.db_core.proofs.Waits.{skipped, listed, seen_none, seen_some}
use Rattle.db_core.proofs.decide.+list_key_waits.Goals as goal

pub returns-then-number-client-clause-found : goal.returns-then-number-client-clause-found
returns-then-number-client-clause-found g t c = λ seen.
    let rows = g.R.RowStore.state c.args.rows.now in
    let is : (c.args.count - 1) + 1 ≡ c.args.count = omega arith in
    subst (λ (n : ℕ). ListsWaits rows c.args.control.now c.args.client n c.in_ok-list.list.items) is
    (skipped rows c.args.control.now c.args.client (c.args.count - 1) c.in_ok-list.list.items (c.in_ok-list.ensures.found seen) (inl c.if-number-client.true))

pub returns-in-None-clause-found : goal.returns-in-None-clause-found
returns-in-None-clause-found g t c = λ seen.
    let rows = g.R.RowStore.state c.args.rows.now in
    let is : (c.args.count - 1) + 1 ≡ c.args.count = omega arith in
    subst (λ (n : ℕ). ListsWaits rows c.args.control.now c.args.client n c.in_ok-list.list.items) is
    (skipped rows c.args.control.now c.args.client (c.args.count - 1) c.in_ok-list.list.items (c.in_ok-list.ensures.found seen)
    (inr (seen_none rows (g.R.RowStore.state c.list_key_waits.new.rows) c.args.control.now (c.args.count - 1) c.in_ok-key_wait.field-0 c.in_ok-list.ensures.same c.in-None.is c.in_ok-key_wait.ensures.found seen)))

pub returns-in-Ok-clause-found : goal.returns-in-Ok-clause-found
returns-in-Ok-clause-found g t c = λ seen.
    let rows = g.R.RowStore.state c.args.rows.now in
    let is : (c.args.count - 1) + 1 ≡ c.args.count = omega arith in
    let apart : (c.args.count - 1) ≢ c.args.client = c.if-number-client.false in
    let blocked : KeyWait = record { client = c.args.count - 1; holders = c.in-Some.holders } in
    let holders = seen_some rows (g.R.RowStore.state c.list_key_waits.new.rows) c.args.control.now (c.args.count - 1) c.in_ok-key_wait.field-0 c.in-Some.holders c.in_ok-list.ensures.same c.in-Some.is c.in_ok-key_wait.ensures.found seen in
    let more = listed rows c.args.control.now c.args.client (c.args.count - 1) c.in_ok-list.list.items blocked (c.in_ok-list.ensures.found seen) apart refl holders in
    subst (λ (n : ℕ). ListsWaits rows c.args.control.now c.args.client n c.push.new.self.items) is
    (subst (λ (xs : List KeyWait). ListsWaits rows c.args.control.now c.args.client ((c.args.count - 1) + 1) xs) (sym c.in-Ok.ensures.items) more)
