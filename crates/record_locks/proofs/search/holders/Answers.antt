use Rattle.std.proofs.Common.{◌<◌, length, sym, subst, arith}
use Rattle.std.proofs.lemmas.Bool.{both_ways}
use Rattle.record_locks.specs.Table.{ConflictsOnLock}
use Rattle.record_locks.proofs.Listing.{ListsBelow, none_listed, listed_more, skipped_more, all_listed, stands_within}
use Rattle.record_locks.proofs.search.holders.Goals as goal
use Rattle.record_locks.proofs.search.holders.Goals.{then-conflicts_on_lock+in_ok-push, else-conflicts_on_lock}

pub loop-number-init : goal.loop-number-init
loop-number-init c =
    subst (ListsBelow 0 (ConflictsOnLock c.args.table.now c.args.client c.args.row.0 c.args.exclusive)) (sym c.new-holders.ensures.items) (none_listed _)

pub loop-number-preserved : goal.loop-number-preserved
loop-number-preserved c = elim c.if-conflicts_on_lock.branch [
  | then-conflicts_on_lock+in_ok-push w ↦
      rw (w.holders-is, w.in_ok-push.ensures.items)
      (listed_more c.loop-number.number (ConflictsOnLock c.args.table.now c.args.client c.args.row.0 c.args.exclusive) c.loop-number.holders.items c.loop-number.invariant (c.conflicts_on_lock.ensures.0 w.if-conflicts_on_lock.true))
  | else-conflicts_on_lock w ↦
      rw w.holders-is
      (skipped_more c.loop-number.number (ConflictsOnLock c.args.table.now c.args.client c.args.row.0 c.args.exclusive) c.loop-number.holders.items c.loop-number.invariant
      (λ here. both_ways c.conflicts_on_lock.result w.if-conflicts_on_lock.false (c.conflicts_on_lock.ensures.1 here)))
]

pub returns : goal.returns
returns c =
    let stands = ConflictsOnLock c.args.table.now c.args.client c.args.row.0 c.args.exclusive in
    all_listed c.loop-number.number stands c.loop-number.holders.items
    (λ d here. let within : d < length c.args.table.now = stands_within c.args.table.now c.args.client c.args.row.0 c.args.exclusive d here in omega arith)
    c.loop-number.invariant
