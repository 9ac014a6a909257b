-- The slots of the recovered disk, guarded, and the rows over them.
use Rattle.std.proofs.Common.{◌∙◌, sym, subst}
use Rattle.slot_txn.specs.logged.Stops.{Stops}
use Rattle.recovered_view.specs.View.{viewed}
use Rattle.slot_rows.specs.Chained.{StayChains}
use Rattle.disk_database.proofs.Causes.{back_by_run}
use Rattle.disk_database.proofs.Guards.{can_open_as, committed_kept, committed_same, doubt_kept, opened_as, reads_kept, same_reads, stops_kept, store_over}
use Rattle.disk_database.proofs.Judgements.{late_fault_judges_not, late_fault_of_disk}
use Rattle.disk_database.proofs.Openings.{opened_over, stays_first}
use Rattle.disk_database.proofs.opening.recovered_rows.Goals as goal

pub new-requires-clause-committed : goal.new-requires-clause-committed
new-requires-clause-committed g c =
    committed_kept g.K.Opening.schema g.K.Opening.images _ _ _ _ _ _ (opened_over _ _ _ _ _ _ _ _ _ c.in-Ok.ensures.ok.since c.in-Ok.ensures.ok c.in-Ok.ensures.run) (g.met.D.Disk.reads_left c.args.disk) c.requires.images

pub new-requires-clause-doubt : goal.new-requires-clause-doubt
new-requires-clause-doubt g c =
    doubt_kept g.K.Opening.schema g.K.Opening.images _ _ _ _ _ _ (opened_over _ _ _ _ _ _ _ _ _ c.in-Ok.ensures.ok.since c.in-Ok.ensures.ok c.in-Ok.ensures.run) (g.met.D.Disk.reads_left c.args.disk) c.requires.images

pub new-requires-clause-reads : goal.new-requires-clause-reads
new-requires-clause-reads g c =
    reads_kept g.K.Opening.schema g.K.Opening.images _ _ _ _ _ _ (opened_over _ _ _ _ _ _ _ _ _ c.in-Ok.ensures.ok.since c.in-Ok.ensures.ok c.in-Ok.ensures.run) (g.met.D.Disk.reads_left c.args.disk) c.requires.images (λ known. sym c.in-Ok.ensures.ok.settled)

pub new-requires-clause-stops : goal.new-requires-clause-stops
new-requires-clause-stops g c =
    stops_kept g.K.Opening.schema g.K.Opening.images _ _ _ _ _ _ (opened_over _ _ _ _ _ _ _ _ _ c.in-Ok.ensures.ok.since c.in-Ok.ensures.ok c.in-Ok.ensures.run) (g.met.D.Disk.reads_left c.args.disk) c.requires.images

pub with_slots-requires-clause-ended : goal.with_slots-requires-clause-ended
with_slots-requires-clause-ended g c = c.requires.judged.idle

pub with_slots-requires-clause-fine_before : goal.with_slots-requires-clause-fine_before
with_slots-requires-clause-fine_before g c = c.requires.judged.readable.1

pub with_slots-requires-clause-idle : goal.with_slots-requires-clause-idle
with_slots-requires-clause-idle g c = (can_open_as _ _ _ _ _ _ _ c.new.ensures.state c.in-Ok.ensures.ok).idle

pub with_slots-requires-clause-clean : goal.with_slots-requires-clause-clean
with_slots-requires-clause-clean g c = (can_open_as _ _ _ _ _ _ _ c.new.ensures.state c.in-Ok.ensures.ok).clean

pub with_slots-requires-clause-fine : goal.with_slots-requires-clause-fine
with_slots-requires-clause-fine g c = (can_open_as _ _ _ _ _ _ _ c.new.ensures.state c.in-Ok.ensures.ok).fine

pub with_slots-requires-clause-settled : goal.with_slots-requires-clause-settled
with_slots-requires-clause-settled g c = (can_open_as _ _ _ _ _ _ _ c.new.ensures.state c.in-Ok.ensures.ok).settled

pub with_slots-requires-clause-certain : goal.with_slots-requires-clause-certain
with_slots-requires-clause-certain g c = (can_open_as _ _ _ _ _ _ _ c.new.ensures.state c.in-Ok.ensures.ok).certain

pub with_slots-requires-clause-stops : goal.with_slots-requires-clause-stops
with_slots-requires-clause-stops g c = λ chains.
    subst (λ slots. StayChains (Stops (g.D.Disk.observable slots.slots.disk) slots.slots.since (g.D.Disk.time slots.slots.disk) (g.D.Disk.left slots.slots.disk)) slots.slots.since) (sym c.new.ensures.slots)
    (stays_first _ _ _ _ _ _ c.in-Ok.ensures.ok.since c.in-Ok.ensures.run)

pub with_slots-requires-clause-same : goal.with_slots-requires-clause-same
with_slots-requires-clause-same g c = same_reads _ _ (viewed c.args.rows.rows.chains.slots.slots.items c.args.rows.rows.chains.slots.begun) _ _ _ _ _ c.new.ensures.state c.in-Ok.ensures.ok c.requires.recovers c.requires.judged.readable

pub returns-in-Ok-clause-opened : goal.returns-in-Ok-clause-opened
returns-in-Ok-clause-opened g c =
    rw (c.with_slots.ensures.slots) (opened_as _ _ _ _ _ _ _ _ c.new.ensures.state c.new.ensures.stops (opened_over _ _ _ _ _ _ _ _ _ c.in-Ok.ensures.ok.since c.in-Ok.ensures.ok c.in-Ok.ensures.run))

pub returns-in-Ok-clause-store : goal.returns-in-Ok-clause-store
returns-in-Ok-clause-store g c =
    rw (c.with_slots.ensures.slots) (store_over _ g.K.Opening.schema _ _ _ _ _ _ _ c.new.ensures.state c.in-Ok.ensures.ok
    (rw (c.with_slots.ensures.slots) at c.with_slots.ensures.opened g.K.Opening.schema (viewed c.args.rows.rows.chains.slots.slots.items c.args.rows.rows.chains.slots.begun) c.requires.judged.store (same_reads _ _ (viewed c.args.rows.rows.chains.slots.slots.items c.args.rows.rows.chains.slots.begun) _ _ _ _ _ c.new.ensures.state c.in-Ok.ensures.ok c.requires.recovers c.requires.judged.readable)))

pub returns-in-Ok-clause-same : goal.returns-in-Ok-clause-same
returns-in-Ok-clause-same g c = rw (c.with_slots.ensures.slots) (committed_same _ _ (viewed c.args.rows.rows.chains.slots.slots.items c.args.rows.rows.chains.slots.begun) _ _ _ _ _ c.new.ensures.state c.in-Ok.ensures.ok c.requires.recovers)

pub returns-in-Err-clause-back : goal.returns-in-Err-clause-back
returns-in-Err-clause-back g c = back_by_run _ _ _ _ _ _ c.in-Err.ensures.err_observable c.in-Err.ensures.err_run c.in-Err.ensures.err_short

pub returns-in-Err-clause-late : goal.returns-in-Err-clause-late
returns-in-Err-clause-late g c = rw (c.of_late_fault.ensures) (late_fault_judges_not c.in-Err.fault)

pub returns-in-Err-clause-cause : goal.returns-in-Err-clause-cause
returns-in-Err-clause-cause g c = λ is. c.in-Err.ensures.cause.1 (late_fault_of_disk c.in-Err.fault (sym c.of_late_fault.ensures ∙ is))
