-- The rows over slots in memory, and why there are none.
use Rattle.indexed_store.proofs.Refused.{can_still}
use Rattle.recovered_view.specs.View.{viewed}
use Rattle.disk_database.proofs.Judgements.{can_at_rest, judged_after, refused_by_store, slot_refusal_still, stays_at_rest}
use Rattle.disk_database.proofs.judging.rows_of_view.Goals as goal

pub test_slots-requires-clause-can : goal.test_slots-requires-clause-can
test_slots-requires-clause-can c = can_at_rest _ _ c.requires

pub test_slots-requires-clause-stops : goal.test_slots-requires-clause-stops
test_slots-requires-clause-stops c = λ chains. stays_at_rest _ _ c.requires

pub open-requires-clause-idle : goal.open-requires-clause-idle
open-requires-clause-idle c = (can_still _ _ _ _ (can_at_rest _ _ c.requires) c.in-Ok.ensures.still).idle

pub open-requires-clause-clean : goal.open-requires-clause-clean
open-requires-clause-clean c = (can_still _ _ _ _ (can_at_rest _ _ c.requires) c.in-Ok.ensures.still).clean

pub open-requires-clause-stops : goal.open-requires-clause-stops
open-requires-clause-stops c = λ chains m slots st. absurd st

pub returns-in-Ok-open-clause-judged : goal.returns-in-Ok-open-clause-judged
returns-in-Ok-open-clause-judged c = (judged_after c.args.schema _ _ _ _ _ _ _ c.requires c.in-Ok.ensures.still c.in-Ok-open.ensures.still c.in-Ok-open.ensures.opened c.in-Ok.ensures.same c.in-Ok.ensures.unused).0

pub returns-in-Ok-open-clause-reads : goal.returns-in-Ok-open-clause-reads
returns-in-Ok-open-clause-reads c = (judged_after c.args.schema _ _ _ _ _ _ _ c.requires c.in-Ok.ensures.still c.in-Ok-open.ensures.still c.in-Ok-open.ensures.opened c.in-Ok.ensures.same c.in-Ok.ensures.unused).1

pub returns-in-Err-clause-refused : goal.returns-in-Err-clause-refused
returns-in-Err-clause-refused c = slot_refusal_still c.args.schema (viewed c.args.view.slots.items c.args.view.begun) c.in-Err.refusal c.in_memory.result c.in_memory.ensures.same c.in-Err.ensures.refused

pub returns-clause-refused : goal.returns-clause-refused
returns-clause-refused c =
    slot_refusal_still c.args.schema (viewed c.args.view.slots.items c.args.view.begun) c.of_error.result c.in_memory-in-Err-open.result c.in_memory-in-Err-open.ensures.same
    (rw (c.of_error.ensures) (refused_by_store c.args.schema _ _ _ _ c.in-Ok.ensures.still c.soundness.ensures c.in-Ok.ensures.same c.in-Err-open.error c.in-Err-open.ensures.unsound))
