use Rattle.std.proofs.Common.{Option}
use Rattle.slot_rows.specs.declared.decode.OldRow.{OldRow}
use Rattle.slot_rows.specs.State.{state_of}
use Rattle.indexed_store.proofs.Calls.{other_cause, other_error}
use Rattle.indexed_store.proofs.reads.old_row.Goals as goal

pub returns-then-old-table-clause-cause : goal.returns-then-old-table-clause-cause
returns-then-old-table-clause-cause g c = λ reserved sequences. record { later = (c.old_row.ensures.cause reserved sequences).later; disk = λ q. absurd (cc q) }

pub returns-else-old-table-clause-err : goal.returns-else-old-table-clause-err
returns-else-old-table-clause-err g c = λ reserved sequences. record { memory = λ q. c.in-Ok-Some.ensures.same reserved sequences; disk = λ q. absurd (cc q) }

pub returns-else-old-table-clause-cause : goal.returns-else-old-table-clause-cause
returns-else-old-table-clause-cause g c = λ reserved sequences. record { later = (c.old_row.ensures.cause reserved sequences).later; disk = λ q. absurd (cc q) }

pub returns-in-Ok-None-clause-err : goal.returns-in-Ok-None-clause-err
returns-in-Ok-None-clause-err g c = λ reserved sequences. record { memory = λ q. c.in-Ok-None.ensures.same reserved sequences; disk = λ q. absurd (cc q) }

pub returns-in-Ok-None-clause-cause : goal.returns-in-Ok-None-clause-cause
returns-in-Ok-None-clause-cause g c = λ reserved sequences. record { later = (c.old_row.ensures.cause reserved sequences).later; disk = λ q. absurd (cc q) }

pub returns-in-Err-clause-err : goal.returns-in-Err-clause-err
returns-in-Err-clause-err g c = λ reserved sequences.
    other_error {T = Option OldRow} {U = OldRow} (state_of c.args.rows.now.schema reserved sequences (g.S.Slots.state c.args.rows.now.chains.slots) c.args.rows.now.opens.items) (state_of c.args.rows.now.schema reserved sequences (g.S.Slots.state c.old_row.new.self.chains.slots) c.old_row.new.self.opens.items) c.in-Err.error (c.in-Err.ensures.err reserved sequences)

pub returns-in-Err-clause-cause : goal.returns-in-Err-clause-cause
returns-in-Err-clause-cause g c = λ reserved sequences.
    other_cause {T = Option OldRow} {U = OldRow} (g.S.Slots.state c.args.rows.now.chains.slots).faults (g.S.Slots.state c.old_row.new.self.chains.slots).faults (state_of c.args.rows.now.schema reserved sequences (g.S.Slots.state c.args.rows.now.chains.slots) c.args.rows.now.opens.items) c.in-Err.error (c.in-Err.ensures.cause reserved sequences)
