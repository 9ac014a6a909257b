use Rattle.std.proofs.Common.{List, Option, subst}
use Rattle.abl_base.specs.declared.value.Value.{Value}
use Rattle.database_meaning.specs.declared.state.StoredRow.{StoredRow}
use Rattle.row_keys.specs.Questions.{IsRead}
use Rattle.slot_rows.specs.State.{state_of}
use Rattle.indexed_store.proofs.Calls.{other_cause, other_error}
use Rattle.indexed_store.proofs.reads.read.Goals as goal

pub returns-in-Ok-clause-found : goal.returns-in-Ok-clause-found
returns-in-Ok-clause-found g c = λ reserved sequences readable. subst (IsRead c.args.table c.values_in.result) (c.in-Ok.ensures.found reserved sequences readable) c.values_in.ensures

pub returns-in-Ok-clause-cause : goal.returns-in-Ok-clause-cause
returns-in-Ok-clause-cause g c = λ reserved sequences. record { later = (c.get.ensures.cause reserved sequences).later; disk = λ q. absurd (cc q) }

pub returns-in-Err-clause-err : goal.returns-in-Err-clause-err
returns-in-Err-clause-err g c = λ reserved sequences.
    other_error {T = Option StoredRow} {U = Option (List Value)} (state_of c.args.rows.now.schema reserved sequences (g.S.Slots.state c.args.rows.now.chains.slots) c.args.rows.now.opens.items) (state_of c.args.rows.now.schema reserved sequences (g.S.Slots.state c.get.new.self.chains.slots) c.get.new.self.opens.items) c.in-Err.error (c.in-Err.ensures.err reserved sequences)

pub returns-in-Err-clause-cause : goal.returns-in-Err-clause-cause
returns-in-Err-clause-cause g c = λ reserved sequences.
    other_cause {T = Option StoredRow} {U = Option (List Value)} (g.S.Slots.state c.args.rows.now.chains.slots).faults (g.S.Slots.state c.get.new.self.chains.slots).faults (state_of c.args.rows.now.schema reserved sequences (g.S.Slots.state c.args.rows.now.chains.slots) c.args.rows.now.opens.items) c.in-Err.error (c.in-Err.ensures.cause reserved sequences)
