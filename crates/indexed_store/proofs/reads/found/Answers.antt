use Rattle.std.proofs.Common.{List, Option, refl, subst}
use Rattle.abl_base.specs.declared.value.Value.{Value}
use Rattle.row_store.specs.declared.store.FoundRow.{FoundRow}
use Rattle.row_keys.specs.Questions.{IsRead}
use Rattle.slot_rows.specs.State.{state_of}
use Rattle.indexed_store.proofs.Calls.{other_cause, other_error}
use Rattle.indexed_store.proofs.reads.found.Goals as goal

pub returns-in-Ok-Some-clause-found : goal.returns-in-Ok-Some-clause-found
returns-in-Ok-Some-clause-found g c = λ reserved sequences readable. (
  refl,
  refl,
  subst (λ (o : Option (List Value)). IsRead c.args.table o ((state_of c.args.rows.now.schema reserved sequences (g.S.Slots.state c.args.rows.now.chains.slots) c.args.rows.now.opens.items).rows c.args.at.row.0)) c.in-Ok-Some.field-0-is (c.in-Ok-Some.ensures.found reserved sequences readable),
)

pub returns-in-Ok-Some-clause-cause : goal.returns-in-Ok-Some-clause-cause
returns-in-Ok-Some-clause-cause g c = λ reserved sequences. record { later = (c.read.ensures.cause reserved sequences).later; disk = λ q. absurd (cc q) }

pub returns-in-Ok-None-clause-err : goal.returns-in-Ok-None-clause-err
returns-in-Ok-None-clause-err g c = λ reserved sequences. record { memory = λ q. c.in-Ok-None.ensures.same reserved sequences; disk = λ q. absurd (cc q) }

pub returns-in-Ok-None-clause-cause : goal.returns-in-Ok-None-clause-cause
returns-in-Ok-None-clause-cause g c = λ reserved sequences. record { later = (c.read.ensures.cause reserved sequences).later; disk = λ q. absurd (cc q) }

pub returns-in-Err-clause-err : goal.returns-in-Err-clause-err
returns-in-Err-clause-err g c = λ reserved sequences.
    other_error {T = Option (List Value)} {U = Option FoundRow} (state_of c.args.rows.now.schema reserved sequences (g.S.Slots.state c.args.rows.now.chains.slots) c.args.rows.now.opens.items) (state_of c.args.rows.now.schema reserved sequences (g.S.Slots.state c.read.new.rows.chains.slots) c.read.new.rows.opens.items) c.in-Err.error (c.in-Err.ensures.err reserved sequences)

pub returns-in-Err-clause-cause : goal.returns-in-Err-clause-cause
returns-in-Err-clause-cause g c = λ reserved sequences.
    other_cause {T = Option (List Value)} {U = Option FoundRow} (g.S.Slots.state c.args.rows.now.chains.slots).faults (g.S.Slots.state c.read.new.rows.chains.slots).faults (state_of c.args.rows.now.schema reserved sequences (g.S.Slots.state c.args.rows.now.chains.slots) c.args.rows.now.opens.items) c.in-Err.error (c.in-Err.ensures.cause reserved sequences)
