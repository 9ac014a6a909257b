use Rattle.std.proofs.Common.{◌≡◌, ℕ, List, length, Option, None, MatchOption, Err, sym, subst}
use Rattle.storage.specs.Slots.{IsReadable}
use Rattle.abl_values.specs.declared.schema.SequenceDef.{SequenceDef}
use Rattle.byte_rows.proofs.Reading.{looked_still, still_both, still_looked}
use Rattle.row_fragments.specs.Chains.{AreChains}
use Rattle.row_fragments.proofs.Composes.{readable_on}
use Rattle.sequence_slots.specs.Values.{HoldValues, values_in}
use Rattle.slot_rows.specs.Decoded.{AreRead}
use Rattle.slot_rows.specs.State.{slot_fault}
use Rattle.slot_rows.proofs.Chaining.{stay_chains}
use Rattle.indexed_store.proofs.Refused.{refused_looked}
use Rattle.indexed_store.proofs.Sound.{rows_read}
use Rattle.indexed_store.proofs.reopened.rows_and_values.Goals as goal

pub open-requires-clause-stops : goal.open-requires-clause-stops
open-requires-clause-stops g c =
    let a = g.S.Slots.state c.args.slots in
    let s = g.S.Slots.state c.stored_values.new.slots in
    let l = c.in-Ok-Some.ensures.looked in
    stay_chains a s (g.S.Slots.stop c.args.slots) (g.S.Slots.stop c.stored_values.new.slots) (g.met.S.Slots.stop_known c.stored_values.new.slots) (g.met.S.Slots.since_past c.args.slots) l.rests.keeps l.time
    (λ seen. c.requires.certain (seen, c.requires.fine)) c.requires.stops

pub returns-in-Ok-clause-still : goal.returns-in-Ok-clause-still
returns-in-Ok-clause-still g c =
    let a = g.S.Slots.state c.args.slots in
    let s = g.S.Slots.state c.stored_values.new.slots in
    let t = g.S.Slots.state c.in-Ok.rows.chains.slots in
    let at_a = g.S.Slots.stop c.args.slots in
    let at_s = g.S.Slots.stop c.stored_values.new.slots in
    still_both a s t at_a at_s (g.S.Slots.stop c.in-Ok.rows.chains.slots) (g.met.S.Slots.stop_known c.in-Ok.rows.chains.slots) (looked_still a s at_a at_s _ (λ q. cc q) c.in-Ok-Some.ensures.looked) c.in-Ok.ensures.same

pub returns-in-Err-open-clause-refused : goal.returns-in-Err-open-clause-refused
returns-in-Err-open-clause-refused g c =
    let a = g.S.Slots.state c.args.slots in
    let s = g.S.Slots.state c.stored_values.new.slots in
    let t = g.S.Slots.state c.in-Err-open.slots in
    let at_a = g.S.Slots.stop c.args.slots in
    let at_s = g.S.Slots.stop c.stored_values.new.slots in
    let at_t = g.S.Slots.stop c.in-Err-open.slots in
    let fault = slot_fault c.in-Err-open.fault in
    refused_looked {T = ℕ} a t at_a at_t fault c.of_opening.result c.of_opening.ensures.disk c.of_opening.ensures.fine
    (record { idle = c.requires.idle; clean = c.requires.clean; fine = c.requires.fine; settled = c.requires.settled; certain = c.requires.certain })
    (still_looked a s t at_a at_s at_t (g.met.S.Slots.stop_known c.in-Err-open.slots) (looked_still a s at_a at_s _ (λ q. cc q) c.in-Ok-Some.ensures.looked) {T = ℕ} (Err fault) c.in-Err-open.ensures.err)

none_is : {A : Type 0} (found : Option A) (P : Type 0) (Q : A → Type 0) → found ≡ None → MatchOption found P Q → P
none_is found P Q is h = subst (λ x. MatchOption x P Q) is h

pub returns-in-Ok-None-clause-unsound : goal.returns-in-Ok-None-clause-unsound
returns-in-Ok-None-clause-unsound g c = λ is seen held.
    let reads = (g.S.Slots.state c.args.slots).reads in
    none_is c.in-Ok-None.field-0 _ _ (cc c.in-Ok-None.is) (c.in-Ok-None.ensures.exact (seen, c.requires.fine))
    (subst (λ (qs : List SequenceDef). HoldValues reads (values_in (length qs) reads)) (sym c.sequences-count.ensures) held.values)

pub returns-in-Ok-clause-chains : goal.returns-in-Ok-clause-chains
returns-in-Ok-clause-chains g c = λ seen.
    let a = g.S.Slots.state c.args.slots in
    let s = g.S.Slots.state c.stored_values.new.slots in
    let l = c.in-Ok-Some.ensures.looked in
    let readable : IsReadable a = (seen, c.requires.fine) in
    let there : IsReadable s = readable_on a s l.rests.keeps.observable (l.cause.stays (λ q. cc q)) readable in
    subst AreChains (l.rests.reads readable) (c.in-Ok.ensures.chains there)

pub returns-in-Err-open-clause-unsound : goal.returns-in-Err-open-clause-unsound
returns-in-Err-open-clause-unsound g c = λ is seen held.
    let a = g.S.Slots.state c.args.slots in
    let s = g.S.Slots.state c.stored_values.new.slots in
    let l = c.in-Ok-Some.ensures.looked in
    let readable : IsReadable a = (seen, c.requires.fine) in
    let there : IsReadable s = readable_on a s l.rests.keeps.observable (l.cause.stays (λ q. cc q)) readable in
    c.in-Err-open.ensures.broken (c.of_opening.ensures.broken is) there
    (subst (AreRead c.args.schema) (sym (l.rests.reads readable)) (rows_read c.args.schema a.reads held.rows), subst AreChains (sym (l.rests.reads readable)) held.chains)
