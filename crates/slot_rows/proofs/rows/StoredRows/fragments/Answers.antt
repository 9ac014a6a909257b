use Rattle.std.proofs.Common.{◌≡◌, ℕ, Some, None, Err, refl, sym, ◌∙◌, subst}
use Rattle.row_store.specs.Rows.{AfterError}
use Rattle.row_store.specs.declared.store.RowFault.{RowFault}
use Rattle.row_fragments.specs.Fragments.{row_at}
use Rattle.slot_rows.specs.State.{state_of}
use Rattle.slot_rows.specs.Opens.{log_in, touched_in}
use Rattle.slot_rows.proofs.Chaining.{chains_go}
use Rattle.slot_rows.proofs.Errors.{after_refusal, state_rests}
use Rattle.slot_rows.proofs.Known.{all_read, fragments_known, no_fragments}
use Rattle.slot_rows.proofs.Looked.{looked_stored}
use Rattle.slot_rows.proofs.Methods.{begun_rests}
use Rattle.slot_rows.proofs.Counting.{counted_keeps, failed_before}
use Rattle.slot_rows.proofs.Quiet.{quiet_looked}
use Rattle.slot_rows.proofs.rows.StoredRows.fragments.Goals as goal

pub invariant_of-self-clause-stored : goal.invariant_of-self-clause-stored
invariant_of-self-clause-stored g c =
    let rows = c.args.self.now in
    let old = rows.chains in
    let new = c.length.new.self in
    looked_stored rows.schema (g.S.Slots.state old.slots) (g.S.Slots.state new.slots) (g.S.Slots.stop old.slots) (g.S.Slots.stop new.slots) rows.opens.items rows.stored c.length.result c.length.ensures.looked

pub returns-in-Ok-Some-clause-same : goal.returns-in-Ok-Some-clause-same
returns-in-Ok-Some-clause-same g c = λ reserved sequences.
    let rows = c.args.self.now in
    let l = c.in-Ok-Some.ensures.looked in
    state_rests rows.schema reserved sequences (g.S.Slots.state rows.chains.slots) (g.S.Slots.state c.length.new.self.slots) rows.opens.items rows.opens.items (λ d. refl) l.rests (l.cause.stays (λ e. cc e))

pub returns-in-Ok-None-clause-same : goal.returns-in-Ok-None-clause-same
returns-in-Ok-None-clause-same g c = λ reserved sequences.
    let rows = c.args.self.now in
    let l = c.in-Ok-None.ensures.looked in
    state_rests rows.schema reserved sequences (g.S.Slots.state rows.chains.slots) (g.S.Slots.state c.length.new.self.slots) rows.opens.items rows.opens.items (λ d. refl) l.rests (l.cause.stays (λ e. cc e))

pub returns-in-Ok-Some-clause-found : goal.returns-in-Ok-Some-clause-found
returns-in-Ok-Some-clause-found g c = λ readable.
    let rows = c.args.self.now in
    let s = g.S.Slots.state rows.chains.slots in
    let e = c.in-Ok-Some.ensures in
    let is : c.in-Ok-Some.field-0 ≡ Some c.in-Ok-Some.bytes = cc c.in-Ok-Some.is in
    c.fragments.ensures.is
    ∙ fragments_known rows.schema (row_at s.reads c.args.row.0) c.in-Ok-Some.bytes (all_read rows.schema s (log_in rows.opens.items) (touched_in rows.opens.items) rows.stored readable c.args.row.0) (e.bytes readable) (sym is ∙ e.length readable)

pub returns-in-Ok-None-clause-found : goal.returns-in-Ok-None-clause-found
returns-in-Ok-None-clause-found g c = λ readable.
    let rows = c.args.self.now in
    let s = g.S.Slots.state rows.chains.slots in
    let is : c.in-Ok-None.field-0 ≡ None = cc c.in-Ok-None.is in
    no_fragments rows.schema (row_at s.reads c.args.row.0) (sym is ∙ c.in-Ok-None.ensures.length readable)

pub returns-in-Err-clause-err : goal.returns-in-Err-clause-err
returns-in-Err-clause-err g c = λ reserved sequences.
    let rows = c.args.self.now in
    let s = g.S.Slots.state rows.chains.slots in
    let t = g.S.Slots.state c.length.new.self.slots in
    let l = c.in-Err.ensures.looked in
    subst (λ (x : RowFault). AfterError {T = ℕ} (state_of rows.schema reserved sequences s rows.opens.items) (state_of rows.schema reserved sequences t rows.opens.items) (Err x)) (sym c.error_of.ensures)
    (after_refusal rows.schema reserved sequences s t rows.opens.items rows.opens.items (λ d. refl) c.in-Err.fault l.rests.keeps (begun_rests s t l.rests) (λ q. l.rests) l.cause)

pub invariant_of-self-clause-counted : goal.invariant_of-self-clause-counted
invariant_of-self-clause-counted g c =
    let rows = c.args.self.now in
    let s = g.S.Slots.state rows.chains.slots in
    let t = g.S.Slots.state c.length.new.self.slots in
    let l = c.length.ensures.looked in
    counted_keeps rows.schema s t rows.used l.rests.keeps (failed_before s t _ l.cause) rows.counted

pub invariant_of-self-clause-quiet : goal.invariant_of-self-clause-quiet
invariant_of-self-clause-quiet g c =
    let rows = c.args.self.now in
    quiet_looked (g.S.Slots.state rows.chains.slots) (g.S.Slots.state c.length.new.self.slots) (g.S.Slots.stop rows.chains.slots) (g.S.Slots.stop c.length.new.self.slots) c.length.result c.length.ensures.looked rows.quiet

pub invariant_of-self-clause-laid : goal.invariant_of-self-clause-laid
invariant_of-self-clause-laid g c =
    let old = c.args.self.now.chains in
    let new = c.length.new.self in
    let l = c.length.ensures.looked in
    chains_go (g.S.Slots.state old.slots) (g.S.Slots.state new.slots) (g.S.Slots.stop old.slots) (g.S.Slots.stop new.slots) (g.met.S.Slots.stop_known new.slots) (g.met.S.Slots.since_past old.slots) l.rests.keeps l.time c.args.self.now.laid
