use Rattle.std.proofs.Common.{rules, ◌≡◌, ℕ, true, false, List, ap, sym, ◌∙◌}
use Rattle.std.specs.Prelude.{slice_set}
use Rattle.abl_base.specs.declared.value.Value.{Value}
use Rattle.block_meaning.specs.State.{Empty, Normal, Pending, Record, State, completed}
use Rattle.block_meaning.specs.Frames.{content_of, holding}
use Rattle.block_meaning.specs.Values.{is_available}
use Rattle.client_memory.specs.Buffers.{denoted_held}
use Rattle.buffer_steps.proofs.BuffersLemmas.Held.{holding_twice}
use Rattle.buffer_steps.specs.changes.Buffers.{state_of}
use Rattle.buffer_steps.proofs.ChangesLemmas.Assigned.{no_record, pending_set, record_set, unfit}
use Rattle.buffer_steps.proofs.changes.fields.set_field.Goals as goal

pub returns-then-not-has_record-clause-assigns : goal.returns-then-not-has_record-clause-assigns
returns-then-not-has_record-clause-assigns c = λ p rest fits.
    let s = state_of rest c.args.buffers.now in
    no_record (content_of c.args.buffer s) c.args.buffer c.args.field c.args.kind c.args.value s (c.has_record.ensures p rest fits ∙ c.if-not-has_record.true)

pub returns-in_err-value-clause-assigns : goal.returns-in_err-value-clause-assigns
returns-in_err-value-clause-assigns c = λ p rest fits.
    let s = state_of rest c.args.buffers.now in
    unfit c.from_residual.result c.in_err-value.field-0.0 (content_of c.args.buffer s) c.args.buffer c.args.field c.args.kind c.args.value s (search rules) (c.has_record.ensures p rest fits ∙ c.if-not-has_record.false) c.in_err-value.ensures

pub returns-in-Record-clause-fits : goal.returns-in-Record-clause-fits
returns-in-Record-clause-fits c = λ p rest fits. c.replace-in-Record.ensures.fits p rest (c.replace.ensures.fits p rest fits)

pub returns-in-Record-clause-assigns : goal.returns-in-Record-clause-assigns
returns-in-Record-clause-assigns c = λ p rest fits.
    let s = state_of rest c.args.buffers.now in
    let b = c.args.buffer in
    let h = denoted_held c.in-Record.held in
    let taken = Record c.in-Record.row c.with_value.result h c.in-Record.made in
    record_set (content_of b s) b c.args.field c.args.kind c.args.value c.in_ok-value.value s c.in-Record.row c.in-Record.values h c.in-Record.made (c.in-Record.ensures.old p rest fits) c.in_ok-value.ensures
    ∙ ap (λ (t : State). completed Normal t) (sym (
    c.replace-in-Record.ensures.state p rest (c.replace.ensures.fits p rest fits)
    ∙ ap (holding b taken) (c.replace.ensures.state p rest fits)
    ∙ holding_twice s b Empty taken
    ∙ ap (λ (vs : List Value). holding b (Record c.in-Record.row vs h c.in-Record.made) s) c.with_value.ensures))

pub returns-in_ok-with_first-in-Pending-clause-fits : goal.returns-in_ok-with_first-in-Pending-clause-fits
returns-in_ok-with_first-in-Pending-clause-fits c = λ p rest fits. c.replace-in-Pending.ensures.fits p rest (c.replace.ensures.fits p rest fits)

pub returns-in_ok-with_first-in-Pending-clause-assigns : goal.returns-in_ok-with_first-in-Pending-clause-assigns
returns-in_ok-with_first-in-Pending-clause-assigns c = λ p rest fits.
    let s = state_of rest c.args.buffers.now in
    let b = c.args.buffer in
    let first = c.in_ok-with_first-in-Pending.field-0 in
    let taken = Pending c.with_value-in-Pending.result first c.in-Pending.made in
    pending_set (content_of b s) b c.args.field c.args.kind c.args.value c.in_ok-value.value s c.in-Pending.values c.in-Pending.since c.in-Pending.made (c.in-Pending.ensures.old p rest fits) c.in_ok-value.ensures
    ∙ ap (λ (t : State). completed Normal t) (sym (
    c.replace-in-Pending.ensures.state p rest (c.replace.ensures.fits p rest fits)
    ∙ ap (holding b taken) (c.replace.ensures.state p rest fits)
    ∙ holding_twice s b Empty taken
    ∙ ap (λ (vs : List Value). holding b (Pending vs first c.in-Pending.made) s) c.with_value-in-Pending.ensures
    ∙ ap (λ (xs : List ℕ). holding b (Pending (slice_set c.in-Pending.values c.args.field c.in_ok-value.value) xs c.in-Pending.made) s) c.in_ok-with_first-in-Pending.ensures))

pub returns-in-Empty-clause-assigns : goal.returns-in-Empty-clause-assigns
returns-in-Empty-clause-assigns c = λ p rest fits.
    let e : false ≡ true = sym (ap is_available (c.in-Empty.ensures.old p rest fits)) ∙ c.has_record.ensures p rest fits ∙ c.if-not-has_record.false in cc
