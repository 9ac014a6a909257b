use Rattle.std.proofs.Common.{ap, sym, ◌∙◌}
use Rattle.block_meaning.specs.Changes.{as_before}
use Rattle.block_meaning.specs.Frames.{content_of, holding}
use Rattle.block_meaning.specs.State.{Content, Empty, State}
use Rattle.buffer_steps.proofs.BuffersLemmas.Held.{holding_twice}
use Rattle.client_memory.specs.Buffers.{denoted_content}
use Rattle.buffer_steps.specs.reads.Fixed.{Fixed}
use Rattle.client_values.specs.Variables.{state_with}
use Rattle.client_records.proofs.Lent.{lent, lent_reads, lent_state, rest_at}
use Rattle.client_records.proofs.memory.restore.Goals as goal

pub returns-clause-reads : goal.returns-clause-reads
returns-clause-reads c = λ p rest reads.
    let m = c.args.machine.now in
    let b = c.replace.new.self in
    let fixed = c.replace.ensures.fixed ∙ c.replace-now.ensures.fixed in
    lent_reads p rest m b.memory.now c.as_slice.result.now b.procedures.now c.as_slice-2.result.now b.returned.now b.error c.as_slice.ensures.value c.as_slice-2.ensures
    (ap (λ (x : Fixed). x.procedures) fixed) (ap (λ (x : Fixed). x.copies) fixed) (λ r. c.replace.ensures.fits p (rest_at rest m) (c.replace-now.ensures.fits p (rest_at rest m) r)) reads

pub returns-clause-state : goal.returns-clause-state
returns-clause-state c = λ p rest reads.
    let m = c.args.machine.now in
    let b = c.replace.new.self in
    let n = c.args.buffer in
    let fixed = c.replace.ensures.fixed ∙ c.replace-now.ensures.fixed in
    let r = lent p rest m c.as_slice.result.now c.as_slice-2.result.now c.as_slice.ensures.value c.as_slice-2.ensures reads in
    let s = state_with (rest_at rest m) c.as_slice.result.now m.memory in
    let before = denoted_content c.args.before in
    lent_state rest m b.memory.now c.as_slice.result.now b.procedures.now (λ (x : State). holding n (as_before before (content_of n x)) x) c.as_slice.ensures.value
    (ap (λ (x : Fixed). x.procedures) fixed) (ap (λ (x : Fixed). x.copies) fixed)
    (c.replace.ensures.state p (rest_at rest m) (c.replace-now.ensures.fits p (rest_at rest m) r)
    ∙ ap (holding n (denoted_content c.content_before.result)) (c.replace-now.ensures.state p (rest_at rest m) r)
    ∙ holding_twice s n Empty (denoted_content c.content_before.result)
    ∙ ap (λ (x : Content). holding n x s) (c.content_before.ensures ∙ ap (as_before before) (sym (c.replace-now.ensures.old p (rest_at rest m) r))))
