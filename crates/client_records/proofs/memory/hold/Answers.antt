use Rattle.std.proofs.Common.{ap}
use Rattle.client_memory.specs.Buffers.{denoted_content}
use Rattle.buffer_steps.specs.reads.Fixed.{Fixed}
use Rattle.block_meaning.specs.Frames.{holding}
use Rattle.client_records.proofs.Lent.{lent, lent_reads, lent_state, rest_at}
use Rattle.client_records.proofs.memory.hold.Goals as goal

pub returns-clause-reads : goal.returns-clause-reads
returns-clause-reads c = λ p rest reads.
    let m = c.args.machine.now in
    let b = c.replace.new.self in
    lent_reads p rest m b.memory.now c.as_slice.result.now b.procedures.now c.as_slice-2.result.now b.returned.now b.error c.as_slice.ensures.value c.as_slice-2.ensures
    (ap (λ (x : Fixed). x.procedures) c.replace.ensures.fixed) (ap (λ (x : Fixed). x.copies) c.replace.ensures.fixed) (c.replace.ensures.fits p (rest_at rest m)) reads

pub returns-clause-state : goal.returns-clause-state
returns-clause-state c = λ p rest reads.
    let m = c.args.machine.now in
    let b = c.replace.new.self in
    lent_state rest m b.memory.now c.as_slice.result.now b.procedures.now (holding c.args.buffer (denoted_content c.args.content)) c.as_slice.ensures.value
    (ap (λ (x : Fixed). x.procedures) c.replace.ensures.fixed) (ap (λ (x : Fixed). x.copies) c.replace.ensures.fixed)
    (c.replace.ensures.state p (rest_at rest m) (lent p rest m c.as_slice.result.now c.as_slice-2.result.now c.as_slice.ensures.value c.as_slice-2.ensures reads))
