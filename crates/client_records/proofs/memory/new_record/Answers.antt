use Rattle.std.proofs.Common.{[], ap}
use Rattle.block_meaning.specs.Changes.{initial_values}
use Rattle.block_meaning.specs.Frames.{holding, table_of}
use Rattle.block_meaning.specs.Program.{table_at}
use Rattle.block_meaning.specs.State.{Pending, State}
use Rattle.buffer_steps.specs.reads.Fixed.{Fixed}
use Rattle.client_records.proofs.Kept.{on_ok}
use Rattle.client_records.proofs.Lent.{lent, lent_reads, lent_state, rest_at}
use Rattle.client_records.proofs.memory.new_record.Goals as goal

pub returns-clause-reads : goal.returns-clause-reads
returns-clause-reads c = λ p rest reads.
    let m = c.args.machine.now in
    let b = c.new_record.new.buffers in
    lent_reads p rest m b.memory.now c.as_slice.result.now b.procedures.now c.as_slice-2.result.now b.returned.now b.error c.as_slice.ensures.value c.as_slice-2.ensures
    (ap (λ (x : Fixed). x.procedures) c.new_record.ensures.fixed) (ap (λ (x : Fixed). x.copies) c.new_record.ensures.fixed) (c.new_record.ensures.fits p (rest_at rest m)) reads

pub returns-clause-state : goal.returns-clause-state
returns-clause-state c =
    let m = c.args.machine.now in
    let b = c.new_record.new.buffers in
    on_ok c.new_record.result (λ state p rest tables reads.
    lent_state rest m b.memory.now c.as_slice.result.now b.procedures.now (λ (s : State). holding c.args.buffer (Pending (initial_values (table_at p (table_of c.args.buffer s)).fields) [] c.args.made) s) c.as_slice.ensures.value
    (ap (λ (x : Fixed). x.procedures) c.new_record.ensures.fixed) (ap (λ (x : Fixed). x.copies) c.new_record.ensures.fixed)
    (state p (rest_at rest m) tables (lent p rest m c.as_slice.result.now c.as_slice-2.result.now c.as_slice.ensures.value c.as_slice-2.ensures reads))) c.new_record.ensures.state
