use Rattle.std.proofs.Common.{ap, sym, ◌∙◌}
use Rattle.block_meaning.specs.Frames.{table_of}
use Rattle.block_meaning.specs.State.{Buffer, State}
use Rattle.client_records.proofs.Lent.{lent, lent_now, rest_at}
use Rattle.client_records.proofs.memory.table.Goals as goal

pub returns-in-Some-clause-table : goal.returns-in-Some-clause-table
returns-in-Some-clause-table c = λ p rest reads.
    let m = c.args.machine.now in
    ap (λ (x : Buffer). x.table) (sym (c.in-Some.ensures p (rest_at rest m) (lent p rest m c.as_slice.result.now c.as_slice-2.result.now c.as_slice.ensures.value c.as_slice-2.ensures reads)))
    ∙ ap (λ (s : State). table_of c.args.buffer s) (lent_now rest m c.as_slice.result.now c.as_slice.ensures.value)

pub returns-in-None-clause-table : goal.returns-in-None-clause-table
returns-in-None-clause-table c = λ p rest reads.
    let m = c.args.machine.now in
    ap (λ (x : Buffer). x.table) (sym (c.in-None.ensures p (rest_at rest m) (lent p rest m c.as_slice.result.now c.as_slice-2.result.now c.as_slice.ensures.value c.as_slice-2.ensures reads)))
    ∙ ap (λ (s : State). table_of c.args.buffer s) (lent_now rest m c.as_slice.result.now c.as_slice.ensures.value)
