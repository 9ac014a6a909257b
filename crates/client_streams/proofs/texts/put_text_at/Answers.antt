use Rattle.std.proofs.Common.{List, sym, subst}
use Rattle.bound_tree.specs.Tree.{Item}
use Rattle.block_meaning.specs.Values.{put_text}
use Rattle.client_streams.specs.lines.Writes.{WritesText}
use Rattle.client_machine.specs.Machine.{state_in}
use Rattle.client_streams.proofs.StateRead.{is_read}
use Rattle.client_streams.proofs.texts.put_text_at.Goals as goal

pub returns : goal.returns
returns c = λ p rest f.
    subst (λ (xs : List Item). WritesText c.put_items.result (put_text p xs c.args.retry (state_in rest c.args.machine.now))) (sym c.in-Some.ensures)
    (c.put_items.ensures p c.args.retry (state_in rest c.args.machine.now) (is_read p rest c.args.machine.now c.args.retry c.as_slice.result.now c.as_slice.ensures f))
