use Rattle.std.proofs.Common.{List, sym, subst}
use Rattle.bound_tree.specs.Tree.{Expr}
use Rattle.block_meaning.specs.Values.{values_now, export_line}
use Rattle.client_streams.specs.lines.Writes.{WritesText, line_text}
use Rattle.client_machine.specs.Machine.{state_in}
use Rattle.client_streams.proofs.StateRead.{is_read}
use Rattle.client_streams.proofs.texts.export_line_at.Goals as goal

pub returns : goal.returns
returns c = λ p rest f.
    subst (λ (xs : List Expr). WritesText c.export_values.result (line_text export_line (values_now p xs c.args.retry (state_in rest c.args.machine.now)))) (sym c.in-Some.ensures)
    (c.export_values.ensures p c.args.retry (state_in rest c.args.machine.now) (is_read p rest c.args.machine.now c.args.retry c.as_slice.result.now c.as_slice.ensures f))
