use Rattle.std.proofs.Common.{List, drop, map, sym, ap, ◌∙◌}
use Rattle.std.specs.Prelude.{reverse}
use Rattle.bound_tree.specs.Tree.{Assignment}
use Rattle.block_meaning.specs.Changes.{buffers_in}
use Rattle.client_machine.specs.Config.{assignments_of, given_of}
use Rattle.client_machine.specs.declared.mode.changes.AssignmentList.{AssignmentList}
use Rattle.client_machine.specs.declared.mode.changes.GivenValue.{GivenValue}
use Rattle.client_records.proofs.Lent.{if_ok}
use Rattle.client_records.proofs.targets.changed_buffers.Goals as goal

pub returns-in-Statement : goal.returns-in-Statement
returns-in-Statement c =
    if_ok c.changed_by.result (λ buffers is.
    is
    ∙ ap (λ (xs : List Assignment). buffers_in (drop c.in-Statement.from xs)) c.pairs_at.ensures
    ∙ ap (λ (xs : AssignmentList). buffers_in (assignments_of c.args.code.now.instrs.items xs)) (sym c.in-Statement.is)) c.changed_by.ensures

pub returns-in-Given : goal.returns-in-Given
returns-in-Given c =
    if_ok c.changed_by_values.result (λ buffers is.
    is
    ∙ ap (λ (xs : List GivenValue). buffers_in (map given_of (reverse xs))) c.as_slice.ensures.value
    ∙ ap (λ (xs : AssignmentList). buffers_in (assignments_of c.args.code.now.instrs.items xs)) (sym c.in-Given.is)) c.changed_by_values.ensures
