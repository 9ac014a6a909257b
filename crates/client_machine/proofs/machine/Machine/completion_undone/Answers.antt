use Rattle.std.proofs.Common.{true, sym, ap, ◌∙◌}
use Rattle.block_meaning.specs.State.{Leaves, Nexts, Again, Done, completes, if_else}
use Rattle.block_meaning.specs.Blocks.{Iteration, after_iteration, acts, closes, instead_of_retry, iterates, next_turn}
use Rattle.client_machine.specs.Config.{header_at, after_undo_of, completion_of, turn_of}
use Rattle.client_machine.specs.Undone.{after_action}
use Rattle.client_machine.proofs.RunKept.{closes_over}
use Rattle.client_machine.proofs.machine.Machine.completion_undone.Goals as goal

pub returns-in-Leave-clause-same : goal.returns-in-Leave-clause-same
returns-in-Leave-clause-same c =
    λ cs p copy retry s ans none.
    let code = c.args.self.now.code.instrs.items in
    let b = header_at code c.args.place in
    let o : Iteration = record { copy = copy; turn = turn_of c.args.turn } in
    ap (λ a. acts p b o (after_undo_of code a) retry s ans) c.in-Leave.is
    ∙ closes_over p b o (Leaves c.in-Leave.block) s ans none
    ∙ ap (λ w. Done w s ans) (sym (c.completion_after-in-Leave.ensures.same code cs copy))
    ∙ ap (λ a. Done (completion_of code cs c.completion_after-in-Leave.result) (after_action p (after_undo_of code a) retry s) ans) (sym c.in-Leave.is)

pub returns-in-Next-clause-same : goal.returns-in-Next-clause-same
returns-in-Next-clause-same c =
    λ cs p copy retry s ans none.
    let code = c.args.self.now.code.instrs.items in
    let b = header_at code c.args.place in
    let o : Iteration = record { copy = copy; turn = turn_of c.args.turn } in
    ap (λ a. acts p b o (after_undo_of code a) retry s ans) c.in-Next.is
    ∙ closes_over p b o (Nexts c.in-Next.block) s ans none
    ∙ ap (λ w. Done w s ans) (sym (c.completion_after-in-Next.ensures.same code cs copy))
    ∙ ap (λ a. Done (completion_of code cs c.completion_after-in-Next.result) (after_action p (after_undo_of code a) retry s) ans) (sym c.in-Next.is)

pub returns-else-names_retry-clause-same : goal.returns-else-names_retry-clause-same
returns-else-names_retry-clause-same c =
    λ cs p copy retry s ans none.
    let code = c.args.self.now.code.instrs.items in
    let b = header_at code c.args.place in
    let o : Iteration = record { copy = copy; turn = turn_of c.args.turn } in
    ap (λ a. acts p b o (after_undo_of code a) retry s ans) c.in-Retry.is
    ∙ ap (λ x. if_else x (completes (Again (next_turn true o.turn))) (closes p b o (instead_of_retry (iterates b) b.number)) s ans) (sym c.names_retry.ensures ∙ c.if-names_retry.false)
    ∙ closes_over p b o (instead_of_retry (iterates b) b.number) s ans none
    ∙ ap (λ w. Done (after_iteration b o w) s ans) (sym (c.instead_of_retry_at-completion.ensures.same code cs ∙ ap (λ x. instead_of_retry x c.number_at-number.result) c.iterates_at.ensures ∙ ap (λ n. instead_of_retry (iterates b) n) c.number_at-number.ensures))
    ∙ ap (λ w. Done w s ans) (sym (c.completion_after.ensures.same code cs copy))
    ∙ ap (λ a. Done (completion_of code cs c.completion_after.result) (after_action p (after_undo_of code a) retry s) ans) (sym c.in-Retry.is)
