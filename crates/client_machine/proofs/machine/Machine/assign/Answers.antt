use Rattle.std.proofs.Common.{◌∷◌, List, sym, ap, ◌∙◌, refl}
use Rattle.flat_machine.specs.Flat as flat
use Rattle.block_meaning.specs.Program.{Program}
use Rattle.block_meaning.specs.State.{State}
use Rattle.bound_tree.specs.Tree.{Assign}
use Rattle.client_machine.specs.Config.{instr_at}
use Rattle.client_machine.specs.KeepsFrom.{pairs_in}
use Rattle.client_machine.specs.Machine.{stack_in, state_in}
use Rattle.client_machine.specs.declared.machine.Machine.{Machine}
use Rattle.client_machine.specs.declared.mode.Task.TheVariants as task
use Rattle.client_machine.proofs.PaidSteps.{paid_kept, unpaid_kept}
use Rattle.client_machine.proofs.RunKept.{on_ok}
use Rattle.client_machine.proofs.machine.Machine.assign.Goals as goal

pub returns-then-not-charge-clause-ok : goal.returns-then-not-charge-clause-ok
returns-then-not-charge-clause-ok c =
    let old = c.args.self.now in
    unpaid_kept (task.RunsFrom c.args.place c.args.left c.args.retry) old c.charge.new.self
    (λ p ks s. flat.stmt_step p (Assign (pairs_in (instr_at old.code.instrs.items c.args.place)) c.args.no_error) c.args.left c.args.retry (flat.ThenDo (flat.RunsFrom c.args.next c.args.left c.args.retry) ∷ ks) s)
    (λ p rest. ap (λ i. flat.instr_step p i c.args.left c.args.retry (stack_in old) (state_in rest old)) c.requires.is)
    (λ o. tt) (c.if-not-charge.ensures.stopped refl) (λ rest go. c.if-not-charge.ensures.stops refl rest go)

pub returns-clause-ok : goal.returns-clause-ok
returns-clause-ok c =
    let old = c.args.self.now in
    let m = c.charge.new.self in
    let same = c.if-not-charge.ensures.same refl in
    let go = λ (x : Machine) (p : Program) (ks : List flat.StackEntry) (s : State). flat.stmt_step p (Assign (pairs_in (instr_at x.code.instrs.items c.args.place)) c.args.no_error) c.args.left c.args.retry (flat.ThenDo (flat.RunsFrom c.args.next c.args.left c.args.retry) ∷ ks) s in
    on_ok c.assign_paid.result (λ keeps.
    paid_kept (task.RunsFrom c.args.place c.args.left c.args.retry) old m c.assign_paid.new.self (go m)
    (λ p rest. ap (λ i. flat.instr_step p i c.args.left c.args.retry (stack_in old) (state_in rest old)) c.requires.is ∙ ap (λ (x : Machine). flat.costing old.units (go x p (stack_in old)) (stack_in old) (state_in rest old)) (sym same))
    (λ o. o) same (λ rest ks go. c.if-not-charge.ensures.paid refl rest ks go) keeps) c.assign_paid.ensures.ok
