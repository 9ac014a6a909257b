use Rattle.std.proofs.Common.{◌∷◌, refl, subst}
use Rattle.flat_machine.specs.Flat as flat
use Rattle.bound_tree.specs.Tree.{Import}
use Rattle.client_machine.specs.Config.{instr_at}
use Rattle.client_machine.specs.KeepsFrom.{KeepsFrom}
use Rattle.client_machine.specs.Machine.{stack_in}
use Rattle.client_machine.specs.declared.machine.Machine.{Machine}
use Rattle.client_machine.proofs.RunKept.{on_ok}
use Rattle.client_streams.specs.Imports.{targets_in}
use Rattle.client_streams.proofs.Paid.{paid_kept, unpaid_kept}
use Rattle.client_streams.proofs.imports.import.Goals as goal

pub returns-then-not-charge-clause-ok : goal.returns-then-not-charge-clause-ok
returns-then-not-charge-clause-ok c =
    let old = c.args.machine.now in
    let r = c.in-Some.reader in
    unpaid_kept old c.charge.new.self c.args.place r.next c.args.left c.args.retry (Import r.stream (targets_in (instr_at old.code.instrs.items c.args.place)) r.no_error) c.in-Some.ensures (c.if-not-charge.ensures.stopped refl) (λ rest go. c.if-not-charge.ensures.stops refl rest go)

pub returns-clause-ok : goal.returns-clause-ok
returns-clause-ok c =
    let old = c.args.machine.now in
    let m = c.charge.new.self in
    let r = c.in-Some.reader in
    let same = c.if-not-charge.ensures.same refl in
    let t = λ (x : Machine). Import r.stream (targets_in (instr_at x.code.instrs.items c.args.place)) r.no_error in
    on_ok c.import_paid.result (λ keeps.
    paid_kept old m c.import_paid.new.machine c.args.place r.next c.args.left c.args.retry (t old) c.in-Some.ensures same (λ rest ks go. c.if-not-charge.ensures.paid refl rest ks go)
    (subst (λ (y : Machine). KeepsFrom (λ p s. flat.stmt_step p (t y) c.args.left c.args.retry (flat.ThenDo (flat.RunsFrom r.next c.args.left c.args.retry) ∷ stack_in m) s) m c.import_paid.new.machine) same keeps)) c.import_paid.ensures.ok
