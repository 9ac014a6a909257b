use Rattle.std.proofs.Common.{refl, subst}
use Rattle.bound_tree.specs.Tree.{PutItems}
use Rattle.block_meaning.specs.Program.{Program}
use Rattle.block_meaning.specs.State.{State}
use Rattle.block_meaning.specs.Values.{put_text}
use Rattle.client_streams.specs.lines.Writes.{WritesText}
use Rattle.client_machine.specs.declared.machine.Machine.{Machine}
use Rattle.client_machine.specs.declared.mode.Mode.TheVariants as mode
use Rattle.client_machine.specs.declared.mode.Completion.TheVariants as completion
use Rattle.client_machine.specs.Config.{instr_at}
use Rattle.client_machine.specs.Machine.{state_in}
use Rattle.client_machine.specs.Step.{FitsIn}
use Rattle.client_machine.proofs.RunKept.{on_ok}
use Rattle.client_streams.specs.Statements.{items_in}
use Rattle.client_streams.proofs.Paid.{paid_kept, unpaid_kept}
use Rattle.client_streams.proofs.writes.put.Goals as goal

pub returns-then-not-charge-clause-ok : goal.returns-then-not-charge-clause-ok
returns-then-not-charge-clause-ok c =
    let old = c.args.machine.now in
    unpaid_kept old c.charge.new.self c.args.place c.in-Some.writer.next c.args.left c.args.retry (PutItems c.in-Some.writer.stream (items_in (instr_at old.code.instrs.items c.args.place))) c.in-Some.ensures (c.if-not-charge.ensures.stopped refl) (λ rest go. c.if-not-charge.ensures.stops refl rest go)

pub returns-clause-ok : goal.returns-clause-ok
returns-clause-ok c =
    let old = c.args.machine.now in
    let m = c.charge.new.self in
    let same = c.if-not-charge.ensures.same refl in
    let text = λ (x : Machine) (p : Program) (s : State). put_text p (items_in (instr_at x.code.instrs.items c.args.place)) c.args.retry s in
    let gives = subst (λ (x : Machine). (p : Program) (rest : State) → FitsIn p rest (mode.Unwind completion.Normal) m → WritesText c.put_text_at-text.result (text x p (state_in rest m))) same c.put_text_at-text.ensures in
    on_ok c.write_or_fail.result (λ keeps.
    paid_kept old m c.write_or_fail.new.machine c.args.place c.in-Some.writer.next c.args.left c.args.retry (PutItems c.in-Some.writer.stream (items_in (instr_at old.code.instrs.items c.args.place))) c.in-Some.ensures same (λ rest ks go. c.if-not-charge.ensures.paid refl rest ks go)
    (keeps (text old) gives)) c.write_or_fail.ensures.ok
