use Rattle.std.proofs.Common.{false, refl}
use Rattle.bound_tree.specs.Tree.{ExportRecord}
use Rattle.block_meaning.specs.Frames.{content_of}
use Rattle.client_machine.proofs.RunKept.{on_ok}
use Rattle.client_streams.specs.Records.{record_text}
use Rattle.client_streams.specs.Statements.{under}
use Rattle.client_streams.proofs.Exported.{record_kept}
use Rattle.client_streams.proofs.Paid.{paid_kept, unpaid_kept}
use Rattle.client_streams.proofs.records.export_record.Goals as goal

pub returns-then-not-charge-clause-ok : goal.returns-then-not-charge-clause-ok
returns-then-not-charge-clause-ok c =
    unpaid_kept c.args.machine.now c.charge.new.self c.args.place c.in-Some.writer.next c.args.left c.args.retry (ExportRecord c.in-Some.writer.stream c.in-Some.writer.buffer) c.in-Some.ensures (c.if-not-charge.ensures.stopped refl) (λ rest go. c.if-not-charge.ensures.stops refl rest go)

pub returns-clause-ok : goal.returns-clause-ok
returns-clause-ok c =
    let old = c.args.machine.now in
    let m = c.charge.new.self in
    let w = c.in-Some.writer in
    on_ok c.write_or_fail.result (λ keeps.
    paid_kept old m c.write_or_fail.new.machine c.args.place w.next c.args.left c.args.retry (ExportRecord w.stream w.buffer) c.in-Some.ensures (c.if-not-charge.ensures.same refl) (λ rest ks go. c.if-not-charge.ensures.paid refl rest ks go)
    (record_kept m c.write_or_fail.new.machine w.stream w.buffer (under m false w.next c.args.left c.args.retry) (keeps (λ p s. record_text w.buffer (content_of w.buffer s)) c.record_line-text.ensures))) c.write_or_fail.ensures.ok
