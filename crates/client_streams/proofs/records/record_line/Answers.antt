use Rattle.std.proofs.Common.{sym, ap, ◌∙◌, subst}
use Rattle.block_meaning.specs.State.{Buffer, Content}
use Rattle.client_streams.specs.lines.Writes.{WritesText}
use Rattle.client_streams.specs.Records.{record_text}
use Rattle.client_streams.proofs.Exported.{content_is}
use Rattle.client_streams.proofs.records.record_line.Goals as goal

pub returns-in-None : goal.returns-in-None
returns-in-None c = λ p rest f.
    ap (record_text c.args.buffer) (content_is p rest c.args.machine.now c.own.result c.args.buffer c.own.ensures f ∙ ap (λ (x : Buffer). x.content) c.in-None.ensures)

pub returns-in-Some : goal.returns-in-Some
returns-in-Some c = λ p rest f.
    subst (λ (x : Content). WritesText c.content_line.result (record_text c.args.buffer x))
    (ap (λ (x : Buffer). x.content) c.in-Some.ensures ∙ sym (content_is p rest c.args.machine.now c.own.result c.args.buffer c.own.ensures f)) c.content_line.ensures
