use Rattle.std.proofs.Common.{sym, ap, ◌∙◌}
use Rattle.block_meaning.specs.Frames.{own_frame}
use Rattle.block_meaning.specs.Lines.{line_of}
use Rattle.client_machine.specs.Machine.{state_in}
use Rattle.client_machine.proofs.RunKept.{if_ok}
use Rattle.client_machine.proofs.machine.Machine.line_about.Goals as goal

pub returns : goal.returns
returns c =
    let old = c.args.self.now in
    if_ok c.complaint_line.result (λ line made p rest program even.
    let n = (own_frame (state_in rest old).frames).procedure in
    made p n (record { tables = program.tables; buffers_are = sym ((c.in-Some.ensures p rest program even).buffers) ∙ sym c.as_slice.ensures.value })
    ∙ ap (line_of p n) c.complaint_of.ensures) c.complaint_line.ensures
