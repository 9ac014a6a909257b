use Rattle.std.proofs.Common.{Ok, ap, ◌∙◌}
use Rattle.client_machine.proofs.Faults.{line_kept, full_kept}
use Rattle.client_machine.proofs.machine.Machine.write_line.Goals as goal

pub returns-then-branch-clause-ok : goal.returns-then-branch-clause-ok
returns-then-branch-clause-ok c =
    let written = c.write.ensures.fits (c.in_ok-write.was ∙ ap Ok c.if-branch.true) in
    line_kept c.args.fault c.as_slice.result.now c.args.self.now c.raise.new.self c.write.new.self (λ p rest program even. c.as_slice.ensures.value ∙ c.in_ok-line.ensures p rest program even) c.raise.ensures
    written.0 written.1 (c.write.ensures.written (c.in_ok-write.was ∙ ap Ok c.if-branch.true))

pub returns-clause-ok : goal.returns-clause-ok
returns-clause-ok c =
    let full = c.write.ensures.full (c.in_ok-write.was ∙ ap Ok c.if-branch.false) in
    full_kept c.args.fault c.as_slice.result.now c.args.self.now c.set_mode.new.self c.write.new.self (λ p rest program even. c.as_slice.ensures.value ∙ c.in_ok-line.ensures p rest program even) c.set_mode.ensures full.1 full.0
