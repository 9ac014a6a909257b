use Rattle.std.proofs.Common.{Ok, Some, ap, ◌∙◌}
use Rattle.client_machine.specs.declared.machine.Machine.{Machine}
use Rattle.client_machine.specs.declared.mode.Mode.TheVariants as mode
use Rattle.client_machine.specs.declared.mode.Task.TheVariants as task
use Rattle.client_machine.specs.declared.mode.Completion.TheVariants as completion
use Rattle.database_protocol.specs.declared.ends.StopWhy.TheVariants as why
use Rattle.client_streams.specs.Statements.{with_output}
use Rattle.client_streams.proofs.Effects.{opened_kept, not_opened_kept}
use Rattle.client_streams.proofs.outputs.redirect.Goals as goal

pub returns-then-opened-clause-ok : goal.returns-then-opened-clause-ok
returns-then-opened-clause-ok c =
    let o = c.args.opening in
    let is = c.in_ok-opened.was ∙ ap Ok c.if-opened.true in
    let fits = c.open_section.ensures.fits is in
    let mid = c.open_section.new.machine in
    opened_kept o.stream o.output o.append c.args.machine.now c.go_on.new.machine mid.output c.set_output.new.streams o.next c.args.left c.args.retry
    (c.go_on.ensures ∙ ap (λ (m : Machine). record m { streams = c.set_output.new.streams; mode = mode.Execute (task.RunsFrom o.next c.args.left c.args.retry) }) c.open_section.ensures.moved)
    (c.set_output.ensures ∙ ap (λ (m : Machine). with_output o.stream (Some o.output) m.streams.items) c.open_section.ensures.moved) fits.0 fits.1 (c.open_section.ensures.opened is)

pub returns-clause-ok : goal.returns-clause-ok
returns-clause-ok c =
    let o = c.args.opening in
    let full = c.open_section.ensures.full (c.in_ok-opened.was ∙ ap Ok c.if-opened.false) in
    let mid = c.open_section.new.machine in
    not_opened_kept o.stream o.output o.append c.args.machine.now c.stop.new.machine mid.output c.set_output.new.streams o.next c.args.left c.args.retry
    (c.stop.ensures ∙ ap (λ (m : Machine). record m { streams = c.set_output.new.streams; mode = mode.Unwind (completion.Stops why.OutputFull) }) c.open_section.ensures.moved)
    (c.set_output.ensures ∙ ap (λ (m : Machine). with_output o.stream (Some o.output) m.streams.items) c.open_section.ensures.moved) full.1 full.0
