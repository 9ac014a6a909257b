use Rattle.std.proofs.Common.{◌∷◌, Some, sym, ap, ◌∙◌}
use Rattle.flat_machine.specs.Flat as flat
use Rattle.client_machine.specs.declared.mode.Completion.TheVariants as completion
use Rattle.client_machine.specs.declared.mode.Mode.TheVariants as mode
use Rattle.client_machine.specs.declared.mode.StackEntry.TheVariants as stack
use Rattle.client_machine.specs.declared.mode.Task.TheVariants as task
use Rattle.client_machine.specs.declared.mode.IterationData.{IterationData}
use Rattle.client_machine.specs.declared.mode.reads.ReadEntry.TheVariants as read_entry
use Rattle.client_machine.specs.Config.{body_at, entry_of}
use Rattle.client_machine.specs.declared.machine.Machine.{Machine}
use Rattle.client_machine.specs.Machine.{stack_in, state_in}
use Rattle.client_finds.specs.Steps.{instrs_in}
use Rattle.client_finds.proofs.Found.{entry_pushed}
use Rattle.client_finds.proofs.fetch.fetched.Goals as goal

pub returns-clause-ok : goal.returns-clause-ok
returns-clause-ok c =
    let old = c.args.machine.now in
    let t = c.args.turn in
    let it : IterationData = record { depth = c.args.depth; turn = record { retry = t.retry; start = t.start; by = t.by; own = Some c.args.own } } in
    let m = mode.Execute (task.RunsFrom c.body_at-body.result c.args.left c.args.retry) in
    entry_pushed (stack.Read (read_entry.FetchedAs c.args.place c.args.depth t c.args.retry c.args.left)) (completion.Found c.args.own) old c.push.new.machine c.set_mode.new.self m (stack.In c.args.place it)
    c.in_ok-push.ensures.moved c.in_ok-push.ensures.top c.set_mode.ensures (λ o. o)
    (λ p rest. ap (λ n. flat.config (flat.Execute (flat.RunsFrom n c.args.left c.args.retry)) (entry_of (instrs_in old) old.memory.copies (stack.In c.args.place it) ∷ stack_in old) (state_in rest old)) (sym (c.body_at-body.ensures ∙ ap (λ (x : Machine). body_at x.code.instrs.items c.args.place) c.in_ok-push.ensures.moved)))
