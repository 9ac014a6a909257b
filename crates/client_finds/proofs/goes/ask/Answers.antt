use Rattle.std.proofs.Common.{sym, ap, ◌∙◌}
use Rattle.flat_machine.specs.Flat as flat
use Rattle.client_machine.specs.declared.machine.Machine.{Machine}
use Rattle.client_machine.specs.declared.mode.OnAnswer.TheVariants as on_answer
use Rattle.client_machine.specs.Config.{read_answer_of}
use Rattle.client_machine.specs.Machine.{stack_in}
use Rattle.client_machine.specs.Order.{nesting_of}
use Rattle.client_finds.proofs.Kept.{asked_order, moved_kept}
use Rattle.client_finds.proofs.goes.ask.Goals as goal

pub returns : goal.returns
returns c =
    let old = c.args.machine.now in
    let new = c.ask.new.self in
    let moved = c.ask.ensures.moved in
    let same = ap (λ (m : Machine). m.stack) moved in
    moved_kept (λ p s. flat.ask c.args.op (read_answer_of old.code.instrs.items c.args.on_answer) (stack_in old) s) old new
    (moved ∙ ap (λ st. record old { mode = new.mode; stack = st; units = new.units }) (sym same))
    (λ o. asked_order (nesting_of old.memory) c.args.op c.args.on_answer old.stack.items new.stack.items new.mode c.requires c.ask.ensures.mode (ap (λ (m : Machine). m.stack.items) moved) o)
    (λ p rest f. sym (c.ask.ensures.asks rest))
