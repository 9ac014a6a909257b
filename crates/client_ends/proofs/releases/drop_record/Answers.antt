use Rattle.std.proofs.Common.{◌≡◌, [], refl, sym, ap, ◌∙◌}
use Rattle.std.specs.Prelude.{reverse}
use Rattle.flat_machine.specs.Flat as flat
use Rattle.client_memory.specs.Buffers.{denoted_place}
use Rattle.client_machine.specs.declared.mode.Completion.TheVariants as completion
use Rattle.client_machine.specs.declared.mode.Mode.TheVariants as mode
use Rattle.client_machine.specs.declared.mode.OnAnswer.TheVariants as on_answer
use Rattle.client_machine.specs.declared.mode.Task.TheVariants as task
use Rattle.client_machine.specs.declared.mode.ends.EndAnswer.TheVariants as end_answer
use Rattle.client_machine.specs.declared.mode.ends.EndTask.TheVariants as end_task
use Rattle.client_machine.specs.Config.{stack_of, state_of}
use Rattle.client_machine.specs.Machine.{stack_in, state_in}
use Rattle.database_protocol.specs.declared.operation.Op.TheVariants as op
use Rattle.block_meaning.specs.State.{State, Empty, Normal}
use Rattle.block_meaning.specs.Buffers.{own}
use Rattle.client_memory.specs.declared.buffer.Place.{Place}
use Rattle.client_memory.specs.Memory.{Remembered, holding}
use Rattle.client_machine.specs.declared.machine.Machine.{Machine}
use Rattle.client_machine.specs.Config.{on_answer_of}
use Rattle.client_ends.proofs.Buffers.{emptied_here, shape_held, drop_as, drops_here}
use Rattle.client_ends.proofs.Moved.{buffers_moved, asks_moved}
use Rattle.client_ends.proofs.releases.drop_record.Goals as goal

pub returns-in-Some-clause-ok : goal.returns-in-Some-clause-ok
returns-in-Some-clause-ok c =
    let old = c.args.machine.now in
    let b = c.args.buffer in
    let row = c.in-Some.row in
    let code = old.code.instrs.items in
    let ns = old.procedures.items in
    let new = c.ask.new.self in
    let o = op.Drop row in
    let k = on_answer.End end_answer.WasDropped in
    let mem = holding (own b) Empty old.memory in
    let same : c.replace.new.self ≡ mem = c.replace.ensures.new ∙ ap (λ (x : Place). holding (denoted_place x) Empty old.memory) c.own.ensures in
    asks_moved (task.End (end_task.Drops b)) o k old new mem
    (c.ask.ensures.moved ∙ ap (λ (m : Remembered). let x : Machine = record old { mode = new.mode; units = new.units; memory = m } in x) same) (shape_held (own b) Empty old.memory) c.ask.ensures.mode (λ o. (tt, o.1))
    (λ rest. c.ask.ensures.asks rest ∙ ap (λ (m : Remembered). flat.ask o (on_answer_of code m.copies o k) (stack_of code m.copies (reverse old.stack.items)) (state_of rest ns m old.units)) same)
    (λ p rest f.
    let s = state_in rest old in
    let ks = stack_in old in
    ap (λ (t : State). flat.ask o flat.WasDropped ks t) (emptied_here rest ns old.memory old.units b f.even)
    ∙ ap (λ r. drop_as r b ks s) (sym c.in-Some.is ∙ c.in_ok-row.ensures)
    ∙ sym (drops_here rest ns old.memory old.units b ks f.even))

pub returns-in-None-clause-ok : goal.returns-in-None-clause-ok
returns-in-None-clause-ok c =
    let old = c.args.machine.now in
    let b = c.args.buffer in
    let ns = old.procedures.items in
    let mem = holding (own b) Empty old.memory in
    let same : c.replace.new.self ≡ mem = c.replace.ensures.new ∙ ap (λ (x : Place). holding (denoted_place x) Empty old.memory) c.own.ensures in
    buffers_moved (task.End (end_task.Drops b)) old c.set_mode.new.self (mode.Unwind completion.Normal) old.stack mem []
    (c.set_mode.ensures ∙ ap (λ (m : Remembered). let x : Machine = record old { mode = mode.Unwind completion.Normal; memory = m } in x) same) (shape_held (own b) Empty old.memory) refl (λ o. o)
    (λ p rest f.
    let s = state_in rest old in
    let ks = stack_in old in
    ap (λ (t : State). flat.config (flat.Unwind Normal) ks t) (emptied_here rest ns old.memory old.units b f.even)
    ∙ ap (λ r. drop_as r b ks s) (sym c.in-None.is ∙ c.in_ok-row.ensures)
    ∙ sym (drops_here rest ns old.memory old.units b ks f.even))
