use Rattle.std.proofs.Common.{refl, ap, sym, subst, ◌∙◌}
use Rattle.block_meaning.specs.State.{Normal, State}
use Rattle.flat_machine.specs.Config.{Unwind}
use Rattle.flat_machine.specs.Steps.{config}
use Rattle.buffer_steps.specs.changes.Buffers.{state_of}
use Rattle.buffer_steps.specs.changes.Steps.{DeleteGoes}
use Rattle.buffer_steps.specs.declared.changes.deletes.DeleteStep.{DeleteStep}
use Rattle.buffer_steps.proofs.changes.deletes.begin_delete.Goals as goal

pub returns-in-Dropped-clause-goes : goal.returns-in-Dropped-clause-goes
returns-in-Dropped-clause-goes c = λ p rest fits.
    subst (λ (r : DeleteStep). DeleteGoes r c.args.buffer (state_of rest c.args.buffers.now) (state_of rest c.replace.new.self)) (sym c.in-Dropped.is)
    (λ ks. c.in-Dropped.ensures p rest fits ks ∙ ap (λ (x : State). config (Unwind Normal) ks x) (sym (c.replace.ensures.state p rest fits)))

pub returns-in-NoRecord-clause-goes : goal.returns-in-NoRecord-clause-goes
returns-in-NoRecord-clause-goes c = λ p rest fits.
    subst (λ (r : DeleteStep). DeleteGoes r c.args.buffer (state_of rest c.args.buffers.now) (state_of rest c.args.buffers.now)) (sym c.in-NoRecord.is) (c.in-NoRecord.ensures p rest fits)

pub returns-in-Row-clause-goes : goal.returns-in-Row-clause-goes
returns-in-Row-clause-goes c = λ p rest fits.
    subst (λ (r : DeleteStep). DeleteGoes r c.args.buffer (state_of rest c.args.buffers.now) (state_of rest c.args.buffers.now)) (sym c.in-Row.is) (refl, c.in-Row.ensures p rest fits)
