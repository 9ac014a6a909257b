use Rattle.std.proofs.Common.{sym, subst}
use Rattle.std.specs.Prelude.{OnOk}
use Rattle.flat_machine.specs.Flat as flat
use Rattle.record_rules.specs.declared.answers.Grant.{Grant}
use Rattle.record_rules.specs.Answers.{grant_of}
use Rattle.client_machine.specs.Config.{reading_at}
use Rattle.client_machine.specs.KeepsFrom.{KeepsFrom}
use Rattle.client_machine.specs.Machine.{stack_in}
use Rattle.client_finds.proofs.locks.was_granted.Goals as goal

pub returns-in-Granted-clause-ok : goal.returns-in-Granted-clause-ok
returns-in-Granted-clause-ok c =
    let old = c.args.machine.now in
    subst (λ (g : Grant). OnOk c.read_locked.result (KeepsFrom (λ p s. flat.grant_answered (grant_of g) (reading_at old.code.instrs.items c.args.place) c.args.retry c.args.row (stack_in old) s) old c.read_locked.new.machine)) (sym c.in-Granted.is) c.read_locked.ensures.ok

pub returns-in-Busy-clause-ok : goal.returns-in-Busy-clause-ok
returns-in-Busy-clause-ok c =
    let old = c.args.machine.now in
    subst (λ (g : Grant). OnOk c.refuse_locked.result (KeepsFrom (λ p s. flat.grant_answered (grant_of g) (reading_at old.code.instrs.items c.args.place) c.args.retry c.args.row (stack_in old) s) old c.refuse_locked.new.machine)) (sym c.in-Busy.is) c.refuse_locked.ensures.ok

pub returns-in-Gone-clause-ok : goal.returns-in-Gone-clause-ok
returns-in-Gone-clause-ok c =
    let old = c.args.machine.now in
    subst (λ (g : Grant). OnOk c.lose_gone.result (KeepsFrom (λ p s. flat.grant_answered (grant_of g) (reading_at old.code.instrs.items c.args.place) c.args.retry c.args.row (stack_in old) s) old c.lose_gone.new.machine)) (sym c.in-Gone.is) c.lose_gone.ensures.ok
