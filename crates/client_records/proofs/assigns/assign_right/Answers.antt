use Rattle.std.proofs.Common.{◌∷◌, sym, subst}
use Rattle.std.specs.Prelude.{OnOk}
use Rattle.flat_machine.specs.Flat as flat
use Rattle.client_machine.specs.Config.{assignments_of}
use Rattle.client_machine.specs.KeepsFrom.{KeepsFrom}
use Rattle.client_machine.specs.Machine.{stack_in}
use Rattle.client_records.specs.Rights.{right_step}
use Rattle.client_records.specs.declared.rights.RightSide.{RightSide}
use Rattle.client_records.proofs.assigns.assign_right.Goals as goal

pub returns-in-Value-clause-ok : goal.returns-in-Value-clause-ok
returns-in-Value-clause-ok c =
    let old = c.args.machine.now in
    let ks = flat.ThenDo (flat.AssignsEach (assignments_of old.code.instrs.items c.args.rest) c.args.retry) ∷ stack_in old in
    subst (λ (x : RightSide). OnOk c.assign_then.result (KeepsFrom (λ p s. right_step x c.args.target ks s) old c.assign_then.new.machine)) (sym c.in-Value.is) c.assign_then.ensures.ok

pub returns-in-NextValue-clause-ok : goal.returns-in-NextValue-clause-ok
returns-in-NextValue-clause-ok c =
    let old = c.args.machine.now in
    let ks = flat.ThenDo (flat.AssignsEach (assignments_of old.code.instrs.items c.args.rest) c.args.retry) ∷ stack_in old in
    subst (λ (x : RightSide). OnOk c.count_then.result (KeepsFrom (λ p s. right_step x c.args.target ks s) old c.count_then.new.machine)) (sym c.in-NextValue.is) c.count_then.ensures.ok

pub returns-in-CurrentValue-clause-ok : goal.returns-in-CurrentValue-clause-ok
returns-in-CurrentValue-clause-ok c =
    let old = c.args.machine.now in
    let ks = flat.ThenDo (flat.AssignsEach (assignments_of old.code.instrs.items c.args.rest) c.args.retry) ∷ stack_in old in
    subst (λ (x : RightSide). OnOk c.count_then-in-CurrentValue.result (KeepsFrom (λ p s. right_step x c.args.target ks s) old c.count_then-in-CurrentValue.new.machine)) (sym c.in-CurrentValue.is) c.count_then-in-CurrentValue.ensures.ok
