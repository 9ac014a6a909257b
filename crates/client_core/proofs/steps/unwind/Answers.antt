use Rattle.std.proofs.Common.{[], ◌∷◌, sym, ap, ◌∙◌, reverse, append-nil}
use Rattle.std.proofs.lemmas.List.{reverse-append}
use Rattle.client_machine.specs.declared.machine.Machine.{Machine}
use Rattle.client_machine.proofs.RunKept.{on_ok}
use Rattle.client_machine.proofs.Entries.{unwound}
use Rattle.client_core.proofs.Still.{same_unwinding}
use Rattle.client_core.proofs.steps.unwind.Goals as goal

pub returns-in-Some-clause-ok : goal.returns-in-Some-clause-ok
returns-in-Some-clause-ok c =
    let old = c.args.machine.now in
    let mid : Machine = record old { stack = c.pop.new.self } in
    on_ok c.unwind_to.result (unwound c.in-Some.entry c.args.completion old mid c.unwind_to.new.machine (ap reverse c.in-Some.ensures.items ∙ reverse-append c.pop.new.self.items (c.in-Some.entry ∷ []))) c.unwind_to.ensures.ok

pub returns-in-None-clause-ok : goal.returns-in-None-clause-ok
returns-in-None-clause-ok c = same_unwinding c.args.completion c.args.machine.now c.set_mode.new.self c.pop.new.self (sym (c.in-None.ensures.items ∙ append-nil c.pop.new.self.items)) c.set_mode.ensures
