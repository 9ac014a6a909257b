use Rattle.std.proofs.Common.{Option, sym, subst}
use Rattle.std.specs.Prelude.{OnOk}
use Rattle.flat_machine.specs.Flat as flat
use Rattle.record_rules.specs.Answers.{found_if}
use Rattle.record_rules.specs.declared.answers.FoundRow.{FoundRow}
use Rattle.client_machine.specs.Config.{search_of}
use Rattle.client_machine.specs.KeepsFrom.{KeepsFrom}
use Rattle.client_machine.specs.Machine.{stack_in}
use Rattle.client_finds.specs.Steps.{instrs_in}
use Rattle.client_finds.proofs.takes.was_second.Goals as goal

pub returns-in-None-clause-ok : goal.returns-in-None-clause-ok
returns-in-None-clause-ok c =
    let old = c.args.machine.now in
    subst (λ (x : Option FoundRow). OnOk c.show_first.result (KeepsFrom (λ p s. flat.second_answered p (found_if x) c.args.fuel (search_of (instrs_in old) c.args.search) c.args.cursor c.args.values (stack_in old) s) old c.show_first.new.machine)) (sym c.in-None.is) c.show_first.ensures.ok

pub returns-in-Some-clause-ok : goal.returns-in-Some-clause-ok
returns-in-Some-clause-ok c =
    let old = c.args.machine.now in
    subst (λ (x : Option FoundRow). OnOk c.judge_second.result (KeepsFrom (λ p s. flat.second_answered p (found_if x) c.args.fuel (search_of (instrs_in old) c.args.search) c.args.cursor c.args.values (stack_in old) s) old c.judge_second.new.machine)) (sym c.in-Some.is) c.judge_second.ensures.ok
