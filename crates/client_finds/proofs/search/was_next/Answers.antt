use Rattle.std.proofs.Common.{Option, sym, subst}
use Rattle.std.specs.Prelude.{OnOk}
use Rattle.flat_machine.specs.Flat as flat
use Rattle.record_rules.specs.Answers.{found_if}
use Rattle.record_rules.specs.declared.answers.FoundRow.{FoundRow}
use Rattle.client_machine.specs.Config.{search_of}
use Rattle.client_machine.specs.KeepsFrom.{KeepsFrom}
use Rattle.client_machine.specs.Machine.{stack_in}
use Rattle.client_finds.specs.Steps.{instrs_in}
use Rattle.client_finds.proofs.search.was_next.Goals as goal

pub returns-in-None-clause-ok : goal.returns-in-None-clause-ok
returns-in-None-clause-ok c =
    let old = c.args.machine.now in
    subst (λ (x : Option FoundRow). OnOk c.find_no_further.result (KeepsFrom (λ p s. flat.next_answered p (found_if x) c.args.fuel (search_of (instrs_in old) c.args.search) (stack_in old) s) old c.find_no_further.new.machine)) (sym c.in-None.is) c.find_no_further.ensures.ok

pub returns-then-search-clause-ok : goal.returns-then-search-clause-ok
returns-then-search-clause-ok c =
    let old = c.args.machine.now in
    subst (λ (x : Option FoundRow). OnOk c.judge_only.result (KeepsFrom (λ p s. flat.next_answered p (found_if x) c.args.fuel (search_of (instrs_in old) c.args.search) (stack_in old) s) old c.judge_only.new.machine)) (sym c.in-Some.is) c.judge_only.ensures.ok

pub returns-else-search-clause-ok : goal.returns-else-search-clause-ok
returns-else-search-clause-ok c =
    let old = c.args.machine.now in
    subst (λ (x : Option FoundRow). OnOk c.judge_any.result (KeepsFrom (λ p s. flat.next_answered p (found_if x) c.args.fuel (search_of (instrs_in old) c.args.search) (stack_in old) s) old c.judge_any.new.machine)) (sym c.in-Some.is) c.judge_any.ensures.ok
