use Rattle.std.proofs.Common.{ap}
use Rattle.client_machine.specs.declared.mode.reads.SearchData.{SearchData}
use Rattle.client_finds.proofs.Kept.{on_ok}
use Rattle.client_finds.proofs.Taken.{only_kept}
use Rattle.client_finds.proofs.takes.take_only.Goals as goal

pub returns-clause-ok : goal.returns-clause-ok
returns-clause-ok c =
    let sd = c.args.search in
    let again : SearchData = record sd { prefix = c.in_ok-prefix.prefix } in
    on_ok c.look_for_second.result (λ keeps.
    only_kept c.args.machine.now c.push_look.new.machine c.push_found.new.machine c.push_take.new.machine c.look_for_second.new.machine c.args.fuel sd again c.args.cursor c.in_ok-found.found c.in_ok-from.from c.in_ok-start.start c.args.values c.requires
    (ap (λ vs. let x : SearchData = record sd { prefix = vs } in x) c.in_ok-prefix.ensures) c.in_ok-found.ensures c.in_ok-from.ensures c.in_ok-start.ensures
    c.in_ok-push_look.ensures.moved c.in_ok-push_look.ensures.top c.in_ok-push_found.ensures.moved c.in_ok-push_found.ensures.top c.in_ok-push_take.ensures.moved c.in_ok-push_take.ensures.top keeps) c.look_for_second.ensures.ok
