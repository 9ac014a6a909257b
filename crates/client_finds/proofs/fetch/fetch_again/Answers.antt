use Rattle.block_meaning.specs.Reads.{is_forward}
use Rattle.client_finds.proofs.Kept.{on_ok}
use Rattle.client_finds.proofs.Taken.{again_kept}
use Rattle.client_finds.proofs.fetch.fetch_again.Goals as goal

pub returns-clause-ok : goal.returns-clause-ok
returns-clause-ok c =
    on_ok c.take_again.result (λ keeps.
    again_kept c.args.machine.now c.push.new.machine c.push_found.new.machine c.take_again.new.machine c.args.place (is_forward c.args.word) c.reads_forward.result c.args.retry c.args.cursor c.in_ok-from.from c.in_ok-from.ensures c.reads_forward.ensures
    c.in_ok-push.ensures.moved c.in_ok-push.ensures.top c.in_ok-push_found.ensures.moved c.in_ok-push_found.ensures.top keeps) c.take_again.ensures.ok
