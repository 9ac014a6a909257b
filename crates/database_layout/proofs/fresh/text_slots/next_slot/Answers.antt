use Rattle.std.proofs.Common.{◌+◌, sym, ◌∙◌, arith}
use Rattle.database_layout.proofs.FreshLemmas.Counted.{get_counted, past_counted}
use Rattle.database_layout.proofs.fresh.text_slots.next_slot.Goals as goal

pub returns-then-i-count : goal.returns-then-i-count
returns-then-i-count c = sym (get_counted 1 c.args.count (c.args.i + 1) (omega arith) ∙ omega arith)

pub returns-else-i-count : goal.returns-else-i-count
returns-else-i-count c = sym (past_counted 1 c.args.count (c.args.i + 1) (omega arith))
