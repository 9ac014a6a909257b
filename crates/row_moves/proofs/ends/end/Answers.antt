use Rattle.std.proofs.Common.{◌≡◌, ◌≢◌, ◌∙◌}
use Rattle.row_moves.proofs.Clients.{set_other, set_same}
use Rattle.row_moves.proofs.ends.end.Goals as goal

pub returns-clause-own : goal.returns-clause-own
returns-clause-own c = set_same c.args.clients.now.items c.args.client (record { changes = c.clear.new.self }) c.requires.client ∙ c.clear.ensures.items

pub returns-clause-others : goal.returns-clause-others
returns-clause-others c = λ d ne. set_other c.args.clients.now.items c.args.client d (record { changes = c.clear.new.self }) ne
