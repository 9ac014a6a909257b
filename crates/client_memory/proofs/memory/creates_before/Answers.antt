use Rattle.std.proofs.Common.{sym, ap, ◌∙◌}
use Rattle.std.specs.Prelude.{option_copied}
use Rattle.client_memory.proofs.LastMade.{some_made, none_made}
use Rattle.client_memory.proofs.memory.creates_before.Goals as goal

pub returns-in-Some : goal.returns-in-Some
returns-in-Some c = sym (some_made c.args.savepoints.now c.in-Some.savepoint.now (sym c.last.ensures.value ∙ ap option_copied c.in-Some.is))

pub returns-in-None : goal.returns-in-None
returns-in-None c = sym (none_made c.args.savepoints.now (sym c.last.ensures.value ∙ ap option_copied c.in-None.is))
