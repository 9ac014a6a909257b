use Rattle.std.proofs.Common.{◌∷◌, [], ap, ◌∙◌}
use Rattle.std.specs.Prelude.{reverse}
use Rattle.std.proofs.lemmas.List.{reverse-append}
use Rattle.client_finds.proofs.goes.push.Goals as goal

pub returns-clause-top : goal.returns-clause-top
returns-clause-top c = ap reverse c.in_ok-push.ensures.items ∙ reverse-append c.args.machine.now.stack.items (c.args.entry ∷ [])
