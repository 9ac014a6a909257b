use Rattle.std.proofs.Common.{sym, ◌∙◌}
use Rattle.command_arguments.proofs.Clients.{same_client}
use Rattle.command_arguments.proofs.client.client_of.Goals as goal

pub returns-in-Some-clause-one : goal.returns-in-Some-clause-one
returns-in-Some-clause-one c = λ d good same.
    let some = c.in-Some.ensures.some in
    same_client _ d (record { name = some.0; program = some.1; input = some.2 }) good (sym some.3 ∙ same)
