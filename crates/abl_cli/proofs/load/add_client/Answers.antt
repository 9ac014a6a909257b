use Rattle.std.proofs.Common.{List, ◌++◌, ◌∷◌, [], ap, ◌∙◌}
use Rattle.client_core.specs.ClientView.{ClientView}
use Rattle.abl_cli.proofs.load.add_client.Goals as goal

-- room was taken before, which leaves the clients as they were
pub returns-clause-begun : goal.returns-clause-begun
returns-clause-begun g c =
    let client = c.in_ok-client.client in
    (client, c.push_reserved.ensures.items ∙ ap (λ (cs : List ClientView). cs ++ client ∷ []) c.reserve.ensures.items, c.in_ok-client.ensures.begun)
