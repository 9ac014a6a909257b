use Rattle.std.proofs.Common.{sym, ap, ◌∙◌, arith}
use Rattle.byte_rows.specs.Clients.{ClientView}
use Rattle.byte_rows.proofs.ClientLists.{client_at}
use Rattle.byte_rows.proofs.chains.Chains.is_begun.Goals as goal

pub returns : goal.returns
returns g c =
    let chains = c.args.self.now in
    let many = chains.sound.sixteen in
    let lt = c.requires in
    let at = client_at chains.clients.items c.args.client c.index.result.now (omega (arith, many, lt)) c.index.ensures in
    sym (chains.sound.begun c.args.client lt ∙ ap (λ (v : ClientView). v.begun) at)
