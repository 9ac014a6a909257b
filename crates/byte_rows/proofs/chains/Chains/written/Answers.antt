use Rattle.std.proofs.Common.{ap, arith}
use Rattle.byte_rows.specs.Clients.{ClientView}
use Rattle.byte_rows.proofs.ClientLists.{client_at}
use Rattle.byte_rows.proofs.chains.Chains.written.Goals as goal

pub returns-clause-noted : goal.returns-clause-noted
returns-clause-noted g c =
    let chains = c.args.self.now in
    let many = chains.sound.sixteen in
    let lt = c.requires in
    let at = client_at chains.clients.items c.args.client c.index.result.now (omega (arith, many, lt)) c.index.ensures in
    let same = ap (λ (v : ClientView). v.written) at in
    omega (arith, same)

pub returns-clause-counted : goal.returns-clause-counted
returns-clause-counted g c = λ fine begun.
    let chains = c.args.self.now in
    let many = chains.sound.sixteen in
    let lt = c.requires in
    let at = client_at chains.clients.items c.args.client c.index.result.now (omega (arith, many, lt)) c.index.ensures in
    let same = ap (λ (v : ClientView). v.written) at in
    let all = (chains.sound.noted fine).counted c.args.client lt begun in
    omega (arith, same, all)
