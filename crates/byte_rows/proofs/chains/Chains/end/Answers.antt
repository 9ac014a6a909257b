use Rattle.std.proofs.Common.{◌≡◌, ◌⊎◌, ◌≤◌, List, length, subst}
use Rattle.byte_rows.specs.declared.places.Place.{Place}
use Rattle.byte_rows.proofs.Opening.{none_from}
use Rattle.byte_rows.proofs.chains.Chains.end.Goals as goal

pub returns-clause-none : goal.returns-clause-none
returns-clause-none g c = λ readable k le.
    let chains = c.args.self.now in
    let rest = subst (λ (ps : List Place). (length ps ≤ c.end_of.result) ⊎ (c.end_of.result ≡ 1048576)) c.deref.ensures.value c.end_of.ensures.rest in
    none_from (g.S.Slots.state chains.slots) chains.places.items c.end_of.result k (chains.sound.noted readable.1).kept readable rest le
