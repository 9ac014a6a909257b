use Rattle.std.proofs.Common.{◌≡◌, [], rules, sym, ◌∙◌}
use Rattle.std.specs.Prelude.{map}
use Rattle.std.proofs.lemmas.List.{append-nil}
use Rattle.client_machine.specs.Config.{given_of}
use Rattle.client_machine.proofs.RunKept.{on_ok}
use Rattle.client_streams.proofs.GivenValues.{no_value, one_given}
use Rattle.client_streams.proofs.given.give_next.Goals as goal

pub returns-in-None : goal.returns-in-None
returns-in-None c = λ ts.
    let old = c.args.values.now.items in
    let new = c.pop.new.self.items in
    let none : old ≡ [] = search (rules, c.in-None.ensures.items) in
    no_value (map given_of c.args.given.now.items) c.args.target ts old new none (sym (append-nil new) ∙ sym c.in-None.ensures.items ∙ none)

pub returns-in-Some : goal.returns-in-Some
returns-in-Some c =
    on_ok c.push_given.result (λ pushed ts.
    one_given c.args.given.now.items c.push_given.new.given.items c.args.target c.in-Some.value ts c.args.values.now.items c.pop.new.self.items c.in-Some.ensures.items pushed) c.push_given.ensures
