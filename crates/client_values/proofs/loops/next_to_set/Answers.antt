use Rattle.std.proofs.Common.{sym, ◌∙◌, subst}
use Rattle.abl_values.specs.Arithmetic.{sum_of}
use Rattle.block_meaning.specs.Values.{or_range}
use Rattle.client_values.specs.Ends.{Evaluates}
use Rattle.client_values.specs.Loops.{phrase_of, value_to_set}
use Rattle.client_values.specs.Variables.{state_with}
use Rattle.client_values.proofs.Scopes.{variable_is}
use Rattle.client_values.proofs.loops.next_to_set.Goals as goal

pub returns-in-None : goal.returns-in-None
returns-in-None c =
    λ rest ns even.
    let m = c.args.memory.now in
    let r = c.next_value.result in
    subst (λ st. Evaluates r (value_to_set (phrase_of c.args.phrase.now) c.args.by.now st (state_with rest ns m))) (sym c.in-None.is)
    (subst (λ v. Evaluates r (or_range (sum_of v c.args.by.now))) (c.get.ensures ∙ sym (variable_is rest ns m even c.args.phrase.now.variable)) c.next_value.ensures)
