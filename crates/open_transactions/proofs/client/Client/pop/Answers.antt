use Rattle.std.proofs.Common.{◌≤◌, List, length, Option, Some, None, ap, ◌∙◌, sym, arith, length-append}
use Rattle.std.specs.Option.{option_to_list}
use Rattle.storage.specs.declared.slots.Undo.{Undo}
use Rattle.storage.specs.Slots.{wrote}
use Rattle.open_transactions.proofs.Changed.{take_within}
use Rattle.open_transactions.proofs.client.Client.pop.Goals as goal

pub invariant_of-self-clause-noted : goal.invariant_of-self-clause-noted
invariant_of-self-clause-noted c = λ s begun w. c.args.self.now.noted s begun (take_within _ _ s (sym (ap (λ (l : List Undo). wrote l s) c.pop.ensures.rest) ∙ w))

pub invariant_of-self-clause-small : goal.invariant_of-self-clause-small
invariant_of-self-clause-small c = λ s w. c.args.self.now.small s (take_within _ _ s (sym (ap (λ (l : List Undo). wrote l s) c.pop.ensures.rest) ∙ w))

at_most_one : (o : Option Undo) → length (option_to_list o) ≤ 1
at_most_one None = omega arith
at_most_one (Some u) = omega arith

pub invariant_of-self-clause-stands : goal.invariant_of-self-clause-stands
invariant_of-self-clause-stands c = omega (arith, c.requires.due, ap (λ (l : List Undo). length l) c.pop.ensures.items, length-append c.pop.new.self.items (option_to_list c.pop.result), at_most_one c.pop.result)

pub invariant_of-self-clause-numbered : goal.invariant_of-self-clause-numbered
invariant_of-self-clause-numbered c = λ none. absurd (omega (arith, c.requires.due, ap (λ (l : List Undo). length l) (c.args.self.now.numbered none)))
