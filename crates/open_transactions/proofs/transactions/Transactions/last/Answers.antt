use Rattle.std.proofs.Common.{◌≡◌, ◌-◌, List, [], ◌∷◌, get_or, length, ◌∙◌, ap, arith, length-append}
use Rattle.std.proofs.lemmas.List.{get_or_push}
use Rattle.storage.specs.declared.slots.Undo.{Undo}
use Rattle.open_transactions.proofs.transactions.Transactions.last.Goals as goal

pub returns-clause-last : goal.returns-clause-last
returns-clause-last c = λ us u is.
    let long : length us ≡ c.len-place.result - 1 = omega (arith, c.len-place.ensures, ap (λ (l : List Undo). length l) is, length-append us (u ∷ [])) in
    c.write_at.ensures.value ∙ ap (λ (l : List Undo). get_or l (c.len-place.result - 1) c.write_at.result) is ∙ get_or_push us u c.write_at.result (c.len-place.result - 1) long
