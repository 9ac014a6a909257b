use Rattle.std.proofs.Common.{◌≡◌, ◌<◌, true, false, refl, sym, ◌∙◌}
use Rattle.std.proofs.lemmas.Bool.{true≢false}
use Rattle.open_transactions.proofs.transactions.Transactions.reserve_for.Goals as goal

pub returns-then-has_low_number-clause-yes : goal.returns-then-has_low_number-clause-yes
returns-then-has_low_number-clause-yes c = λ its high. absurd (true≢false (sym (sym c.has_low_number.ensures ∙ c.if-has_low_number.true) ∙ high))

pub returns-then-has_low_number-clause-lists : goal.returns-then-has_low_number-clause-lists
returns-then-has_low_number-clause-lists c = record { numbers = refl; list = refl; all = refl; but = λ k. refl }

pub returns-clause-low : goal.returns-clause-low
returns-clause-low c = λ low. absurd (true≢false (sym low ∙ sym c.has_low_number.ensures ∙ c.if-has_low_number.false))
