use Rattle.std.proofs.Common.{ℕ, List, sym, ap, ◌∙◌}
use Rattle.row_fragments.specs.Fragments.{begins}
use Rattle.test_machine.proofs.chains.calls.change.Goals as goal

pub put-requires-clause-there : goal.put-requires-clause-there
put-requires-clause-there c = λ readable.
    let e = c.in-Ok-true.ensures in
    ap (λ (f : ℕ → List ℕ). begins f c.number-3.result) (e.looked.rests.reads readable) ∙ (sym (e.row readable) ∙ c.in-Ok-true.field-0-test)

pub delete-requires-clause-there : goal.delete-requires-clause-there
delete-requires-clause-there c = λ readable.
    let e = c.in-Ok-true.ensures in
    ap (λ (f : ℕ → List ℕ). begins f c.number-3.result) (e.looked.rests.reads readable) ∙ (sym (e.row readable) ∙ c.in-Ok-true.field-0-test)
