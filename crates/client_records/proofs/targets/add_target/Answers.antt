use Rattle.std.proofs.Common.{ap, sym, ◌∙◌, ◌++◌, ℕ, List}
use Rattle.bound_tree.specs.declared.statement.Target.{Target}
use Rattle.block_meaning.specs.Changes.{buffer_first}
use Rattle.block_meaning.specs.Frames.{is_in}
use Rattle.client_records.specs.Entries.{others}
use Rattle.client_records.proofs.Once.{added, not_added}
use Rattle.client_records.proofs.targets.add_target.Goals as goal

pub returns-in_ok-push : goal.returns-in_ok-push
returns-in_ok-push c = λ bs.
    let old = c.args.buffers.now.items in
    ap (λ (xs : List ℕ). xs ++ others xs bs) c.in_ok-push.ensures.items
    ∙ added c.in-Field.buffer old bs (ap (λ (xs : List ℕ). is_in c.in-Field.buffer xs) (sym c.deref.ensures.value) ∙ sym c.is_in.ensures ∙ c.if-not-is_in.true)
    ∙ ap (λ (t : Target). old ++ others old (buffer_first t bs)) (sym c.in-Field.is)

pub returns-else-not-is_in : goal.returns-else-not-is_in
returns-else-not-is_in c = λ bs.
    let old = c.args.buffers.now.items in
    not_added c.in-Field.buffer old bs (ap (λ (xs : List ℕ). is_in c.in-Field.buffer xs) (sym c.deref.ensures.value) ∙ sym c.is_in.ensures ∙ c.if-not-is_in.false)
    ∙ ap (λ (t : Target). old ++ others old (buffer_first t bs)) (sym c.in-Field.is)
